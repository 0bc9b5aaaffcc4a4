-- The headers that are written are headers by the layout: they have no comment, and the digits of each number.
--   digits_are                              digits of a number are digits, and their value is the number
--   pbm_head_is_header, pgm_head_is_header  the lines before the raster
use mathlib.Core.Bool.{Bool, true, false}
use mathlib.Core.List.{List, [], ◌∷◌, ◌++◌, map, append_assoc, append-nil}
use mathlib.Core.Path.{◌≡◌, refl, sym, ◌∙◌, ap}
use Prim.Native.Nat.{ℕ, zero, suc, ◌+◌, ◌-◌, ◌*◌, ◌/◌, ◌%◌, ◌≤◌}
use native.Mathlib.Omega.{arith}
use borrow.Author.Tests.{ltb-true, ltb-false, ne_eqb}
use lib.Dec.{ltb}
use Rattle.model.specs.declared.Size.{Size}
use Rattle.model.specs.Basic.{All}
use Rattle.model.specs.Text.{is_digit, digits_in, digits}
use Rattle.model.specs.Netpbm.{is_space, opens_comment, byte, Proper, pieces_text, uncommented, Numeral, IsNumeral}
use Rattle.model.specs.Netpbm.{decimal_from, value_of, numerals_text, IsHeader, pbm_head, pgm_head}
use Rattle.model.proofs.Basic.{all_append}
use Rattle.model.proofs.Text.{digits_some, digit, digit_range}
use Rattle.model.proofs.Fields.{space_no_comment}

-- ---- the digits of a number
decimal_append : (a b : List ℕ) (v : ℕ) → decimal_from v (a ++ b) ≡ decimal_from (decimal_from v a) b
decimal_append [] b v = refl
decimal_append (x ∷ a) b v = decimal_append a b (v * 10 + (x - 48))

-- the digits of a number
abbrev Figures : (n : ℕ) → List ℕ → Type 0
Figures n l = All (λ b. is_digit b ≡ true) l × (decimal_from 0 l ≡ n)

digits_in_lem : (f n : ℕ) → n ≤ f → Figures n (digits_in f n)
digits_in_lem zero n h = ((digit n (omega arith), tt), omega arith)
digits_in_lem (suc f) n h = go (ltb n 10) refl (digits_in_lem f (n / 10))
  where
    go : (b : Bool) → ltb n 10 ≡ b → (n / 10 ≤ f → Figures (n / 10) (digits_in f (n / 10)))
        → Figures n (digits_in (suc f) n)
    go true e ih =
        let l = ltb-true n 10 e in
        rw e ((digit n l, tt), omega arith)
    go false e ih =
        let l = ltb-false n 10 e in
        let (all, value) = ih (omega arith) in
        let last = (48 + n % 10) ∷ [] in
        rw e (
          all_append (λ b. is_digit b ≡ true) (digits_in f (n / 10)) last all (digit (n % 10) (omega arith), tt),
          decimal_append (digits_in f (n / 10)) last 0 ∙ rw value (omega arith),
        )

pub digits_are : (n : ℕ) → Figures n (digits n)
unfolding digits
digits_are n = digits_in_lem n n (omega arith)

-- ---- bytes by themselves, as pieces
bytes_text : (l : List ℕ) → pieces_text (map byte l) ≡ l
bytes_text [] = refl
bytes_text (b ∷ l) = ap (λ k. b ∷ k) (bytes_text l)

bytes_bare : (l : List ℕ) → uncommented (map byte l) ≡ l
bytes_bare [] = refl
bytes_bare (b ∷ l) = ap (λ k. b ∷ k) (bytes_bare l)

bytes_proper : {kind : ℕ → Bool} → ((b : ℕ) → kind b ≡ true → opens_comment b ≡ false) → (l more : List ℕ)
    → All (λ b. kind b ≡ true) l → All Proper (map byte more) → All Proper (map byte (l ++ more))
bytes_proper apart [] more h k = k
bytes_proper apart (b ∷ l) more (p, h) k = (apart b p, bytes_proper apart l more h k)

digit_no_comment : (b : ℕ) → is_digit b ≡ true → opens_comment b ≡ false
digit_no_comment b e =
    let (lo, hi) = digit_range b e in
    ne_eqb b 35 (λ q. omega arith)

numerals_proper : (ns : List Numeral) → All IsNumeral ns → All Proper (map byte (numerals_text ns))
numerals_proper [] h = tt
numerals_proper (n ∷ l) (h, k) =
    bytes_proper space_no_comment n.gap (n.decimal ++ numerals_text l) h.0.1
    (bytes_proper digit_no_comment n.decimal (numerals_text l) h.1.1 (numerals_proper l k))

-- a header of these numerals, without a comment, that LF ends
plain_header : (kind : ℕ) {values head : List ℕ} (ns : List Numeral) → All IsNumeral ns → map value_of ns ≡ values
    → head ≡ 80 ∷ kind ∷ (numerals_text ns ++ (10 ∷ [])) → IsHeader kind values head
plain_header kind ns h e t =
    record {
      pieces = map byte (numerals_text ns);
      proper = numerals_proper ns h;
      numerals = ns;
      are_numerals = h;
      last = 10;
      last_is_space = refl;
      text = t ∙ ap (λ l. 80 ∷ kind ∷ (l ++ (10 ∷ []))) (sym (bytes_text (numerals_text ns)));
      bare = bytes_bare (numerals_text ns);
      values_are = e;
    }

-- ---- one white space and the digits of each number
abbrev written : (gap n : ℕ) → Numeral
written gap n = record { gap = gap ∷ []; decimal = digits n }

is_written : (gap n : ℕ) → is_space gap ≡ true → IsNumeral (written gap n)
is_written gap n e = ((omega arith, (e, tt)), (digits_some n, (digits_are n).0))

digits_255 : digits 255 ≡ 50 ∷ 53 ∷ 53 ∷ []
unfolding digits
digits_255 = refl

module _ (z : Size) where
  pub pbm_head_is_header : IsHeader 52 (z.width ∷ z.height ∷ []) (pbm_head z)
  pbm_head_is_header =
      plain_header 52 (written 10 z.width ∷ written 32 z.height ∷ [])
      (is_written 10 z.width refl, (is_written 32 z.height refl, tt))
      (rw ((digits_are z.width).1, (digits_are z.height).1))
      (simp (append_assoc, append-nil))

  pub pgm_head_is_header : IsHeader 53 (z.width ∷ z.height ∷ 255 ∷ []) (pgm_head z)
  pgm_head_is_header =
      plain_header 53 (written 10 z.width ∷ written 32 z.height ∷ written 10 255 ∷ [])
      (is_written 10 z.width refl, (is_written 32 z.height refl, (is_written 10 255 refl, tt)))
      (rw ((digits_are z.width).1, (digits_are z.height).1, (digits_are 255).1))
      (simp (append_assoc, append-nil, digits_255))
