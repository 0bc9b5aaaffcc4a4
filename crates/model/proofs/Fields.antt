-- Laws of one number of a header with white space before it, as the reader has it.
--   digit_no_space, space_no_digit, space_no_comment  a byte is of one kind
--   any_some, some_any                                something is found where a run has a byte
--   Split, split                                      every list is a run of bytes of a kind and a rest
--   divide                                            what the reader has of bytes in two parts
--   Field, field_is                                   what the reader finds, and what it has from there on
use mathlib.Core.Bool.{Bool, true, false, true≢false, ◌&&◌, and-false}
use mathlib.Core.List.{List, [], ◌∷◌, ◌++◌}
use mathlib.Core.Path.{◌≡◌, refl, sym, ◌∙◌, ap, ap₂}
use Prim.Native.Nat.{ℕ, ◌+◌, ◌-◌, ◌*◌, ◌≤◌}
use native.Mathlib.Omega.{arith}
use borrow.Author.Tests.{ltb-false, le-ltb, lt-leb, ne_eqb, eqb-true}
use lib.Dec.{leb, ltb}
use lib.ListN.{length}
use Rattle.model.specs.PictureHeader.{Found}
use Rattle.model.specs.Basic.{All}
use Rattle.model.specs.Text.{is_digit, cap_to, grow_to}
use Rattle.model.specs.Netpbm.{is_space, opens_comment, decimal_from}
use Rattle.model.specs.PictureHeader.{Glyph, glyphs_at, found, spaces_from, most_value, number_from, number_next}
use Rattle.model.proofs.Text.{digit_range}
use Rattle.model.proofs.Glyphs.{bytes_of, last_next, walk}

-- ---- kinds of bytes
pub digit_no_space : (b : ℕ) → is_digit b ≡ true → is_space b ≡ false
digit_no_space b e =
    let (lo, hi) = digit_range b e in
    rw (ne_eqb b 32 (λ q. omega arith), lt-leb b 13 (omega arith)) (and-false (leb 9 b))

pub space_no_digit : (b : ℕ) → is_space b ≡ true → is_digit b ≡ false
space_no_digit b e = go (is_digit b) refl
  where
    go : (d : Bool) → is_digit b ≡ d → is_digit b ≡ false
    go true h = absurd (true≢false (sym e ∙ digit_no_space b h))
    go false h = h

pub space_no_comment : (b : ℕ) → is_space b ≡ true → opens_comment b ≡ false
space_no_comment b e = go (opens_comment b) refl
  where
    go : (d : Bool) → opens_comment b ≡ d → opens_comment b ≡ false
    go true h = absurd (true≢false (sym e ∙ ap is_space (eqb-true b 35 h)))
    go false h = h

-- ---- a run of bytes of a kind, in what the reader has
-- a list does not begin with one
abbrev pub RunEnds : (ℕ → Bool) → List ℕ → Type 0
RunEnds kind [] = Unit {0}
RunEnds kind (b ∷ l) = kind b ≡ false

-- one was found before, or is in the run
abbrev pub any : Bool → List Glyph → Bool
any some [] = some
any some (g ∷ l) = any true l

any_true : (l : List Glyph) → any true l ≡ true
any_true [] = refl
any_true (g ∷ l) = any_true l

pub any_some : (l : List Glyph) → 1 ≤ length (bytes_of l) → any false l ≡ true
any_some [] h = absurd (omega arith)
any_some (g ∷ l) h = any_true l

pub some_any : (l : List Glyph) → any false l ≡ true → 1 ≤ length (bytes_of l)
some_any [] h = absurd (true≢false (sym h))
some_any (g ∷ l) h = omega arith

-- white space up to another byte
spaces_are : (gs rest : List Glyph) (some : Bool) (at : ℕ) → All (λ b. is_space b ≡ true) (bytes_of gs)
    → RunEnds is_space (bytes_of rest) → spaces_from some at (gs ++ rest) ≡ found (any some gs) 0 (last_next at gs)
unfolding spaces_from
spaces_are [] [] some at h k = refl
spaces_are [] (g ∷ rest) some at h k = rw k
spaces_are (g ∷ gs) rest some at (p, h) k = rw p (spaces_are gs rest true g.next h k)

-- saturation never loses: one digit more after a limit is the limit of one digit more
capped_grown : (limit v b : ℕ) → grow_to limit (cap_to limit v) b ≡ cap_to limit (v * 10 + (b - 48))
capped_grown limit v b = go (ltb v limit) refl
  where
    go : (t : Bool) → ltb v limit ≡ t → grow_to limit (cap_to limit v) b ≡ cap_to limit (v * 10 + (b - 48))
    go true t = rw t
    go false t =
        let h = ltb-false v limit t in
        rw (
          t,
          le-ltb (limit * 10 + (b - 48)) limit (omega arith),
          le-ltb (v * 10 + (b - 48)) limit (omega arith),
        )

-- digits up to another byte
number_is : (gs rest : List Glyph) (some : Bool) (v at : ℕ) → All (λ b. is_digit b ≡ true) (bytes_of gs)
    → RunEnds is_digit (bytes_of rest) → number_from some (cap_to most_value v) at (gs ++ rest)
    ≡ found (any some gs) (cap_to most_value (decimal_from v (bytes_of gs))) (last_next at gs)
unfolding number_from
number_is [] [] some v at h k = refl
number_is [] (g ∷ rest) some v at h k = rw k
number_is (g ∷ gs) rest some v at (p, h) k =
    rw (p, capped_grown most_value v g.byte) (number_is gs rest true (v * 10 + (g.byte - 48)) g.next h k)

-- every list is such a run and a rest
pub record Split (kind : ℕ → Bool) (l : List Glyph) : Type 0 where
  pub run : List Glyph
  pub rest : List Glyph
  pub text : l ≡ run ++ rest
  pub each : All (λ b. kind b ≡ true) (bytes_of run)
  pub stop : RunEnds kind (bytes_of rest)

pub split : (kind : ℕ → Bool) (l : List Glyph) → Split kind l
split kind [] = record { run = []; rest = []; text = refl; each = tt; stop = tt }
split kind (g ∷ l) = go (kind g.byte) refl (split kind l)
  where
    go : (b : Bool) → kind g.byte ≡ b → Split kind l → Split kind (g ∷ l)
    go true t r =
        record {
          run = g ∷ r.run;
          rest = r.rest;
          text = ap (λ k. g ∷ k) r.text;
          each = (t, r.each);
          stop = r.stop;
        }
    go false t r = record { run = []; rest = g ∷ l; text = refl; each = tt; stop = t }

-- what the reader has of bytes in two parts
pub divide : (gs : List Glyph) (a b : List ℕ) → bytes_of gs ≡ a ++ b
    → (x : List Glyph) × (y : List Glyph) × (gs ≡ x ++ y) × (bytes_of x ≡ a) × (bytes_of y ≡ b)
divide gs [] b e = ([], gs, refl, refl, e)
divide [] (v ∷ a) b e = absurd (let z : ◌≡◌ {A = ℕ} 0 1 = cc in omega arith)
divide (g ∷ gs) (v ∷ a) b e =
    let (x, y, p, q, r) = divide gs a b cc in
    let f : g.byte ≡ v = cc in
    (g ∷ x, y, ap (λ k. g ∷ k) p, ap₂ (λ k l. k ∷ l) f q, r)

-- ---- a number with white space before it
-- where it stands in what the reader has
pub record Field (l gap decimal rest : List Glyph) : Type 0 where
  pub text : l ≡ gap ++ (decimal ++ rest)
  pub spaces : All (λ b. is_space b ≡ true) (bytes_of gap)
  pub spaces_end : RunEnds is_space (bytes_of (decimal ++ rest))
  pub digits : All (λ b. is_digit b ≡ true) (bytes_of decimal)
  pub digits_end : RunEnds is_digit (bytes_of rest)

module _ (s : List ℕ) where
  pub field_is : (f : Found) {gap decimal rest : List Glyph} → Field (glyphs_at s f.at) gap decimal rest
      → (number_next s f
      ≡ found (f.some && (any false gap && any false decimal)) (cap_to most_value (decimal_from 0 (bytes_of decimal)))
      (last_next (last_next f.at gap) decimal))
      × (glyphs_at s (last_next (last_next f.at gap) decimal) ≡ rest)
  unfolding number_next
  field_is f {gap} {decimal} {rest} h =
      let at = last_next f.at gap in
      let there : glyphs_at s at ≡ decimal ++ rest = walk s gap f.at h.text in
      let spaces : spaces_from false f.at (glyphs_at s f.at) ≡ found (any false gap) 0 at =
      ap (spaces_from false f.at) h.text
      ∙ spaces_are gap (decimal ++ rest) false f.at h.spaces h.spaces_end in
      let number = ap (number_from false 0 at) there ∙ number_is decimal rest false 0 at h.digits h.digits_end in
      (rw (spaces, number), walk s decimal at there)
