-- The parts of a header, one after the other: each is read from where the one before stopped, there or not.
--   told_ok, told_either, told_header  what is answered, by whether it is there and what was read
--   magic_is                           the magic number
--   number_after                       a number after what was found
--   end_after                          the last white space after it
use Rattle.std.proofs.Common.{◌≡◌, ℕ, suc, Bool, true, false, ◌&&◌, eqb, List, [], ◌∷◌, length, take, Ok, Err, refl, arith}
use borrow.Author.Tests.{le-leb}
use lib.Pointwise.{pointwise}
use Rattle.std.specs.Prelude.{Result, MatchResult, is_ok}
use Rattle.model.specs.declared.After.{After}
use Rattle.model.specs.declared.NetpbmHeader.{NetpbmHeader}
use Rattle.model.specs.Netpbm.{is_space}
use Rattle.model.specs.PictureHeader.{Found, Glyph, glyphs_at, found, magic, number_next, end_next}
use Rattle.picture_header.specs.Read.{told, header_told}

-- ---- what is answered
pub told_ok : {A : Type 0} (r : Result A A) {b : Bool} → b ≡ is_ok r → b ≡ (told r).0
told_ok (Ok a) e = e
told_ok (Err a) e = e

pub told_either : {A : Type 0} (P : A → Type 0) (r : Result A A) → P (told r).1 → MatchResult r P P
told_either P (Ok a) h = h
told_either P (Err a) h = h

pub told_header : (r : Result (After NetpbmHeader) (After NetpbmHeader))
    → let h = (told r).1 in
    header_told r
    ≡ record {
      good = (told r).0;
      width = h.value.size.width;
      height = h.value.size.height;
      maximum = h.value.maximum;
      at = h.at;
    }
told_header (Ok h) = refl
told_header (Err h) = refl

-- ---- the magic number
equal_back : (a b : ℕ) → eqb a b ≡ eqb b a
equal_back a b = grind arith

and_true_right : (b : Bool) → b && true ≡ b
and_true_right true = refl
and_true_right false = refl

and_false_right : (b : Bool) → b && false ≡ false
and_false_right true = refl
and_false_right false = refl

pub magic_is : (kind : ℕ) (s : List ℕ) → pointwise eqb (80 ∷ kind ∷ []) (take 2 s) ≡ (magic s kind).some
magic_is kind [] = refl
magic_is kind (x ∷ []) = and_false_right (eqb 80 x)
magic_is kind (x ∷ y ∷ t) =
    rw (le-leb 2 (suc (suc (length t))) (omega arith), and_true_right (eqb kind y), equal_back 80 x, equal_back kind y)

-- ---- one part after the other
module _ (s : List ℕ) where
  -- a number
  pub number_after : (f : Found)
      → let n = number_next s (found true 0 f.at) in
      number_next s f ≡ found (f.some && n.some) n.value n.at
  unfolding number_next
  number_after f = refl

  -- the last white space
  end_none : (f : Found) → glyphs_at s f.at ≡ [] → end_next s f ≡ found false 0 f.at
  unfolding end_next
  end_none f e = rw e

  end_here : (f : Found) (g : Glyph) (l : List Glyph) → glyphs_at s f.at ≡ g ∷ l
      → end_next s f ≡ found (f.some && is_space g.byte) 0 g.next
  unfolding end_next
  end_here f g l e = rw e

  pub end_after : (f : Found)
      → let e = end_next s (found true 0 f.at) in
      end_next s f ≡ found (f.some && e.some) 0 e.at
  end_after f = go (glyphs_at s f.at) refl
    where
      go : (l : List Glyph) → glyphs_at s f.at ≡ l
          → let e = end_next s (found true 0 f.at) in
          end_next s f ≡ found (f.some && e.some) 0 e.at
      go [] e = rw (end_none f e, end_none (found true 0 f.at) e, and_false_right f.some)
      go (g ∷ l) e = rw (end_here f g l e, end_here (found true 0 f.at) g l e)
