-- How the definitions of the header go on by one byte outside comments.
--   hidden, opened, shown, past            the bytes outside comments, by the byte at a place
--   spaces_more, spaces_stop, spaces_past  white space
--   digits_more, digits_stop, digits_past  digits
--   most_number                            no number is above the limit
use Rattle.std.proofs.Common.{◌≡◌, ℕ, ◌+◌, ◌-◌, ◌*◌, ◌≤◌, ◌<◌, Bool, true, false, not, ltb, List, [], ◌∷◌, length, get_or, drop, drop-cons, add-one, arith}
use borrow.Author.Tests.{ltb-true}
use lib.ListN.{drop_of_length-le}
use Rattle.model.specs.PictureHeader.{Found}
use Rattle.model.specs.Text.{is_digit, grow_to}
use Rattle.model.specs.Netpbm.{is_space, opens_comment, ends_comment}
use Rattle.model.specs.PictureHeader.{Glyph, glyphs, glyphs_at, found, spaces_from, most_value, number_from}
use Rattle.model.specs.PictureHeader.{number_next}
use Rattle.model.proofs.Basic.{pick_cases}
use Rattle.picture_header.specs.Read.{Next}

-- ---- by the byte at a place
module _ (s : List ℕ) (i : ℕ) (h : i < length s) where
  -- it lies in a comment
  pub hidden : glyphs true i (drop i s) ≡ glyphs (not (ends_comment (get_or s i 0))) (i + 1) (drop (i + 1) s)
  unfolding glyphs
  hidden = rw (drop-cons s i 0, add-one)

  -- it opens one
  pub opened : opens_comment (get_or s i 0) ≡ true → glyphs_at s i ≡ glyphs true (i + 1) (drop (i + 1) s)
  unfolding glyphs
  opened e = rw (drop-cons s i 0, e, add-one)

  -- it lies outside
  pub shown : opens_comment (get_or s i 0) ≡ false
      → glyphs_at s i ≡ record { byte = get_or s i 0; next = i + 1 } ∷ glyphs_at s (i + 1)
  unfolding glyphs
  shown e = rw (drop-cons s i 0, e, add-one)

pub past : (s : List ℕ) (i : ℕ) → length s ≤ i → (c : Bool) → glyphs c i (drop i s) ≡ []
unfolding glyphs
past s i h c = rw (drop_of_length-le s h)

-- ---- by the next byte outside comments
module _ {s : List ℕ} {at b next : ℕ} (n : Next s at b next) where
  -- white space
  pub spaces_more : (some : Bool) → is_space b ≡ true
      → spaces_from some at (glyphs_at s at) ≡ spaces_from true next (glyphs_at s next)
  unfolding spaces_from
  spaces_more some e = rw (n.shows, e)

  pub spaces_stop : (some : Bool) → is_space b ≡ false → spaces_from some at (glyphs_at s at) ≡ found some 0 at
  unfolding spaces_from
  spaces_stop some e = rw (n.shows, e)

  -- digits
  pub digits_more : (some : Bool) (v : ℕ) → is_digit b ≡ true
      → number_from some v at (glyphs_at s at) ≡ number_from true (grow_to most_value v b) next (glyphs_at s next)
  unfolding number_from
  digits_more some v e = rw (n.shows, e)

  pub digits_stop : (some : Bool) (v : ℕ) → is_digit b ≡ false → number_from some v at (glyphs_at s at) ≡ found some v at
  unfolding number_from
  digits_stop some v e = rw (n.shows, e)

-- and where there is none
pub spaces_past : (s : List ℕ) (some : Bool) (at : ℕ) → glyphs_at s at ≡ [] → spaces_from some at (glyphs_at s at) ≡ found some 0 at
unfolding spaces_from
spaces_past s some at none = rw none

pub digits_past : (s : List ℕ) (some : Bool) (v at : ℕ) → glyphs_at s at ≡ [] → number_from some v at (glyphs_at s at) ≡ found some v at
unfolding number_from
digits_past s some v at none = rw none

-- ---- the limit
grown_most : (v b : ℕ) → grow_to most_value v b ≤ most_value
grown_most v b =
    let n = v * 10 + (b - 48) in
    pick_cases (λ (k : ℕ). k ≤ most_value) (ltb n most_value) (λ t. omega (arith, ltb-true n most_value t)) (λ t. omega arith)

most_digits : (some : Bool) (v at : ℕ) (l : List Glyph) → v ≤ most_value → (number_from some v at l).value ≤ most_value
unfolding number_from
most_digits some v at [] h = h
most_digits some v at (g ∷ l) h =
    pick_cases (λ (f : Found). f.value ≤ most_value) (is_digit g.byte)
    (λ t. most_digits true (grow_to most_value v g.byte) g.next l (grown_most v g.byte)) (λ t. h)

pub most_number : (s : List ℕ) (f : Found) → (number_next s f).value ≤ most_value
unfolding number_next
most_number s f =
    let at = (spaces_from false f.at (glyphs_at s f.at)).at in
    most_digits false 0 at (glyphs_at s at) (omega arith)
