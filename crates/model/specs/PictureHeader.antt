-- Reading the header of a PBM or PGM file, as an executable definition: byte by byte from a place on, without comments.
-- That it reads just the headers of Netpbm.antt is promised (PicturePromises.antt).
use Rattle.std.specs.Prelude.{Bool, true, false, ◌&&◌, ◌||◌, not, List, [], ◌∷◌, ℕ, ◌+◌, leb, eqb, length, get_or, drop}
use Rattle.model.specs.declared.Size.{Size}
use Rattle.model.specs.Basic.{pick}
use Rattle.model.specs.Text.{is_digit, grow_to}
use Rattle.model.specs.Netpbm.{is_space, opens_comment, ends_comment}

-- ---- the bytes outside comments
-- whether what follows a byte lies in a comment
abbrev pub commenting : Bool → ℕ → Bool
commenting true b = not (ends_comment b)
commenting false b = opens_comment b

-- a byte outside comments, and the place after it
pub record Glyph : Type 0 where
  pub byte : ℕ
  pub next : ℕ

-- those of a list that begins at a place, within a comment or not
unfoldable pub glyphs : (comment : Bool) (at : ℕ) → List ℕ → List Glyph
glyphs c at [] = []
glyphs c at (x ∷ xs) =
    let rest = glyphs (commenting c x) (at + 1) xs in
    pick (c || opens_comment x) rest (record { byte = x; next = at + 1 } ∷ rest)

-- those from a place on
abbrev pub glyphs_at : List ℕ → ℕ → List Glyph
glyphs_at s at = glyphs false at (drop at s)

-- ---- the parts of a header
-- what is found of it so far: whether all of it was there, the value of its last number, 0 where it is none, and the
-- place after it
pub record Found : Type 0 where
  pub some : Bool
  pub value : ℕ
  pub at : ℕ

-- the header: whether it is one, its numbers, and the place after it; the maximum of a PBM is 1
pub record PictureHeader : Type 0 where
  pub good : Bool
  pub width : ℕ
  pub height : ℕ
  pub maximum : ℕ
  pub at : ℕ

abbrev pub found : Bool → (value at : ℕ) → Found
found some v at = record { some = some; value = v; at = at }

-- white space
unfoldable pub spaces_from : Bool → ℕ → List Glyph → Found
spaces_from some at [] = found some 0 at
spaces_from some at (g ∷ l) = pick (is_space g.byte) (spaces_from true g.next l) (found some 0 at)

-- digits, any number of them; 65,536 stands for it and all above
abbrev pub most_value : ℕ
most_value = 65536

unfoldable pub number_from : Bool → (value at : ℕ) → List Glyph → Found
number_from some v at [] = found some v at
number_from some v at (g ∷ l) =
    pick (is_digit g.byte) (number_from true (grow_to most_value v g.byte) g.next l) (found some v at)

module _ (s : List ℕ) where
  -- the magic number, two bytes
  abbrev pub magic : (kind : ℕ) → Found
  magic kind = found (leb 2 (length s) && (eqb (get_or s 0 0) 80 && eqb (get_or s 1 0) kind)) 0 2

  -- a number with white space before it, after what was found
  unfoldable pub number_next : Found → Found
  number_next f =
      let gap = spaces_from false f.at (glyphs_at s f.at) in
      let n = number_from false 0 gap.at (glyphs_at s gap.at) in
      found (f.some && (gap.some && n.some)) n.value n.at

  -- one white space after what was found
  abbrev end_from : Found → List Glyph → Found
  end_from f [] = found false 0 f.at
  end_from f (g ∷ l) = found (f.some && is_space g.byte) 0 g.next

  unfoldable pub end_next : Found → Found
  end_next f = end_from f (glyphs_at s f.at)

  -- the whole header
  unfoldable pub pbm_header : PictureHeader
  pbm_header =
      let w = number_next (magic 52) in
      let h = number_next w in
      let e = end_next h in
      record { good = e.some; width = w.value; height = h.value; maximum = 1; at = e.at }

  unfoldable pub pgm_header : PictureHeader
  pgm_header =
      let w = number_next (magic 53) in
      let h = number_next w in
      let m = number_next h in
      let e = end_next m in
      record { good = e.some; width = w.value; height = h.value; maximum = m.value; at = e.at }

abbrev pub size_of : PictureHeader → Size
size_of h = record { width = h.width; height = h.height }
