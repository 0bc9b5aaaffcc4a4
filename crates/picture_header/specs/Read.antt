-- What the reader of a header shows and answers: whether a part is there, and what was read of it, there or not.
use Rattle.std.specs.Prelude.{Bool, true, false, List, ◌∷◌, ◌≡◌, ℕ, ◌≤◌, ◌<◌, length, Result, Ok, Err}
use Rattle.model.specs.declared.After.{After}
use Rattle.model.specs.declared.NetpbmHeader.{NetpbmHeader}
use Rattle.model.specs.declared.Size.{Size}
use Rattle.model.specs.PictureHeader.{Found, PictureHeader, glyphs_at, magic, number_next}
use Rattle.invariants.specs.Pictures.{header_in}

-- the next byte outside comments, from a place on, and the place after it
pub record Next (s : List ℕ) (at byte next : ℕ) : Type 0 where
  pub later : at < next
  pub within : next ≤ length s
  pub shows : glyphs_at s at ≡ record { byte = byte; next = next } ∷ glyphs_at s next

-- whether a part is there, and what was read of it
abbrev pub told : {A : Type 0} → Result A A → Bool × A
told (Ok a) = (true, a)
told (Err a) = (false, a)

-- the same of what is found: the place after it
abbrev pub place_of : Found → Bool × ℕ
place_of f = (f.some, f.at)

-- a number, and the place after it
abbrev pub number_of : Found → Bool × After ℕ
number_of f = (f.some, record { value = f.value; at = f.at })

-- width and height after a magic number, and the place after them
abbrev pub size_found : (s : List ℕ) (kind : ℕ) → Bool × After Size
size_found s kind =
    let w = number_next s (magic s kind) in
    let h = number_next s w in
    (h.some, record { value = record { width = w.value; height = h.value }; at = h.at })

-- a header, or the numbers of what is none, and the place where reading stopped
abbrev pub header_told : Result (After NetpbmHeader) (After NetpbmHeader) → PictureHeader
header_told (Ok h) = header_in h
header_told (Err h) =
    record {
      good = false;
      width = h.value.size.width;
      height = h.value.size.height;
      maximum = h.value.maximum;
      at = h.at;
    }
