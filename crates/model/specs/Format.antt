-- Reading a sheet, as a definition: its format is a list of parts, and they are read one after the other up to the
-- first that is refused.
use Rattle.std.specs.Prelude.{Bool, ◌&&◌, List, [], ◌∷◌, ◌++◌, ℕ, zero, suc, ◌+◌, leb, ltb, eqb, length, get_or, take, drop}
use Rattle.model.specs.declared.Item.{Item}
use Rattle.model.specs.declared.Item.TheVariants.{Word, Number, LineEnd, Other}
use Rattle.model.specs.declared.Measures.{Measures}
use Rattle.model.specs.Basic.{pick}
use Rattle.model.specs.Text.{space, line_end, digits, step_to}
use Rattle.model.specs.Sheet.{Sheet, side_of, entries_of, cells_of, room_for, end_of, names, psf_name, gray_name}
use Rattle.model.specs.Sheet.{dots_name}

-- ---- the format
-- these bytes, or a number from lo to hi with the byte that ends it
pub data Part : Type 0 where
  fixed : List ℕ → Part
  number : (lo hi end : ℕ) → Part

-- n values in rows of w, from value i on, each from 0 to hi
abbrev pub grid : (w hi i n : ℕ) → List Part
grid w hi i zero = []
grid w hi i (suc n) = number 0 hi (end_of w i) ∷ grid w hi (i + 1) n

-- a name and its rows
abbrev pub block : (name : List ℕ) (w n hi : ℕ) → List Part
block name w n hi = fixed name ∷ grid w hi 0 n

-- line 1, and line 2 with the measures in their fields, the kind of start from the least allowed on
unfoldable pub head_from : (least : ℕ) → List Part
head_from least =
    fixed names
    ∷ number 1 256 space
    ∷ number 1 256 space
    ∷ number 0 3 space
    ∷ number 0 6 space
    ∷ number least 2 line_end
    ∷ []

-- those of a sheet
abbrev pub head : List Part
head = head_from 0

abbrev pub psf_block : Measures → List Part
psf_block m = block psf_name (side_of m) (entries_of m) 255

abbrev pub gray_block : Measures → List Part
gray_block m = block gray_name m.width (cells_of m) 255

abbrev pub dots_block : Measures → List Part
dots_block m = pick (eqb m.start 2) (block dots_name m.width (cells_of m) 1) []

-- what follows line 2
unfoldable pub body : Measures → List Part
body m = psf_block m ++ (gray_block m ++ dots_block m)

-- the text of parts with these values
abbrev pub text_of : List Part → List ℕ → List ℕ
text_of [] vs = []
text_of (fixed bs ∷ ps) vs = bs ++ text_of ps vs
text_of (number lo hi end ∷ ps) [] = []
text_of (number lo hi end ∷ ps) (v ∷ vs) = digits v ++ (end ∷ text_of ps vs)

-- ---- reading one part
-- how far a text is read: refusal 0 and the place after what was read, or the number of a refusal and its byte offset
pub record Place : Type 0 where
  pub refusal : ℕ
  pub at : ℕ

-- the same of one number and the byte that ends it; its value is 0 where it is refused
pub record Field : Type 0 where
  pub refusal : ℕ
  pub at : ℕ
  pub value : ℕ

-- byte b stands at a place
abbrev pub is_at : ℕ → List ℕ → ℕ → Bool
is_at b s at = ltb at (length s) && eqb (get_or s at 0) b

abbrev pub place : (refusal at : ℕ) → Place
place n o = record { refusal = n; at = o }

-- fixed bytes: 10 at the first place that has another byte
abbrev pub fixed_at : List ℕ → List ℕ → ℕ → Place
fixed_at [] s at = place 0 at
fixed_at (b ∷ bs) s at = pick (is_at b s at) (fixed_at bs s (at + 1)) (place 10 at)

abbrev pub field : (refusal at value : ℕ) → Field
field n o v = record { refusal = n; at = o; value = v }

-- 11 at the first digit of a number outside its field, 10 at a byte that cannot be there
abbrev pub field_by : (lo hi end : ℕ) → List ℕ → Item → (at next : ℕ) → Field
field_by lo hi end s (Number v) at next =
    pick (leb lo v && leb v hi) (pick (is_at end s next) (field 0 (next + 1) v) (field 10 next 0)) (field 11 at 0)
field_by lo hi end s Word at next = field 10 at 0
field_by lo hi end s LineEnd at next = field 10 at 0
field_by lo hi end s Other at next = field 10 at 0

-- what numbers are read under: document 01's 257 in the fields of a sheet, and one above any wider field
abbrev pub limit_of : (hi : ℕ) → ℕ
limit_of hi = pick (leb hi 256) 257 (hi + 1)

-- a number from lo to hi and the byte that ends it
unfoldable pub field_at : (lo hi end : ℕ) → List ℕ → ℕ → Field
field_at lo hi end s at =
    let step = step_to (limit_of hi) s at in
    field_by lo hi end s step.item step.at step.next

-- ---- reading parts
-- refusal 0, the place after the parts and their values; or the first refusal, its byte offset and the values before it
pub record Parsed : Type 0 where
  pub refusal : ℕ
  pub at : ℕ
  pub values : List ℕ

abbrev pub parsed : (refusal at : ℕ) → List ℕ → Parsed
parsed n o vs = record { refusal = n; at = o; values = vs }

abbrev pub on_fixed : Place → (ℕ → Parsed) → Parsed
on_fixed p rest = pick (eqb p.refusal 0) (rest p.at) (parsed p.refusal p.at [])

abbrev pub on_field : Field → (ℕ → Parsed) → Parsed
on_field f rest =
    let r = rest f.at in
    pick (eqb f.refusal 0) (parsed r.refusal r.at (f.value ∷ r.values)) (parsed f.refusal f.at [])

abbrev pub parse : List Part → List ℕ → ℕ → Parsed
parse [] s at = parsed 0 at []
parse (fixed bs ∷ ps) s at = on_fixed (fixed_at bs s at) (parse ps s)
parse (number lo hi end ∷ ps) s at = on_field (field_at lo hi end s at) (parse ps s)

abbrev pub place_of : Parsed → Place
place_of p = place p.refusal p.at

-- nothing follows
abbrev pub ended : List ℕ → Place → Place
ended s p = pick (eqb p.refusal 0) (pick (leb (length s) p.at) p (place 10 p.at)) p

-- ---- reading a sheet
abbrev pub measures_of : List ℕ → Measures
measures_of vs = record {
  width = get_or vs 0 0;
  height = get_or vs 1 0;
  radius = get_or vs 2 0;
  reach = get_or vs 3 0;
  start = get_or vs 4 0;
}

-- how far lines 1 and 2 are read, as in `Place`, with the measures
pub record Head : Type 0 where
  pub refusal : ℕ
  pub at : ℕ
  pub measures : Measures

-- lines 1 and 2, by their parts
unfoldable pub head_by : List Part → List ℕ → Head
head_by lines s =
    let p = parse lines s 0 in
    record { refusal = p.refusal; at = p.at; measures = measures_of p.values }

-- those of a sheet
abbrev pub head_of : List ℕ → Head
head_of = head_by head

-- a sheet that was read; or a refusal with its byte offset, and then nothing is held
pub record Read : Type 0 where
  pub refusal : ℕ
  pub at : ℕ
  pub sheet : Sheet

abbrev pub refused_at : Measures → (refusal at : ℕ) → Read
refused_at m n o = record { refusal = n; at = o; sheet = record { measures = m; psf = []; gray = []; dots = [] } }

abbrev pub sheet_of : Measures → List ℕ → Sheet
sheet_of m vs = record {
  measures = m;
  psf = take (entries_of m) vs;
  gray = take (cells_of m) (drop (entries_of m) vs);
  dots = drop (cells_of m) (drop (entries_of m) vs);
}

-- what follows line 2, from a place on: the end of the sheet or the first refusal
unfoldable pub body_end : Measures → List ℕ → ℕ → Place
body_end m s at = ended s (place_of (parse (body m) s at))

abbrev pub read_body : Measures → List ℕ → ℕ → Read
read_body m s at =
    let e = body_end m s at in
    let sheet = sheet_of m (parse (body m) s at).values in
    pick (eqb e.refusal 0) (record { refusal = 0; at = e.at; sheet = sheet }) (refused_at m e.refusal e.at)

-- the leftmost place decides; 12 stands at the start of line 3 and comes first there
unfoldable pub read_sheet : List ℕ → (psf gray dots : ℕ) → Read
read_sheet s psf gray dots =
    let h = head_of s in
    let m = h.measures in
    pick (eqb h.refusal 0)
    (pick (room_for m psf gray dots) (read_body m s h.at) (refused_at m 12 h.at))
    (refused_at m h.refusal h.at)
