-- Laws of the sheet: its text, reading it and writing it.
--   text_parts                   the text of a sheet is that of the parts of the format with its values
--   inside_append, inside_split  values in the fields of parts after parts
--   body_inside, inside_body     the values of a valid sheet are in their fields, and values in their fields are one
--   formed, read_taken           a sheet is read by its grammar
--   read_exactly, read-back      read exactly when the bytes are its text, each number is in its field, and it fits
--   same_text                    no two sheets have the same text
--   written_whole, written_back  a written sheet is its whole text, and reads back
use mathlib.Core.Path.{◌≡◌, refl, ◌∙◌, ap, ap₂, sym, subst}
use mathlib.Core.Bool.{Bool, true, false}
use mathlib.Core.List.{List, [], ◌∷◌, ◌++◌, append_assoc}
use Prim.Native.Nat.{ℕ, zero, suc, ◌+◌, ◌*◌, ◌≤◌}
use native.Mathlib.Nat.{le_refl, mul-le-mul}
use native.Mathlib.Omega.{arith}
use borrow.Author.Tests.{lt-leb, le-leb, leb-true, ltb-false, eq-eqb, ne_eqb}
use lib.Dec.{leb, eqb}
use lib.ListN.{length, get_or, take, drop, length-append, length-drop, take-append-drop}
use lib.Seq.{sets, length-take-le, take_at, drop_at, sets-eq}
use Rattle.model.specs.declared.Measures.{Measures}
use Rattle.model.specs.Basic.{pick, AtMost}
use Rattle.model.specs.Error.{most_cells}
use Rattle.model.specs.Refusal.{Refusal, bad_size, bad_radius, bad_reach, bad_kind, bad_length, bad_dot, write_refusal}
use Rattle.model.specs.Sheet.{Sheet, side_of, entries_of, cells_of, dots_in, row, rows, names, psf_name, gray_name}
use Rattle.model.specs.Sheet.{dots_name, values_of, dots_text, sheet_text, Shaped, InRange, Valid, room_for}
use Rattle.model.specs.Format.{Part, fixed, number, grid, block, head, psf_block, gray_block, dots_block, body}
use Rattle.model.specs.Format.{head_from, head_by}
use Rattle.model.specs.Format.{text_of, Parsed, head_of, sheet_of, body_end}
use Rattle.model.specs.Format.{read_sheet}
use Rattle.model.specs.Calls.{result, Outcome}
use Rattle.model.specs.SheetCalls.{read_call, with_given, written_sheet, write_text, write_call}
use Rattle.model.specs.Grammar.{numbers, Grammar, parts_of, Taken, read_by_grammar}
use Rattle.model.proofs.Basic.{pick_cases, at_most_tail}
use Rattle.model.proofs.Calls.{no_result, was_taken}
use Rattle.model.proofs.Refusal.{none, size_inside, none_above, alike}
use Rattle.model.proofs.Rows.{text_grid, rows_grid}
use Rattle.model.proofs.Format.{Inside, inside_length, good_head, good_body, text_append}
use Rattle.model.proofs.Format.{numbers_grid, numbers_append}
use Rattle.model.proofs.Agrees.{read_text_lem}
use Rattle.model.proofs.Grammar.{Formed, first, measured, second, by_cases, first_values, taken_text, text_taken}

-- ---- the grammar of sheets
abbrev pub sheet_grammar : Grammar
sheet_grammar = record { lines = head; below = body }

pub numbers_head : (least : ℕ) → numbers (head_from least) ≡ 5
unfolding head_from
numbers_head least = refl

-- ---- the text of a sheet is that of its parts
-- what follows line 2
abbrev pub body_text : Sheet → List ℕ
body_text s =
    let m = s.measures in
    psf_name ++ (rows (side_of m) (side_of m) s.psf ++
    (gray_name ++ (rows m.width m.height s.gray ++ dots_text s)))

pub text_head : (s : Sheet) → sheet_text s ≡ text_of head (values_of s.measures) ++ body_text s
unfolding sheet_text head_from
text_head s = sym (append_assoc names (row (values_of s.measures)) (body_text s))

-- the values that follow line 2
abbrev pub values_in : Sheet → List ℕ
values_in s = s.psf ++ (s.gray ++ s.dots)

module _ (w h hi : ℕ) (vs : List ℕ) (p : 1 ≤ w) (e : length vs ≡ h * w) where
  pub grid_text_lem : text_of (grid w hi 0 (h * w)) vs ≡ rows w h vs
  grid_text_lem = ap (λ n. text_of (grid w hi 0 n) vs) (sym e) ∙ text_grid w hi 0 vs ∙ rows_grid w h vs p e

  block_text : (name : List ℕ) (ps : List Part) (us : List ℕ)
      → text_of (block name w (h * w) hi ++ ps) (vs ++ us) ≡ name ++ (rows w h vs ++ text_of ps us)
  block_text name ps us =
      text_append (block name w (h * w) hi) ps vs us (e ∙ sym (numbers_grid w hi 0 (h * w)))
      ∙ append_assoc name (text_of (grid w hi 0 (h * w)) vs) (text_of ps us)
      ∙ ap (λ l. name ++ (l ++ text_of ps us)) grid_text_lem

text_body : (s : Sheet) → Shaped s → 1 ≤ s.measures.width → body_text s ≡ text_of (body s.measures) (values_in s)
unfolding body
text_body s h p =
    let gray = block_text m.width m.height 255 s.gray p h.gray_length gray_name (dots_block m) s.dots in
    sym (block_text (side_of m) (side_of m) 255 s.psf (omega arith) h.psf_length psf_name
    (gray_block m ++ dots_block m) (s.gray ++ s.dots)
    ∙ ap (λ l. psf_name ++ (rows (side_of m) (side_of m) s.psf ++ l)) (gray
    ∙ ap (λ l. gray_name ++ (rows m.width m.height s.gray ++ l)) (dots (eqb m.start 2) refl)))
  where
    m : Measures
    m = s.measures

    dots : (b : Bool) → eqb s.measures.start 2 ≡ b → text_of (dots_block s.measures) s.dots ≡ dots_text s
    dots true t =
        rw t (ap (λ l. dots_name ++ l) (grid_text_lem m.width m.height 1 s.dots p (rw t at h.dots_length)))
    dots false t = rw t

pub text_parts : (s : Sheet) → Shaped s → 1 ≤ s.measures.width
    → sheet_text s ≡ text_of (parts_of sheet_grammar s.measures) (values_of s.measures ++ values_in s)
text_parts s h p =
    let m = s.measures in
    text_head s
    ∙ ap (λ l. text_of head (values_of m) ++ l) (text_body s h p)
    ∙ sym (text_append head (body m) (values_of m) (values_in s) (sym (numbers_head 0)))

-- ---- as many values as the format asks for are those of a sheet
numbers_body : (m : Measures) → numbers (body m) ≡ entries_of m + (cells_of m + dots_in m)
unfolding body
numbers_body m =
    numbers_append (psf_block m) (gray_block m ++ dots_block m)
    ∙ ap₂ (λ j k. j + k) (numbers_grid (side_of m) 255 0 (entries_of m))
    (numbers_append (gray_block m) (dots_block m)
    ∙ ap₂ (λ j k. j + k) (numbers_grid m.width 255 0 (cells_of m)) (dots (eqb m.start 2)))
  where
    dots : (b : Bool) → numbers (pick b (block dots_name m.width (cells_of m) 1) []) ≡ pick b (cells_of m) 0
    dots true = numbers_grid m.width 1 0 (cells_of m)
    dots false = refl

pub values_shaped : (m : Measures) (vs : List ℕ) → length vs ≡ numbers (body m) → Shaped (sheet_of m vs)
values_shaped m vs e =
    let (p, g, d) = cut (entries_of m) (cells_of m) (dots_in m) (e ∙ numbers_body m) in
    record { psf_length = p; gray_length = g; dots_length = d }
  where
    cut : (i j k : ℕ) → length vs ≡ i + (j + k)
        → (length (take i vs) ≡ i) × (length (take j (drop i vs)) ≡ j) × (length (drop j (drop i vs)) ≡ k)
    cut i j k l =
        let n = length-drop i vs in (
          length-take-le i vs (omega arith),
          length-take-le j (drop i vs) (omega arith),
          length-drop j (drop i vs) ∙ omega arith,
        )

pub values_in_length : (s : Sheet) → Shaped s → length (values_in s) ≡ numbers (body s.measures)
values_in_length s h =
    length-append s.psf (s.gray ++ s.dots)
    ∙ ap₂ (λ j k. j + k) h.psf_length (length-append s.gray s.dots
    ∙ ap₂ (λ j k. j + k) h.gray_length h.dots_length)
    ∙ sym (numbers_body s.measures)

-- ---- values inside their fields are a valid sheet
-- those of line 2
pub head_inside : (m : Measures) → InRange m → Inside head (values_of m)
unfolding head_from
head_inside m r = (
  r.wide.0,
  r.wide.1,
  (r.high.0, r.high.1, (omega arith, r.near, (omega arith, r.reached, (omega arith, r.kind, tt)))),
)

pub inside_head : (m : Measures) → Inside head (values_of m) → InRange m
unfolding head_from
inside_head m i =
    let (wide, wide', (high, high', (_, near, (_, reached, (_, kind, _))))) = i in
    record { wide = (wide, wide'); high = (high, high'); near = near; reached = reached; kind = kind }

-- parts after parts
pub inside_append : (a b : List Part) (vs us : List ℕ) → Inside a vs → Inside b us → Inside (a ++ b) (vs ++ us)
inside_append [] b [] us i j = j
inside_append [] b (v ∷ vs) us i j = absurd i
inside_append (fixed bs ∷ a) b vs us i j = inside_append a b vs us i j
inside_append (number lo hi end ∷ a) b [] us i j = absurd i
inside_append (number lo hi end ∷ a) b (v ∷ vs) us i j = (i.0, i.1, inside_append a b vs us i.2 j)

pub inside_split : (a b : List Part) (vs : List ℕ) → Inside (a ++ b) vs
    → Inside a (take (numbers a) vs) × Inside b (drop (numbers a) vs)
inside_split [] b vs i = (tt, i)
inside_split (fixed bs ∷ a) b vs i = inside_split a b vs i
inside_split (number lo hi end ∷ a) b [] i = absurd i
inside_split (number lo hi end ∷ a) b (v ∷ vs) i =
    let (j, k) = inside_split a b vs i.2 in
    ((i.0, i.1, j), k)

-- a grid
pub at_most_cons : (k x : ℕ) (l : List ℕ) → x ≤ k → AtMost k l → AtMost k (x ∷ l)
at_most_cons k x l h a = record { each = go }
  where
    go : (i : ℕ) → get_or (x ∷ l) i 0 ≤ k
    go zero = h
    go (suc i) = a.each i

pub grid_inside : (w hi i n : ℕ) (vs : List ℕ) → length vs ≡ n → AtMost hi vs → Inside (grid w hi i n) vs
grid_inside w hi i zero [] e a = tt
grid_inside w hi i zero (v ∷ vs) e a = absurd (omega arith)
grid_inside w hi i (suc n) [] e a = absurd (omega arith)
grid_inside w hi i (suc n) (v ∷ vs) e a =
    (omega arith, a.each 0, grid_inside w hi (i + 1) n vs (omega arith) (at_most_tail a))

pub inside_grid : (w hi i n : ℕ) (vs : List ℕ) → Inside (grid w hi i n) vs → AtMost hi vs
inside_grid w hi i zero [] j = record { each = λ k. omega arith }
inside_grid w hi i zero (v ∷ vs) j = absurd j
inside_grid w hi i (suc n) [] j = absurd j
inside_grid w hi i (suc n) (v ∷ vs) j = at_most_cons hi v vs j.1 (inside_grid w hi (i + 1) n vs j.2)

-- what follows line 2
pub body_inside : (s : Sheet) → Valid s → Inside (body s.measures) (values_in s)
unfolding body
body_inside s v =
    inside_append (psf_block m) (gray_block m ++ dots_block m) s.psf (s.gray ++ s.dots)
    (grid_inside (side_of m) 255 0 (entries_of m) s.psf v.shaped.psf_length v.psf_most)
    (inside_append (gray_block m) (dots_block m) s.gray s.dots
    (grid_inside m.width 255 0 (cells_of m) s.gray v.shaped.gray_length v.gray_most)
    (dots (eqb m.start 2) v.shaped.dots_length))
  where
    m : Measures
    m = s.measures

    dots : (b : Bool) → length s.dots ≡ pick b (cells_of m) 0
        → Inside (pick b (block dots_name m.width (cells_of m) 1) []) s.dots
    dots true e = grid_inside m.width 1 0 (cells_of m) s.dots e v.dots_most
    dots false e = grid_inside m.width 1 0 0 s.dots e v.dots_most

pub inside_body : (m : Measures) (vs : List ℕ) → InRange m → Inside (body m) vs → Valid (sheet_of m vs)
unfolding body
inside_body m vs r i =
    let (p, after) = inside_split (psf_block m) (gray_block m ++ dots_block m) vs i in
    let p-n = numbers_grid (side_of m) 255 0 (entries_of m) in
    let (g, d) = inside_split (gray_block m) (dots_block m) (drop (entries_of m) vs) (rw p-n at after) in
    let g-n = numbers_grid m.width 255 0 (cells_of m) in
    record {
      in_range = r;
      shaped = values_shaped m vs (inside_length (body m) vs i);
      psf_most = inside_grid (side_of m) 255 0 (entries_of m) s.psf (rw p-n at p);
      gray_most = inside_grid m.width 255 0 (cells_of m) s.gray (rw g-n at g);
      dots_most = dots (rw g-n at d);
    }
  where
    s : Sheet
    s = sheet_of m vs

    dots : Inside (dots_block m) s.dots → AtMost 1 s.dots
    dots =
        pick_cases (λ (ps : List Part). Inside ps s.dots → AtMost 1 s.dots) (eqb m.start 2)
        (λ t. inside_grid m.width 1 0 (cells_of m) s.dots) (λ t. inside_grid m.width 1 0 0 s.dots)

-- the sheet of values holds these values, and a sheet is that of its values
pub sheet_values : (m : Measures) (vs : List ℕ) → values_in (sheet_of m vs) ≡ vs
sheet_values m vs =
    ap (λ l. take (entries_of m) vs ++ l) (take-append-drop (cells_of m) (drop (entries_of m) vs))
    ∙ take-append-drop (entries_of m) vs

pub values_sheet : (s : Sheet) → Shaped s → sheet_of s.measures (values_in s) ≡ s
values_sheet s h =
    rw (
      take_at s.psf (s.gray ++ s.dots) (entries_of s.measures) h.psf_length,
      drop_at s.psf (s.gray ++ s.dots) (entries_of s.measures) h.psf_length,
      take_at s.gray s.dots (cells_of s.measures) h.gray_length,
      drop_at s.gray s.dots (cells_of s.measures) h.gray_length,
    )

-- ---- reading
-- by the grammar of sheets
pub formed : Formed sheet_grammar
formed = record { lines_good = good_head 0; below_good = good_body; lines_five = numbers_head 0 }

module _ (b : List ℕ) (p g d : ℕ) where
  abbrev pub sheet_taken : Taken
  sheet_taken = read_by_grammar sheet_grammar (λ m. room_for m p g d) b

  pub read_taken : let r = read_sheet b p g d in
      (r.refusal ≡ sheet_taken.refusal)
      × (r.at ≡ sheet_taken.at)
      × (r.refusal ≡ 0 → r.sheet ≡ sheet_of sheet_taken.measures sheet_taken.values)
  unfolding read_sheet head_by body_end
  read_taken =
      by_cases {g = sheet_grammar} {room = λ m. room_for m p g d} {b = b} {Q = Q} (record {
        cut_lines = λ z. rw (ne_eqb one.refusal 0 z) (refl, refl, λ y. absurd (z y));
        no_room = λ z f. rw (eq-eqb one.refusal 0 z, f) (omega arith, refl, λ y. absurd (omega arith));
        cut_below = λ z f y.
            rw (eq-eqb one.refusal 0 z, f, ne_eqb two.refusal 0 y, ne_eqb two.refusal 0 y)
            (refl, refl, λ x. absurd (y x));
        too_long = λ z f y l.
            rw (eq-eqb one.refusal 0 z, f, eq-eqb two.refusal 0 y, lt-leb (length b) two.at l)
            (refl, refl, λ x. absurd (omega arith));
        whole = λ z f y l.
            rw (
              eq-eqb one.refusal 0 z,
              f,
              eq-eqb two.refusal 0 y,
              le-leb (length b) two.at l,
              eq-eqb two.refusal 0 y,
            ) (sym y, refl, λ x. refl);
      })
    where
      one : Parsed
      one = first sheet_grammar b

      two : Parsed
      two = second sheet_grammar b

      Q : Taken → Type 0
      Q t =
          let r = read_sheet b p g d in
          (r.refusal ≡ t.refusal)
          × (r.at ≡ t.at)
          × (r.refusal ≡ 0 → r.sheet ≡ sheet_of t.measures t.values)

-- the measures that were read are in their fields
pub head_in_range : (b : List ℕ) → (head_of b).refusal ≡ 0 → InRange (head_of b).measures
unfolding head_by
head_in_range b z =
    inside_head (measured sheet_grammar b)
    (subst (Inside head) (sym (first_values sheet_grammar formed b z)) (read_text_lem head (good_head 0) b 0 z).1)

-- what was read is a valid sheet, and its text is what was read
pub read_exactly : (b : List ℕ) (p g d : ℕ) (s : Sheet) → let r = read_sheet b p g d in
    (r.refusal ≡ 0) × (r.sheet ≡ s) → (b ≡ sheet_text s) × Valid s × (room_for s.measures p g d ≡ true)
read_exactly b p g d s (z, q) =
    let (n, _, h) = read_taken b p g d in
    let t = sheet_taken b p g d in
    let m = t.measures in
    let vs = t.values in
    let (e, i, j, f) = taken_text sheet_grammar formed (λ m. room_for m p g d) b (sym n ∙ z) in
    let v = inside_body m vs (inside_head m i) j in
    let w = ap (λ l. text_of (parts_of sheet_grammar m) (values_of m ++ l)) (sym (sheet_values m vs)) in
    subst (λ s. (b ≡ sheet_text s) × Valid s × (room_for s.measures p g d ≡ true)) (sym (h z) ∙ q)
    (e ∙ w ∙ sym (text_parts (sheet_of m vs) v.shaped v.in_range.wide.0), v, f)

-- the text of a valid sheet is read as this sheet
pub read_back : (b : List ℕ) (p g d : ℕ) (s : Sheet) → b ≡ sheet_text s → Valid s → room_for s.measures p g d ≡ true
    → let r = read_sheet b p g d in (r.refusal ≡ 0) × (r.sheet ≡ s)
read_back b p g d s e v f =
    let m = s.measures in
    let (n, _, h) = read_taken b p g d in
    let (z, x, y) = text_taken sheet_grammar formed (λ m. room_for m p g d) b m (values_in s)
    (e ∙ text_parts s v.shaped v.in_range.wide.0) (head_inside m v.in_range) (body_inside s v) f in
    (n ∙ z, h (n ∙ z) ∙ ap₂ sheet_of x y ∙ values_sheet s v.shaped)

-- no two sheets have the same text: each is read from it, where the buffers are long enough for any sheet
module _ (m : Measures) (r : InRange m) where
  pub entries_most : entries_of m ≤ 49
  entries_most = let n : side_of m ≤ 7 = omega (arith, r.near) in mul-le-mul {n₂ = 7} {m₂ = 7} n n

  pub cells_most : cells_of m ≤ most_cells
  cells_most = mul-le-mul {n₂ = 256} {m₂ = 256} r.high.1 r.wide.1

  pub cells_fit : (k : ℕ) → cells_of m ≤ k → room_for m 49 k k ≡ true
  cells_fit k h =
      let d : dots_in m ≤ k = pick_cases (λ n. n ≤ k) (eqb m.start 2) (λ t. h) (λ t. omega arith) in
      rw (le-leb (entries_of m) 49 entries_most, le-leb (cells_of m) k h, le-leb (dots_in m) k d)

  any_fits : room_for m 49 most_cells most_cells ≡ true
  any_fits = cells_fit most_cells cells_most

pub same_text : (s s' : Sheet) → Valid s → Valid s' → sheet_text s ≡ sheet_text s' → s ≡ s'
same_text s s' v v' e =
    let back = read_back (sheet_text s) 49 most_cells most_cells in
    let (_, x) = back s refl v (any_fits s.measures v.in_range) in
    let (_, y) = back s' e v' (any_fits s'.measures v'.in_range) in
    sym x ∙ y

-- ---- writing
-- what nothing refused
module _ (m : Measures) (psf gray dots : List ℕ) (taken : write_refusal m psf gray dots ≡ 0) where
  abbrev drawn : List Refusal
  drawn =
      bad_size m.width m.height
      ∷ bad_radius m.radius
      ∷ bad_reach m.reach
      ∷ bad_kind m.start
      ∷ bad_length m.radius psf (m.height * m.width) (length gray ∷ length dots ∷ [])
      ∷ bad_dot dots
      ∷ []

  pub written_shaped : InRange m × Shaped (written_sheet m psf gray dots)
  unfolding write_refusal
  written_shaped =
      let (size, (radius, (reach, (kind, (exact, _))))) = none drawn tt refl taken in
      let (wide, high) = size_inside m.width m.height size in
      let (p, (g, (d, _))) = alike (entries_of m) (cells_of m) (length psf) (length gray ∷ length dots ∷ []) exact in (
        record {
          wide = wide;
          high = high;
          near = ltb-false 3 m.radius radius;
          reached = ltb-false 6 m.reach reach;
          kind = ltb-false 2 m.start kind;
        },
        record { psf_length = p; gray_length = g; dots_length = d },
      )

  written_bits : AtMost 1 dots
  unfolding write_refusal
  written_bits =
      let (_, (_, (_, (_, (_, (dot, _)))))) = none drawn tt refl taken in
      record { each = none_above 1 dots dot }

  pub written_valid : AtMost 255 psf → AtMost 255 gray → Valid (written_sheet m psf gray dots)
  written_valid psf_most gray_most =
      let (r, h) = written_shaped in
      record {
        in_range = record { wide = r.wide; high = r.high; near = r.near; reached = r.reached; kind = le_refl 2 };
        shaped = h;
        psf_most = psf_most;
        gray_most = gray_most;
        dots_most = written_bits;
      }

-- what stands at the front of a buffer
pub front : {A : Type 0} (l vs : List A) (n : ℕ) → length vs ≡ n → n ≤ length l → take n (sets l 0 vs) ≡ vs
front l vs n e h = ap (take n) (sets-eq vs l 0 (omega arith)) ∙ take_at vs (drop (0 + length vs) l) n e

-- a result is that of the whole text
text_whole : (text out : List ℕ) (k : ℕ) → let w = write_text text out in
    w.reply ≡ result k → (k ≡ length text) × (take k w.left ≡ text)
text_whole text out k =
    pick_cases (λ (w : Outcome ℕ (List ℕ)). w.reply ≡ result k → (k ≡ length text) × (take k w.left ≡ text))
    (leb (length text) (length out)) (λ t n.
    let l : length text ≡ k = cc in
    (sym l, front out text k l (omega (arith, leb-true (length text) (length out) t)))) (λ t n. absurd (no_result n))

-- a written sheet is its whole text, and valid
module _ (m : Measures) (psf gray dots out : List ℕ) (k : ℕ) (done : (write_call m psf gray dots out).reply ≡ result k)
    (psf_most : AtMost 255 psf) (gray_most : AtMost 255 gray) where
  pub written_whole : let s = written_sheet m psf gray dots in
      (k ≡ length (sheet_text s)) × (take k (write_call m psf gray dots out).left ≡ sheet_text s) × Valid s
  unfolding write_call
  written_whole =
      let s = written_sheet m psf gray dots in
      let w = write_text (sheet_text s) out in
      let (z, _) = was_taken out w (write_refusal m psf gray dots) done in
      let (l, t) = text_whole (sheet_text s) out k (rw z at done) in
      rw z (l, t, written_valid m psf gray dots z psf_most gray_most)

  -- and it reads back as what was written, with start 2
  pub written_back : (pb gb db : List ℕ) → room_for (with_given m) (length pb) (length gb) (length db) ≡ true
      → let r = read_call (take k (write_call m psf gray dots out).left) pb gb db in
      (r.reply ≡ result (with_given m))
      × (r.left.psf ≡ sets pb 0 psf)
      × (r.left.gray ≡ sets gb 0 gray)
      × (r.left.dots ≡ sets db 0 dots)
  unfolding read_call
  written_back pb gb db f =
      let s = written_sheet m psf gray dots in
      let (_, t, v) = written_whole in
      let b = take k (write_call m psf gray dots out).left in
      let (z, e) = read_back b (length pb) (length gb) (length db) s t v f in
      rw (eq-eqb (read_sheet b (length pb) (length gb) (length db)).refusal 0 z, e) (refl, refl, refl, refl)
