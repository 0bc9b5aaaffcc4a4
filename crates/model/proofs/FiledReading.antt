-- The text of a filed sheet is that of the parts of its grammar with its values, and values in their fields are a valid
-- sheet with start 2 and its figures.
--   filed_formed                its grammar is one that texts are read by
--   text_filed, grammar_filed   the text; and the texts of its grammar are no others
--   lines_inside, inside_lines  the values of line 2 are in their fields exactly where the measures are, start being 2
--   below_inside, inside_below  those that follow it exactly where the sheet is valid and the figures are small enough
--   filed_read_lem, read_filed_lem      a filed sheet is read as itself where there is room, and what is read is one
use mathlib.Core.Bool.{true}
use mathlib.Core.List.{List, [], ◌∷◌, ◌++◌, append_assoc}
use mathlib.Core.Path.{◌≡◌, refl, sym, ◌∙◌, ap, ap₂}
use Prim.Native.Nat.{ℕ, ◌+◌, ◌≤◌}
use native.Mathlib.Omega.{arith}
use lib.ListN.{length, take, drop, length-append, length-drop, take-append-drop}
use lib.Seq.{length-take-le, take_at, drop_at}
use Rattle.model.specs.declared.FiledFigures.{FiledFigures}
use Rattle.model.specs.declared.Measures.{Measures}
use Rattle.model.specs.Basic.{Exactly, AtMost}
use Rattle.model.specs.Sheet.{Sheet, values_of, Shaped, InRange, Valid}
use Rattle.model.specs.Format.{head_from, head, body, text_of, sheet_of}
use Rattle.model.specs.Program.{figures_text}
use Rattle.model.specs.Grammar.{numbers, parts_of, IsText, Taken}
use Rattle.model.specs.Filed.{filed_text, figures_in, most_figure, figure_parts, filed_grammar, figures_of, filed_sheet}
use Rattle.model.specs.Filed.{filed_figures, IsFiled, filed_room, read_filed}
use Rattle.model.proofs.Format.{Inside, inside_length, good_append, good_head, good_body, text_append}
use Rattle.model.proofs.Format.{numbers_append}
use Rattle.model.proofs.Sheet.{sheet_grammar, formed, numbers_head, values_in, text_parts, values_in_length}
use Rattle.model.proofs.Sheet.{values_shaped, sheet_values, values_sheet}
use Rattle.model.proofs.Sheet.{head_inside, inside_head, grid_inside, inside_grid}
use Rattle.model.proofs.Sheet.{inside_append, inside_split, body_inside, inside_body}
use Rattle.model.proofs.Grammar.{Formed, five, text_lines, taken_text, text_taken}

-- ---- its grammar
pub filed_formed : Formed filed_grammar
unfolding figure_parts
filed_formed = record {
  lines_good = good_head 2;
  below_good = λ m.
      good_append (body m) figure_parts (good_body m) (refl, (refl, (refl, (refl, (refl, (refl, tt))))));
  lines_five = numbers_head 2;
}

-- ---- its text
-- lines 1 and 2 are those of a sheet
same_lines : (m : Measures) → text_of head (values_of m) ≡ text_of (head_from 2) (values_of m)
unfolding head_from
same_lines m = refl

text_figures : (f : FiledFigures)
    → text_of figure_parts (figures_in f)
    ≡ figures_text f.before f.after f.on f.off f.swaps f.scans
unfolding figure_parts figures_text
text_figures f = refl

pub text_filed : (s : Sheet) (f : FiledFigures) → Shaped s → 1 ≤ s.measures.width
    → (let m = s.measures in
    filed_text s f ≡ text_of (parts_of filed_grammar m) (values_of m ++ (values_in s ++ figures_in f)))
text_filed s f h wide =
    let m = s.measures in
    let lines = text_of (head_from 2) (values_of m) in
    let below = text_of (body m) (values_in s) in
    ap₂ (λ a b. a ++ b)
    (text_parts s h wide ∙ text_lines sheet_grammar formed m (values_in s) ∙ ap (λ l. l ++ below) (same_lines m))
    (sym (text_figures f))
    ∙ append_assoc lines below (text_of figure_parts (figures_in f))
    ∙ ap (λ l. lines ++ l)
    (sym (text_append (body m) figure_parts (values_in s) (figures_in f) (values_in_length s h)))
    ∙ sym (text_lines filed_grammar filed_formed m (values_in s ++ figures_in f))

-- six values are figures
six : (vs : List ℕ) → length vs ≡ 6 → figures_in (figures_of vs) ≡ vs
six [] e = absurd (omega arith)
six (v ∷ vs) e = ap (λ l. v ∷ l) (five vs (omega arith))

numbers_below : (m : Measures) → numbers (filed_grammar.below m) ≡ numbers (body m) + 6
unfolding figure_parts
numbers_below m = numbers_append (body m) figure_parts

-- the texts of the grammar are those of filed sheets, their numbers of any size
pub grammar_filed : (b : List ℕ)
    → Exactly ((t : IsText filed_grammar b) × (1 ≤ t.measures.width))
    ((s : Sheet) × (f : FiledFigures) × Shaped s × (1 ≤ s.measures.width) × (b ≡ filed_text s f))
grammar_filed b = (to, from)
  where
    to : (t : IsText filed_grammar b) × (1 ≤ t.measures.width)
        → (s : Sheet) × (f : FiledFigures) × Shaped s × (1 ≤ s.measures.width) × (b ≡ filed_text s f)
    to (t, wide) =
        let m = t.measures in
        let vs = t.values in
        let n = numbers (body m) in
        let l : length vs ≡ n + 6 = t.long ∙ numbers_below m in
        let s = filed_sheet m vs in
        let f = filed_figures m vs in
        let h = values_shaped m (take n vs) (length-take-le n vs (omega (arith, l))) in
        let last : length (drop n vs) ≡ 6 = length-drop n vs ∙ omega (arith, l) in
        let same : values_in s ++ figures_in f ≡ vs =
        ap₂ (λ a c. a ++ c) (sheet_values m (take n vs)) (six (drop n vs) last) ∙ take-append-drop n vs in (
          s,
          f,
          h,
          wide,
          t.text
              ∙ ap (λ us. text_of (parts_of filed_grammar m) (values_of m ++ us)) (sym same)
              ∙ sym (text_filed s f h wide),
        )

    from : (s : Sheet) × (f : FiledFigures) × Shaped s × (1 ≤ s.measures.width) × (b ≡ filed_text s f)
        → (t : IsText filed_grammar b) × (1 ≤ t.measures.width)
    from (s, f, h, wide, e) = (
      record {
        measures = s.measures;
        values = values_in s ++ figures_in f;
        long =
            length-append (values_in s) (figures_in f)
            ∙ ap (λ n. n + 6) (values_in_length s h)
            ∙ sym (numbers_below s.measures);
        text = e ∙ text_filed s f h wide;
      },
      wide,
    )

-- ---- its values
pub lines_inside : (m : Measures) → InRange m → m.start ≡ 2 → Inside (head_from 2) (values_of m)
unfolding head_from
lines_inside m r given =
    let (wide, wide', (high, high', (near, near', (reach, reach', (_, kind, _))))) = head_inside m r in
    (wide, wide', (high, high', (near, near', (reach, reach', (omega arith, kind, tt)))))

pub inside_lines : (m : Measures) → Inside (head_from 2) (values_of m) → InRange m × (m.start ≡ 2)
unfolding head_from
inside_lines m (wide, wide', (high, high', (near, near', (reach, reach', (least, kind, _))))) = (
  inside_head m (wide, wide', (high, high', (near, near', (reach, reach', (omega arith, kind, tt))))),
  omega arith,
)

-- the figures are a row of six
figures_inside : (f : FiledFigures) → AtMost most_figure (figures_in f) → Inside figure_parts (figures_in f)
unfolding figure_parts
figures_inside f h = grid_inside 6 most_figure 0 6 (figures_in f) refl h

inside_figures : (vs : List ℕ) → Inside figure_parts vs → (figures_in (figures_of vs) ≡ vs) × AtMost most_figure vs
unfolding figure_parts
inside_figures vs i = (six vs (inside_length figure_parts vs i), inside_grid 6 most_figure 0 6 vs i)

pub below_inside : (s : Sheet) (f : FiledFigures) → Valid s → AtMost most_figure (figures_in f)
    → Inside (filed_grammar.below s.measures) (values_in s ++ figures_in f)
below_inside s f v h =
    inside_append (body s.measures) figure_parts (values_in s) (figures_in f) (body_inside s v) (figures_inside f h)

pub inside_below : (m : Measures) (vs : List ℕ) → InRange m → Inside (filed_grammar.below m) vs
    → (let s = filed_sheet m vs in
    let f = filed_figures m vs in
    Valid s × AtMost most_figure (figures_in f) × (vs ≡ values_in s ++ figures_in f))
inside_below m vs r i =
    let n = numbers (body m) in
    let (sheet, figures) = inside_split (body m) figure_parts vs i in
    let (same, most) = inside_figures (drop n vs) figures in (
      inside_body m (take n vs) r sheet,
      rw same most,
      sym (ap₂ (λ a b. a ++ b) (sheet_values m (take n vs)) same ∙ take-append-drop n vs),
    )

-- what is read of them is the sheet with its figures
module _ (s : Sheet) (f : FiledFigures) (h : Shaped s) where
  filed_sheet_lem : filed_sheet s.measures (values_in s ++ figures_in f) ≡ s
  filed_sheet_lem =
      ap (sheet_of s.measures) (take_at (values_in s) (figures_in f) _ (values_in_length s h)) ∙ values_sheet s h

  filed_figures_lem : filed_figures s.measures (values_in s ++ figures_in f) ≡ f
  filed_figures_lem = ap figures_of (drop_at (values_in s) (figures_in f) _ (values_in_length s h))

-- ---- reading it
module _ (b : List ℕ) (p g d t : ℕ) where
  abbrev r : Taken
  r = read_filed b p g d t

  abbrev sheet : Sheet
  sheet = filed_sheet r.measures r.values

  abbrev figures : FiledFigures
  figures = filed_figures r.measures r.values

  -- a filed sheet is read as itself where there is room
  pub filed_read_lem : (s : Sheet) (f : FiledFigures) → IsFiled b s f → filed_room p g d t s.measures ≡ true
      → (r.refusal ≡ 0) × (sheet ≡ s) × (figures ≡ f)
  filed_read_lem s f i room =
      let m = s.measures in
      let v = i.is_valid in
      let (z, k, l) = text_taken filed_grammar filed_formed (filed_room p g d t) b m (values_in s ++ figures_in f)
      (i.is_text ∙ text_filed s f v.shaped v.in_range.wide.0) (lines_inside m v.in_range i.is_given)
      (below_inside s f v i.figures_most) room in (
        z,
        ap₂ filed_sheet k l ∙ filed_sheet_lem s f v.shaped,
        ap₂ filed_figures k l ∙ filed_figures_lem s f v.shaped,
      )

  -- and what is read is one
  pub read_filed_lem : r.refusal ≡ 0 → IsFiled b sheet figures × (filed_room p g d t sheet.measures ≡ true)
  read_filed_lem z =
      let m = r.measures in
      let (e, i, j, room) = taken_text filed_grammar filed_formed (filed_room p g d t) b z in
      let (range, given) = inside_lines m i in
      let (v, most, same) = inside_below m r.values range j in (
        record {
          is_text =
              e
              ∙ ap (λ vs. text_of (parts_of filed_grammar m) (values_of m ++ vs)) same
              ∙ sym (text_filed sheet figures v.shaped range.wide.0);
          is_valid = v;
          is_given = given;
          figures_most = most;
        },
        room,
      )
