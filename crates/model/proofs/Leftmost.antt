-- A sheet is refused for the leftmost that is drawn (specs/SheetRefusal.antt), as the reader by its grammar refuses.
--   read_within                               the reader's place lies within the input
--   read_draws_nothing                        a sheet that is read draws nothing anywhere
--   refused_is_leftmost, leftmost_is_refused  the reader's refusal is the leftmost that is drawn, and the other way
use mathlib.Core.Path.{◌≡◌, refl, ◌∙◌, ap, ap₂, sym, subst}
use mathlib.Core.Bool.{Bool}
use mathlib.Core.Logic.{inl, inr, ⊎_elim, ⊎_map}
use mathlib.Core.List.{List, [], ◌++◌, append_assoc, append-nil}
use Prim.Native.Nat.{ℕ, ◌≤◌, ◌<◌}
use native.Mathlib.Decide.{dec_lt}
use native.Mathlib.Nat.{le_refl}
use native.Mathlib.Omega.{arith}
use lib.ListN.{length, take, replicate, length-replicate}
use Rattle.model.specs.declared.Measures.{Measures}
use Rattle.model.specs.Text.{digits}
use Rattle.model.specs.Sheet.{Sheet, entries_of, cells_of, dots_in, values_of, sheet_text, Shaped, InRange, Begins}
use Rattle.model.specs.Sheet.{Stops, room_for}
use Rattle.model.specs.SheetRefusal.{number_at, least, most, text_before, Outside, Short, Draws, Leftmost}
use Rattle.model.specs.Format.{head_from, head_by, text_of, measures_of, sheet_of, read_sheet}
use Rattle.model.specs.Grammar.{Beyond, OutsideAt, parts_of, StopsText, OutsideText, ShortText, DrawsText}
use Rattle.model.specs.Grammar.{read_by_grammar}
use Rattle.model.proofs.Agrees.{Agrees, agrees_begins}
use Rattle.model.proofs.Grammar.{first, lines_read}
use Rattle.model.proofs.Deciding.{Beginnings, StopsHere, stops_no_text, stops_right, stops_no_number}
use Rattle.model.proofs.Deciding.{reader_stops, Decides, nothing_drawn, decides_leftmost, leftmost_decides}
use Rattle.model.proofs.GrammarRefused.{Reached, reached, read_local, text_never, lines_refuse, grammar_decides}
use Rattle.model.proofs.Sheet.{sheet_grammar, body_text, text_head, values_in, text_parts, values_shaped}
use Rattle.model.proofs.Sheet.{values_in_length, sheet_values, inside_head, formed, sheet_taken, read_taken}
use Rattle.model.proofs.Sheet.{head_in_range, read_exactly}
use Rattle.model.proofs.Sections.{number_in_text, number_outside, outside_number}

-- ---- the beginnings of sheets
-- the text of a sheet, its numbers of any size
abbrev IsSheet : List ℕ → Type 0
IsSheet b = (s : Sheet) × Shaped s × (b ≡ sheet_text s)

beginnings : Beginnings IsSheet Begins
beginnings = record {
  goes_on = λ q f. (f.rest, (f.sheet, f.shaped, sym f.text));
  begins = λ q rest t. record { sheet = t.0; shaped = t.1; rest = rest; text = sym t.2 };
}

-- what stands before the reader's place begins one
abbrev BeginsTo : List ℕ → ℕ → Type 0
BeginsTo b o = (o ≤ length b) × Begins (take o b)

agreed : {b : List ℕ} {n o : ℕ} {t : List ℕ} (s : Sheet) → Shaped s → (more : List ℕ) → sheet_text s ≡ t ++ more
    → Agrees b 0 n o t → BeginsTo b o
agreed s h more e a =
    let (l, rest, w) = agrees_begins more a in (l, record { sheet = s; shaped = h; rest = rest; text = e ∙ w })

-- in lines 1 and 2: a sheet with such measures
unfoldable blank : Measures → Sheet
blank m = record {
  measures = m;
  psf = replicate (entries_of m) 0;
  gray = replicate (cells_of m) 0;
  dots = replicate (dots_in m) 0;
}

blank_shaped : (m : Measures) → Shaped (blank m)
unfolding blank
blank_shaped m = record {
  psf_length = length-replicate (entries_of m) 0;
  gray_length = length-replicate (cells_of m) 0;
  dots_length = length-replicate (dots_in m) 0;
}

-- after them: the sheet of the completed values
reached_begins : {b : List ℕ} {o : ℕ} → Reached sheet_grammar formed b o → BeginsTo b o
unfolding blank
reached_begins (inl (m, n, a)) = agreed (blank m) (blank_shaped m) (body_text (blank m)) (text_head (blank m)) a
reached_begins (inr (m, vs, n, i, l, a)) =
    let s = sheet_of m vs in
    let h = values_shaped m vs l in
    let e = ap (λ u. text_of (parts_of sheet_grammar m) (values_of m ++ u)) (sheet_values m vs) in
    agreed s h [] (text_parts s h (inside_head m i).wide.0 ∙ e ∙ sym (append-nil _)) a

-- the text of a sheet never draws refusal 10
sheet_never : (room : Measures → Bool) (b : List ℕ) → IsSheet b → (read_by_grammar sheet_grammar room b).refusal ≡ 10 → ⊥
unfolding head_by
sheet_never room b (s, shaped, e) z = go (dec_lt 0 s.measures.width)
  where
    go : Dec (0 < s.measures.width) → ⊥
    go (yes h) =
        text_never sheet_grammar formed room b (record {
          measures = s.measures;
          values = values_in s;
          long = values_in_length s shaped;
          text = e ∙ text_parts s shaped (omega arith);
        }) z
    go (no h) =
        ⊎_elim
        (λ r.
        let i = subst InRange (ap measures_of r.1) (head_in_range b r.0) in
        h (omega (arith, i.wide.0)))
        (λ r. omega (arith, (lines_refuse sheet_grammar formed room b (first sheet_grammar b).at r.0 (le_refl _)).0))
        (lines_read sheet_grammar formed b s.measures (body_text s) (e ∙ text_head s))

-- no sheet goes on, as `Stops` says it
stops_here : {b : List ℕ} {o : ℕ} → Stops b o → StopsHere IsSheet Begins b o
stops_here z = ⊎_map (λ h. h) (λ h. (h.0, λ t. h.1 t.0 t.1 t.2)) z.here

module _ (b : List ℕ) where
  -- ---- 11: a number of a sheet is a value of its text, and back
  outside_value : {o : ℕ} → Outside b o → OutsideText sheet_grammar b o
  outside_value x =
      let s = x.sheet in
      record {
        measures = s.measures;
        values = values_in s;
        long = values_in_length s x.shaped;
        before = text_before x.section s x.index;
        value = number_at x.section s x.index;
        rest = x.rest;
        outside = number_outside s x.shaped x.section x.index x.number x.outside;
        text = x.text;
        run = x.run;
        place = x.place;
      }

  value_outside : {o : ℕ} → OutsideText sheet_grammar b o → Outside b o
  value_outside x =
      let m = x.measures in
      let s = sheet_of m x.values in
      let shaped = values_shaped m x.values x.long in
      let v = x.value in
      let n = sym (sheet_values m x.values) in
      let (k, i, h, e, f, out) = outside_number s shaped x.before v
      (subst (λ u. OutsideAt (parts_of sheet_grammar m) (values_of m ++ u) x.before v) n x.outside) in
      record {
        sheet = s;
        shaped = shaped;
        section = k;
        index = i;
        rest = x.rest;
        number = h;
        text = x.text ∙ ap₂ (λ t u. t ++ (digits u ++ x.rest)) e f;
        run = x.run;
        outside = subst (Beyond (least k i) (most k i)) f out;
        place = x.place ∙ ap length e;
      }

  -- 10 and 11 are never drawn at one place: where a number of a sheet stands, that sheet goes on
  never_both : (o : ℕ) → Stops b o → Outside b o → ⊥
  never_both o z x =
      let before = text_before x.section x.sheet x.index in
      let v = number_at x.section x.sheet x.index in
      let (more, e) = number_in_text x.sheet x.shaped x.section x.index x.number in
      let begun : Begins (before ++ digits v) =
      record {
        sheet = x.sheet;
        shaped = x.shaped;
        rest = more;
        text = e ∙ sym (append_assoc before (digits v) more);
      } in
      stops_no_number beginnings b before v x.rest x.text x.place begun (stops_here z)

  module _ (p g d : ℕ) where
    -- ---- 12
    short_room : {o : ℕ} → Short b p g d o → ShortText sheet_grammar (λ m. room_for m p g d) b o
    unfolding head_from
    short_room x =
        record { measures = x.measures; rest = x.rest; text = x.text; lacks = x.lacks; place = x.place }

    room_short : {o : ℕ} → ShortText sheet_grammar (λ m. room_for m p g d) b o → Short b p g d o
    unfolding head_from
    room_short x =
        record { measures = x.measures; rest = x.rest; text = x.text; lacks = x.lacks; place = x.place }

    -- ---- the reader by the grammar, and that of sheets
    taken_decides : let t = sheet_taken b p g d in
        Decides (Stops b) (Outside b) (Short b p g d) t.refusal t.at
    taken_decides = record {
      draws = λ z. go (by.draws z);
      on_stops = λ o x. (
        λ z.
            let n = (read_taken b p g d).0 ∙ z in
            let s = (read_sheet b p g d).sheet in
            let (e, v, _) = read_exactly b p g d s (n, refl) in
            stops_no_text beginnings b (stops_here x) (s, v.shaped, e),
        stops_right beginnings b (sheet_taken b p g d).at begun.0 begun.1 (stops_here x),
      );
      on_outside = λ o x. by.on_outside o (outside_value x);
      on_short = λ o x. by.on_short o (short_room x);
      never_both = never_both;
    }
      where
        room : Measures → Bool
        room m = room_for m p g d

        by : let t = sheet_taken b p g d in
            Decides (StopsText sheet_grammar b) (OutsideText sheet_grammar b) (ShortText sheet_grammar room b) t.refusal
            t.at
        by = grammar_decides sheet_grammar formed room b

        begun : BeginsTo b (sheet_taken b p g d).at
        begun = reached_begins (reached sheet_grammar formed room b)

        stops : (sheet_taken b p g d).refusal ≡ 10 → Stops b (sheet_taken b p g d).at
        stops z = record {
          before = begun.1;
          here =
              ⊎_map (λ h. h) (λ h. (h.0, λ s shaped e. h.1 (s, shaped, e)))
              (reader_stops beginnings b (read_by_grammar sheet_grammar room) (λ r. r.refusal) (λ r. r.at)
              (read_local sheet_grammar formed room) (sheet_never room) begun.0 z);
        }

        go : let t = sheet_taken b p g d in
            DrawsText sheet_grammar room b t.refusal t.at → Draws b p g d t.refusal t.at
        go (inl (e, x)) = inl (e, stops e)
        go (inr (inl (e, x))) = inr (inl (e, value_outside x))
        go (inr (inr (e, x))) = inr (inr (e, room_short x))

    sheet_decides : let r = read_sheet b p g d in
        Decides (Stops b) (Outside b) (Short b p g d) r.refusal r.at
    sheet_decides =
        let (n, q, _) = read_taken b p g d in
        subst (Decides (Stops b) (Outside b) (Short b p g d) (read_sheet b p g d).refusal) (sym q)
        (subst (λ n. Decides (Stops b) (Outside b) (Short b p g d) n (sheet_taken b p g d).at) (sym n) taken_decides)

    -- ---- what is promised
    pub read_within : (read_sheet b p g d).at ≤ length b
    read_within =
        let (l, _) = reached_begins (reached sheet_grammar formed (λ m. room_for m p g d) b) in
        omega (arith, (read_taken b p g d).1)

    pub read_draws_nothing : (read_sheet b p g d).refusal ≡ 0 → (n o : ℕ) → Draws b p g d n o → ⊥
    read_draws_nothing = nothing_drawn sheet_decides

    pub refused_is_leftmost : (n o : ℕ)
        → ((read_sheet b p g d).refusal ≡ n) × (n ≡ 0 → ⊥) × ((read_sheet b p g d).at ≡ o)
        → Leftmost (Draws b p g d) n o
    refused_is_leftmost = decides_leftmost sheet_decides

    pub leftmost_is_refused : (n o : ℕ) → Leftmost (Draws b p g d) n o
        → ((read_sheet b p g d).refusal ≡ n) × (n ≡ 0 → ⊥) × ((read_sheet b p g d).at ≡ o)
    leftmost_is_refused = leftmost_decides sheet_decides
