-- Reading by a grammar (specs/Grammar.antt): what is taken is a text with every number in its field.
--   Formed                  no number of the grammar is ended by a digit, and five stand in lines 1 and 2
--   by_cases                what holds of each answer that the reader can give holds of the one that it gives
--   text_lines              the text, by lines 1 and 2 and what follows them
--   first_values            lines 1 and 2 that were read hold the measures
--   lines_read              lines 1 and 2 of a text, its numbers of any size
--   taken_text, text_taken  taken exactly when the bytes are a text, each number in its field, with room
use mathlib.Core.Path.{◌≡◌, refl, ◌∙◌, ap, ap₂, sym, subst}
use mathlib.Core.Bool.{Bool, true, false, true≢false}
use mathlib.Core.List.{List, [], ◌∷◌, ◌++◌, append-nil}
use Prim.Native.Nat.{ℕ, ◌≤◌, ◌<◌}
use native.Mathlib.Omega.{arith}
use borrow.Author.Tests.{leb-true, leb-false}
use lib.Dec.{leb}
use lib.ListN.{length, drop, length-drop, drop_of_length-le}
use Rattle.model.specs.declared.Measures.{Measures}
use Rattle.model.specs.Format.{Place}
use Rattle.model.specs.Sheet.{values_of}
use Rattle.model.specs.Format.{text_of, Parsed, parse, measures_of, head_by}
use Rattle.model.specs.Grammar.{numbers, Grammar, parts_of, Taken, read_by_grammar}
use Rattle.model.proofs.Basic.{pick_cases, zero_cases}
use Rattle.model.proofs.Format.{Inside, Good, text_append, values_length}
use Rattle.model.proofs.Agrees.{read_text_lem}
use Rattle.model.proofs.Parse.{ReadWhole, ReadAs, text_read, inside_read}

-- no number is ended by a digit, and the values of lines 1 and 2 are the measures
pub record Formed (g : Grammar) : Type 0 where
  pub lines_good : Good g.lines
  pub below_good : (m : Measures) → Good (g.below m)
  pub lines_five : numbers g.lines ≡ 5

-- values as many as the measures
pub five : (vs : List ℕ) → length vs ≡ 5 → values_of (measures_of vs) ≡ vs
five [] e = absurd (omega arith)
five (v ∷ []) e = absurd (omega arith)
five (v ∷ u ∷ []) e = absurd (omega arith)
five (v ∷ u ∷ t ∷ []) e = absurd (omega arith)
five (v ∷ u ∷ t ∷ r ∷ []) e = absurd (omega arith)
five (v ∷ u ∷ t ∷ r ∷ q ∷ []) e = refl
five (v ∷ u ∷ t ∷ r ∷ q ∷ p ∷ vs) e = absurd (omega arith)

-- where nothing is left is no byte
pub none_left : (b : List ℕ) (at : ℕ) → drop at b ≡ [] → at < length b → ⊥
none_left b at e l = omega (arith, ap length e, length-drop at b)

-- ---- the answers that the reader can give
module _ (g : Grammar) (b : List ℕ) where
  -- lines 1 and 2, and what follows them
  abbrev pub first : Parsed
  first = parse g.lines b 0

  abbrev pub measured : Measures
  measured = measures_of first.values

  abbrev pub second : Parsed
  second = parse (g.below measured) b first.at

  abbrev pub answer : (refusal at : ℕ) → List ℕ → Taken
  answer n o vs = record { refusal = n; at = o; measures = measured; values = vs }

-- by what was read; what holds of each of them holds of the one that it gives
pub record Cases (g : Grammar) (room : Measures → Bool) (b : List ℕ) (Q : Taken → Type 0) : Type 0 where
  pub cut_lines : ((first g b).refusal ≡ 0 → ⊥) → Q (answer g b (first g b).refusal (first g b).at [])
  pub no_room : (first g b).refusal ≡ 0 → room (measured g b) ≡ false → Q (answer g b 12 (first g b).at [])
  pub cut_below : (first g b).refusal ≡ 0 → room (measured g b) ≡ true → ((second g b).refusal ≡ 0 → ⊥)
      → Q (answer g b (second g b).refusal (second g b).at (second g b).values)
  pub too_long : (first g b).refusal ≡ 0 → room (measured g b) ≡ true → (second g b).refusal ≡ 0
      → (second g b).at < length b → Q (answer g b 10 (second g b).at (second g b).values)
  pub whole : (first g b).refusal ≡ 0 → room (measured g b) ≡ true → (second g b).refusal ≡ 0
      → length b ≤ (second g b).at → Q (answer g b (second g b).refusal (second g b).at (second g b).values)

pub by_cases : {g : Grammar} {room : Measures → Bool} {b : List ℕ} {Q : Taken → Type 0} → Cases g room b Q
    → Q (read_by_grammar g room b)
unfolding read_by_grammar head_by
by_cases {g} {room} {b} {Q} c =
    zero_cases Q (first g b).refusal (λ z. pick_cases Q (room (measured g b)) (λ f.
    zero_cases End (second g b).refusal (λ y. pick_cases End (leb (length b) (second g b).at)
    (λ l. c.whole z f y (leb-true (length b) (second g b).at l))
    (λ l. c.too_long z f y (leb-false (length b) (second g b).at l))) (c.cut_below z f)) (c.no_room z))
    c.cut_lines
  where
    -- by the place where what follows lines 1 and 2 ends
    End : Place → Type 0
    End e = Q (answer g b e.refusal e.at (second g b).values)

module _ (g : Grammar) (k : Formed g) where
  -- ---- lines 1 and 2, and what follows them
  pub text_lines : (m : Measures) (vs : List ℕ)
      → text_of (parts_of g m) (values_of m ++ vs) ≡ text_of g.lines (values_of m) ++ text_of (g.below m) vs
  text_lines m vs = text_append g.lines (g.below m) (values_of m) vs (sym k.lines_five)

  -- the measures that were read are those of line 2
  pub first_values : (b : List ℕ) → (first g b).refusal ≡ 0 → values_of (measured g b) ≡ (first g b).values
  first_values b z = five (first g b).values (values_length g.lines b 0 z ∙ k.lines_five)

  -- lines 1 and 2 of a text, its numbers of any size
  pub lines_read : (b : List ℕ) (m : Measures) (t : List ℕ) → b ≡ text_of g.lines (values_of m) ++ t
      → ReadAs g.lines b 0 (values_of m) t
  lines_read b m t = text_read g.lines k.lines_good b 0 (values_of m) t (sym k.lines_five)

  -- ---- what is taken
  module _ (room : Measures → Bool) (b : List ℕ) where
    pub taken_text : let r = read_by_grammar g room b in r.refusal ≡ 0
        → (b ≡ text_of (parts_of g r.measures) (values_of r.measures ++ r.values))
        × Inside g.lines (values_of r.measures)
        × Inside (g.below r.measures) r.values
        × (room r.measures ≡ true)
    taken_text =
        by_cases {Q = λ (r : Taken). r.refusal ≡ 0 → Whole r} (record {
          cut_lines = λ z y. absurd (z y);
          no_room = λ z f y. absurd (omega arith);
          cut_below = λ z f y x. absurd (y x);
          too_long = λ z f y l x. absurd (omega arith);
          whole = λ z f y l x. parts z f y l;
        })
      where
        Whole : Taken → Type 0
        Whole r =
            (b ≡ text_of (parts_of g r.measures) (values_of r.measures ++ r.values))
            × Inside g.lines (values_of r.measures)
            × Inside (g.below r.measures) r.values
            × (room r.measures ≡ true)

        parts : (first g b).refusal ≡ 0 → room (measured g b) ≡ true → (second g b).refusal ≡ 0
            → length b ≤ (second g b).at → Whole (answer g b (second g b).refusal (second g b).at (second g b).values)
        parts z f y l =
            let m = measured g b in
            let vs = (second g b).values in
            let (t, i) = read_text_lem g.lines k.lines_good b 0 z in
            let (u, j) = read_text_lem (g.below m) (k.below_good m) b (first g b).at y in
            let e = sym (first_values b z) in
            let w : drop (first g b).at b ≡ text_of (g.below m) vs =
            u ∙ ap (λ x. text_of (g.below m) vs ++ x) (drop_of_length-le b l) ∙ append-nil (text_of (g.below m) vs) in (
              t ∙ ap₂ (λ x y. text_of g.lines x ++ y) e w ∙ sym (text_lines m vs),
              subst (Inside g.lines) e i,
              j,
              f,
            )

    pub text_taken : (m : Measures) (vs : List ℕ) → b ≡ text_of (parts_of g m) (values_of m ++ vs)
        → Inside g.lines (values_of m) → Inside (g.below m) vs → room m ≡ true
        → let r = read_by_grammar g room b in (r.refusal ≡ 0) × (r.measures ≡ m) × (r.values ≡ vs)
    text_taken m vs e i j f =
        let at = (first g b).at in
        let text = text_of (g.below m) vs in
        let (z, v, x, _) = inside_read g.lines k.lines_good b 0 (values_of m) text i (e ∙ text_lines m vs) in
        let n : m ≡ measured g b = sym (ap measures_of v) in
        let (y, l, w, _) = subst (λ m. ReadWhole (g.below m) b at vs []) n
        (inside_read (g.below m) (k.below_good m) b at vs [] j (x ∙ sym (append-nil text))) in
        by_cases {Q = λ (r : Taken). (r.refusal ≡ 0) × (r.measures ≡ m) × (r.values ≡ vs)} (record {
          cut_lines = λ c. absurd (c z);
          no_room = λ _ h. absurd (true≢false (sym (subst (λ m. room m ≡ true) n f) ∙ h));
          cut_below = λ _ _ c. absurd (c y);
          too_long = λ _ _ _ h. absurd (none_left b (second g b).at w h);
          whole = λ _ _ _ _. (y, sym n, l);
        })
