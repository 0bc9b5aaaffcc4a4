-- What follows line 2 of a filed sheet: the blocks, then the two lines.
--   filed_refused, filed_read_lem  the blocks are refused, and then no figure is read; or the two lines are judged after
--                              them
use mathlib.Core.List.{List, [], ◌∷◌}
use mathlib.Core.Path.{◌≡◌}
use Prim.Native.Nat.{ℕ, ◌≤◌}
use native.Mathlib.Omega.{arith}
use borrow.Author.Tests.{ne_eqb}
use lib.ListN.{length, drop_of_length-le}
use lib.Seq.{drop_at}
use Rattle.invariants.specs.Reading.{FiledEnd, filed_end}
use Rattle.model.specs.declared.Measures.{Measures}
use Rattle.model.specs.Format.{Place, Part, fixed, number, body, place, fixed_at, field_at}
use Rattle.model.specs.Format.{Parsed, parse, place_of, ended}
use Rattle.model.specs.Grammar.{numbers}
use Rattle.model.specs.Filed.{figure_parts, figures_of}
use Rattle.model.proofs.Basic.{zero_cases}
use Rattle.model.proofs.Format.{parse_append, parse_refused, values_length}

abbrev end_in : Parsed → FiledEnd
end_in p = record { refusal = p.refusal; at = p.at; figures = figures_of p.values }

-- at most as many values as numbers
values_most : (ps : List Part) (s : List ℕ) (at : ℕ) → length (parse ps s at).values ≤ numbers ps
values_most [] s at = omega arith
values_most (fixed bs ∷ ps) s at =
    let p = fixed_at bs s at in
    zero_cases (λ (r : Parsed). length r.values ≤ numbers ps) p.refusal (λ z. values_most ps s p.at)
    (λ z. omega arith)
values_most (number lo hi end ∷ ps) s at =
    let f = field_at lo hi end s at in
    zero_cases (λ (r : Parsed). length r.values ≤ numbers (number lo hi end ∷ ps)) f.refusal
    (λ z. omega (arith, values_most ps s f.at)) (λ z. omega arith)

module _ (m : Measures) (s : List ℕ) (at : ℕ) (p : Place) (e : p ≡ place_of (parse (body m) s at)) where
  pub filed_refused : (p.refusal ≡ 0 → ⊥)
      → record { refusal = p.refusal; at = p.at; figures = figures_of [] } ≡ filed_end m s at
  unfolding filed_end
  filed_refused z =
      let b = parse (body m) s at in
      let y : b.refusal ≡ 0 → ⊥ = rw e at z in
      rw (e, parse_refused (body m) figure_parts s at y)
      (rw (ne_eqb b.refusal 0 y, drop_of_length-le b.values (values_most (body m) s at)))

  pub filed_read_lem : p.refusal ≡ 0 → {l : FiledEnd} → l ≡ end_in (parse figure_parts s p.at)
      → {e : Place} → e ≡ ended s (place l.refusal l.at)
      → record { refusal = e.refusal; at = e.at; figures = l.figures } ≡ filed_end m s at
  unfolding filed_end
  filed_read_lem z el ee =
      let b = parse (body m) s at in
      let r = parse figure_parts s b.at in
      let y : b.refusal ≡ 0 = rw e at z in
      let below = drop_at b.values r.values (numbers (body m)) (values_length (body m) s at y) in
      rw (ee, el, e, parse_append (body m) figure_parts s at y) (rw below)
