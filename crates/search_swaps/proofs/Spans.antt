-- The trials of a swap scan from a cell on to the first that takes a partner, or to the end of the plate.
--   still_ahead, span_ahead  the cells between stay as they were, and the scan stands at the last
--   tallied_there            the trials up to and with the one that is taken
--   tallied_end              those up to the end
--   trials_none              none before the first cell
--   trials_most              never many
--   plate_dots, lowers_there  what the counting and the swap ask for
use mathlib.Core.Bool.{Bool, true, false}
use mathlib.Core.List.{List}
use mathlib.Core.Path.{◌≡◌, refl, sym, ◌∙◌, ap, subst}
use Prim.Native.Nat.{ℕ, suc, ◌+◌, ◌*◌, ◌-◌, ◌≤◌, ◌<◌}
use native.Mathlib.Nat.{mul-le-mul}
use native.Mathlib.Omega.{arith}
use borrow.Author.Tests.{lt-ltb, le-ltb}
use lib.Dec.{ltb}
use lib.IntN.{ℤ}
use lib.ListN.{length, get_or, take}
use Rattle.model.specs.declared.Cell.{Cell}
use Rattle.model.specs.declared.Measures.{Measures}
use Rattle.model.specs.declared.Progress.{Progress}
use Rattle.model.specs.Basic.{pick}
use Rattle.model.specs.Error.{Target, target_for, cells}
use Rattle.model.specs.Partners.{offsets}
use Rattle.model.specs.Reference.{Reference}
use Rattle.model.specs.Refusal.{PlateFits}
use Rattle.model.specs.Scan.{Rule, swaps, swaps_by, trials_at, trials_to}
use Rattle.model.proofs.Attempts.{Sound}
use Rattle.model.proofs.Scan.{Lawful}
use Rattle.model.proofs.Square.{swaps_few}
use Rattle.model.proofs.Totals.{total_nil, total_part}
use Rattle.model.proofs.Trials.{trials_next, trials_few}
use Rattle.invariants.specs.Partners.{offset_of, HoldsOffsets}
use Rattle.invariants.specs.Plate.{OnWay, cell_of}
use Rattle.invariants.specs.Trials.{lowers_at, all_trials, tallied, most_trials, Quiet, Takes}
use Rattle.invariants.proofs.Scanning.{Scanning, Still, scanning_span, trials_here, trials_ahead}
use Rattle.invariants.proofs.Trials.{failed_still, failed_weighs, takes_weighs}
use Rattle.search_tally.proofs.Sums.{few_offsets}

-- ---- a scan under way, from whose cell on none takes a partner before another cell
module _ {m : Measures} {psf gray : List ℕ} {p : Reference} {from : Cell} {dots : List ℕ} {table : List ℤ} {r : Progress}
    (u : Scanning m psf gray (swaps (target_for m psf gray) m.reach) p from dots table r)
    (lawful : Lawful (target_for m psf gray) (swaps (target_for m psf gray) m.reach)) (sound : Sound m psf gray p)
    {to : Cell} (way : OnWay m to)
    (quiet : Quiet (target_for m psf gray) m.reach dots (cell_of m.width from) (cell_of m.width to)) where
  abbrev t : Target
  t = target_for m psf gray

  abbrev rule : Rule
  rule = swaps t m.reach

  abbrev first : ℕ
  first = cell_of m.width from

  abbrev last : ℕ
  last = cell_of m.width to

  abbrev between : ℕ
  between = last - first

  there : last ≡ first + between
  there = omega (arith, quiet.forward)

  -- the cells between stay as they were
  still_ahead : Still u lawful sound between
  still_ahead j h =
      failed_still t m.reach dots r (first + j) (quiet.each (first + j) (omega arith) (omega arith))

  -- and the scan stands at the other
  pub span_ahead : Scanning m psf gray (swaps (target_for m psf gray) m.reach) p to dots table r
  span_ahead = scanning_span u lawful sound way there still_ahead

  -- their trials
  span_trials : trials_to t rule p last + all_trials t m.reach dots first
      ≡ trials_to t rule p first + all_trials t m.reach dots last
  span_trials =
      subst (λ n. trials_to t rule p n + all_trials t m.reach dots first
      ≡ trials_to t rule p first + all_trials t m.reach dots n) (sym there)
      (trials_ahead u lawful sound between still_ahead (λ j h.
      failed_weighs t dots (first + j) m.reach (quiet.each (first + j) (omega arith) (omega arith))))

  rises : all_trials t m.reach dots first ≤ all_trials t m.reach dots last
  rises =
      let f : ℕ → ℕ = λ n. length (swaps t m.reach dots n) in
      omega (arith, ap (all_trials t m.reach dots) there, total_part first between f)

  -- the trials so far, where they are counted
  module _ (counted : Bool) (found : ℕ) {trials tally : ℕ} (so_far : trials ≡ pick counted (trials_to t rule p first) 0)
      (is : tally ≡ pick counted (tallied t m.reach dots trials first last found) trials) where
    -- those of the last cell are counted where it is on the plate
    whole : {b : Bool} → ltb last (cells t) ≡ b → tallied t m.reach dots trials first last found
        ≡ trials + (all_trials t m.reach dots last - all_trials t m.reach dots first)
        + pick b (length (swaps_by t (take found (offsets m.reach)) dots last) + 1) 0
    whole e =
        ap (λ b. trials + (all_trials t m.reach dots last - all_trials t m.reach dots first)
        + pick b (length (swaps_by t (take found (offsets m.reach)) dots last) + 1) 0) e

    -- at a cell that takes a partner: with the one that is taken
    pub tallied_there : last < cells t → Takes t m.reach dots last found
        → tally ≡ pick counted (trials_to t rule p (suc last)) 0
    tallied_there on takes = go counted so_far is
      where
        here : trials_to t rule p (suc last)
            ≡ trials_to t rule p last + (length (swaps_by t (take found (offsets m.reach)) dots last) + 1)
        here =
            trials_next t rule p last
            ∙ ap (λ n. trials_to t rule p last + n)
            (trials_here span_ahead lawful sound ∙ takes_weighs t dots last m.reach takes)

        go : (b : Bool) → trials ≡ pick b (trials_to t rule p first) 0
            → tally ≡ pick b (tallied t m.reach dots trials first last found) trials
            → tally ≡ pick b (trials_to t rule p (suc last)) 0
        go true e d =
            let before : trials ≡ trials_to t rule p first = e in
            let after : tally ≡ trials_to t rule p (suc last) =
            omega (arith, before, d ∙ whole (lt-ltb last (cells t) on), span_trials, rises, here) in
            after
        go false e d = d ∙ e

    -- past the last cell
    pub tallied_end : cells t ≤ last → tally ≡ pick counted (trials_to t rule p last) 0
    tallied_end past = go counted so_far is
      where
        go : (b : Bool) → trials ≡ pick b (trials_to t rule p first) 0
            → tally ≡ pick b (tallied t m.reach dots trials first last found) trials
            → tally ≡ pick b (trials_to t rule p last) 0
        go true e d =
            let before : trials ≡ trials_to t rule p first = e in
            let after : tally ≡ trials_to t rule p last =
            omega (arith, before, d ∙ whole (le-ltb last (cells t) past), span_trials, rises) in
            after
        go false e d = d ∙ e

-- ---- none before the first cell, and never many
pub trials_none : (t : Target) (reach : ℕ) (p : Reference) (counted : Bool) (width : ℕ)
    → 0 ≡ pick counted (trials_to t (swaps t reach) p (0 * width + 0)) 0
trials_none t reach p counted width = go counted
  where
    none : 0 * width + 0 ≡ 0
    none = omega arith

    go : (b : Bool) → 0 ≡ pick b (trials_to t (swaps t reach) p (0 * width + 0)) 0
    go true = sym (ap (trials_to t (swaps t reach) p) none ∙ total_nil (trials_at t (swaps t reach) p))
    go false = refl

module _ (t : Target) (reach : ℕ) (near : reach ≤ 6) where
  pub trials_most : (p : Reference) (counted : Bool) (n : ℕ) {trials : ℕ} → n ≤ 65536
      → trials ≡ pick counted (trials_to t (swaps t reach) p n) 0 → trials ≤ most_trials
  trials_most p counted n {trials} small e = go counted e
    where
      go : (b : Bool) → trials ≡ pick b (trials_to t (swaps t reach) p n) 0 → trials ≤ most_trials
      go true e =
          omega (
            arith,
            e,
            trials_few t (swaps t reach) p (length (offsets reach)) (swaps_few t reach) n,
            mul-le-mul small (few_offsets near),
          )
      go false e = omega (arith, e)

-- ---- what the counting and the swap ask for
pub plate_dots : {m : Measures} {psf gray dots : List ℕ} {n : ℕ} → PlateFits m psf gray dots n
    → PlateFits m psf gray dots (length dots)
plate_dots {m} {psf} {gray} {dots} f =
    subst (PlateFits m psf gray dots) (f.halftone.table_length ∙ sym f.halftone.dots_length) f

pub lowers_there : {t : Target} {reach : ℕ} {codes dots : List ℕ} {n k : ℕ} → HoldsOffsets reach codes → k < length codes
    → Takes t reach dots n k → lowers_at t dots n (offset_of (get_or codes k 0)) ≡ true
lowers_there {t} {dots = dots} {n} {k} held h f = subst (λ o. lowers_at t dots n o ≡ true) (held.at k h) f.takes
