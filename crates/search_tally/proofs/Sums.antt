-- The sums that the trials from a cell on come to.
--   few_offsets, all_most, some_most  there are few offsets, and never many trials
--   told_none, told_end, told_there   what is told where they are not counted, at the end of the plate, at a cell
use mathlib.Core.Bool.{Bool, true, false}
use mathlib.Core.List.{List}
use mathlib.Core.Path.{◌≡◌, sym, ◌∙◌, ap, ap₂}
use Prim.Native.Nat.{ℕ, ◌+◌, ◌*◌, ◌-◌, ◌≤◌, ◌<◌}
use native.Mathlib.Nat.{mul-le-mul}
use native.Mathlib.Omega.{arith}
use borrow.Author.Tests.{lt-ltb, le-ltb}
use lib.Dec.{ltb}
use lib.ListN.{length, take, length-take}
use Rattle.model.specs.Basic.{pick}
use Rattle.model.specs.Error.{Target, cells, most_cells}
use Rattle.model.specs.Partners.{offsets}
use Rattle.model.specs.Scan.{swaps, swaps_by}
use Rattle.model.proofs.Square.{offsets_long, swaps_few, swaps_most}
use Rattle.model.proofs.Totals.{total_most}
use Rattle.invariants.specs.Trials.{all_trials, tallied, most_trials}

-- ---- there are few
pub few_offsets : {reach : ℕ} → reach ≤ 6 → length (offsets reach) ≤ 168
few_offsets {reach} near =
    let side : 2 * reach + 1 ≤ 13 = omega arith in omega (arith, offsets_long reach, mul-le-mul side side)

module _ (t : Target) (reach : ℕ) (near : reach ≤ 6) where
  pub all_most : (dots : List ℕ) (n : ℕ) → n ≤ most_cells → all_trials t reach dots n ≤ most_trials
  all_most dots n small =
      omega (
        arith,
        total_most n (length (offsets reach)) (λ m. length (swaps t reach dots m)) (λ m h. swaps_few t reach dots m),
        mul-le-mul small (few_offsets near),
      )

  pub some_most : (dots : List ℕ) (n k : ℕ) → length (swaps_by t (take k (offsets reach)) dots n) ≤ most_trials
  some_most dots n k =
      omega (arith, swaps_most t (take k (offsets reach)) dots n, length-take k (offsets reach), few_offsets near)

-- ---- what is told of the trials of a span
module _ (t : Target) (reach : ℕ) (dots : List ℕ) (counted : Bool) (trials first last found : ℕ) where
  abbrev IsTally : ℕ → Type 0
  IsTally n = n ≡ pick counted (tallied t reach dots trials first last found) trials

  -- they are not counted
  pub told_none : counted ≡ false → IsTally trials
  told_none e = ap (λ b. pick b (tallied t reach dots trials first last found) trials) (sym e)

  module _ (e : counted ≡ true) (span : ℕ)
      (spans : span + all_trials t reach dots first ≡ all_trials t reach dots last) where
    sums : (b : Bool) (n : ℕ) → ltb last (cells t) ≡ b
        → n ≡ trials + span + pick b (length (swaps_by t (take found (offsets reach)) dots last) + 1) 0 → IsTally n
    sums b n c is =
        let less : span ≡ all_trials t reach dots last - all_trials t reach dots first = omega (arith, spans) in
        is
        ∙ ap₂ (λ s b. trials + s + pick b (length (swaps_by t (take found (offsets reach)) dots last) + 1) 0) less (sym c)
        ∙ ap (λ b. pick b (tallied t reach dots trials first last found) trials) (sym e)

    -- past the last cell
    pub told_end : cells t ≤ last → IsTally (trials + span)
    told_end past = sums false (trials + span) (le-ltb last (cells t) past) (omega arith)

    -- at a cell, with those up to and with the one that is taken
    pub told_there : last < cells t → {some : ℕ} → some ≡ length (swaps_by t (take found (offsets reach)) dots last)
        → IsTally (trials + span + some + 1)
    told_there on {some} e = sums true (trials + span + some + 1) (lt-ltb last (cells t) on) (omega (arith, e))
