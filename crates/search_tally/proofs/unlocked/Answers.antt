-- `search_tally::unlocked` meets its contract: so far the unlocked cells before this one are counted.
use mathlib.Core.Bool.{not}
use mathlib.Core.Path.{◌≡◌, sym, ◌∙◌, ap}
use Prim.Native.Nat.{◌+◌}
use native.Mathlib.Numerals.{add-one}
use native.Mathlib.Omega.{arith}
use Rattle.model.specs.Basic.{one_if}
use Rattle.model.specs.Lock.{locked}
use Rattle.model.proofs.Tables.{total_tabulate}
use Rattle.model.proofs.Totals.{total_nil}
use Rattle.search_tally.proofs.unlocked.Goals as goal
use Rattle.search_tally.proofs.unlocked.Goals.{then-not-is_locked, else-not-is_locked}
use Rattle.search_tally.proofs.unlocked.Invariants.{open-cells}

pub loop-here-init : goal.loop-here-init
loop-here-init c = (omega arith, sym (total_nil _))

pub loop-here-preserved : goal.loop-here-preserved
unfolding locked
loop-here-preserved c =
    let gray = c.args.gray.now in
    let i = c.loop-here.here-index in
    let (few, is) = c.loop-here.invariant in
    let step : open-cells gray (i + 1) ≡ open-cells gray i + one_if (not (locked gray i)) =
    ap (open-cells gray) (add-one i) ∙ total_tabulate i _ in
    elim c.if-not-is_locked.branch [
      | then-not-is_locked w ↦
          let counts : one_if (not (locked gray i)) ≡ 1 =
          ap (λ b. one_if (not b)) (sym c.is_locked.ensures ∙ w.if-not-is_locked.true) in
          (omega (arith, w.count-is, few), omega (arith, w.count-is, is, step, counts))
      | else-not-is_locked w ↦
          let shut : one_if (not (locked gray i)) ≡ 0 =
          ap (λ b. one_if (not b)) (sym c.is_locked.ensures ∙ w.if-not-is_locked.false) in
          (omega (arith, w.count-is, few), omega (arith, w.count-is, is, step, shut))
    ]
