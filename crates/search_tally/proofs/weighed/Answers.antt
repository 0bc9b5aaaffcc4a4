-- `search_tally::weighed` meets its contract: so far the swaps with the partners at the first offsets are counted.
use mathlib.Core.Path.{refl, sym, ◌∙◌, ap}
use native.Mathlib.Omega.{arith}
use Rattle.model.specs.Basic.{one_if}
use Rattle.model.specs.Scan.{swaps_by}
use Rattle.model.specs.Setting.{target_in}
use Rattle.invariants.specs.Plate.{cell_of}
use Rattle.search_tally.proofs.Weighing.{weighed_next, weighed_few}
use Rattle.search_tally.proofs.weighed.Goals as goal
use Rattle.search_tally.proofs.weighed.Goals.{then-suiting, else-suiting}

pub loop-j-init : goal.loop-j-init
unfolding swaps_by
loop-j-init c = refl

pub overflow_add-count : goal.overflow_add-count
overflow_add-count c =
    let m = c.args.setting.measures in
    record {
      fits = omega (
        arith,
        c.loop-j.invariant,
        weighed_few (target_in c.args.setting) m.reach c.args.dots.now (cell_of m.width c.args.at) c.loop-j.j,
      );
    }

pub loop-j-preserved : goal.loop-j-preserved
loop-j-preserved c =
    let m = c.args.setting.measures in
    let step = weighed_next (target_in c.args.setting) m.reach c.args.dots.now (cell_of m.width c.args.at)
    c.requires.holds_offsets.0 c.loop-j.j (omega arith) in
    elim c.if-suiting.branch [
      | then-suiting w ↦
          omega (arith, w.count-is, c.loop-j.invariant, step, ap one_if (sym c.suiting.ensures ∙ w.if-suiting.true))
      | else-suiting w ↦
          omega (arith, w.count-is, c.loop-j.invariant, step, ap one_if (sym c.suiting.ensures ∙ w.if-suiting.false))
    ]
