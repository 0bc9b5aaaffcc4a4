-- `search_change::toggle_change` meets its contract: the product is small enough for its width.
use Rattle.std.proofs.Common.{pos}
use lib.Dec.{lit<}
use lib.ListN.{get_or}
use mir.Syntax.{w64}
use Rattle.algebra.proofs.Machine.{literal, cast_holds, mul_holds}
use Rattle.model.specs.Change.{sign, toggle_sum}
use Rattle.search_change.proofs.Signs.{toggle_sum_holds}
use Rattle.search_change.proofs.toggle_change.Goals as goal

pub returns-clause-value : goal.returns-clause-value
unfolding toggle_sum
returns-clause-value c =
    let sum =
    toggle_sum_holds (sign c.args.dots.now c.args.m) (get_or c.args.table.now c.args.m (pos 0)) c.args.peak
    c.requires.peak_bound.0 (c.toggle_sum.ensures.value, c.toggle_sum.ensures.result_bound) in
    rw c.from.ensures (mul_holds (literal w64 255 tt) (cast_holds w64 sum (lit< tt)) (lit< tt)).value
