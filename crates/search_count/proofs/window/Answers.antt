-- `search_count::window` meets its contract: the columns so far are added up.
use Rattle.std.proofs.Common.{◌+◌, sym, arith}
use lib.ListN.{get_or}
use Rattle.model.proofs.Totals.{total_nil, total_next}
use Rattle.search_count.proofs.window.Goals as goal

pub loop-i-init : goal.loop-i-init
loop-i-init c = (sym (total_nil _), omega arith)

pub loop-i-preserved : goal.loop-i-preserved
loop-i-preserved c =
    let a = c.args in
    let next = total_next c.loop-i.i (λ i. get_or a.columns.now (a.x + i) 0) in
    (omega (arith, next), omega (arith, c.type_inv.columns (a.x + c.loop-i.i)))
