-- `filter_correlate::widen` meets its contract: the entries passed are the bytes.
use Rattle.std.proofs.Common.{◌∙◌, pos, sym, arith}
use Rattle.model.proofs.Basic.{fill_all, map_tabulate}
use Rattle.filter_correlate.proofs.widen.Goals as goal

pub returns : goal.returns
returns c = fill_all c.loop-i.invariant (omega arith) ∙ sym (map_tabulate pos 0 c.args.bytes.now)
