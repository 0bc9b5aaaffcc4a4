-- `starts_screen::blank_dots` meets its contract: the cells passed have their dots.
use Rattle.std.proofs.Common.{arith}
use Rattle.model.specs.Lock.{locked}
use Rattle.model.specs.Screen.{blank}
use Rattle.model.proofs.Basic.{fill_next, fill_all}
use Rattle.starts_screen.proofs.blank_dots.Goals as goal

pub loop-n-preserved : goal.loop-n-preserved
unfolding blank locked
loop-n-preserved c = fill_next c.loop-n.invariant (omega arith) c.blank_dot.ensures

pub returns : goal.returns
returns c = fill_all c.loop-n.invariant (omega arith)
