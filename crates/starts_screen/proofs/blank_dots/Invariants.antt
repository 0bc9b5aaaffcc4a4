-- `starts_screen::blank_dots` meets its contract: the cells passed have their dots.
use Rattle.std.proofs.Common.{length}
use Rattle.model.specs.Screen.{blank}
use Rattle.model.proofs.Basic.{Filling}
use Rattle.starts_screen.proofs.blank_dots.Given as goal

abbrev pub invariant-loop-n : goal.invariant-loop-n
invariant-loop-n l = Filling 0 (blank l.gray) (length l.gray) l.n l.dots
