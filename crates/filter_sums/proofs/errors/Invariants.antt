-- `filter_sums::errors` meets its contract: the entries passed are the errors.
use lib.IntN.{pos}
use lib.ListN.{length}
use Rattle.model.specs.Error.{error_of}
use Rattle.model.proofs.Basic.{Filling}
use Rattle.filter_sums.proofs.errors.Given as goal

abbrev pub invariant-loop-n : goal.invariant-loop-n
invariant-loop-n l = Filling (pos 0) (error_of 255 l.gray l.dots) (length l.gray) l.n l.out
