-- `filter_correlate::widen` meets its contract: the entries passed are the bytes.
use lib.IntN.{pos}
use lib.ListN.{length, get_or}
use Rattle.model.proofs.Basic.{Filling}
use Rattle.filter_correlate.proofs.widen.Given as goal

abbrev pub invariant-loop-i : goal.invariant-loop-i
invariant-loop-i l = Filling (pos 0) (λ q. pos (get_or l.bytes q 0)) (length l.bytes) l.i l.out
