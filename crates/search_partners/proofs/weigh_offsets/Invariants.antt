-- `search_partners::weigh_offsets` meets its contract: each entry from the kernel at its offset.
use Rattle.std.proofs.Common.{length, get_or, pos}
use Rattle.model.proofs.Basic.{Filling}
use Rattle.invariants.specs.Partners.{row_of, column_of, worth_at}
use Rattle.search_partners.proofs.weigh_offsets.Given as goal

abbrev pub invariant-loop-k : goal.invariant-loop-k
invariant-loop-k l =
    Filling (pos 0) (λ j. worth_at l.radius l.c (row_of (get_or l.codes j 0)) (column_of (get_or l.codes j 0))) (length l.codes) l.k l.worths
