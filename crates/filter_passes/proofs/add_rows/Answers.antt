-- `filter_passes::add_rows` meets its contract. The loop's invariant: the rows above y are added.
use Rattle.filter_passes.proofs.Passes.{added_rest, added_next}
use Rattle.filter_passes.proofs.add_rows.Goals as goal

pub add_run-requires-clause-by_index : goal.add_run-requires-clause-by_index
add_run-requires-clause-by_index c =
    λ q k. rw (added_rest c.requires.n_le_stride c.loop-y.invariant q k) (c.requires.small.0.each q)

pub loop-y-preserved : goal.loop-y-preserved
loop-y-preserved c = added_next c.requires.n_le_stride c.loop-y.invariant c.add_run.ensures
