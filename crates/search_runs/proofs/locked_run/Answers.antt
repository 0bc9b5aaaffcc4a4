-- `search_runs::locked_run` meets its contract: every cell so far is locked.
use Rattle.std.proofs.Common.{sym, ◌∙◌, below_more}
use Rattle.model.specs.Lock.{locked}
use Rattle.search_runs.proofs.locked_run.Goals as goal

pub loop-k-preserved : goal.loop-k-preserved
unfolding locked
loop-k-preserved c =
    record { each = below_more _ _ c.loop-k.invariant.each (sym c.is_locked.ensures ∙ c.if-not-is_locked.false) }
