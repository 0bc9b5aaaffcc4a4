-- `search_prune::any_lower` meets its contract: every trial so far failed.
use Rattle.std.proofs.Common.{sym, ◌∙◌, below_more}
use Rattle.search_runs.proofs.Run.{worth_held}
use Rattle.search_prune.proofs.any_lower.Goals as goal

pub loop-k-preserved : goal.loop-k-preserved
loop-k-preserved c =
    below_more _ _ c.loop-k.invariant
    (rw (worth_held c.requires.small c.loop-k.k).value at (sym c.lower_swap.ensures ∙ c.if-lower_swap.false))
