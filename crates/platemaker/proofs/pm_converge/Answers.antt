-- `platemaker::pm_converge` meets its contract: a slice is refused, or the call is made and its answer laid out.
use Rattle.model.specs.Calls.{converge_call}
use Rattle.platemaker.proofs.Ledgers.{converge_storable}
use Rattle.platemaker.proofs.Laid.{to_lay, slices_refused, slices_taken}
use Rattle.platemaker.proofs.pm_converge.Goals as goal

pub returns-in-Err : goal.returns-in-Err
returns-in-Err c =
    slices_refused _ _ _ _ _ _ _ _ _ c.in-Err.reason c.in-Err.ensures.drawn c.into.ensures

pub lay_converged-requires : goal.lay_converged-requires
lay_converged-requires c =
    (c.in_default.ensures.sized.1, to_lay _ c.converge-answer.ensures.reply_is (converge_storable _ _ _ _ _ _))

pub returns : goal.returns
returns c =
    slices_taken converge_call _ _ _ _ _ _ c.in_default.ensures.drawn
    c.measures_of.ensures c.stats_of.ensures c.converge-answer.ensures c.lay_converged.ensures
