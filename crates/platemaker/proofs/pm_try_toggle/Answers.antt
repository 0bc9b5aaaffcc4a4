-- `platemaker::pm_try_toggle` meets its contract: a slice is refused, or the call is made and its answer laid out.
use Rattle.model.specs.Calls.{toggle_call}
use Rattle.platemaker.proofs.Ledgers.{toggle_storable}
use Rattle.platemaker.proofs.Laid.{to_lay, slices_refused, slices_taken}
use Rattle.platemaker.proofs.pm_try_toggle.Goals as goal

pub returns-in-Err : goal.returns-in-Err
returns-in-Err c =
    slices_refused _ _ _ _ _ _ _ _ _ c.in-Err.reason c.in-Err.ensures.drawn c.into.ensures

pub lay_attempt-requires : goal.lay_attempt-requires
lay_attempt-requires c =
    (c.in_default.ensures.sized.1, to_lay _ c.try_toggle-answer.ensures.reply_is (toggle_storable _ _ _ _ _ _ _ _))

pub returns : goal.returns
returns c =
    slices_taken (λ m p g d t s. toggle_call m p g d t s c.args.row c.args.col) _ _ _ _ _ _ c.in_default.ensures.drawn
    c.measures_of.ensures c.stats_of.ensures c.try_toggle-answer.ensures c.lay_attempt.ensures
