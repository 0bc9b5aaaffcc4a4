-- `platemaker::pm_try_swap` meets its contract: a slice is refused, or the call is made and its answer laid out.
use Rattle.model.specs.Calls.{swap_call}
use Rattle.platemaker.proofs.Ledgers.{swap_storable}
use Rattle.platemaker.proofs.Laid.{to_lay, slices_refused, slices_taken}
use Rattle.platemaker.proofs.pm_try_swap.Goals as goal

pub returns-in-Err : goal.returns-in-Err
returns-in-Err c =
    slices_refused _ _ _ _ _ _ _ _ _ c.in-Err.reason c.in-Err.ensures.drawn c.into.ensures

pub lay_attempt-requires : goal.lay_attempt-requires
lay_attempt-requires c =
    (c.in_default.ensures.sized.1, to_lay _ c.try_swap-answer.ensures.reply_is (swap_storable _ _ _ _ _ _ _ _ _ _))

pub returns : goal.returns
returns c =
    slices_taken (λ m p g d t s. swap_call m p g d t s c.args.row c.args.col c.args.row2 c.args.col2) _ _ _ _ _ _ c.in_default.ensures.drawn
    c.measures_of.ensures c.stats_of.ensures c.try_swap-answer.ensures c.lay_attempt.ensures
