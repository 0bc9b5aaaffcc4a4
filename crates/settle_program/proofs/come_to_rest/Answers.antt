-- `settle_program::come_to_rest` meets its contract: what is printed is by what the start, and then settling, answered
-- and left.
use Rattle.std.proofs.lemmas.Result.{err_from_is_err_and}
use Rattle.model.specs.Program.{processed_text}
use Rattle.settle_program.proofs.come_to_rest.Goals as goal

pub returns-in_err-stats : goal.returns-in_err-stats
unfolding processed_text
returns-in_err-stats c =
    let (r, is, same) = err_from_is_err_and c.from_residual.result c.from_residual.ensures.1 in
    rw (← c.in_err-stats.ensures.ends.reply_is, is, same)

pub returns : goal.returns
unfolding processed_text
returns c =
    let begun = c.in_ok-stats.ensures.ends in
    rw (← begun.reply_is, ← begun.left_is, ← c.converge.ensures.reply_is, ← c.converge.ensures.left_is)
