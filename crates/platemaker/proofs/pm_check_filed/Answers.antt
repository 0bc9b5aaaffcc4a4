-- `platemaker::pm_check_filed` meets its contract: the slice of the verdict is refused, or the filed sheet is checked
-- and the answer laid out.
use mathlib.Core.Path.{refl}
use Rattle.model.proofs.Interface.{two_behind}
use Rattle.platemaker.proofs.Laid.{count_refused, count_taken, check_in_range}
use Rattle.platemaker.proofs.pm_check_filed.Goals as goal

pub returns-then-verdict-ne6 : goal.returns-then-verdict-ne6
returns-then-verdict-ne6 c =
    let told = rw c.into.ensures at c.lay_refused.ensures in
    count_refused _ _ _ _ _ _ c.if-verdict-ne6.true
    (record { status_is = told.number; behind_is = two_behind refl told.place })

pub lay_checked-requires : goal.lay_checked-requires
lay_checked-requires c =
    (c.if-verdict-ne6.false, check_in_range _ _ _ _ _ _ c.check_filed.ensures.reply_is)

pub returns : goal.returns
returns c =
    count_taken _ _ _ _ _ _ c.if-verdict-ne6.false c.check_filed.ensures c.lay_checked.ensures
