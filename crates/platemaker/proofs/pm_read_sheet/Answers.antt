-- `platemaker::pm_read_sheet` meets its contract: the slice of measures is refused, or the sheet is read and laid out.
use mathlib.Core.Path.{refl}
use Rattle.model.proofs.Interface.{two_behind}
use Rattle.platemaker.proofs.Laid.{count_refused, count_taken}
use Rattle.platemaker.proofs.pm_read_sheet.Goals as goal

pub returns-then-measures-ne5 : goal.returns-then-measures-ne5
returns-then-measures-ne5 c =
    let told = rw c.into.ensures at c.lay_refused.ensures in
    count_refused _ _ _ _ _ _ c.if-measures-ne5.true
    (record { status_is = told.number; behind_is = two_behind refl told.place })

pub returns : goal.returns
returns c =
    count_taken _ _ _ _ _ _ c.if-measures-ne5.false c.read_sheet.ensures c.lay_reading.ensures
