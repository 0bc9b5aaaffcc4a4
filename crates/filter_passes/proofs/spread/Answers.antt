-- `filter_passes::spread` meets its contract: the pass takes the errors from the plate to the widened plate.
use Rattle.filter_passes.proofs.Passes.{plate_lies, widened_lies}
use Rattle.filter_passes.proofs.spread.Goals as goal

pub pass-requires-clause-lies : goal.pass-requires-clause-lies
pass-requires-clause-lies c =
    let (wide, narrow, fits, small) = c.requires.width_nonzero in
    let (handed, lent) = c.requires.e_len in
    (plate_lies _ _ _ narrow handed, widened_lies _ _ _ narrow fits.near lent)
