-- `filter_passes::gather` meets its contract: the pass takes the spread errors from the widened plate to the cells.
use Rattle.filter_passes.proofs.Passes.{plate_lies, widened_lies}
use Rattle.filter_passes.proofs.gather.Goals as goal

pub pass-requires-clause-lies : goal.pass-requires-clause-lies
pass-requires-clause-lies c =
    let (wide, narrow, fits, small) = c.requires.width_nonzero in
    let (handed, lent) = c.requires.g_len in
    (widened_lies _ _ _ narrow fits.near handed, plate_lies _ _ _ narrow lent)
