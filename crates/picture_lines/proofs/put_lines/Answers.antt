-- `picture_lines::put_lines` meets its contract: the magic number is put, then the size.
use Rattle.model.proofs.Puts.{puts_then}
use Rattle.picture_lines.proofs.put_lines.Goals as goal

pub returns : goal.returns
returns c = puts_then c.put_bytes-line.ensures c.put_row.ensures
