-- `picture_lines::put_pgm_head` meets its contract: the lines of magic number and size are put, then the maximum.
use Rattle.model.proofs.Puts.{puts_then}
use Rattle.picture_lines.proofs.put_pgm_head.Goals as goal

pub returns : goal.returns
returns c = puts_then c.put_lines-next.ensures c.put_bytes.ensures
