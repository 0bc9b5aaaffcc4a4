-- `sheet_write::put_block` meets its contract: the name is put first, then its rows.
use Rattle.model.proofs.Puts.{puts_then}
use Rattle.sheet_write.proofs.put_block.Goals as goal

pub returns : goal.returns
returns c = puts_then c.put_bytes-next.ensures c.put_grid.ensures
