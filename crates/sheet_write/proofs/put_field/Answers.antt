-- `sheet_write::put_field` meets its contract: the number is put first, then the byte that ends it.
use Rattle.model.proofs.Puts.{puts_byte, puts_then}
use Rattle.sheet_write.proofs.put_field.Goals as goal

pub returns : goal.returns
returns c = puts_then c.put_number-next.ensures (puts_byte c.args.end)
