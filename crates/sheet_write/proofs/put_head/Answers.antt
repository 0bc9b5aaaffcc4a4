-- `sheet_write::put_head` meets its contract: the names are put, then the row of the values.
use mathlib.Core.Path.{◌≡◌}
use Prim.Native.Nat.{◌+◌}
use native.Mathlib.Omega.{arith}
use lib.ListN.{length, length-append}
use Rattle.model.specs.declared.Measures.{Measures}
use Rattle.model.specs.Sheet.{row, names, values_of}
use Rattle.model.specs.SheetCalls.{with_given}
use Rattle.model.proofs.Puts.{puts_then}
use Rattle.sheet_write.proofs.Parts.{given_head}
use Rattle.sheet_write.proofs.put_head.Goals as goal

long : (m : Measures) → length (given_head m) ≡ 32 + length (row (values_of (with_given m)))
unfolding names
long m = length-append names (row (values_of (with_given m)))

pub put_bytes-line-requires : goal.put_bytes-line-requires
put_bytes-line-requires c = omega (arith, long c.args.m)

pub put_row-requires : goal.put_row-requires
put_row-requires c = (omega arith, omega (arith, long c.args.m))

pub returns : goal.returns
unfolding names
returns c = puts_then c.put_bytes-line.ensures c.put_row.ensures
