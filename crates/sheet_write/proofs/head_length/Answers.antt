-- `sheet_write::head_length` meets its contract.
use native.Mathlib.Omega.{arith}
use Rattle.model.proofs.Text.{length_low}
use Rattle.sheet_write.proofs.Parts.{head_length_lem}
use Rattle.sheet_write.proofs.head_length.Goals as goal

pub returns : goal.returns
returns c = (omega (arith, head_length_lem c.args.m, length_low 2 (omega arith)), omega arith)
