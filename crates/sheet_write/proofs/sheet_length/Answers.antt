-- `sheet_write::sheet_length` meets its contract.
use native.Mathlib.Omega.{arith}
use Rattle.sheet_write.proofs.Parts.{sheet_length_lem}
use Rattle.sheet_write.proofs.sheet_length.Goals as goal

pub returns : goal.returns
returns c =
    let s = c.args.setting in
    omega (arith, sheet_length_lem s.measures s.psf.now s.gray.now c.args.dots.now c.requires.0 c.requires.1)
