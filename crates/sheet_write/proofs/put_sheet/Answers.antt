-- `sheet_write::put_sheet` meets its contract: lines 1 and 2 are put, then the three blocks one after the other.
use mathlib.Core.Path.{◌≡◌}
use Prim.Native.Nat.{◌+◌}
use native.Mathlib.Omega.{arith}
use lib.ListN.{length}
use Rattle.model.specs.Sheet.{side_of, psf_name, gray_name, dots_name, sheet_text}
use Rattle.model.specs.SheetCalls.{written_sheet}
use Rattle.model.proofs.Puts.{puts_then}
use Rattle.sheet_write.proofs.Parts.{given_head, block, sheet_parts, parts_length}
use Rattle.sheet_write.proofs.put_sheet.Goals as goal
use Rattle.sheet_write.proofs.put_sheet.Goals.{Start}

long : (s : Start) → let dots = s.args.dots.now in
    let psf = s.args.setting.psf.now in
    let gray = s.args.setting.gray.now in
    let m = s.args.setting.measures in
    length (sheet_text (written_sheet m psf gray dots))
    ≡ length (given_head m)
    + length (block psf_name (side_of m) psf)
    + length (block gray_name m.width gray)
    + length (block dots_name m.width dots)
long s =
    let h = s.args.setting in
    parts_length h.measures h.psf.now h.gray.now s.args.dots.now s.requires.in_range.0 s.requires.in_range.1

pub put_head-head-requires : goal.put_head-head-requires
put_head-head-requires c = omega (arith, long search)

pub put_block-under_psf-requires-clause-values_in_bounds : goal.put_block-under_psf-requires-clause-values_in_bounds
unfolding psf_name
put_block-under_psf-requires-clause-values_in_bounds c = omega (arith, long search)

pub put_block-under_gray-requires-clause-values_in_bounds : goal.put_block-under_gray-requires-clause-values_in_bounds
unfolding psf_name gray_name
put_block-under_gray-requires-clause-values_in_bounds c = omega (arith, long search)

pub put_block-requires-clause-values_in_bounds : goal.put_block-requires-clause-values_in_bounds
unfolding psf_name gray_name dots_name
put_block-requires-clause-values_in_bounds c = omega (arith, long search)

pub returns : goal.returns
unfolding psf_name gray_name dots_name
returns c =
    let s = c.args.setting in
    rw (sheet_parts s.measures s.psf.now s.gray.now c.args.dots.now c.requires.in_range.0 c.requires.in_range.1)
    (puts_then c.put_head-head.ensures
    (puts_then c.put_block-under_psf.ensures (puts_then c.put_block-under_gray.ensures c.put_block.ensures)))
