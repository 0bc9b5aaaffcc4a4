-- `pfm_lines::read_scale` meets its contract: one scale, the other, or none.
use mathlib.Core.Path.{◌∙◌}
use lib.Ieee.{of_bits, neg}
use Rattle.pfm_lines.proofs.Lines.{place_some, is_big, is_little_lem, no_scale}
use Rattle.pfm_lines.proofs.read_scale.Goals as goal

pub returns-in_err-ok-in-Err : goal.returns-in_err-ok-in-Err
returns-in_err-ok-in-Err c =
    let a = c.args in
    rw c.from_residual.ensures
    (no_scale a.width a.height a.s.now a.at c.in-Err.field-0 c.in-Err.ensures c.read_fixed-in-Err.result
    c.read_fixed-in-Err.ensures c.in_err-ok-in-Err.ensures.value)

pub returns-in-Ok : goal.returns-in-Ok
unfolding of_bits
returns-in-Ok c = is_big c.args.width c.args.height c.args.s.now c.args.at c.in-Ok.ensures

pub returns-in_ok-ok-in-Err : goal.returns-in_ok-ok-in-Err
unfolding of_bits neg
returns-in_ok-ok-in-Err c =
    let a = c.args in
    is_little_lem a.width a.height a.s.now a.at c.in-Err.field-0 c.in-Err.ensures
    (place_some c.read_fixed-in-Err.result c.in_ok-ok-in-Err.ensures.value ∙ c.read_fixed-in-Err.ensures)
