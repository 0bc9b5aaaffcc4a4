-- `search_change::lower_toggle` meets its contract: a change is below 0 exactly where the 255th part of it is.
use Rattle.std.proofs.Common.{pos, ◌+ℤ◌, ◌*ℤ◌, sym, ◌∙◌, ap}
use lib.ListN.{get_or}
use lib.Signed.{lt_z}
use Rattle.model.specs.Change.{sign, toggle_sum}
use Rattle.search_change.proofs.Signs.{multiple_sign, toggle_sum_holds}
use Rattle.search_change.proofs.lower_toggle.Goals as goal

pub returns : goal.returns
unfolding toggle_sum
returns c =
    let turn = sign c.args.dots.now c.args.m in
    let entry = get_or c.args.table.now c.args.m (pos 0) in
    let P = c.args.peak in
    ap (λ z. lt_z z (pos 0)) (toggle_sum_holds turn entry P c.requires.peak_bound.0 (c.toggle_sum.ensures.value, c.toggle_sum.ensures.result_bound)).value
    ∙ sym (multiple_sign 254 (pos 2 *ℤ turn *ℤ entry +ℤ pos 255 *ℤ P))
