-- `sheet_write::grid_length` meets its contract: it is a sum, and each value has three digits at most.
use mathlib.Core.Path.{◌≡◌, ◌∙◌, sym}
use native.Mathlib.Omega.{arith}
use borrow.Author.Rules.{rules}
use Rattle.std.specs.List.{sum_by}
use Rattle.sheet_write.proofs.Parts.{length_of, grid_sum, grid_most}
use Rattle.sheet_write.proofs.grid_length.Goals as goal

pub returns : goal.returns
returns c =
    let vs = c.args.values.now in
    let e : c.sum.result ≡ sum_by length_of vs = search rules in
    (e ∙ sym (grid_sum vs), omega (arith, e, grid_most vs (λ i. (c.type_inv.values i).fits)))
