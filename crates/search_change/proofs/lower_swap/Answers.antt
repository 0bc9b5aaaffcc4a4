-- `search_change::lower_swap` meets its contract: the sum is small enough for its width, and the two tests may be made in
-- either order.
use Rattle.std.proofs.Common.{sym, ◌∙◌, ap, pos}
use mathlib.Core.Bool.{and-false}
use lib.Dec.{lit<}
use lib.Signed.{lt_z}
use mir.Syntax.{w32}
use Rattle.algebra.proofs.Machine.{of_small, named, add_holds}
use Rattle.search_change.proofs.lower_swap.Goals as goal

pub returns-else-difference-worth-lt0 : goal.returns-else-difference-worth-lt0
returns-else-difference-worth-lt0 c =
    let first = named c.difference.ensures.value (of_small w32 c.difference.result c.difference.ensures.result_bound (lit< tt)) in
    let sum = add_holds first (of_small w32 c.args.worth c.requires.small.1 (lit< tt)) (lit< tt) in
    c.if-difference-worth-lt0.false
    ∙ rw (sym (ap (λ z. lt_z z (pos 0)) sum.value) ∙ c.if-difference-worth-lt0.false) (sym (and-false _))
