-- `search_prune::worth_at` meets its contract: the entry's offset is (j - reach, i - reach), and its worth is from the kernel there.
use Rattle.std.proofs.Common.{◌≡◌, ℕ, ◌+◌, ◌*◌, ◌-◌, ◌≤◌, [], ◌∷◌, pos, ◌-ℤ◌, ◌*ℤ◌, refl, ◌∙◌, ap₂, arith, le-leb}
use borrow.Author.Tests.{lt-leb}
use Rattle.algebra.proofs.Order.{show≡}
use Rattle.algebra.proofs.Solver.{reify}
use Rattle.model.specs.Basic.{square_at}
use Rattle.search_partners.proofs.Worths.{gap_fits, worth_fits, worth_is}
use Rattle.search_prune.specs.Grid.{worth_in}
use Rattle.search_prune.proofs.worth_at.Goals as goal

pub returns-then-reach-i : goal.returns-then-reach-i
unfolding worth_in
returns-then-reach-i c = rw (← c.row_length-side.ensures, lt-leb _ _ c.if-reach-i.true) refl

pub overflow_sub-result : goal.overflow_sub-result
overflow_sub-result c =
    gap_fits c.args.radius c.requires.holds_square.0.small _ _ c.requires.holds_square.1 c.between.ensures

pub overflow_mul-result : goal.overflow_mul-result
overflow_mul-result c =
    worth_fits c.args.radius c.requires.holds_square.0.small _ _ c.requires.holds_square.1 c.between.ensures

-- along one coordinate
back : (reach a : ℕ) → reach ≤ 6 → pos reach -ℤ pos a ≡ pos 6 -ℤ pos (a + 6 - reach)
back reach a h = show≡ (pos reach ∷ pos a ∷ pos (a + 6 - reach) ∷ []) (search reify depth 40) (omega arith)

pub returns : goal.returns
unfolding worth_in
returns c =
    let at = square_at (pos 0) (2 * c.args.radius) c.args.c.now in
    rw (← c.row_length-side.ensures, le-leb _ _ c.if-reach-i.false)
    (worth_is c.args.radius c.requires.holds_square.0.small _ _ c.requires.holds_square.1 c.between.ensures
    ∙ ap₂ (λ dy dx. pos 255 *ℤ (at (pos 0) (pos 0) -ℤ at dy dx))
    (back c.args.reach _ c.requires.reach_bound.0) (back c.args.reach _ c.requires.reach_bound.0))
