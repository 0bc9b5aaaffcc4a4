-- `search_change::takes_swap` meets its contract: the table is asked first, and then the two cells.
use Rattle.std.proofs.Common.{◌≡◌, true≢false, refl, sym, ◌∙◌, ap}
use mathlib.Core.Bool.{not, and-true, and-false}
use lib.Dec.{lit<}
use mir.Syntax.{w32}
use Rattle.algebra.proofs.Machine.{of_small}
use Rattle.model.specs.Lock.{locked}
use Rattle.invariants.specs.Trials.{lowers_by}
use Rattle.search_change.proofs.takes_swap.Goals as goal
use Rattle.search_change.proofs.takes_swap.Goals.{After-lower_swap, then-lower_swap, else-lower_swap}

-- the test by the table, as the code is told of it
table_is : (c : After-lower_swap)
    → lowers_by c.args.dots.now c.args.table.now c.args.m c.args.n c.args.worth ≡ c.lower_swap.result
table_is c =
    sym (c.lower_swap.ensures
    ∙ ap (lowers_by c.args.dots.now c.args.table.now c.args.m c.args.n)
    (of_small w32 c.args.worth c.requires.gray_len.2 (lit< tt)).value)

pub returns-then-not-is_locked : goal.returns-then-not-is_locked
unfolding locked
returns-then-not-is_locked c =
    let table = table_is (goal.at.returns-then-not-is_locked c).After-lower_swap in
    elim c.if-lower_swap.branch [
      | then-lower_swap w ↦
          let here = ap not (sym w.is_locked.ensures) ∙ sym w.value-is ∙ c.if-not-is_locked.true in
          ap not c.is_locked-then-not-is_locked.ensures ∙ simp (table ∙ w.if-lower_swap.true, here, and-true)
      | else-lower_swap w ↦ absurd (true≢false (sym c.if-not-is_locked.true ∙ w.value-is ∙ w.if-lower_swap.false))
    ]

pub returns-else-not-is_locked : goal.returns-else-not-is_locked
unfolding locked
returns-else-not-is_locked c =
    let table = table_is (goal.at.returns-else-not-is_locked c).After-lower_swap in
    c.if-not-is_locked.false
    ∙ elim c.if-lower_swap.branch [
      | then-lower_swap w ↦ rw (ap not (sym w.is_locked.ensures) ∙ sym w.value-is ∙ c.if-not-is_locked.false) refl
      | else-lower_swap w ↦ simp (table ∙ w.if-lower_swap.false, and-false)
    ]
