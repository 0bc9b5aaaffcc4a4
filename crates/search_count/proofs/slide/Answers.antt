-- `search_count::slide` meets its contract: the window stands at this cell, and the cells so far are added up.
use Rattle.std.proofs.Common.{◌≡◌, ℕ, ◌+◌, ◌*◌, ◌≤◌, ◌<◌, sym, ◌∙◌, ap, ap₂, arith}
use lib.ListN.{get_or}
use Rattle.search_count.specs.Marks.{window_at, slid}
use Rattle.search_count.proofs.Marks.{mark_small}
use Rattle.search_count.proofs.Columns.{window_next, window_most, slid_next, slid_most}
use Rattle.search_count.proofs.slide.Goals as goal
use Rattle.search_count.proofs.slide.Goals.{After-mark}

-- in a turn, once the mark is known
module _ (c : After-mark) where
  byte : (p : ℕ) → get_or c.args.columns.now p 0 < 256
  byte p = omega (arith, c.type_inv.columns p)

  -- the sum up to a cell
  abbrev up_to : ℕ → ℕ
  up_to = let a = c.args in slid a.cells.gray.now a.cells.dots.now a.cells.dot a.first a.columns.now a.n

  small : c.mark.result ≤ 1
  small =
      let a = c.args in
      let here = a.first + c.loop-x.x in
      omega (
        arith,
        mark_small (get_or a.cells.gray.now here 0) (get_or a.cells.dots.now here 0) a.cells.dot,
        c.mark.ensures,
      )

  added : c.loop-x.sum + c.mark.result * c.loop-x.within + up_to c.args.from ≡ up_to (c.loop-x.x + 1)
  added =
      let a = c.args in
      let next = slid_next a.columns.now a.n a.cells.gray.now a.cells.dots.now a.cells.dot a.first c.loop-x.x in
      let term = ap₂ (λ u v. u * v) c.mark.ensures c.loop-x.invariant.0 in
      omega (arith, c.loop-x.invariant.1, next, term)

  few : up_to (c.loop-x.x + 1) ≤ (c.loop-x.x + 1) * 3315
  few =
      let a = c.args in
      slid_most a.columns.now a.n a.cells.gray.now a.cells.dots.now a.cells.dot a.first byte (omega arith) (c.loop-x.x + 1)

  window_small : c.loop-x.within ≤ 3315
  window_small =
      omega (arith, c.loop-x.invariant.0, window_most c.args.columns.now c.args.n byte c.loop-x.x)

  moved : get_or c.args.columns.now c.loop-x.x 0 + window_at c.args.columns.now c.args.n (c.loop-x.x + 1)
      ≡ c.loop-x.within + get_or c.args.columns.now (c.loop-x.x + c.args.n) 0
  moved =
      window_next c.args.columns.now c.args.n c.loop-x.x
      ∙ ap (λ z. z + get_or c.args.columns.now (c.loop-x.x + c.args.n) 0) (sym c.loop-x.invariant.0)

pub overflow_mul-sum : goal.overflow_mul-sum
overflow_mul-sum c =
    let r = (goal.at.overflow_mul-sum c).After-mark in
    rw c.from.ensures (omega (arith, added r, few r))

pub overflow_add-sum : goal.overflow_add-sum
overflow_add-sum c =
    let r = (goal.at.overflow_add-sum c).After-mark in
    rw c.from.ensures (omega (arith, added r, few r))

pub overflow_add-within : goal.overflow_add-within
overflow_add-within c =
    let r = (goal.at.overflow_add-within c).After-mark in
    omega (arith, byte r (c.loop-x.x + c.args.n), window_small r)

pub overflow_sub-within : goal.overflow_sub-within
overflow_sub-within c = omega (arith, moved (goal.at.overflow_sub-within c).After-mark)

pub loop-x-preserved : goal.loop-x-preserved
loop-x-preserved c =
    let r = (goal.at.loop-x-preserved c).After-mark in
    (omega (arith, moved r), rw c.from.ensures (added r))
