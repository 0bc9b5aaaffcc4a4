-- `search_change::swap_change` meets its contract: every step is small enough for its width.
use Rattle.std.proofs.Common.{arith, ◌*◌, pos, ◌-ℤ◌, ◌*ℤ◌}
use lib.Dec.{lit<}
use lib.ListN.{get_or}
use mir.Syntax.{w32, w64}
use mir.Val.{to_z, of_z}
use Rattle.algebra.proofs.Machine.{Holds, literal, of_small, named, size_of, cast_holds, add_fits, add_holds, sub_holds, mul_fits, mul_holds}
use Rattle.model.specs.Change.{sign, swap_sum}
use Rattle.model.specs.Error.{most_filtered}
use Rattle.invariants.specs.Window.{most_worth}
use Rattle.search_change.proofs.swap_change.Goals as goal
use Rattle.search_change.proofs.swap_change.Goals.{After-difference}

-- the two terms of the sum
module _ (c : After-difference) where
  first : Holds w32 (of_z w32 c.difference.result)
      (sign c.args.dots.now c.args.m *ℤ (get_or c.args.table.now c.args.m (pos 0) -ℤ get_or c.args.table.now c.args.n (pos 0)))
      (2 * most_filtered)
  first = named c.difference.ensures.value (of_small w32 c.difference.result c.difference.ensures.result_bound (lit< tt))

  second : Holds w32 (of_z w32 (pos 255 *ℤ to_z w32 (of_z w32 (to_z w32 (of_z w32 c.args.peak) -ℤ to_z w32 (of_z w32 c.args.apart)))))
      (pos 255 *ℤ (c.args.peak -ℤ c.args.apart)) most_worth
  second =
      mul_holds (literal w32 255 tt)
      (sub_holds (of_small w32 c.args.peak c.requires.peak_bound.0 (lit< tt))
      (of_small w32 c.args.apart c.requires.peak_bound.1 (lit< tt)) (lit< tt)) (lit< tt)

pub overflow_add-difference : goal.overflow_add-difference
overflow_add-difference c = add_fits (first c) (second c) (lit< tt)

pub overflow_mul-result : goal.overflow_mul-result
overflow_mul-result c =
    let d = (goal.at.overflow_mul-result c).After-difference in
    let sum = cast_holds w64 (add_holds (first d) (second d) (lit< tt)) (lit< tt) in
    rw c.from.ensures (mul_fits (literal w64 510 tt) sum (lit< tt))

pub returns : goal.returns
unfolding swap_sum
returns c =
    let d = (goal.at.returns c).After-difference in
    let sum = cast_holds w64 (add_holds (first d) (second d) (lit< tt)) (lit< tt) in
    let h = mul_holds (literal w64 510 tt) sum (lit< tt) in record {
      value = rw c.from.ensures h.value;
      result_bound = rw c.from.ensures (omega (arith, size_of h));
    }
