-- `search_change::toggle_sum` meets its contract: every step is small enough for its width, and the product that the code
-- takes first is the formula's.
use Rattle.std.proofs.Common.{pos, ◌*ℤ◌, sym, arith}
use Prim.Native.Nat.{◌*◌}
use lib.Dec.{lit<}
use lib.ListN.{get_or}
use mir.Syntax.{w32}
use mir.Val.{to_z, of_z}
use Rattle.algebra.proofs.Ring.{*ℤ-assoc}
use Rattle.algebra.proofs.Machine.{Holds, literal, of_small, named, size_of, add_fits, add_holds, mul_holds}
use Rattle.model.specs.Change.{sign}
use Rattle.model.specs.Error.{most_filtered}
use Rattle.search_change.proofs.Signs.{signed_holds}
use Rattle.search_change.proofs.toggle_sum.Goals as goal
use Rattle.search_change.proofs.toggle_sum.Goals.{After-signed}

-- the two terms of the sum
module _ (c : After-signed) where
  first : Holds w32 (of_z w32 (pos 2 *ℤ to_z w32 (of_z w32 c.signed.result)))
      (pos 2 *ℤ sign c.args.dots.now c.args.m *ℤ get_or c.args.table.now c.args.m (pos 0)) (2 * most_filtered)
  first =
      let turn = sign c.args.dots.now c.args.m in
      let entry = get_or c.args.table.now c.args.m (pos 0) in
      let held = of_small w32 entry (c.requires.peak_bound.1.each c.args.m) (lit< tt) in
      let signed = signed_holds c.signed.result turn held (lit< tt) (c.signed.ensures.value, c.signed.ensures.result_value) in
      named (sym (*ℤ-assoc (pos 2) turn entry)) (mul_holds (literal w32 2 tt) signed (lit< tt))

  second : Holds w32 (of_z w32 (pos 255 *ℤ to_z w32 (of_z w32 c.args.peak))) (pos 255 *ℤ c.args.peak) most_filtered
  second = mul_holds (literal w32 255 tt) (of_small w32 c.args.peak c.requires.peak_bound.0 (lit< tt)) (lit< tt)

pub overflow_add-result : goal.overflow_add-result
overflow_add-result c = add_fits (first c) (second c) (lit< tt)

pub returns : goal.returns
returns c =
    let h = add_holds (first c) (second c) (lit< tt) in record {
      value = h.value;
      result_bound = omega (arith, size_of h);
    }
