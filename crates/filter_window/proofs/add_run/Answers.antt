-- `filter_window::add_run` meets its contract. The loop's invariant: a run of k entries is added. Each sum is of two
-- numbers of at most `most_filtered`, so it fits.
use Rattle.std.proofs.Common.{◌+◌, pos, nat_abs, ◌*ℤ◌, get_or, refl, arith, rules}
use Prim.Native.Nat.{◌≤◌}
use native.Mathlib.Nat.{le_refl}
use lib.Dec.{lit<}
use mir.Facts.{to_z-of_z}
use mir.Syntax.{w32}
use mir.Val.{SFits, of_z, to_z}
use Rattle.algebra.proofs.Machine.{Holds, of_small, product_holds, add_holds}
use Rattle.model.specs.Error.{most_filtered}
use Rattle.filter_window.proofs.Run.{run_next}
use Rattle.filter_window.proofs.add_run.Goals as goal

pub loop-k-preserved : goal.loop-k-preserved
loop-k-preserved c =
    let run = c.loop-k.invariant in
    let here = c.args.at + c.loop-k.k in
    let a = to_z w32 (of_z w32 c.args.amount) in
    let x = get_or c.args.c.now (c.args.from + c.loop-k.k) (pos 0) in
    let fits : SFits w32 x = search rules in
    let factor : Holds w32 (of_z w32 c.args.amount) a (nat_abs a) = record { value = refl; size = le_refl _ } in
    let number : Holds w32 (of_z w32 x) x (nat_abs x) = record { value = to_z-of_z fits; size = le_refl _ } in
    let scaled : nat_abs (a *ℤ x) ≤ most_filtered = rw (to_z-of_z c.ranges.amount) (c.requires.scaled.each _) in
    let product = product_holds factor number scaled (lit< tt) in
    let entry : Holds w32 (of_z w32 (get_or c.loop-k.table here (pos 0))) (get_or c.args.table.now here (pos 0)) most_filtered
    = rw (run.beyond here (le_refl _)) (of_small w32 _ (c.requires.by_index here (omega arith)) (lit< tt)) in
    run_next run _ (add_holds entry product (lit< tt)).value (omega (arith, run.long))
