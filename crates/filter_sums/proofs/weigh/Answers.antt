-- `filter_sums::weigh` meets its contract: the sum so far is that of the cells passed, and each term is small.
use Prim.Native.Nat.{ℕ, ◌*◌, ◌^◌, ◌≤◌, ◌<◌}
use native.Mathlib.Omega.{arith}
use mathlib.Core.Path.{◌≡◌, refl, sym, ◌∙◌, subst}
use lib.Dec.{lit<, lit≤}
use lib.IntN.{ℤ, nat_abs, ◌*ℤ◌}
use mir.Syntax.{w32, w64}
use mir.Val.{to_z, of_z, hbits}
use Rattle.algebra.specs.Sum.{sum_to}
use Rattle.algebra.proofs.Machine.{Holds, of_small, named, wider, mul_holds, add_fits, add_holds}
use Rattle.algebra.proofs.Sum.{sum_next}
use Rattle.model.specs.Error.{most_filtered}
use Rattle.filter_sums.proofs.weigh.Goals as goal
use Rattle.filter_sums.proofs.weigh.Goals.{After-from-in-loop-m}
use Rattle.filter_sums.proofs.weigh.Invariants.{term}

pub loop-m-init : goal.loop-m-init
unfolding sum_to
loop-m-init c = record { is = refl; size = lit≤ tt }

-- a number of 32 bits, widened to 64
widened : {x z : ℤ} {n k : ℕ} → x ≡ to_z w32 n → Holds w32 n z k → k < 2 ^ hbits w64
    → Holds w64 (of_z w64 x) z k
widened {x} {k = k} e h l =
    named (e ∙ h.value) (of_small w64 x (subst (λ (v : ℤ). nat_abs v ≤ k) (sym (e ∙ h.value)) h.size) l)

-- the sum so far, and the product in a turn, as the locals hold them
module _ (c : After-from-in-loop-m) where
  abbrev f : ℕ → ℤ
  f = term c.args.gray.now c.args.dots.now c.args.table.now

  so_far : Holds w64 c.loop-m.sum-bits (sum_to c.loop-m.m f) (255 * most_filtered * c.loop-m.m)
  so_far = record { value = c.loop-m.invariant.is; size = c.loop-m.invariant.size }

  product : Holds w64 (of_z w64 (to_z w64 (of_z w64 c.from.result) *ℤ to_z w64 (of_z w64 c.from-in-loop-m.result)))
      (f c.loop-m.m) (255 * most_filtered)
  product =
      mul_holds
      (widened c.from.ensures (named c.error_at.ensures.0 (of_small w32 _ c.error_at.ensures.1 (lit< tt))) (lit< tt))
      (widened c.from-in-loop-m.ensures (of_small w32 _ (c.requires.1.each c.loop-m.m) (lit< tt)) (lit< tt)) (lit< tt)

pub overflow_add-sum : goal.overflow_add-sum
overflow_add-sum c = add_fits (so_far c) (product c) (omega arith)

pub loop-m-preserved : goal.loop-m-preserved
loop-m-preserved c =
    let next = wider (omega arith) (named (sum_next c.loop-m.m (f c)) (add_holds (so_far c) (product c) (omega arith))) in
    record { is = next.value; size = next.size }
