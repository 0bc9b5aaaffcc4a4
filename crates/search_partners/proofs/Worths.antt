-- What an offset is worth, 255 × (P - c), as the code works it out of locals that hold the peak and c there.
--   gap_fits, worth_fits  no step of it wraps
--   worth_is              it is that
use Rattle.std.proofs.Common.{◌≡◌, ℕ, ◌*◌, ◌≤◌, List, ℤ, pos, ◌-ℤ◌, ◌*ℤ◌, nat_abs, sym, subst, lit<, w32, SFits, to_z, of_z}
use Rattle.algebra.proofs.Machine.{Holds, named, literal, of_small, sub_fits, sub_holds, mul_fits, mul_holds}
use Rattle.model.specs.Basic.{square_at}
use Rattle.invariants.specs.Window.{Small, most_kernel}
use Rattle.invariants.proofs.Window.{square_small}

module _ (r : ℕ) {c : List ℤ} (small : Small most_kernel c) (dy dx : ℤ) {top away : ℤ}
    (top-is : top ≡ square_at (pos 0) (2 * r) c (pos 0) (pos 0)) (away-is : away ≡ square_at (pos 0) (2 * r) c dy dx) where
  held : {z : ℤ} (y x : ℤ) → z ≡ square_at (pos 0) (2 * r) c y x
      → Holds w32 (of_z w32 z) (square_at (pos 0) (2 * r) c y x) most_kernel
  held {z} y x e =
      named e
      (of_small w32 z (subst (λ (v : ℤ). nat_abs v ≤ most_kernel) (sym e) (square_small (2 * r) c y x small)) (lit< tt))

  abbrev gap : ℤ
  gap = to_z w32 (of_z w32 top) -ℤ to_z w32 (of_z w32 away)

  pub gap_fits : SFits w32 (to_z w32 (of_z w32 top) -ℤ to_z w32 (of_z w32 away))
  gap_fits = sub_fits (held _ _ top-is) (held _ _ away-is) (lit< tt)

  gap_held : Holds w32 (of_z w32 gap)
      (square_at (pos 0) (2 * r) c (pos 0) (pos 0) -ℤ square_at (pos 0) (2 * r) c dy dx) (2 * most_kernel)
  gap_held = sub_holds (held _ _ top-is) (held _ _ away-is) (lit< tt)

  pub worth_fits : SFits w32 (pos 255 *ℤ to_z w32 (of_z w32 gap))
  worth_fits = mul_fits (literal w32 255 tt) gap_held (lit< tt)

  pub worth_is : to_z w32 (of_z w32 (pos 255 *ℤ to_z w32 (of_z w32 gap)))
      ≡ pos 255 *ℤ (square_at (pos 0) (2 * r) c (pos 0) (pos 0) -ℤ square_at (pos 0) (2 * r) c dy dx)
  worth_is = (mul_holds (literal w32 255 tt) gap_held (lit< tt)).value
