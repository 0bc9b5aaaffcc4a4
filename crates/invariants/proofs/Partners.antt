-- What offsets are worth, from a small kernel.
--   worth_small   each is small
--   worths_small  a list that holds them is small
use mathlib.Core.List.{List}
use mathlib.Core.Path.{sym, subst}
use Prim.Native.Nat.{ℕ, ◌*◌, ◌≤◌, ◌<◌}
use native.Mathlib.Decide.{dec_lt}
use native.Mathlib.Omega.{arith}
use lib.Dec.{lit≤}
use lib.IntN.{ℤ, pos, neg_ℤ, nat_abs, ◌-ℤ◌}
use lib.ListN.{length, get_or, get_or-eq_default}
use Rattle.algebra.proofs.Order.{natAbs-+ℤ, nat_abs_negℤ, nat_abs_mul_le}
use Rattle.model.specs.Basic.{square_at}
use Rattle.invariants.specs.Partners.{row_of, column_of, worth_at, HoldsWorths}
use Rattle.invariants.specs.Window.{Small, most_kernel, most_worth}
use Rattle.invariants.proofs.Window.{square_small}

module _ (r : ℕ) {c : List ℤ} (small : Small most_kernel c) where
  pub worth_small : (down right : ℕ) → nat_abs (worth_at r c down right) ≤ most_worth
  worth_small down right =
      nat_abs_mul_le (pos 255) (top -ℤ away) {A = 255} {B = 2 * most_kernel} (lit≤ tt)
      (apart top away (square_small (2 * r) c (pos 0) (pos 0) small) (square_small (2 * r) c _ _ small))
    where
      top : ℤ
      top = square_at (pos 0) (2 * r) c (pos 0) (pos 0)

      away : ℤ
      away = square_at (pos 0) (2 * r) c (pos 6 -ℤ pos down) (pos 6 -ℤ pos right)

      apart : (a b : ℤ) → nat_abs a ≤ most_kernel → nat_abs b ≤ most_kernel → nat_abs (a -ℤ b) ≤ 2 * most_kernel
      apart a b h l = omega (arith, natAbs-+ℤ a (neg_ℤ b), nat_abs_negℤ b)

  pub worths_small : {codes : List ℕ} {worths : List ℤ} → HoldsWorths r c codes worths → Small most_worth worths
  worths_small {codes} {worths} held = record { each = λ q. go q (dec_lt q (length codes)) }
    where
      go : (q : ℕ) → Dec (q < length codes) → nat_abs (get_or worths q (pos 0)) ≤ most_worth
      go q (yes h) =
          subst (λ (z : ℤ). nat_abs z ≤ most_worth) (sym (held.at q h))
          (worth_small (row_of (get_or codes q 0)) (column_of (get_or codes q 0)))
      go q (no h) = rw (get_or-eq_default worths (pos 0) {n = q} (omega (arith, held.long))) (lit≤ tt)
