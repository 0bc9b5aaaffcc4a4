-- Laws of a grid that is moved.
--   moved_one, moved_none, moved_cases  which cell comes to a place, if any
--   moved_cong                          grids that are equal
--   moved_swap                          a grid moved by the places of another, and weighed by it: the two exchanged
use mathlib.Core.Path.{◌≡◌, sym, ◌∙◌, ap, ap₂}
use Prim.Native.Nat.{ℕ, ◌+◌, ◌*◌, ◌-◌, ◌/◌, ◌%◌, ◌<◌}
use native.Mathlib.Nat as NatL
use native.Mathlib.Decide.{ℕ_discrete, dec_lt}
use native.Mathlib.Omega.{arith}
use lib.IntN.{ℤ, pos, ◌*ℤ◌, zero-*ℤ, *ℤ-zero}
use Rattle.algebra.specs.Sum.{sum_to}
use Rattle.algebra.specs.Quadratic.{point}
use Rattle.algebra.specs.Moved.{moved}
use Rattle.algebra.proofs.Ring.{*ℤ-idr, *ℤ-left-comm}
use Rattle.algebra.proofs.Grid.{cell_row, cell_column, cell<, row<, column<}
use Rattle.algebra.proofs.Sum.{sum_cong, sum_scale, sum_swap, sum_zeros, sum_one, point_same, point_other}

module _ (H W : ℕ) (f : ℕ → ℤ) (a b Y X : ℕ) where
  missed : (n : ℕ) → (n / W + a ≡ Y → n % W + b ≡ X → ⊥)
      → f n *ℤ (point Y (pos 1) (n / W + a) *ℤ point X (pos 1) (n % W + b)) ≡ pos 0
  missed n h = go (ℕ_discrete (n / W + a) Y)
    where
      go : Dec (n / W + a ≡ Y) → f n *ℤ (point Y (pos 1) (n / W + a) *ℤ point X (pos 1) (n % W + b)) ≡ pos 0
      go (no d) =
          ap (λ z. f n *ℤ (z *ℤ point X (pos 1) (n % W + b))) (point_other Y (pos 1) (n / W + a) d)
          ∙ ap (λ z. f n *ℤ z) (zero-*ℤ (point X (pos 1) (n % W + b))) ∙ *ℤ-zero (f n)
      go (yes e) =
          ap (λ z. f n *ℤ (point Y (pos 1) (n / W + a) *ℤ z)) (point_other X (pos 1) (n % W + b) (h e))
          ∙ ap (λ z. f n *ℤ z) (*ℤ-zero (point Y (pos 1) (n / W + a))) ∙ *ℤ-zero (f n)

  pub moved_one : (y x : ℕ) → y < H → x < W → y + a ≡ Y → x + b ≡ X → moved H W f a b Y X ≡ f (y * W + x)
  unfolding moved
  moved_one y x h k e g =
      sum_one (H * W) (y * W + x) _ (cell< h k) (λ n l d. missed n (λ p q. d (same n p q)))
      ∙ ap₂ (λ u v. f (y * W + x) *ℤ (point Y (pos 1) u *ℤ point X (pos 1) v))
      (ap (λ u. u + a) (cell_row k) ∙ e) (ap (λ u. u + b) (cell_column y k) ∙ g)
      ∙ ap₂ (λ u v. f (y * W + x) *ℤ (u *ℤ v)) (point_same Y (pos 1)) (point_same X (pos 1))
      ∙ *ℤ-idr (f (y * W + x))
    where
      same : (n : ℕ) → n / W + a ≡ Y → n % W + b ≡ X → n ≡ y * W + x
      same n p q =
          let i : n / W ≡ y = omega arith in
          let j : n % W ≡ x = omega arith in
          sym (NatL.div-add-mod' n W) ∙ ap₂ (λ u v. u * W + v) i j

  module _ (wide : 0 < W) where
    pub moved_none : ((y x : ℕ) → y < H → x < W → y + a ≡ Y → x + b ≡ X → ⊥) → moved H W f a b Y X ≡ pos 0
    unfolding moved
    moved_none h = sum_zeros (H * W) (λ n l. missed n (h (n / W) (n % W) (row< n wide l) (column< n wide)))

    -- what holds where a cell comes and where none does holds
    pub moved_cases : (Q : ℤ → Type 0)
        → ((y x : ℕ) → y < H → x < W → y + a ≡ Y → x + b ≡ X → Q (f (y * W + x)))
        → (((y x : ℕ) → y < H → x < W → y + a ≡ Y → x + b ≡ X → ⊥) → Q (pos 0))
        → Q (moved H W f a b Y X)
    moved_cases Q h z = go (dec_lt Y a) (dec_lt X b) (dec_lt (Y - a) H) (dec_lt (X - b) W)
      where
        none : ((y x : ℕ) → y < H → x < W → y + a ≡ Y → x + b ≡ X → ⊥) → Q (moved H W f a b Y X)
        none k = rw (moved_none k) (z k)

        go : Dec (Y < a) → Dec (X < b) → Dec (Y - a < H) → Dec (X - b < W) → Q (moved H W f a b Y X)
        go (yes p) q u v = none (λ y x k l e g. omega arith)
        go (no p) (yes q) u v = none (λ y x k l e g. omega arith)
        go (no p) (no q) (no u) v = none (λ y x k l e g. omega arith)
        go (no p) (no q) (yes u) (no v) = none (λ y x k l e g. omega arith)
        go (no p) (no q) (yes u) (yes v) =
            let i : Y - a + a ≡ Y = omega arith in
            let j : X - b + b ≡ X = omega arith in
            rw (moved_one (Y - a) (X - b) u v i j) (h (Y - a) (X - b) u v i j)

pub moved_cong : (H W : ℕ) {f g : ℕ → ℤ} (a b Y X : ℕ) → ((n : ℕ) → n < H * W → f n ≡ g n)
    → moved H W f a b Y X ≡ moved H W g a b Y X
unfolding moved
moved_cong H W a b Y X h =
    sum_cong (H * W) (λ n l. ap (λ z. z *ℤ (point Y (pos 1) (n / W + a) *ℤ point X (pos 1) (n % W + b))) (h n l))

-- a grid moved by the places of another, and weighed by that one's entries: the same with the two exchanged
pub moved_swap : (H W K L : ℕ) (f g : ℕ → ℤ) (Y X : ℕ)
    → sum_to (K * L) (λ k. g k *ℤ moved H W f (k / L) (k % L) Y X)
    ≡ sum_to (H * W) (λ n. f n *ℤ moved K L g (n / W) (n % W) Y X)
unfolding moved
moved_swap H W K L f g Y X =
    sum_cong (K * L) (λ k l. sym (sum_scale (H * W) (g k) (λ n. f n *ℤ hit k n)))
    ∙ sum_swap (K * L) (H * W) (λ k n. g k *ℤ (f n *ℤ hit k n))
    ∙ sum_cong (H * W) (λ n l.
    sum_cong (K * L) (λ k p.
    *ℤ-left-comm (g k) (f n) (hit k n)
    ∙ ap₂ (λ u v. f n *ℤ (g k *ℤ (point Y (pos 1) u *ℤ point X (pos 1) v)))
    (NatL.add_comm (n / W) (k / L)) (NatL.add_comm (n % W) (k % L)))
    ∙ sum_scale (K * L) (f n) (λ k. g k *ℤ (point Y (pos 1) (k / L + n / W) *ℤ point X (pos 1) (k % L + n % W))))
  where
    hit : ℕ → ℕ → ℤ
    hit k n = point Y (pos 1) (n / W + k / L) *ℤ point X (pos 1) (n % W + k % L)
