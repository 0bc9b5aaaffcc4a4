-- The autocorrelation by windows of the psf, one in each turn of a loop.
--   table_next                  the table one window further
--   mirrored_small, side_small  the sizes of its entries on the way, and how many entries a psf has
--   mirrored_is                 the table built so from a psf is its autocorrelation
--   front_holds                 a list with the autocorrelation in its front holds the kernel
use mathlib.Core.Path.{◌≡◌, sym, ◌∙◌, ap, ap₂, subst}
use mathlib.Core.List.{List, ◌++◌, map}
use Prim.Native.Nat.{ℕ, ◌+◌, ◌*◌, ◌≤◌}
use native.Mathlib.Nat as NatL
use native.Mathlib.Omega.{arith}
use lib.IntN.{ℤ, pos, nat_abs}
use lib.ListN.{length, get_or, length-map, length-append}
use Rattle.algebra.proofs.Order.{nat_abs_mul_le, nat_abs_below}
use Rattle.algebra.proofs.SumOrder.{nat_abs_sum}
use Rattle.model.specs.Basic.{tabulate, square_at}
use Rattle.model.specs.Psf.{total, autocorrelations}
use Rattle.model.specs.Refusal.{PsfFits}
use Rattle.invariants.specs.Window.{add_window, scattered, Small, HoldsKernel, most_kernel}
use Rattle.model.specs.Error.{most_filtered}
use Rattle.model.proofs.Basic.{tabulate-cong, square_append}
use Rattle.model.proofs.Psf.{autocorrelation_nonneg, autocorrelation≤, autocorrelations_long, autocorrelations_at, side}
use Rattle.invariants.proofs.Window.{small_tabulate, small_append, square_small}
use Rattle.invariants.proofs.Window.{scattered_next, windows_autocorrelation}
use Rattle.filter_correlate.specs.Scatter.{mirrored_at, mirrored}

pub table_next : (W R : ℕ) (c : List ℤ) (amount : ℕ → ℤ) (row col : ℕ → ℕ) (N n : ℕ) {a : ℤ} {t t' : List ℤ}
    → t ≡ tabulate N (scattered W R c amount row col n) → a ≡ amount n → t' ≡ add_window W R c a (row n) (col n) t
    → t' ≡ tabulate N (scattered W R c amount row col (n + 1))
table_next W R c amount row col N n e f g =
    g ∙ ap₂ (λ b u. add_window W R c b (row n) (col n) u) f e ∙ scattered_next W R c amount row col N n

-- the windows of a psf on the way to its autocorrelation, and its entries' number
pub mirrored_small : (r : ℕ) (p : List ℤ) (i q : ℕ) → Small 255 p → i ≤ 49 → nat_abs (mirrored_at r p i q) ≤ most_filtered
unfolding scattered
mirrored_small r p i q s h =
    NatL.le_trans
    (nat_abs_sum i _ 65025 (λ k l. nat_abs_mul_le (get_or p k (pos 0)) _ (s.each k) (square_small r p _ _ s)))
    (omega arith)

pub side_small : {r : ℕ} → r ≤ 3 → (2 * r + 1) * (2 * r + 1) ≤ 49
side_small {r} h = NatL.mul-le-mul {n₂ = 7} {m₂ = 7} (omega arith) (omega arith)

-- ---- what the windows sum to
pub mirrored_is : (r : ℕ) (psf : List ℕ) → length psf ≡ (2 * r + 1) * (2 * r + 1)
    → mirrored r (map pos psf) ≡ autocorrelations r psf
unfolding mirrored autocorrelations
mirrored_is r psf e =
    tabulate-cong ((4 * r + 1) * (4 * r + 1)) (λ q h.
    ap (λ n. mirrored_at r (map pos psf) n q) (length-map psf pos) ∙ windows_autocorrelation r psf e q)

-- the entries of the autocorrelation
kernel_small : (r : ℕ) (psf : List ℕ) → PsfFits r psf → Small most_kernel (autocorrelations r psf)
unfolding autocorrelations
kernel_small r psf f =
    small_tabulate most_kernel _ _ (λ q h.
    NatL.le_trans
    (nat_abs_below _ (total psf * total psf)
    (autocorrelation_nonneg r psf _ _) (autocorrelation≤ r psf f.square _ _))
    (NatL.mul-le-mul {n₂ = 1024} {m₂ = 1024} f.sum_high f.sum_high))

-- ---- a list with the autocorrelation in its front holds the kernel
pub front_holds : (r : ℕ) (psf : List ℕ) (l : List ℤ) {k : List ℤ} → PsfFits r psf → k ≡ autocorrelations r psf
    → Small most_kernel l → HoldsKernel r psf (k ++ l)
front_holds r psf l {k} f e s =
    record {
      long = simp length-append (omega (arith, long));
      small = small_append k l (subst (Small most_kernel) (sym e) (kernel_small r psf f)) s;
      at = λ dy dx.
          square_append (pos 0) (2 * r) k l dy dx (omega (arith, long, ap (λ n. n * n) (side r)))
          ∙ ap (λ k. square_at (pos 0) (2 * r) k dy dx) e ∙ autocorrelations_at r psf dy dx;
    }
  where
    long : length k ≡ (4 * r + 1) * (4 * r + 1)
    long = ap length e ∙ autocorrelations_long r psf
