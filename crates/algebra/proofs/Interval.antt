-- Sums over an interval of ℤ, also of functions that are 0 outside a window (`Supported`, `Supported2`).
--   sum_from_cong, sum_from_scale                   terms that are equal, and scaled
--   sum_from_swap, sum_from_swap2                   two sums exchanged; two with two others
--   sum_from_shift, sum_from_split, sum_from_nonneg  the interval shifted, and split; terms that are never negative
--   correlate_turn, correlate_widened             sums of products of two functions, one shifted against the other
--   grid≤, grid_whole                             the most that a sum over a grid can be; a grid that covers the square
use mathlib.Core.Path.{◌≡◌, refl, sym, ◌∙◌, ap, ap₂, subst}
use mathlib.Core.List.{[], ◌∷◌}
use Prim.Native.Nat.{ℕ, suc, ◌+◌, ◌*◌, ◌-◌, ◌<◌}
use native.Mathlib.Omega.{arith}
use lib.IntN.{ℤ, pos, neg_ℤ, ◌+ℤ◌, ◌-ℤ◌, ◌*ℤ◌, +ℤ_assoc, +ℤ_idl, +ℤ_idr, zero-*ℤ, *ℤ-zero}
use lib.Signed.{◌≤ℤ◌, ◌<ℤ◌}
use Rattle.algebra.specs.Sum.{sum_to, sum_from}
use Rattle.algebra.proofs.Solver.{ring!, reify}
use Rattle.algebra.proofs.Order.{ordℤ, pp, nn, show≤, show<, show≡, ≤ℤ-trans}
use Rattle.algebra.proofs.Sum.{sum_cong, sum_zeros, sum_scale, sum_swap, sum_split}
use Rattle.algebra.proofs.SumOrder.{sum_mono, sum_nonneg}

pub sum_from_cong : (a : ℤ) (n : ℕ) {f g : ℤ → ℤ} → ((x : ℤ) → f x ≡ g x) → sum_from a n f ≡ sum_from a n g
unfolding sum_from
sum_from_cong a n h = sum_cong n (λ i k. h (a +ℤ pos i))

pub sum_from_swap : (a b : ℤ) (m n : ℕ) (f : ℤ → ℤ → ℤ)
    → sum_from a m (λ y. sum_from b n (λ x. f y x)) ≡ sum_from b n (λ x. sum_from a m (λ y. f y x))
unfolding sum_from
sum_from_swap a b m n f = sum_swap m n (λ i j. f (a +ℤ pos i) (b +ℤ pos j))

pub sum_from_one : (a : ℤ) (f : ℤ → ℤ) → sum_from a 1 f ≡ f a
unfolding sum_from sum_to
sum_from_one a f = +ℤ_idl (f (a +ℤ pos 0)) ∙ ap f (+ℤ_idr a)

pub sum_from_scale : (a : ℤ) (n : ℕ) (k : ℤ) (f : ℤ → ℤ) → sum_from a n (λ x. k *ℤ f x) ≡ k *ℤ sum_from a n f
unfolding sum_from
sum_from_scale a n k f = sum_scale n k (λ i. f (a +ℤ pos i))

-- two sums exchanged with two others
pub sum_from_swap2 : (a b : ℤ) (m n : ℕ) (f : ℤ → ℤ → ℤ → ℤ → ℤ)
    → sum_from a m (λ u. sum_from a m (λ v. sum_from b n (λ y. sum_from b n (λ x. f u v y x))))
    ≡ sum_from b n (λ y. sum_from b n (λ x. sum_from a m (λ u. sum_from a m (λ v. f u v y x))))
sum_from_swap2 a b m n f =
    sum_from_cong a m (λ u.
    sum_from_swap a b m n (λ v y. sum_from b n (λ x. f u v y x))
    ∙ sum_from_cong b n (λ y. sum_from_swap a b m n (λ v x. f u v y x)))
    ∙ sum_from_swap a b m n (λ u y. sum_from b n (λ x. sum_from a m (λ v. f u v y x)))
    ∙ sum_from_cong b n (λ y. sum_from_swap a b m n (λ u x. sum_from a m (λ v. f u v y x)))

pub sum_from_shift : (a t : ℤ) (n : ℕ) (f : ℤ → ℤ) → sum_from a n (λ x. f (x -ℤ t)) ≡ sum_from (a -ℤ t) n f
unfolding sum_from
sum_from_shift a t n f = sum_cong n (λ i k. ap f (turn i))
  where
    turn : (i : ℕ) → a +ℤ pos i -ℤ t ≡ a -ℤ t +ℤ pos i
    turn i = ring! (a ∷ t ∷ pos i ∷ []) (search reify depth 40) refl

pub sum_from_split : (a : ℤ) (m n : ℕ) (f : ℤ → ℤ) → sum_from a (m + n) f ≡ sum_from a m f +ℤ sum_from (a +ℤ pos m) n f
unfolding sum_from
sum_from_split a m n f =
    sum_split m n (λ i. f (a +ℤ pos i))
    ∙ ap (λ z. sum_to m (λ i. f (a +ℤ pos i)) +ℤ z) (sum_cong n (λ i k. ap f (sym (+ℤ_assoc a (pos m) (pos i)))))

pub sum_from_nonneg : (a : ℤ) (n : ℕ) (f : ℤ → ℤ) → ((x : ℤ) → pos 0 ≤ℤ f x) → pos 0 ≤ℤ sum_from a n f
unfolding sum_from
sum_from_nonneg a n f h = sum_nonneg n (λ i. f (a +ℤ pos i)) (λ i k. h (a +ℤ pos i))

-- ---- a function that is 0 outside -r .. r
pub record Supported (r : ℕ) (f : ℤ → ℤ) : Type 0 where
  pub below : (x : ℤ) → x <ℤ neg_ℤ (pos r) → f x ≡ pos 0
  pub above : (x : ℤ) → pos r <ℤ x → f x ≡ pos 0

-- over an interval that starts d before the window and ends t after it, its sum is that over the window
pub sum_from_window : (r d t : ℕ) (f : ℤ → ℤ) → Supported r f
    → sum_from (neg_ℤ (pos r) -ℤ pos d) (d + (2 * r + 1 + t)) f ≡ sum_from (neg_ℤ (pos r)) (2 * r + 1) f
unfolding sum_from
sum_from_window r d t f s =
    sum_from_split a d (2 * r + 1 + t) f
    ∙ ap₂ (λ x y. x +ℤ y) left (ap (λ z. sum_from z (2 * r + 1 + t) f) start ∙ sum_from_split o (2 * r + 1) t f)
    ∙ +ℤ_idl _ ∙ ap (λ z. sum_from o (2 * r + 1) f +ℤ z) right ∙ +ℤ_idr _
  where
    o : ℤ
    o = neg_ℤ (pos r)

    a : ℤ
    a = neg_ℤ (pos r) -ℤ pos d

    start : neg_ℤ (pos r) -ℤ pos d +ℤ pos d ≡ neg_ℤ (pos r)
    start = ring! (pos r ∷ pos d ∷ []) (search reify depth 40) refl

    left : sum_from a d f ≡ pos 0
    left =
        sum_zeros d (λ i h.
        s.below (neg_ℤ (pos r) -ℤ pos d +ℤ pos i)
        (show< (pos r ∷ pos d ∷ pos i ∷ []) (search reify depth 40) (omega arith)))

    right : sum_from (o +ℤ pos (2 * r + 1)) t f ≡ pos 0
    right =
        sum_zeros t (λ i h.
        s.above (neg_ℤ (pos r) +ℤ pos (2 * r + 1) +ℤ pos i)
        (show< (pos r ∷ pos i ∷ []) (search reify depth 40) (omega arith)))

-- a product is 0 where its first factor is, and where its second is
left_supported : (r : ℕ) (f g : ℤ → ℤ) → Supported r f → Supported r (λ k. f k *ℤ g k)
left_supported r f g s =
    record {
      below = λ x h. ap (λ z. z *ℤ g x) (s.below x h) ∙ zero-*ℤ (g x);
      above = λ x h. ap (λ z. z *ℤ g x) (s.above x h) ∙ zero-*ℤ (g x);
    }

right_supported : (r : ℕ) (f g : ℤ → ℤ) → Supported r g → Supported r (λ k. f k *ℤ g k)
right_supported r f g s =
    record {
      below = λ x h. ap (λ z. f x *ℤ z) (s.below x h) ∙ *ℤ-zero (f x);
      above = λ x h. ap (λ z. f x *ℤ z) (s.above x h) ∙ *ℤ-zero (f x);
    }

-- Σ f(k) g(k + d) = Σ f(k - d) g(k), k over -r .. r
pub correlate_turn : (r : ℕ) (d : ℤ) (f g : ℤ → ℤ) → Supported r f → Supported r g
    → sum_from (neg_ℤ (pos r)) (2 * r + 1) (λ k. f k *ℤ g (k +ℤ d))
    ≡ sum_from (neg_ℤ (pos r)) (2 * r + 1) (λ k. f (k -ℤ d) *ℤ g k)
correlate_turn r d f g s t =
    sym (sum_from_window r D D (λ k. f k *ℤ g (k +ℤ d)) (left_supported r f (λ k. g (k +ℤ d)) s))
    ∙ sum_from_cong a (D + (2 * r + 1 + D)) (λ k. ap₂ (λ x y. f x *ℤ g y) (there k) (back k))
    ∙ sum_from_shift a (neg_ℤ d) (D + (2 * r + 1 + D)) after
    ∙ ap₂ (λ b n. sum_from b n after) start size
    ∙ sum_from_window r (nn d + nn d) (pp d + pp d) after (right_supported r (λ k. f (k -ℤ d)) g t)
  where
    D : ℕ
    D = pp d + nn d

    a : ℤ
    a = neg_ℤ (pos r) -ℤ pos D

    after : ℤ → ℤ
    after k = f (k -ℤ d) *ℤ g k

    there : (k : ℤ) → k ≡ k -ℤ neg_ℤ d -ℤ d
    there k = ring! (k ∷ d ∷ []) (search reify depth 40) refl

    back : (k : ℤ) → k +ℤ d ≡ k -ℤ neg_ℤ d
    back k = ring! (k ∷ d ∷ []) (search reify depth 40) refl

    start : neg_ℤ (pos r) -ℤ pos (pp d + nn d) -ℤ neg_ℤ d ≡ neg_ℤ (pos r) -ℤ pos (nn d + nn d)
    start = show≡ (d ∷ pos r ∷ pos (pp d) ∷ pos (nn d) ∷ []) (search reify depth 40) (omega arith)

    size : D + (2 * r + 1 + D) ≡ nn d + nn d + (2 * r + 1 + (pp d + pp d))
    size = omega arith

-- Σ f(x - i) g(x - z) over the interval 0 .. W - 1 widened by r on each side is Σ f(k) g(k + (i - z)), k over -r .. r
pub correlate_widened : (r W i : ℕ) (z : ℤ) (f g : ℤ → ℤ) → i < W → Supported r f
    → sum_from (neg_ℤ (pos r)) (W + 2 * r) (λ x. f (x -ℤ pos i) *ℤ g (x -ℤ z))
    ≡ sum_from (neg_ℤ (pos r)) (2 * r + 1) (λ k. f k *ℤ g (k +ℤ (pos i -ℤ z)))
correlate_widened r W i z f g h s =
    sum_from_cong (neg_ℤ (pos r)) (W + 2 * r) (λ x. ap (λ y. f (x -ℤ pos i) *ℤ g y) (turn x))
    ∙ sum_from_shift (neg_ℤ (pos r)) (pos i) (W + 2 * r) term
    ∙ ap (λ n. sum_from (neg_ℤ (pos r) -ℤ pos i) n term) size
    ∙ sum_from_window r i (W - suc i) term (left_supported r f (λ k. g (k +ℤ (pos i -ℤ z))) s)
  where
    term : ℤ → ℤ
    term k = f k *ℤ g (k +ℤ (pos i -ℤ z))

    turn : (x : ℤ) → x -ℤ z ≡ x -ℤ pos i +ℤ (pos i -ℤ z)
    turn x = ring! (x ∷ z ∷ pos i ∷ []) (search reify depth 40) refl

    size : W + 2 * r ≡ i + (2 * r + 1 + (W - suc i))
    size = omega arith

-- ---- the most that a sum over an interval or a grid can be, of a function that is never negative
pub interval≤ : (r n : ℕ) (a : ℤ) (f : ℤ → ℤ) → Supported r f → ((x : ℤ) → pos 0 ≤ℤ f x)
    → sum_from a n f ≤ℤ sum_from (neg_ℤ (pos r)) (2 * r + 1) f
interval≤ r n a f s p = subst (λ z. sum_from a n f ≤ℤ z) (sum_from_window r (nn a) (pp a + n) f s) less
  where
    A : ℤ
    A = neg_ℤ (pos r) -ℤ pos (nn a)

    here : A +ℤ pos (pp a + r) ≡ a
    here = show≡ (a ∷ pos r ∷ pos (nn a) ∷ pos (pp a) ∷ []) (search reify depth 40) (omega arith)

    size : nn a + (2 * r + 1 + (pp a + n)) ≡ pp a + r + (n + (nn a + r + 1))
    size = omega arith

    part : (x y z w : ℤ) → w ≡ x +ℤ (y +ℤ z) → pos 0 ≤ℤ x → pos 0 ≤ℤ z → y ≤ℤ w
    part x y z w e h k = rw e (show≤ (x ∷ y ∷ z ∷ []) (search reify depth 40) (omega (arith, ordℤ)))

    less : sum_from a n f ≤ℤ sum_from A (nn a + (2 * r + 1 + (pp a + n))) f
    less =
        part (sum_from A (pp a + r) f) (sum_from a n f) (sum_from (a +ℤ pos n) (nn a + r + 1) f) _
        (ap (λ k. sum_from A k f) size
        ∙ sum_from_split A (pp a + r) (n + (nn a + r + 1)) f
        ∙ ap (λ z. sum_from A (pp a + r) f +ℤ z)
        (ap (λ b. sum_from b (n + (nn a + r + 1)) f) here ∙ sum_from_split a n (nn a + r + 1) f))
        (sum_from_nonneg A (pp a + r) f p) (sum_from_nonneg (a +ℤ pos n) (nn a + r + 1) f p)

-- 0 outside -r .. r in either direction
pub record Supported2 (r : ℕ) (f : ℤ → ℤ → ℤ) : Type 0 where
  pub rows : (x : ℤ) → Supported r (λ y. f y x)
  pub columns : (y : ℤ) → Supported r (f y)

module _ (r : ℕ) (f : ℤ → ℤ → ℤ) (s : Supported2 r f) where
  row_sum : ℤ → ℤ
  row_sum y = sum_from (neg_ℤ (pos r)) (2 * r + 1) (f y)

  row_supported : Supported r row_sum
  unfolding row_sum sum_from
  row_supported =
      record { below = λ y h. none y (λ x. (s.rows x).below y h); above = λ y h. none y (λ x. (s.rows x).above y h) }
    where
      none : (y : ℤ) → ((x : ℤ) → f y x ≡ pos 0) → sum_from (neg_ℤ (pos r)) (2 * r + 1) (f y) ≡ pos 0
      none y e = sum_zeros (2 * r + 1) (λ i h. e (neg_ℤ (pos r) +ℤ pos i))

  pub grid≤ : (H W : ℕ) (a b : ℤ) → ((y x : ℤ) → pos 0 ≤ℤ f y x)
      → sum_from a H (λ y. sum_from b W (f y))
      ≤ℤ sum_from (neg_ℤ (pos r)) (2 * r + 1) (λ y. sum_from (neg_ℤ (pos r)) (2 * r + 1) (f y))
  unfolding row_sum sum_from
  grid≤ H W a b p =
      ≤ℤ-trans _ (sum_from a H row_sum) _
      (sum_mono H _ _ (λ i h. interval≤ r W b (f (a +ℤ pos i)) (s.columns (a +ℤ pos i)) (p (a +ℤ pos i))))
      (interval≤ r H a row_sum row_supported (λ y. sum_from_nonneg (neg_ℤ (pos r)) (2 * r + 1) (f y) (p y)))

  -- over a grid that covers the square: rows d before and t after it, columns u before and v after it
  pub grid_whole : (d t u v : ℕ)
      → sum_from (neg_ℤ (pos r) -ℤ pos d) (d + (2 * r + 1 + t)) (λ y.
      sum_from (neg_ℤ (pos r) -ℤ pos u) (u + (2 * r + 1 + v)) (f y))
      ≡ sum_from (neg_ℤ (pos r)) (2 * r + 1) (λ y. sum_from (neg_ℤ (pos r)) (2 * r + 1) (f y))
  unfolding row_sum
  grid_whole d t u v =
      sum_from_cong (neg_ℤ (pos r) -ℤ pos d) (d + (2 * r + 1 + t)) (λ y. sum_from_window r u v (f y) (s.columns y))
      ∙ sum_from_window r d t row_sum row_supported
