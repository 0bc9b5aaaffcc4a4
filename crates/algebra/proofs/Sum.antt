-- Laws of finite sums, from 0 to n - 1 and over a list.
--   sum_next, sum_cong, sum_zeros    one term more, terms that are equal, terms that are 0
--   sum_add, sum_scale, sum_scale_r  linearity
--   sum_swap, sum_split, sum_mul     two sums exchanged, a sum split, a product of two sums
--   sum_one, sum_point               a sum of which only one term is not 0
--   sum_over_cong, sum_over_scale      over a list
use mathlib.Core.Path.{◌≡◌, refl, sym, ◌∙◌, ap, ap₂}
use mathlib.Core.List.{List, [], ◌∷◌}
use mathlib.Core.Bool.{Bool, true, false, cond}
use Prim.Native.Nat.{ℕ, zero, suc, ◌+◌, ◌<◌}
use native.Mathlib.Nat as NatL
use native.Mathlib.Decide.{ℕ_discrete}
use native.Mathlib.Numerals.{add-one}
use native.Mathlib.Omega.{arith}
use lib.Dec.{T, eqb, eqb→eq, eqb_refl}
use lib.IntN.{ℤ, pos, ◌+ℤ◌, ◌*ℤ◌, +ℤ_assoc, +ℤ_idl, +ℤ_idr, zero-*ℤ, *ℤ-zero, *ℤ_comm}
use Rattle.algebra.specs.Sum.{sum_to, sum_over}
use Rattle.algebra.specs.Quadratic.{point}
use Rattle.algebra.proofs.Ring.{+ℤ-swap4, *ℤ-distl}

-- ---- one term more, and terms that are equal
pub sum_next : (n : ℕ) (f : ℕ → ℤ) → sum_to n f +ℤ f n ≡ sum_to (n + 1) f
unfolding sum_to
sum_next n f = rw add-one refl

pub sum_cong : (n : ℕ) {f g : ℕ → ℤ} → ((i : ℕ) → i < n → f i ≡ g i) → sum_to n f ≡ sum_to n g
unfolding sum_to
sum_cong zero h = refl
sum_cong (suc n) h = ap₂ (λ x y. x +ℤ y) (sum_cong n (λ i k. h i (omega arith))) (h n (omega arith))

-- ---- a sum of which every term is 0
pub sum_nil : (n : ℕ) → sum_to n (λ i. pos zero) ≡ pos zero
unfolding sum_to
sum_nil zero = refl
sum_nil (suc n) = ap (λ x. x +ℤ pos zero) (sum_nil n)

pub sum_zeros : (n : ℕ) {f : ℕ → ℤ} → ((i : ℕ) → i < n → f i ≡ pos zero) → sum_to n f ≡ pos zero
sum_zeros n h = sum_cong n h ∙ sum_nil n

-- ---- linearity
pub sum_add : (n : ℕ) (f g : ℕ → ℤ) → sum_to n (λ i. f i +ℤ g i) ≡ sum_to n f +ℤ sum_to n g
unfolding sum_to
sum_add zero f g = refl
sum_add (suc n) f g = ap (λ x. x +ℤ (f n +ℤ g n)) (sum_add n f g) ∙ +ℤ-swap4 (sum_to n f) (sum_to n g) (f n) (g n)

pub sum_scale : (n : ℕ) (a : ℤ) (f : ℕ → ℤ) → sum_to n (λ i. a *ℤ f i) ≡ a *ℤ sum_to n f
unfolding sum_to
sum_scale zero a f = sym (*ℤ-zero a)
sum_scale (suc n) a f = ap (λ x. x +ℤ a *ℤ f n) (sum_scale n a f) ∙ sym (*ℤ-distl a (sum_to n f) (f n))

pub sum_scale_r : (n : ℕ) (f : ℕ → ℤ) (a : ℤ) → sum_to n (λ i. f i *ℤ a) ≡ sum_to n f *ℤ a
sum_scale_r n f a = sum_cong n (λ i h. *ℤ_comm (f i) a) ∙ sum_scale n a f ∙ *ℤ_comm a (sum_to n f)

-- ---- two sums exchanged, a sum split, and a product of two sums
pub sum_swap : (m n : ℕ) (f : ℕ → ℕ → ℤ) → sum_to m (λ i. sum_to n (λ j. f i j)) ≡ sum_to n (λ j. sum_to m (λ i. f i j))
unfolding sum_to
sum_swap zero n f = sym (sum_nil n)
sum_swap (suc m) n f = ap (λ x. x +ℤ sum_to n (f m)) (sum_swap m n f) ∙ sym (sum_add n (λ j. sum_to m (λ i. f i j)) (f m))

pub sum_split : (m n : ℕ) (f : ℕ → ℤ) → sum_to (m + n) f ≡ sum_to m f +ℤ sum_to n (λ i. f (m + i))
unfolding sum_to
sum_split m zero f = rw (NatL.add-zero m) (sym (+ℤ_idr (sum_to m f)))
sum_split m (suc n) f =
    rw (NatL.add-suc m n)
    (ap (λ x. x +ℤ f (m + n)) (sum_split m n f)
    ∙ +ℤ_assoc (sum_to m f) (sum_to n (λ i. f (m + i))) (f (m + n)))

pub sum_mul : (m n : ℕ) (f g : ℕ → ℤ) → sum_to m f *ℤ sum_to n g ≡ sum_to m (λ i. sum_to n (λ j. f i *ℤ g j))
sum_mul m n f g = sym (sum_cong m (λ i h. sum_scale n (f i) g) ∙ sum_scale_r m f (sum_to n g))

-- ---- the point function: a at k, and 0 elsewhere
cond_yes : (b : Bool) (x y : ℤ) → T b → cond b x y ≡ x
cond_yes true x y t = refl
cond_yes false x y t = absurd t

cond_no : (b : Bool) (x y : ℤ) → (T b → ⊥) → cond b x y ≡ y
cond_no true x y t = absurd (t tt)
cond_no false x y t = refl

pub point_same : (k : ℕ) (a : ℤ) → point k a k ≡ a
unfolding point
point_same k a = cond_yes (eqb k k) a (pos zero) (eqb_refl k)

pub point_other : (k : ℕ) (a : ℤ) (i : ℕ) → (i ≡ k → ⊥) → point k a i ≡ pos zero
unfolding point
point_other k a i h = cond_no (eqb i k) a (pos zero) (λ t. h (eqb→eq i k t))

-- ---- a sum of which only the term k is not 0
pub sum_one : (n k : ℕ) (f : ℕ → ℤ) → k < n → ((i : ℕ) → i < n → (i ≡ k → ⊥) → f i ≡ pos zero) → sum_to n f ≡ f k
unfolding sum_to
sum_one zero k f h z = absurd (NatL.not-suc-le-zero h)
sum_one (suc n) k f h z = go (ℕ_discrete n k) (sum_one n k f)
  where
    go : Dec (n ≡ k) → (k < n → ((i : ℕ) → i < n → (i ≡ k → ⊥) → f i ≡ pos zero) → sum_to n f ≡ f k)
        → sum_to n f +ℤ f n ≡ f k
    go (yes e) ih =
        ap (λ x. x +ℤ f n) (sum_zeros n (λ i l. z i (omega arith) (λ q. omega arith)))
        ∙ +ℤ_idl (f n) ∙ ap f e
    go (no d) ih =
        ap₂ (λ x y. x +ℤ y) (ih (omega arith) (λ i l q. z i (omega arith) q)) (z n (omega arith) d)
        ∙ +ℤ_idr (f k)

pub sum_point : (n k : ℕ) (a : ℤ) (g : ℕ → ℤ) → k < n → sum_to n (λ i. point k a i *ℤ g i) ≡ a *ℤ g k
sum_point n k a g h =
    sum_one n k (λ i. point k a i *ℤ g i) h (λ i l d. ap (λ x. x *ℤ g i) (point_other k a i d) ∙ zero-*ℤ (g i))
    ∙ ap (λ x. x *ℤ g k) (point_same k a)

-- ---- over a list
module _ {A : Type 0} where
  pub sum_over_cong : (l : List A) {f g : A → ℤ} → ((c : A) → f c ≡ g c) → sum_over l f ≡ sum_over l g
  unfolding sum_over
  sum_over_cong [] h = refl
  sum_over_cong (c ∷ l) h = ap₂ (λ x y. x +ℤ y) (h c) (sum_over_cong l h)

  pub sum_over_scale : (l : List A) (a : ℤ) (f : A → ℤ) → sum_over l (λ c. a *ℤ f c) ≡ a *ℤ sum_over l f
  unfolding sum_over
  sum_over_scale [] a f = sym (*ℤ-zero a)
  sum_over_scale (c ∷ l) a f = ap (λ x. a *ℤ f c +ℤ x) (sum_over_scale l a f) ∙ sym (*ℤ-distl a (f c) (sum_over l f))
