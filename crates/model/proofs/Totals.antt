-- Laws of the sum f 0 + f 1 + … + f (n - 1), the total of a tabulated list.
--   total_next              one term more
--   total_same, total_none  terms that are equal to others, terms that are 0
--   total_const             terms that are one number
--   total_plus, total_times linearity
--   total_swap              two sums exchanged
--   total_one               only one term is not 0
--   total_most              at most n × k, where each term is at most k
--   total_grid              rows of columns
--   total_slide             one place further on
use mathlib.Core.Path.{◌≡◌, refl, sym, ◌∙◌, ap}
use Prim.Native.Nat.{ℕ, zero, suc, ◌+◌, ◌*◌, ◌≤◌, ◌<◌}
use native.Mathlib.Decide.{ℕ_discrete}
use native.Mathlib.Nat.{mul-add, suc-mul, not-suc-le-zero}
use native.Mathlib.Numerals.{add-one}
use native.Mathlib.Omega.{arith}
use Rattle.model.specs.Basic.{tabulate}
use Rattle.model.specs.Psf.{total}
use Rattle.model.proofs.Basic.{tabulate-cong}
use Rattle.model.proofs.Tables.{by_rows, tabulate_part, tabulate_row, total_append, total_tabulate}

-- f 0 + f 1 + … + f (n - 1)
abbrev pub sum_below : ℕ → (ℕ → ℕ) → ℕ
sum_below n f = total (tabulate n f)

-- one term more
pub total_next : (n : ℕ) (f : ℕ → ℕ) → sum_below (n + 1) f ≡ sum_below n f + f n
total_next n f = ap (λ k. sum_below k f) (add-one n) ∙ total_tabulate n f

-- terms that are equal to others, terms that are 0, terms that are one number
pub total_same : (n : ℕ) {f g : ℕ → ℕ} → ((i : ℕ) → i < n → f i ≡ g i) → sum_below n f ≡ sum_below n g
total_same n h = ap total (tabulate-cong n h)

pub total_nil : (f : ℕ → ℕ) → sum_below 0 f ≡ 0
unfolding tabulate total
total_nil f = refl

pub total_none : (n : ℕ) {f : ℕ → ℕ} → ((i : ℕ) → i < n → f i ≡ 0) → sum_below n f ≡ 0
total_none zero h = total_nil _
total_none (suc n) {f} h =
    total_tabulate n f ∙ omega (arith, total_none n (λ i l. h i (omega arith)), h n (omega arith))

-- terms of which only one is not 0
pub total_one : (n d : ℕ) (f : ℕ → ℕ) → d < n → ((i : ℕ) → (d ≡ i → ⊥) → f i ≡ 0) → sum_below n f ≡ f d
total_one zero d f h none = absurd (not-suc-le-zero h)
total_one (suc n) d f h none = total_tabulate n f ∙ go (ℕ_discrete d n) (λ l. total_one n d f l none)
  where
    go : Dec (d ≡ n) → (d < n → sum_below n f ≡ f d) → sum_below n f + f n ≡ f d
    go (yes e) ih = omega (arith, total_none n (λ i l. none i (λ q. omega (arith, q, e, l))), ap f e)
    go (no e) ih = omega (arith, ih (omega arith), none n e)

pub total_const : (n k : ℕ) → sum_below n (λ i. k) ≡ n * k
total_const zero k = total_nil (λ i. k) ∙ omega arith
total_const (suc n) k = omega (arith, total_tabulate n (λ i. k), total_const n k, suc-mul n k)

pub total_plus : (n : ℕ) (f g : ℕ → ℕ) → sum_below n (λ i. f i + g i) ≡ sum_below n f + sum_below n g
total_plus zero f g = omega (arith, total_nil f, total_nil g, total_nil (λ i. f i + g i))
total_plus (suc n) f g =
    omega (arith, total_tabulate n f, total_tabulate n g, total_tabulate n (λ i. f i + g i), total_plus n f g)

pub total_times : (n k : ℕ) (f : ℕ → ℕ) → sum_below n (λ i. k * f i) ≡ k * sum_below n f
total_times zero k f = total_nil (λ i. k * f i) ∙ rw (total_nil f) (omega arith)
total_times (suc n) k f =
    total_tabulate n (λ i. k * f i)
    ∙ ap (λ z. z + k * f n) (total_times n k f)
    ∙ sym (mul-add k (sum_below n f) (f n))
    ∙ ap (λ z. k * z) (sym (total_tabulate n f))

pub total_swap : (m n : ℕ) (f : ℕ → ℕ → ℕ)
    → sum_below m (λ i. sum_below n (λ j. f i j)) ≡ sum_below n (λ j. sum_below m (λ i. f i j))
total_swap zero n f =
    total_nil _ ∙ sym (total_none n (λ j h. total_nil (λ i. f i j)))
total_swap (suc m) n f =
    total_tabulate m (λ i. sum_below n (f i))
    ∙ ap (λ z. z + sum_below n (f m)) (total_swap m n f)
    ∙ sym (total_plus n (λ j. sum_below m (λ i. f i j)) (f m))
    ∙ total_same n (λ j h. sym (total_tabulate m (λ i. f i j)))

pub total_most : (n k : ℕ) (f : ℕ → ℕ) → ((i : ℕ) → i < n → f i ≤ k) → sum_below n f ≤ n * k
total_most zero k f h = omega (arith, total_nil f)
total_most (suc n) k f h =
    omega (arith, total_tabulate n f, total_most n k f (λ i l. h i (omega arith)), h n (omega arith), suc-mul n k)

pub total_part : (n m : ℕ) (f : ℕ → ℕ) → sum_below (n + m) f ≡ sum_below n f + sum_below m (λ i. f (n + i))
total_part n m f = ap total (tabulate_part f n m) ∙ total_append (tabulate n f) (tabulate m (λ i. f (n + i)))

-- of H rows of W
pub total_grid : (H W : ℕ) (f : ℕ → ℕ → ℕ) → sum_below (H * W) (by_rows W f) ≡ sum_below H (λ y. sum_below W (f y))
total_grid zero W f = let none : 0 * W ≡ 0 = omega arith in rw none (total_nil (by_rows W f) ∙ sym (total_nil _))
total_grid (suc y) W f =
    let next : suc y * W ≡ (y + 1) * W = ap (λ k. k * W) (omega arith) in
    ap (λ k. sum_below k (by_rows W f)) next
    ∙ ap total (tabulate_row W f y)
    ∙ total_append (tabulate (y * W) (by_rows W f)) (tabulate W (f y))
    ∙ ap (λ z. z + sum_below W (f y)) (total_grid y W f)
    ∙ sym (total_tabulate y (λ y. sum_below W (f y)))

-- n terms from x on and the one after them: the first, and n from the next on
pub total_slide : (n x : ℕ) (f : ℕ → ℕ)
    → f x + sum_below n (λ i. f (suc x + i)) ≡ sum_below n (λ i. f (x + i)) + f (x + n)
total_slide zero x f =
    let here : x + 0 ≡ x = omega arith in
    omega (arith, ap f here, total_nil (λ i. f (suc x + i)), total_nil (λ i. f (x + i)))
total_slide (suc n) x f =
    let there : suc x + n ≡ x + suc n = omega arith in
    omega (
      arith,
      total_slide n x f,
      total_tabulate n (λ i. f (suc x + i)),
      total_tabulate n (λ i. f (x + i)),
      ap f there,
    )
