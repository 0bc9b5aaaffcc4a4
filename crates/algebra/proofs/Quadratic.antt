-- The law of an edit (document 004, equations 13 and 21): what a list of cells, each with the amount it gains, adds to
-- the transform and to the quadratic form of a symmetric kernel. Then a sum of squares of linear forms.
--   transform_edit  what an edit adds to the transform
--   quadratic_edit  and to the quadratic form
--   quadratic_cong  kernels that are equal
--   gram            a double sum of squares of linear forms is the quadratic form of their Gram matrix
use mathlib.Core.Path.{◌≡◌, refl, sym, ◌∙◌, ap, ap₂}
use mathlib.Core.List.{List, [], ◌∷◌}
use Prim.Native.Nat.{ℕ, ◌<◌}
use lib.IntN.{ℤ, pos, ◌+ℤ◌, ◌*ℤ◌, zero-*ℤ, *ℤ_comm}
use Rattle.algebra.proofs.Ring.{*ℤ-assoc, *ℤ-distr, *ℤ-distl}
use Rattle.algebra.proofs.Solver.{ring!, reify}
use Rattle.algebra.specs.Sum.{sum_to, sum_over}
use Rattle.algebra.specs.Quadratic.{transform, bilinear, quadratic, Increment, Within, point, gained, edited}
use Rattle.algebra.proofs.Sum.{sum_cong, sum_nil, sum_add, sum_scale, sum_scale_r, sum_swap, sum_mul, sum_point}
use Rattle.algebra.proofs.Sum.{sum_over_cong, sum_over_scale}

-- ---- what an edit gains: a sum weighed by it is a sum over the edit's list
pub sum_gained : (N : ℕ) (l : List Increment) (g : ℕ → ℤ) → Within N l
    → sum_to N (λ n. gained l n *ℤ g n) ≡ sum_over l (λ c. c.amount *ℤ g c.cell)
unfolding gained sum_over
sum_gained N [] g w = sum_cong N (λ i h. zero-*ℤ (g i)) ∙ sum_nil N
sum_gained N (c ∷ l) g w =
    sum_cong N (λ i h. *ℤ-distr (point c.cell c.amount i) (gained l i) (g i))
    ∙ sum_add N (λ i. point c.cell c.amount i *ℤ g i) (λ i. gained l i *ℤ g i)
    ∙ ap₂ (λ x y. x +ℤ y) (sum_point N c.cell c.amount g w.0) (sum_gained N l g w.1)

module _ (C : ℕ → ℕ → ℤ) (N : ℕ) where
  -- ---- the transform
  pub transform_add : (x y : ℕ → ℤ) (m : ℕ) → transform C N (λ n. x n +ℤ y n) m ≡ transform C N x m +ℤ transform C N y m
  unfolding transform
  transform_add x y m =
      sum_cong N (λ i h. *ℤ-distl (C i m) (x i) (y i))
      ∙ sum_add N (λ i. C i m *ℤ x i) (λ i. C i m *ℤ y i)

  pub transform_gained : (l : List Increment) (q : ℕ) → Within N l
      → transform C N (gained l) q ≡ sum_over l (λ c. c.amount *ℤ C c.cell q)
  unfolding transform
  transform_gained l q w = sum_cong N (λ i h. *ℤ_comm (C i q) (gained l i)) ∙ sum_gained N l (λ n. C n q) w

  pub transform_edit : (x : ℕ → ℤ) (l : List Increment) (q : ℕ) → Within N l
      → transform C N (edited x l) q ≡ transform C N x q +ℤ sum_over l (λ c. c.amount *ℤ C c.cell q)
  unfolding edited
  transform_edit x l q w = transform_add x (gained l) q ∙ ap (λ z. transform C N x q +ℤ z) (transform_gained l q w)

  -- ---- the bilinear form
  bilinear_add_l : (x y z : ℕ → ℤ) → bilinear C N (λ n. x n +ℤ y n) z ≡ bilinear C N x z +ℤ bilinear C N y z
  unfolding bilinear
  bilinear_add_l x y z =
      sum_cong N (λ i h. *ℤ-distr (x i) (y i) (transform C N z i))
      ∙ sum_add N (λ i. x i *ℤ transform C N z i) (λ i. y i *ℤ transform C N z i)

  bilinear_add_r : (x y z : ℕ → ℤ) → bilinear C N x (λ n. y n +ℤ z n) ≡ bilinear C N x y +ℤ bilinear C N x z
  unfolding bilinear
  bilinear_add_r x y z =
      sum_cong N (λ i h.
      ap (λ t. x i *ℤ t) (transform_add y z i) ∙ *ℤ-distl (x i) (transform C N y i) (transform C N z i))
      ∙ sum_add N (λ i. x i *ℤ transform C N y i) (λ i. x i *ℤ transform C N z i)

  bilinear_gained : (l : List Increment) (y : ℕ → ℤ) → Within N l
      → bilinear C N (gained l) y ≡ sum_over l (λ c. c.amount *ℤ transform C N y c.cell)
  unfolding bilinear
  bilinear_gained l y w = sum_gained N l (transform C N y) w

  -- as a double sum
  bilinear_flat : (x y : ℕ → ℤ) → bilinear C N x y ≡ sum_to N (λ m. sum_to N (λ n. x m *ℤ (C n m *ℤ y n)))
  unfolding bilinear transform
  bilinear_flat x y = sum_cong N (λ m h. sym (sum_scale N (x m) (λ n. C n m *ℤ y n)))

  -- ---- a symmetric kernel
  module _ (symm : (m n : ℕ) → m < N → n < N → C m n ≡ C n m) where
    pub bilinear_comm : (x y : ℕ → ℤ) → bilinear C N x y ≡ bilinear C N y x
    bilinear_comm x y =
        bilinear_flat x y
        ∙ sum_cong N (λ m h. sum_cong N (λ n k. turn m n h k))
        ∙ sum_swap N N (λ m n. y n *ℤ (C m n *ℤ x m))
        ∙ sym (bilinear_flat y x)
      where
        turn : (m n : ℕ) → m < N → n < N → x m *ℤ (C n m *ℤ y n) ≡ y n *ℤ (C m n *ℤ x m)
        turn m n h k = rw (symm n m k h) (ring! (x m ∷ C m n ∷ y n ∷ []) (search reify depth 40 fits 9000) refl)

    -- the law of an edit
    pub quadratic_edit : (x : ℕ → ℤ) (l : List Increment) → Within N l
        → quadratic C N (edited x l) ≡ quadratic C N x
        +ℤ pos 2 *ℤ sum_over l (λ c. c.amount *ℤ transform C N x c.cell)
        +ℤ sum_over l (λ c. sum_over l (λ d. c.amount *ℤ d.amount *ℤ C d.cell c.cell))
    unfolding quadratic edited
    quadratic_edit x l w =
        bilinear_add_l x (gained l) (edited x l)
        ∙ ap₂ (λ a b. a +ℤ b) (bilinear_add_r x x (gained l)) (bilinear_add_r (gained l) x (gained l))
        ∙ ap (λ z. bilinear C N x x +ℤ z +ℤ (bilinear C N (gained l) x +ℤ bilinear C N (gained l) (gained l)))
        (bilinear_comm x (gained l))
        ∙ twice (bilinear C N x x) (bilinear C N (gained l) x) (bilinear C N (gained l) (gained l))
        ∙ ap₂ (λ a b. bilinear C N x x +ℤ pos 2 *ℤ a +ℤ b)
        (bilinear_gained l x w) (bilinear_gained l (gained l) w ∙ sum_over_cong l inner)
      where
        twice : (a b c : ℤ) → a +ℤ b +ℤ (b +ℤ c) ≡ a +ℤ pos 2 *ℤ b +ℤ c
        twice a b c = ring! (a ∷ b ∷ c ∷ []) (search reify depth 40 fits 9000) refl

        inner : (c : Increment) → c.amount *ℤ transform C N (gained l) c.cell
            ≡ sum_over l (λ d. c.amount *ℤ d.amount *ℤ C d.cell c.cell)
        inner c =
            ap (λ z. c.amount *ℤ z) (transform_gained l c.cell w)
            ∙ sym (sum_over_scale l c.amount (λ d. d.amount *ℤ C d.cell c.cell))
            ∙ sum_over_cong l (λ d. sym (*ℤ-assoc c.amount d.amount (C d.cell c.cell)))

-- ---- the form is linear in the kernel, and a square of a linear form is a quadratic form
pub quadratic_cong : (N : ℕ) (C D : ℕ → ℕ → ℤ) (e : ℕ → ℤ)
    → ((m n : ℕ) → m < N → n < N → C m n ≡ D m n)
    → quadratic C N e ≡ quadratic D N e
unfolding quadratic bilinear transform
quadratic_cong N C D e h = sum_cong N (λ m k. ap (λ z. e m *ℤ z) (sum_cong N (λ n l. ap (λ z. z *ℤ e n) (h n m l k))))

pub quadratic_sum : (K N : ℕ) (C : ℕ → ℕ → ℕ → ℤ) (e : ℕ → ℤ)
    → sum_to K (λ y. quadratic (C y) N e) ≡ quadratic (λ m n. sum_to K (λ y. C y m n)) N e
unfolding quadratic bilinear transform
quadratic_sum K N C e =
    sum_swap K N (λ y m. e m *ℤ sum_to N (λ n. C y n m *ℤ e n))
    ∙ sum_cong N (λ m h.
    sum_scale K (e m) (λ y. sum_to N (λ n. C y n m *ℤ e n))
    ∙ ap (λ z. e m *ℤ z)
    (sum_swap K N (λ y n. C y n m *ℤ e n) ∙ sum_cong N (λ n k. sum_scale_r K (λ y. C y n m) (e n))))

pub quadratic_square : (N : ℕ) (φ e : ℕ → ℤ)
    → sum_to N (λ n. e n *ℤ φ n) *ℤ sum_to N (λ n. e n *ℤ φ n) ≡ quadratic (λ m n. φ m *ℤ φ n) N e
unfolding quadratic bilinear transform
quadratic_square N φ e =
    sum_mul N N (λ n. e n *ℤ φ n) (λ n. e n *ℤ φ n)
    ∙ sum_cong N (λ m h. sum_cong N (λ n k. turn m n) ∙ sum_scale N (e m) (λ n. φ n *ℤ φ m *ℤ e n))
  where
    turn : (m n : ℕ) → (e m *ℤ φ m) *ℤ (e n *ℤ φ n) ≡ e m *ℤ (φ n *ℤ φ m *ℤ e n)
    turn m n = ring! (e m ∷ φ m ∷ e n ∷ φ n ∷ []) (search reify depth 40 fits 9000) refl

-- a double sum of squares of linear forms is the quadratic form of their Gram matrix
pub gram : (K L N : ℕ) (φ : ℕ → ℕ → ℕ → ℤ) (e : ℕ → ℤ)
    → sum_to K (λ y. sum_to L (λ x. sum_to N (λ n. e n *ℤ φ y x n) *ℤ sum_to N (λ n. e n *ℤ φ y x n)))
    ≡ quadratic (λ m n. sum_to K (λ y. sum_to L (λ x. φ y x m *ℤ φ y x n))) N e
gram K L N φ e =
    sum_cong K (λ y h.
    sum_cong L (λ x k. quadratic_square N (φ y x) e) ∙ quadratic_sum L N (λ x m n. φ y x m *ℤ φ y x n) e)
    ∙ quadratic_sum K N (λ y m n. sum_to L (λ x. φ y x m *ℤ φ y x n)) e
