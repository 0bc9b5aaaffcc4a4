-- ℤ is a commutative ring: the laws that lib.IntN leaves out.
--   +ℤ-left-comm, +ℤ-swap4  sums rearranged
--   *ℤ-distr, *ℤ-distl      a product distributes over a sum
--   negℤ-*ℤ, *ℤ-negℤ        a factor that is negated
--   *ℤ-assoc, *ℤ-left-comm  products rearranged
--   ringℤ                   the laws that bring an expression to a sum of products, for simp
use mathlib.Core.Path.{◌≡◌, sym, ◌∙◌, ap, ap₂}
use Prim.Native.Nat.{zero, suc}
use lib.IntN.{ℤ, pos, negsuc, pred_ℤ, neg_ℤ, ◌+ℤ◌, ◌-ℤ◌, ◌*ℤ◌, +ℤ_assoc, +ℤ_comm, +ℤ_idl, +ℤ_idr, +ℤ_invl, +ℤ-suc_ℤ}
use lib.IntN.{+ℤ-pred_ℤ, +ℤ-neg_ℤ_cancel, suc_ℤ-*ℤ, pred_ℤ-*ℤ, zero-*ℤ, *ℤ_comm, neg_ℤ-+ℤ, neg_ℤ-neg_ℤ}

-- ---- sums rearranged
pub +ℤ-left-comm : (a b c : ℤ) → a +ℤ (b +ℤ c) ≡ b +ℤ (a +ℤ c)
+ℤ-left-comm a b c = sym (+ℤ_assoc a b c) ∙ ap (λ x. x +ℤ c) (+ℤ_comm a b) ∙ +ℤ_assoc b a c

pub +ℤ-swap4 : (a b c d : ℤ) → (a +ℤ b) +ℤ (c +ℤ d) ≡ (a +ℤ c) +ℤ (b +ℤ d)
+ℤ-swap4 a b c d = simp (+ℤ_assoc, +ℤ-left-comm)

-- ---- one is neutral
pub one-*ℤ : (k : ℤ) → pos 1 *ℤ k ≡ k
one-*ℤ k = suc_ℤ-*ℤ (pos zero) k ∙ ap (λ x. x +ℤ k) (zero-*ℤ k) ∙ +ℤ_idl k

pub *ℤ-idr : (k : ℤ) → k *ℤ pos 1 ≡ k
*ℤ-idr k = *ℤ_comm k (pos 1) ∙ one-*ℤ k

-- ---- a product distributes over a sum
pub *ℤ-distr : (m k x : ℤ) → (m +ℤ k) *ℤ x ≡ m *ℤ x +ℤ k *ℤ x
*ℤ-distr m (pos zero) x = ap (λ z. z *ℤ x) (+ℤ_idr m) ∙ sym (+ℤ_idr (m *ℤ x)) ∙ ap (λ z. m *ℤ x +ℤ z) (sym (zero-*ℤ x))
*ℤ-distr m (pos (suc n)) x =
    ap (λ z. z *ℤ x) (+ℤ-suc_ℤ m (pos n)) ∙ suc_ℤ-*ℤ (m +ℤ pos n) x ∙ ap (λ z. z +ℤ x) (*ℤ-distr m (pos n) x)
    ∙ +ℤ_assoc (m *ℤ x) (pos n *ℤ x) x ∙ ap (λ z. m *ℤ x +ℤ z) (sym (suc_ℤ-*ℤ (pos n) x))
*ℤ-distr m (negsuc zero) x =
    ap (λ z. z *ℤ x) (+ℤ-pred_ℤ m (pos zero) ∙ ap pred_ℤ (+ℤ_idr m)) ∙ pred_ℤ-*ℤ m x
    ∙ ap (λ z. m *ℤ x +ℤ z) (sym (pred_ℤ-*ℤ (pos zero) x ∙ ap (λ z. z -ℤ x) (zero-*ℤ x) ∙ +ℤ_idl (neg_ℤ x)))
*ℤ-distr m (negsuc (suc n)) x =
    ap (λ z. z *ℤ x) (+ℤ-pred_ℤ m (negsuc n)) ∙ pred_ℤ-*ℤ (m +ℤ negsuc n) x ∙ ap (λ z. z -ℤ x) (*ℤ-distr m (negsuc n) x)
    ∙ +ℤ_assoc (m *ℤ x) (negsuc n *ℤ x) (neg_ℤ x) ∙ ap (λ z. m *ℤ x +ℤ z) (sym (pred_ℤ-*ℤ (negsuc n) x))

pub *ℤ-distl : (x m k : ℤ) → x *ℤ (m +ℤ k) ≡ x *ℤ m +ℤ x *ℤ k
*ℤ-distl x m k = *ℤ_comm x (m +ℤ k) ∙ *ℤ-distr m k x ∙ ap₂ (λ a b. a +ℤ b) (*ℤ_comm m x) (*ℤ_comm k x)

-- ---- cancellation
pub +ℤ-cancel-r : (a b k : ℤ) → a +ℤ k ≡ b +ℤ k → a ≡ b
+ℤ-cancel-r a b k e = sym (+ℤ-neg_ℤ_cancel a k) ∙ ap (λ x. x -ℤ k) e ∙ +ℤ-neg_ℤ_cancel b k

-- ---- negation
pub neg_unique : (a b : ℤ) → a +ℤ b ≡ pos zero → a ≡ neg_ℤ b
neg_unique a b e = +ℤ-cancel-r a (neg_ℤ b) b (e ∙ sym (+ℤ_invl b))

pub negℤ-*ℤ : (a b : ℤ) → neg_ℤ a *ℤ b ≡ neg_ℤ (a *ℤ b)
negℤ-*ℤ a b = neg_unique (neg_ℤ a *ℤ b) (a *ℤ b) (sym (*ℤ-distr (neg_ℤ a) a b) ∙ ap (λ z. z *ℤ b) (+ℤ_invl a) ∙ zero-*ℤ b)

pub *ℤ-negℤ : (a b : ℤ) → a *ℤ neg_ℤ b ≡ neg_ℤ (a *ℤ b)
*ℤ-negℤ a b = *ℤ_comm a (neg_ℤ b) ∙ negℤ-*ℤ b a ∙ ap neg_ℤ (*ℤ_comm b a)

pub neg-one-*ℤ : (b : ℤ) → negsuc 0 *ℤ b ≡ neg_ℤ b
neg-one-*ℤ b = negℤ-*ℤ (pos 1) b ∙ ap neg_ℤ (one-*ℤ b)

-- ---- products rearranged
pub *ℤ-assoc : (a b c : ℤ) → (a *ℤ b) *ℤ c ≡ a *ℤ (b *ℤ c)
*ℤ-assoc (pos zero) b c = ap (λ z. z *ℤ c) (zero-*ℤ b) ∙ zero-*ℤ c ∙ sym (zero-*ℤ (b *ℤ c))
*ℤ-assoc (pos (suc n)) b c =
    ap (λ z. z *ℤ c) (suc_ℤ-*ℤ (pos n) b) ∙ *ℤ-distr (pos n *ℤ b) b c
    ∙ ap (λ z. z +ℤ b *ℤ c) (*ℤ-assoc (pos n) b c) ∙ sym (suc_ℤ-*ℤ (pos n) (b *ℤ c))
*ℤ-assoc (negsuc zero) b c = ap (λ z. z *ℤ c) (neg-one-*ℤ b) ∙ negℤ-*ℤ b c ∙ sym (neg-one-*ℤ (b *ℤ c))
*ℤ-assoc (negsuc (suc n)) b c =
    ap (λ z. z *ℤ c) (pred_ℤ-*ℤ (negsuc n) b) ∙ *ℤ-distr (negsuc n *ℤ b) (neg_ℤ b) c
    ∙ ap₂ (λ y z. y +ℤ z) (*ℤ-assoc (negsuc n) b c) (negℤ-*ℤ b c) ∙ sym (pred_ℤ-*ℤ (negsuc n) (b *ℤ c))

pub *ℤ-left-comm : (a b c : ℤ) → a *ℤ (b *ℤ c) ≡ b *ℤ (a *ℤ c)
*ℤ-left-comm a b c = sym (*ℤ-assoc a b c) ∙ ap (λ x. x *ℤ c) (*ℤ_comm a b) ∙ *ℤ-assoc b a c

-- ---- the laws that bring an expression to a sum of products, for simp
pub ruleset ringℤ = (
  +ℤ_assoc,
  +ℤ_comm,
  +ℤ-left-comm,
  *ℤ-assoc,
  *ℤ_comm,
  *ℤ-left-comm,
  *ℤ-distr,
  *ℤ-distl,
  negℤ-*ℤ,
  *ℤ-negℤ,
  neg_ℤ-+ℤ,
  neg_ℤ-neg_ℤ,
)
