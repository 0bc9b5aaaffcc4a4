-- A solver for ring identities of ℤ: both sides are read as expressions over a list of atoms, brought to a sorted
-- polynomial with integer coefficients, and compared by `refl`.
--   norm, norm_sound  the polynomial of an expression, and that their values are equal
--   quote, quote_is   the expression of a term of ℤ, and that its value is the term
--   reify             the rules by which `search` reads a term
--   ring!             an identity: ring! (a ∷ b ∷ []) (search reify depth 40) refl
use mathlib.Core.Path.{◌≡◌, refl, sym, ◌∙◌, ap, ap₂}
use mathlib.Core.List.{List, [], ◌∷◌}
use mathlib.Core.Bool.{Bool, true, false}
use Prim.Native.Nat.{ℕ, zero, suc, ◌+◌, ◌*◌, compare, Ordering}
use lib.Dec.{T, leb, eqb, compare_is_eq, eqb→eq}
use lib.IntN.{ℤ, pos, negsuc, neg_ℤ, ◌+ℤ◌, ◌*ℤ◌, +ℤ_assoc, +ℤ_idl, +ℤ_idr, zero-*ℤ, *ℤ-zero, neg_ℤ-+ℤ}
use Rattle.algebra.proofs.Ring.{ringℤ, +ℤ-left-comm, *ℤ-left-comm, *ℤ-assoc, *ℤ-distr, one-*ℤ, *ℤ-idr, negℤ-*ℤ}

-- ---- expressions
infixl 6 ◌⊞◌
infixl 7 ◌⊠◌
pub data Ex : Type 0 where
  var : ℕ → Ex
  lit : ℤ → Ex
  ◌⊞◌ : Ex → Ex → Ex
  ◌⊠◌ : Ex → Ex → Ex
  ⊟ : Ex → Ex

abbrev pub nth_z : List ℤ → ℕ → ℤ
nth_z [] i = pos zero
nth_z (x ∷ ρ) zero = x
nth_z (x ∷ ρ) (suc i) = nth_z ρ i

abbrev pub den : List ℤ → Ex → ℤ
den ρ (var i) = nth_z ρ i
den ρ (lit k) = k
den ρ (a ⊞ b) = den ρ a +ℤ den ρ b
den ρ (a ⊠ b) = den ρ a *ℤ den ρ b
den ρ (⊟ a) = neg_ℤ (den ρ a)

-- ---- polynomials: a coefficient and a monomial, a sorted list of variables, for each term; the terms sorted
pub data Poly : Type 0 where
  nil : Poly
  term : ℤ → List ℕ → Poly → Poly

abbrev pub ev_m : List ℤ → List ℕ → ℤ
ev_m ρ [] = pos 1
ev_m ρ (i ∷ m) = nth_z ρ i *ℤ ev_m ρ m

abbrev pub ev_p : List ℤ → Poly → ℤ
ev_p ρ nil = pos zero
ev_p ρ (term c m p) = c *ℤ ev_m ρ m +ℤ ev_p ρ p

-- ---- the order of monomials
abbrev pub then : Ordering → Ordering → Ordering
then Ordering.lt o = Ordering.lt
then Ordering.eq o = o
then Ordering.gt o = Ordering.gt

abbrev pub cmp_m : List ℕ → List ℕ → Ordering
cmp_m [] [] = Ordering.eq
cmp_m [] (j ∷ n) = Ordering.lt
cmp_m (i ∷ m) [] = Ordering.gt
cmp_m (i ∷ m) (j ∷ n) = then (compare i j) (cmp_m m n)

then_l : (o p : Ordering) → T (compare_is_eq (then o p)) → T (compare_is_eq o)
then_l Ordering.lt p t = t
then_l Ordering.eq p t = tt
then_l Ordering.gt p t = t

then_r : (o p : Ordering) → T (compare_is_eq (then o p)) → T (compare_is_eq p)
then_r Ordering.lt p t = absurd t
then_r Ordering.eq p t = t
then_r Ordering.gt p t = absurd t

cmp_m_eq : (m n : List ℕ) → T (compare_is_eq (cmp_m m n)) → m ≡ n
cmp_m_eq [] [] t = refl
cmp_m_eq [] (j ∷ n) t = absurd t
cmp_m_eq (i ∷ m) [] t = absurd t
cmp_m_eq (i ∷ m) (j ∷ n) t =
    ap₂ (λ x y. x ∷ y)
    (eqb→eq i j (then_l (compare i j) (cmp_m m n) t))
    (cmp_m_eq m n (then_r (compare i j) (cmp_m m n) t))

-- ---- products of monomials: a variable is put at its place
abbrev pub put_m : Bool → ℕ → ℕ → List ℕ → List ℕ → List ℕ
put_m true i j m r = i ∷ j ∷ m
put_m false i j m r = j ∷ r

abbrev pub ins_m : ℕ → List ℕ → List ℕ
ins_m i [] = i ∷ []
ins_m i (j ∷ m) = put_m (leb i j) i j m (ins_m i m)

abbrev pub mul_m : List ℕ → List ℕ → List ℕ
mul_m [] n = n
mul_m (i ∷ m) n = ins_m i (mul_m m n)

-- what a product of monomials comes to
module _ (ρ : List ℤ) where
  ev_put : (b : Bool) (i j : ℕ) (m r : List ℕ) → ev_m ρ r ≡ nth_z ρ i *ℤ ev_m ρ m
      → ev_m ρ (put_m b i j m r) ≡ nth_z ρ i *ℤ (nth_z ρ j *ℤ ev_m ρ m)
  ev_put true i j m r e = refl
  ev_put false i j m r e = ap (λ x. nth_z ρ j *ℤ x) e ∙ *ℤ-left-comm (nth_z ρ j) (nth_z ρ i) (ev_m ρ m)

  ev_ins : (i : ℕ) (m : List ℕ) → ev_m ρ (ins_m i m) ≡ nth_z ρ i *ℤ ev_m ρ m
  ev_ins i [] = refl
  ev_ins i (j ∷ m) = ev_put (leb i j) i j m (ins_m i m) (ev_ins i m)

  ev_mul_m : (m n : List ℕ) → ev_m ρ (mul_m m n) ≡ ev_m ρ m *ℤ ev_m ρ n
  ev_mul_m [] n = sym (one-*ℤ (ev_m ρ n))
  ev_mul_m (i ∷ m) n =
      ev_ins i (mul_m m n) ∙ ap (λ x. nth_z ρ i *ℤ x) (ev_mul_m m n)
      ∙ sym (*ℤ-assoc (nth_z ρ i) (ev_m ρ m) (ev_m ρ n))

-- ---- polynomials: a term is put at its place, and dropped where its coefficient is 0
abbrev pub termz : ℤ → List ℕ → Poly → Poly
termz (pos zero) m p = p
termz (pos (suc k)) m p = term (pos (suc k)) m p
termz (negsuc k) m p = term (negsuc k) m p

abbrev pub put_t : Ordering → ℤ → List ℕ → ℤ → List ℕ → Poly → Poly → Poly
put_t Ordering.lt c m d n p r = term c m (term d n p)
put_t Ordering.eq c m d n p r = termz (c +ℤ d) n p
put_t Ordering.gt c m d n p r = term d n r

abbrev pub add_t : ℤ → List ℕ → Poly → Poly
add_t c m nil = termz c m nil
add_t c m (term d n p) = put_t (cmp_m m n) c m d n p (add_t c m p)

abbrev pub add_p : Poly → Poly → Poly
add_p nil q = q
add_p (term c m p) q = add_t c m (add_p p q)

abbrev pub mul_t : ℤ → List ℕ → Poly → Poly → Poly
mul_t c m nil r = r
mul_t c m (term d n p) r = add_t (c *ℤ d) (mul_m m n) (mul_t c m p r)

abbrev pub mul_p : Poly → Poly → Poly
mul_p nil q = nil
mul_p (term c m p) q = mul_t c m q (mul_p p q)

abbrev pub neg_p : Poly → Poly
neg_p nil = nil
neg_p (term c m p) = term (neg_ℤ c) m (neg_p p)

-- the polynomial of an expression
abbrev pub norm : Ex → Poly
norm (var i) = term (pos 1) (i ∷ []) nil
norm (lit k) = termz k [] nil
norm (a ⊞ b) = add_p (norm a) (norm b)
norm (a ⊠ b) = mul_p (norm a) (norm b)
norm (⊟ a) = neg_p (norm a)

-- ---- the value of a polynomial is that of its expression
module _ (ρ : List ℤ) where
  ev_termz : (c : ℤ) (m : List ℕ) (p : Poly) → ev_p ρ (termz c m p) ≡ c *ℤ ev_m ρ m +ℤ ev_p ρ p
  ev_termz (pos zero) m p = sym (ap (λ x. x +ℤ ev_p ρ p) (zero-*ℤ (ev_m ρ m)) ∙ +ℤ_idl (ev_p ρ p))
  ev_termz (pos (suc k)) m p = refl
  ev_termz (negsuc k) m p = refl

  ev_put_t : (o : Ordering) (c : ℤ) (m : List ℕ) (d : ℤ) (n : List ℕ) (p r : Poly)
      → (T (compare_is_eq o) → m ≡ n) → ev_p ρ r ≡ c *ℤ ev_m ρ m +ℤ ev_p ρ p
      → ev_p ρ (put_t o c m d n p r) ≡ c *ℤ ev_m ρ m +ℤ (d *ℤ ev_m ρ n +ℤ ev_p ρ p)
  ev_put_t Ordering.lt c m d n p r f e = refl
  ev_put_t Ordering.eq c m d n p r f e =
      rw (f tt)
      (ev_termz (c +ℤ d) n p ∙ ap (λ x. x +ℤ ev_p ρ p) (*ℤ-distr c d (ev_m ρ n))
      ∙ +ℤ_assoc (c *ℤ ev_m ρ n) (d *ℤ ev_m ρ n) (ev_p ρ p))
  ev_put_t Ordering.gt c m d n p r f e =
      ap (λ x. d *ℤ ev_m ρ n +ℤ x) e ∙ +ℤ-left-comm (d *ℤ ev_m ρ n) (c *ℤ ev_m ρ m) (ev_p ρ p)

  ev_add_t : (c : ℤ) (m : List ℕ) (p : Poly) → ev_p ρ (add_t c m p) ≡ c *ℤ ev_m ρ m +ℤ ev_p ρ p
  ev_add_t c m nil = ev_termz c m nil
  ev_add_t c m (term d n p) = ev_put_t (cmp_m m n) c m d n p (add_t c m p) (cmp_m_eq m n) (ev_add_t c m p)

  ev_add_p : (p q : Poly) → ev_p ρ (add_p p q) ≡ ev_p ρ p +ℤ ev_p ρ q
  ev_add_p nil q = sym (+ℤ_idl (ev_p ρ q))
  ev_add_p (term c m p) q =
      ev_add_t c m (add_p p q) ∙ ap (λ x. c *ℤ ev_m ρ m +ℤ x) (ev_add_p p q)
      ∙ sym (+ℤ_assoc (c *ℤ ev_m ρ m) (ev_p ρ p) (ev_p ρ q))

  ev_mul_t : (c : ℤ) (m : List ℕ) (p r : Poly) → ev_p ρ (mul_t c m p r) ≡ (c *ℤ ev_m ρ m) *ℤ ev_p ρ p +ℤ ev_p ρ r
  ev_mul_t c m nil r = sym (ap (λ x. x +ℤ ev_p ρ r) (*ℤ-zero (c *ℤ ev_m ρ m)) ∙ +ℤ_idl (ev_p ρ r))
  ev_mul_t c m (term d n p) r =
      ev_add_t (c *ℤ d) (mul_m m n) (mul_t c m p r)
      ∙ ap₂ (λ x y. (c *ℤ d) *ℤ x +ℤ y) (ev_mul_m ρ m n) (ev_mul_t c m p r)
      ∙ regroup c d (ev_m ρ m) (ev_m ρ n) (ev_p ρ p) (ev_p ρ r)
    where
      regroup : (c d x y p r : ℤ) → (c *ℤ d) *ℤ (x *ℤ y) +ℤ ((c *ℤ x) *ℤ p +ℤ r) ≡ (c *ℤ x) *ℤ (d *ℤ y +ℤ p) +ℤ r
      regroup c d x y p r = simp ringℤ

  ev_mul_p : (p q : Poly) → ev_p ρ (mul_p p q) ≡ ev_p ρ p *ℤ ev_p ρ q
  ev_mul_p nil q = sym (zero-*ℤ (ev_p ρ q))
  ev_mul_p (term c m p) q =
      ev_mul_t c m q (mul_p p q) ∙ ap (λ x. (c *ℤ ev_m ρ m) *ℤ ev_p ρ q +ℤ x) (ev_mul_p p q)
      ∙ sym (*ℤ-distr (c *ℤ ev_m ρ m) (ev_p ρ p) (ev_p ρ q))

  ev_neg_p : (p : Poly) → ev_p ρ (neg_p p) ≡ neg_ℤ (ev_p ρ p)
  ev_neg_p nil = refl
  ev_neg_p (term c m p) = ap₂ (λ x y. x +ℤ y) (negℤ-*ℤ c (ev_m ρ m)) (ev_neg_p p) ∙ sym (neg_ℤ-+ℤ (c *ℤ ev_m ρ m) (ev_p ρ p))

  pub norm_sound : (e : Ex) → ev_p ρ (norm e) ≡ den ρ e
  norm_sound (var i) = simp (one-*ℤ, *ℤ-idr, +ℤ_idr)
  norm_sound (lit k) = ev_termz k [] nil ∙ simp (*ℤ-idr, +ℤ_idr)
  norm_sound (a ⊞ b) = ev_add_p (norm a) (norm b) ∙ ap₂ (λ x y. x +ℤ y) (norm_sound a) (norm_sound b)
  norm_sound (a ⊠ b) = ev_mul_p (norm a) (norm b) ∙ ap₂ (λ x y. x *ℤ y) (norm_sound a) (norm_sound b)
  norm_sound (⊟ a) = ev_neg_p (norm a) ∙ ap neg_ℤ (norm_sound a)

  -- the identity, by comparing normal forms
  pub ring_by : (e f : Ex) → norm e ≡ norm f → den ρ e ≡ den ρ f
  ring_by e f h = sym (norm_sound e) ∙ ap (ev_p ρ) h ∙ norm_sound f

-- ---- a term of ℤ read as an expression over the atoms ρ: `search reify` finds it
pub data At (a : ℤ) (ρ : List ℤ) : Type 0 where
  at_place : (i : ℕ) → nth_z ρ i ≡ a → At a ρ

abbrev pub here : {a : ℤ} {ρ : List ℤ} → At a (a ∷ ρ)
here = at_place zero refl

abbrev pub there : {a b : ℤ} {ρ : List ℤ} → At a ρ → At a (b ∷ ρ)
there (at_place i e) = at_place (suc i) e

pub data Is (ρ : List ℤ) (z : ℤ) : Type 0 where
  reads_as : (e : Ex) → den ρ e ≡ z → Is ρ z

abbrev pub quote : {ρ : List ℤ} {z : ℤ} → Is ρ z → Ex
quote (reads_as e h) = e

pub quote_is : {ρ : List ℤ} {z : ℤ} (r : Is ρ z) → den ρ (quote r) ≡ z
quote_is (reads_as e h) = h

module _ {ρ : List ℤ} where
  abbrev pub is_var : {a : ℤ} → At a ρ → Is ρ a
  is_var (at_place i e) = reads_as (var i) e

  -- a literal: the test computes to `Unit` at one, and is stuck at any other number
  abbrev pub is_pos : (n : ℕ) → T (eqb n n) → Is ρ (pos n)
  is_pos n t = reads_as (lit (pos n)) refl

  abbrev pub is_negsuc : (n : ℕ) → T (eqb n n) → Is ρ (negsuc n)
  is_negsuc n t = reads_as (lit (negsuc n)) refl

  abbrev pub is_add : {a b : ℤ} → Is ρ a → Is ρ b → Is ρ (a +ℤ b)
  is_add r s = reads_as (quote r ⊞ quote s) (ap₂ (λ x y. x +ℤ y) (quote_is r) (quote_is s))

  abbrev pub is_mul : {a b : ℤ} → Is ρ a → Is ρ b → Is ρ (a *ℤ b)
  is_mul r s = reads_as (quote r ⊠ quote s) (ap₂ (λ x y. x *ℤ y) (quote_is r) (quote_is s))

  abbrev pub is_neg : {a : ℤ} → Is ρ a → Is ρ (neg_ℤ a)
  is_neg r = reads_as (⊟ (quote r)) (ap neg_ℤ (quote_is r))

  -- a sum and a product of two `pos`, which compute
  abbrev pub is_pos_add : {m n : ℕ} → Is ρ (pos m) → Is ρ (pos n) → Is ρ (pos (m + n))
  is_pos_add r s = is_add r s

  abbrev pub is_pos_mul : {m n : ℕ} → Is ρ (pos m) → Is ρ (pos n) → Is ρ (pos (m * n))
  is_pos_mul r s = is_mul r s

pub ruleset reify = (here, there, is_var, is_add, is_mul, is_neg, is_pos_add, is_pos_mul, is_pos, is_negsuc)

-- an identity: `ring! (a ∷ b ∷ []) (search reify depth 40 fits 9000) refl`
pub ring! : (ρ : List ℤ) {x y : ℤ} (r : Is ρ x × Is ρ y) → norm (quote r.0) ≡ norm (quote r.1) → x ≡ y
ring! ρ r h = sym (quote_is r.0) ∙ ring_by ρ (quote r.0) (quote r.1) h ∙ quote_is r.1
