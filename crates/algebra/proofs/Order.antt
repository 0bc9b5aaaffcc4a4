-- The order of ℤ read as an order of ℕ, for omega: z is pos (pp z) − pos (nn z), and an expression over atoms is
-- up − dn. Then the sizes of integers, and the order of products and of sums.
--   ordℤ                                      the order of two integers by their parts, as rules for omega
--   read<, read≤, show≤, show<, read≡, show≡  expressions: read a hypothesis, show a goal
--   nat_abs_show, natAbs-+ℤ, nat_abs_mul_le     the size of an expression, of a sum, of a product
--   nat_abs_below, nat_abs_above                of an integer between bounds
--   0≤-mul, 0≤-square, +ℤ-mono, ≤ℤ-trans      products that are not negative, sums in order
use mathlib.Core.Path.{◌≡◌, refl, sym, ◌∙◌, ap, ap₂}
use mathlib.Core.List.{List, [], ◌∷◌}
use Prim.Native.Nat.{ℕ, zero, suc, ◌+◌, ◌*◌, ◌≤◌, ◌<◌}
use native.Mathlib.Nat as NatL
use native.Mathlib.Omega.{arith}
use lib.Dec.{T, leb→le, le→leb, ltb→lt, lt→ltb}
use lib.IntN.{ℤ, pos, negsuc, neg_ℤ, nat_abs, ◌+ℤ◌, ◌-ℤ◌, ◌*ℤ◌, +ℤ_idl}
use lib.Signed.{◌≤ℤ◌, ◌<ℤ◌, le_z, lt_z, mag}
use Rattle.algebra.proofs.Ring.{+ℤ-cancel-r}
use Rattle.algebra.proofs.Solver.{ring!, reify, Is, Ex, var, lit, ◌⊞◌, ◌⊠◌, ⊟, nth_z, den, quote, quote_is}

-- ---- the positive and the negative part
abbrev pub pp : ℤ → ℕ
pp (pos n) = n
pp (negsuc n) = zero

abbrev pub nn : ℤ → ℕ
nn (pos n) = zero
nn (negsuc n) = suc n

parts : (z : ℤ) → z ≡ pos (pp z) -ℤ pos (nn z)
parts (pos n) = ap pos (sym (NatL.add-zero n))
parts (negsuc n) = sym (+ℤ_idl (negsuc n))

-- ---- an expression's two parts
abbrev mutual
  pub up_e : List ℤ → Ex → ℕ
  up_e ρ (var i) = pp (nth_z ρ i)
  up_e ρ (lit k) = pp k
  up_e ρ (a ⊞ b) = up_e ρ a + up_e ρ b
  up_e ρ (a ⊠ b) = up_e ρ a * up_e ρ b + dn_e ρ a * dn_e ρ b
  up_e ρ (⊟ a) = dn_e ρ a

  pub dn_e : List ℤ → Ex → ℕ
  dn_e ρ (var i) = nn (nth_z ρ i)
  dn_e ρ (lit k) = nn k
  dn_e ρ (a ⊞ b) = dn_e ρ a + dn_e ρ b
  dn_e ρ (a ⊠ b) = up_e ρ a * dn_e ρ b + dn_e ρ a * up_e ρ b
  dn_e ρ (⊟ a) = up_e ρ a

abbrev pub up : {ρ : List ℤ} {z : ℤ} → Is ρ z → ℕ
up {ρ} r = up_e ρ (quote r)

abbrev pub dn : {ρ : List ℤ} {z : ℤ} → Is ρ z → ℕ
dn {ρ} r = dn_e ρ (quote r)

-- sums, products and negations of differences
sub_add : (a b c d : ℕ) → (pos a -ℤ pos b) +ℤ (pos c -ℤ pos d) ≡ pos (a + c) -ℤ pos (b + d)
sub_add a b c d = ring! (pos a ∷ pos b ∷ pos c ∷ pos d ∷ []) (search reify depth 40 fits 9000) refl

sub_mul : (a b c d : ℕ) → (pos a -ℤ pos b) *ℤ (pos c -ℤ pos d) ≡ pos (a * c + b * d) -ℤ pos (a * d + b * c)
sub_mul a b c d = ring! (pos a ∷ pos b ∷ pos c ∷ pos d ∷ []) (search reify depth 40 fits 9000) refl

sub_neg : (a b : ℕ) → neg_ℤ (pos a -ℤ pos b) ≡ pos b -ℤ pos a
sub_neg a b = ring! (pos a ∷ pos b ∷ []) (search reify depth 40 fits 9000) refl

reads_e : (ρ : List ℤ) (e : Ex) → den ρ e ≡ pos (up_e ρ e) -ℤ pos (dn_e ρ e)
reads_e ρ (var i) = parts (nth_z ρ i)
reads_e ρ (lit k) = parts k
reads_e ρ (a ⊞ b) = ap₂ (λ x y. x +ℤ y) (reads_e ρ a) (reads_e ρ b) ∙ sub_add (up_e ρ a) (dn_e ρ a) (up_e ρ b) (dn_e ρ b)
reads_e ρ (a ⊠ b) = ap₂ (λ x y. x *ℤ y) (reads_e ρ a) (reads_e ρ b) ∙ sub_mul (up_e ρ a) (dn_e ρ a) (up_e ρ b) (dn_e ρ b)
reads_e ρ (⊟ a) = ap neg_ℤ (reads_e ρ a) ∙ sub_neg (up_e ρ a) (dn_e ρ a)

pub reads : {ρ : List ℤ} {z : ℤ} (r : Is ρ z) → z ≡ pos (up r) -ℤ pos (dn r)
reads {ρ} r = sym (quote_is r) ∙ reads_e ρ (quote r)

-- two differences that are equal, crosswise
cross : (a b c d : ℕ) → pos a -ℤ pos b ≡ pos c -ℤ pos d → a + d ≡ c + b
cross a b c d e = ap nat_abs (sym (l a b d) ∙ ap (λ z. z +ℤ (pos b +ℤ pos d)) e ∙ l' c b d)
  where
    l : (a b d : ℕ) → (pos a -ℤ pos b) +ℤ (pos b +ℤ pos d) ≡ pos (a + d)
    l a b d = ring! (pos a ∷ pos b ∷ pos d ∷ []) (search reify depth 40 fits 9000) refl

    l' : (c b d : ℕ) → (pos c -ℤ pos d) +ℤ (pos b +ℤ pos d) ≡ pos (c + b)
    l' c b d = ring! (pos c ∷ pos b ∷ pos d ∷ []) (search reify depth 40 fits 9000) refl

crossed : (a b c d : ℕ) → a + d ≡ c + b → pos a -ℤ pos b ≡ pos c -ℤ pos d
crossed a b c d e = +ℤ-cancel-r (pos a -ℤ pos b) (pos c -ℤ pos d) (pos b +ℤ pos d) (l a b d ∙ ap pos e ∙ sym (l' c b d))
  where
    l : (a b d : ℕ) → (pos a -ℤ pos b) +ℤ (pos b +ℤ pos d) ≡ pos (a + d)
    l a b d = ring! (pos a ∷ pos b ∷ pos d ∷ []) (search reify depth 40 fits 9000) refl

    l' : (c b d : ℕ) → (pos c -ℤ pos d) +ℤ (pos b +ℤ pos d) ≡ pos (c + b)
    l' c b d = ring! (pos c ∷ pos b ∷ pos d ∷ []) (search reify depth 40 fits 9000) refl

-- an integer's parts and those of an expression for it
pub pn : {ρ : List ℤ} {z : ℤ} (r : Is ρ z) → pp z + dn r ≡ up r + nn z
pn {z = z} r = cross (pp z) (nn z) (up r) (dn r) (sym (parts z) ∙ reads r)

-- ---- the order of two integers, by their parts
le→ : (a b : ℤ) → T (le_z a b) → pp a + nn b ≤ pp b + nn a
le→ (pos a) (pos b) t = omega (arith, leb→le a b t)
le→ (pos a) (negsuc b) t = absurd t
le→ (negsuc a) (pos b) t = omega arith
le→ (negsuc a) (negsuc b) t = omega (arith, leb→le b a t)

le← : (a b : ℤ) → pp a + nn b ≤ pp b + nn a → T (le_z a b)
le← (pos a) (pos b) h = le→leb a b (omega arith)
le← (pos a) (negsuc b) h = absurd (no a b h)
  where
    no : (a b : ℕ) → a + suc b ≤ zero + zero → ⊥
    no a b h = omega arith
le← (negsuc a) (pos b) h = tt
le← (negsuc a) (negsuc b) h = le→leb b a (omega arith)

lt→ : (a b : ℤ) → T (lt_z a b) → pp a + nn b < pp b + nn a
lt→ (pos a) (pos b) t = omega (arith, ltb→lt a b t)
lt→ (pos a) (negsuc b) t = absurd t
lt→ (negsuc a) (pos b) t = omega arith
lt→ (negsuc a) (negsuc b) t = omega (arith, ltb→lt b a t)

lt← : (a b : ℤ) → pp a + nn b < pp b + nn a → T (lt_z a b)
lt← (pos a) (pos b) h = lt→ltb a b (omega arith)
lt← (pos a) (negsuc b) h = absurd (no a b h)
  where
    no : (a b : ℕ) → a + suc b < zero + zero → ⊥
    no a b h = omega arith
lt← (negsuc a) (pos b) h = tt
lt← (negsuc a) (negsuc b) h = lt→ltb b a (omega arith)

-- the same as rules for omega, which then finds a hypothesis `a ≤ℤ b` by itself
pub ≤ℤ→ : {a b : ℤ} → a ≤ℤ b → pp a + nn b ≤ pp b + nn a
≤ℤ→ {a} {b} h = le→ a b h.le

pub <ℤ→ : {a b : ℤ} → a <ℤ b → pp a + nn b < pp b + nn a
<ℤ→ {a} {b} h = lt→ a b h.lt

pub →≤ℤ : {a b : ℤ} → pp a + nn b ≤ pp b + nn a → a ≤ℤ b
→≤ℤ {a} {b} h = record { le = le← a b h }

pub →<ℤ : {a b : ℤ} → pp a + nn b < pp b + nn a → a <ℤ b
→<ℤ {a} {b} h = record { lt = lt← a b h }

pub ruleset ordℤ = (≤ℤ→, <ℤ→, →≤ℤ, →<ℤ)

-- ---- expressions: read a hypothesis, show a goal
module _ (ρ : List ℤ) {a b : ℤ} (r : Is ρ a × Is ρ b) where
  pub read< : a <ℤ b → up r.0 + dn r.1 < up r.1 + dn r.0
  read< h = omega (arith, <ℤ→ h, pn r.0, pn r.1)

  pub read≤ : a ≤ℤ b → up r.0 + dn r.1 ≤ up r.1 + dn r.0
  read≤ h = omega (arith, ≤ℤ→ h, pn r.0, pn r.1)

  pub show≤ : up r.0 + dn r.1 ≤ up r.1 + dn r.0 → a ≤ℤ b
  show≤ h = →≤ℤ (omega (arith, pn r.0, pn r.1))

  pub show< : up r.0 + dn r.1 < up r.1 + dn r.0 → a <ℤ b
  show< h = →<ℤ (omega (arith, pn r.0, pn r.1))

  pub read≡ : a ≡ b → up r.0 + dn r.1 ≡ up r.1 + dn r.0
  read≡ e = cross (up r.0) (dn r.0) (up r.1) (dn r.1) (sym (reads r.0) ∙ e ∙ reads r.1)

  pub show≡ : up r.0 + dn r.1 ≡ up r.1 + dn r.0 → a ≡ b
  show≡ e = reads r.0 ∙ crossed (up r.0) (dn r.0) (up r.1) (dn r.1) e ∙ sym (reads r.1)

-- ---- sizes: nat_abs and mag
pub nat_abs_parts : (z : ℤ) → nat_abs z ≡ pp z + nn z
nat_abs_parts (pos n) = omega arith
nat_abs_parts (negsuc n) = omega arith

-- the size of an expression
pub nat_abs_show : (ρ : List ℤ) (z : ℤ) {H : ℕ} (r : Is ρ z) → up r ≤ H + dn r → dn r ≤ H + up r → nat_abs z ≤ H
nat_abs_show ρ z {H} r h k = go z (pn r)
  where
    go : (z : ℤ) → pp z + dn r ≡ up r + nn z → nat_abs z ≤ H
    go (pos n) e = omega arith
    go (negsuc n) e = omega arith

-- of a negation, a product and a sum
nat_abs_neg : (n : ℕ) → nat_abs (neg_ℤ (pos n)) ≡ n
nat_abs_neg zero = refl
nat_abs_neg (suc n) = refl

pub nat_abs_negℤ : (z : ℤ) → nat_abs (neg_ℤ z) ≡ nat_abs z
nat_abs_negℤ (pos n) = nat_abs_neg n
nat_abs_negℤ (negsuc n) = refl

pub natAbs-*ℤ : (a b : ℤ) → nat_abs (a *ℤ b) ≡ nat_abs a * nat_abs b
natAbs-*ℤ (pos a) (pos b) = refl
natAbs-*ℤ (pos a) (negsuc b) = nat_abs_neg (a * suc b)
natAbs-*ℤ (negsuc a) (pos b) = nat_abs_neg (suc a * b)
natAbs-*ℤ (negsuc a) (negsuc b) = refl

pub natAbs-+ℤ : (a b : ℤ) → nat_abs (a +ℤ b) ≤ nat_abs a + nat_abs b
natAbs-+ℤ a b =
    nat_abs_show (a ∷ b ∷ []) (a +ℤ b) (search reify)
    (omega (arith, nat_abs_parts a, nat_abs_parts b)) (omega (arith, nat_abs_parts a, nat_abs_parts b))

pub nat_abs_mul_le : (a b : ℤ) {A B : ℕ} → nat_abs a ≤ A → nat_abs b ≤ B → nat_abs (a *ℤ b) ≤ A * B
nat_abs_mul_le a b h k = rw (natAbs-*ℤ a b) (NatL.mul-le-mul h k)

-- of an integer between bounds, and of one that is not negative
pub nat_abs_below : (z : ℤ) (k : ℕ) → pos 0 ≤ℤ z → z ≤ℤ pos k → nat_abs z ≤ k
nat_abs_below (pos n) k h l = omega (arith, ordℤ)
nat_abs_below (negsuc n) k h l = absurd h.le

pub nat_abs_above : (z : ℤ) (k : ℕ) → nat_abs z ≤ k → z ≤ℤ pos k
nat_abs_above (pos n) k h = omega (arith, ordℤ)
nat_abs_above (negsuc n) k h = omega (arith, ordℤ)

pub nat_abs_plus : (a b : ℤ) → pos 0 ≤ℤ a → pos 0 ≤ℤ b → nat_abs (a +ℤ b) ≡ nat_abs a + nat_abs b
nat_abs_plus (pos a) (pos b) h k = refl
nat_abs_plus (pos a) (negsuc b) h k = absurd k.le
nat_abs_plus (negsuc a) b h k = absurd h.le

pub mag_nat_abs : (z : ℤ) → mag z ≤ nat_abs z
mag_nat_abs (pos n) = omega arith
mag_nat_abs (negsuc n) = omega arith

-- ---- the order of products
pub 0≤-mul : (a b : ℤ) → pos 0 ≤ℤ a → pos 0 ≤ℤ b → pos 0 ≤ℤ (a *ℤ b)
0≤-mul (pos a) (pos b) h k = omega (arith, ordℤ)
0≤-mul (pos a) (negsuc b) h k = absurd k.le
0≤-mul (negsuc a) b h k = absurd h.le

pub 0≤-square : (a : ℤ) → pos 0 ≤ℤ (a *ℤ a)
0≤-square (pos a) = omega (arith, ordℤ)
0≤-square (negsuc a) = omega (arith, ordℤ)

pub +ℤ-mono : (a b c d : ℤ) → a ≤ℤ b → c ≤ℤ d → (a +ℤ c) ≤ℤ (b +ℤ d)
+ℤ-mono a b c d h k = show≤ (a ∷ b ∷ c ∷ d ∷ []) (search reify depth 40) (omega (arith, ordℤ))

pub ≤ℤ-trans : (a b c : ℤ) → a ≤ℤ b → b ≤ℤ c → a ≤ℤ c
≤ℤ-trans a b c h k = omega (arith, ordℤ)
