-- Laws of the general definitions: a choice, a list by its entries, and an entry of a square.
--   one_most                           1 is the most that is counted for a test
--   pick_cases, zero_cases             a choice by what is known of its test, or of a number that is tested for 0
--   neither, none_below, all_below     where no test holds: of two, and of all below a number
--   all_append                         what holds of every entry of two lists holds of the two together
--   length-tabulate, get_d_tabulate     the length and the entries of a list that is tabulated
--   fill_none, fill_next, fill_all     a list that a loop fills from the front
--   square_at_inside, square_at_outside  an entry of a square by the two cells that its offset lies between
--   square_by                          a square that holds f inside, where f is 0 outside, holds f at every offset
use mathlib.Core.Path.{◌≡◌, refl, sym, ◌∙◌, ap, ap₂, subst}
use mathlib.Core.Bool.{Bool, true, false, true≢false, ◌||◌}
use mathlib.Core.Logic.{◌⊎◌, inl, inr}
use mathlib.Core.List.{List, [], ◌∷◌, ◌++◌, map}
use Prim.Native.Nat.{ℕ, zero, suc, ◌+◌, ◌*◌, ◌-◌, ◌≤◌, ◌<◌}
use native.Mathlib.Nat.{not-suc-le-zero, lt_of_lt_of_le}
use native.Mathlib.Decide.{ℕ_discrete, dec_lt}
use native.Mathlib.Omega.{arith}
use borrow.Author.Tests.{eqb-true, eqb-false}
use lib.Dec.{T, ltb, eqb, leb→le, ltb→lt, lt→ltb}
use lib.IntN.{ℤ, pos, negsuc, neg_ℤ, ◌+ℤ◌, ◌-ℤ◌}
use lib.Signed.{◌≤ℤ◌, ◌<ℤ◌}
use lib.ListN.{length, get_or, set, take, length-append, length-map, length-set}
use lib.ListN.{get_or-append, get_or-map, get_or-eq_default}
use lib.Seq.{length-take-le, get_or_at, get_or-set_same, get_or-set_other, ext_get_or}
use Rattle.algebra.proofs.Solver.{ring!, reify}
use Rattle.algebra.proofs.Order.{show≤, show<, show≡, read<, read≡}
use Rattle.algebra.proofs.Grid.{cell<}
use Rattle.algebra.proofs.Interval.{Supported2}
use Rattle.model.specs.Basic.{pick, one_if, some_below, tabulate, All, AtMost, grid_at, square_at}

-- ---- no test holds
pub neither : (a b : Bool) → a || b ≡ false → (a ≡ false) × (b ≡ false)
neither true b h = absurd (true≢false h)
neither false b h = (refl, h)

pub none_below : (n : ℕ) (f : ℕ → Bool) → ((i : ℕ) → i < n → f i ≡ false) → some_below n f ≡ false
unfolding some_below
none_below zero f h = refl
none_below (suc n) f h = rw (none_below n f (λ i k. h i (omega arith)), h n (omega arith)) refl

pub all_below : (n : ℕ) (f : ℕ → Bool) → some_below n f ≡ false → (i : ℕ) → i < n → f i ≡ false
unfolding some_below
all_below zero f h i l = absurd (not-suc-le-zero l)
all_below (suc n) f h i l = go (ℕ_discrete i n) (all_below n f both.0 i)
  where
    both : (some_below n f ≡ false) × (f n ≡ false)
    both = neither (some_below n f) (f n) h

    go : Dec (i ≡ n) → (i < n → f i ≡ false) → f i ≡ false
    go (yes e) ih = rw e both.1
    go (no e) ih = ih (omega arith)

-- ---- a choice whose test is known
pick_yes {ℓ} : {A : Type ℓ} (b : Bool) (x y : A) → T b → pick b x y ≡ x
pick_yes true x y t = refl
pick_yes false x y t = absurd t

pick_no {ℓ} : {A : Type ℓ} (b : Bool) (x y : A) → (T b → ⊥) → pick b x y ≡ y
pick_no true x y t = absurd (t tt)
pick_no false x y t = refl

-- by what is known of its test
pub pick_cases : {A : Type 0} (Q : A → Type 0) (b : Bool) {x y : A} → (b ≡ true → Q x) → (b ≡ false → Q y)
    → Q (pick b x y)
pick_cases Q true f g = f refl
pick_cases Q false f g = g refl

-- by what is known of a number that is tested for 0
pub one_most : (b : Bool) → one_if b ≤ 1
one_most true = omega arith
one_most false = omega arith

pub zero_cases : {A : Type 0} (Q : A → Type 0) (n : ℕ) {x y : A} → (n ≡ 0 → Q x) → ((n ≡ 0 → ⊥) → Q y)
    → Q (pick (eqb n 0) x y)
zero_cases Q n f g = pick_cases Q (eqb n 0) (λ t. f (eqb-true n 0 t)) (λ t. g (eqb-false n 0 t))

-- choices whose branches are the same where they are taken
pub pick_cong : {A : Type 0} (b : Bool) {x y x' y' : A} → (b ≡ true → x ≡ x') → (b ≡ false → y ≡ y')
    → pick b x y ≡ pick b x' y'
pick_cong true f g = f refl
pick_cong false f g = g refl

-- ---- a bounded list
pub at_most_tail : {k x : ℕ} {l : List ℕ} → AtMost k (x ∷ l) → AtMost k l
at_most_tail h = record { each = λ i. h.each (suc i) }

-- ---- what holds of every entry of two lists
pub all_append : {A : Type 0} (P : A → Type 0) (a b : List A) → All P a → All P b → All P (a ++ b)
all_append P [] b h k = k
all_append P (x ∷ a) b (p, h) k = (p, all_append P a b h k)

-- ---- a part of a list that is lent
pub part_whole : {A : Type 0} (n : ℕ) (l : List A) → n ≤ length l → n ≡ length (take n l)
part_whole n l h = sym (length-take-le n l h)

-- ---- a tabulated list
pub length-tabulate {ℓ} : {A : Type ℓ} (n : ℕ) (f : ℕ → A) → length (tabulate n f) ≡ n
unfolding tabulate
length-tabulate zero f = refl
length-tabulate (suc n) f = length-append (tabulate n f) (f n ∷ []) ∙ omega (arith, length-tabulate n f)

pub table_long {ℓ} : {A : Type ℓ} (n : ℕ) (f : ℕ → A) {t : List A} → t ≡ tabulate n f → length t ≡ n
table_long n f e = ap length e ∙ length-tabulate n f

pub get_d_tabulate {ℓ} : {A : Type ℓ} (n : ℕ) (f : ℕ → A) (i : ℕ) (z : A) → i < n → get_or (tabulate n f) i z ≡ f i
unfolding tabulate
get_d_tabulate zero f i z h = absurd (not-suc-le-zero h)
get_d_tabulate (suc n) f i z h = go (ℕ_discrete i n) (get_d_tabulate n f i z)
  where
    go : Dec (i ≡ n) → (i < n → get_or (tabulate n f) i z ≡ f i) → get_or (tabulate n f ++ (f n ∷ [])) i z ≡ f i
    go (yes e) ih = rw e (get_or_at (tabulate n f) (f n) [] z n (length-tabulate n f))
    go (no e) ih =
        get_or-append (tabulate n f) (f n ∷ []) z i (rw (length-tabulate n f) (omega arith))
        ∙ ih (omega arith)

-- what holds of the entries, and of the default, holds at every place
pub tabulate-each {ℓ} : {A : Type ℓ} (P : A → Type 0) (z : A) (n : ℕ) (f : ℕ → A) → P z
    → ((i : ℕ) → i < n → P (f i)) → (i : ℕ) → P (get_or (tabulate n f) i z)
tabulate-each P z n f p h i = go (dec_lt i n)
  where
    go : Dec (i < n) → P (get_or (tabulate n f) i z)
    go (yes l) = subst P (sym (get_d_tabulate n f i z l)) (h i l)
    go (no l) =
        subst P (sym (get_or-eq_default (tabulate n f) z {n = i} (rw (length-tabulate n f) (omega arith)))) p

-- a list of n entries that are those of f
pub tabulate-by {ℓ} : {A : Type ℓ} (z : A) (n : ℕ) (f : ℕ → A) (l : List A) → length l ≡ n
    → ((i : ℕ) → i < n → get_or l i z ≡ f i) → l ≡ tabulate n f
tabulate-by z n f l e h =
    ext_get_or z l (tabulate n f) (e ∙ sym (length-tabulate n f))
    (λ i k. h i (rw e at k) ∙ sym (get_d_tabulate n f i z (rw e at k)))

pub tabulate-cong {ℓ} : {A : Type ℓ} (n : ℕ) {f g : ℕ → A} → ((i : ℕ) → i < n → f i ≡ g i) → tabulate n f ≡ tabulate n g
unfolding tabulate
tabulate-cong zero h = refl
tabulate-cong (suc n) h = ap₂ (λ l x. l ++ (x ∷ [])) (tabulate-cong n (λ i k. h i (omega arith))) (h n (omega arith))

pub map_tabulate : {A B : Type 0} (f : A → B) (z : A) (l : List A) → map f l ≡ tabulate (length l) (λ i. f (get_or l i z))
map_tabulate f z l = tabulate-by (f z) (length l) _ (map f l) (length-map l f) (λ i h. get_or-map f l i z)

-- ---- a list that a loop fills from the front: of its n entries the first i are those of f
pub record Filling {A : Type 0} (z : A) (f : ℕ → A) (n i : ℕ) (l : List A) : Type 0 where
  pub long : length l ≡ n
  pub each : (k : ℕ) → k < i → get_or l k z ≡ f k

module _ {A : Type 0} {z : A} {f : ℕ → A} {n : ℕ} where
  pub fill_none : {l : List A} → length l ≡ n → Filling z f n 0 l
  fill_none e = record { long = e; each = λ k h. absurd (not-suc-le-zero h) }

  pub fill_next : {i : ℕ} {l : List A} {v : A} → Filling z f n i l → i < n → v ≡ f i → Filling z f n (i + 1) (set l i v)
  fill_next {i} {l} {v} s h e = record { long = length-set l i v ∙ s.long; each = λ k q. go k q (ℕ_discrete k i) }
    where
      go : (k : ℕ) → k < i + 1 → Dec (k ≡ i) → get_or (set l i v) k z ≡ f k
      go k q (yes p) = rw p (get_or-set_same l i v z (omega (arith, s.long)) ∙ e)
      go k q (no p) = get_or-set_other l i k v z p ∙ s.each k (omega arith)

  pub fill_all : {i : ℕ} {l : List A} → Filling z f n i l → n ≤ i → l ≡ tabulate n f
  fill_all {i} {l} s h = tabulate-by z n f l s.long (λ k q. s.each k (omega arith))

-- ---- a square
module _ {A : Type 0} (z : A) (n : ℕ) (l : List A) where
  over : (i : ℕ) → n ≤ i → T (ltb i n) → ⊥
  over i h t = omega (arith, ltb→lt i n t)

  same : (b : Bool) → pick b z z ≡ z
  same true = refl
  same false = refl

  row_before : (y x : ℤ) → y <ℤ pos 0 → grid_at z n l y x ≡ z
  unfolding grid_at
  row_before (pos i) x h = absurd (omega (arith, ltb→lt i 0 h.lt))
  row_before (negsuc i) x h = refl

  row_after : (y x : ℤ) → pos n ≤ℤ y → grid_at z n l y x ≡ z
  unfolding grid_at
  row_after (pos i) (pos x) h = pick_no (ltb i n) _ z (over i (leb→le n i h.le))
  row_after (pos i) (negsuc x) h = refl
  row_after (negsuc i) x h = refl

  column_before : (y x : ℤ) → x <ℤ pos 0 → grid_at z n l y x ≡ z
  unfolding grid_at
  column_before (pos y) (pos i) h = absurd (omega (arith, ltb→lt i 0 h.lt))
  column_before (pos y) (negsuc i) h = refl
  column_before (negsuc y) x h = refl

  column_after : (y x : ℤ) → pos n ≤ℤ x → grid_at z n l y x ≡ z
  unfolding grid_at
  column_after (pos y) (pos i) h =
      rw (pick_no (ltb i n) (get_or l (y * n + i) z) z (over i (leb→le n i h.le)))
      (same (ltb y n))
  column_after (pos y) (negsuc i) h = refl
  column_after (negsuc y) x h = refl

  grid_inside : (i j : ℕ) → i < n → j < n → grid_at z n l (pos i) (pos j) ≡ get_or l (i * n + j) z
  unfolding grid_at
  grid_inside i j h k = pick_yes (ltb i n) _ z (lt→ltb i n h) ∙ pick_yes (ltb j n) _ z (lt→ltb j n k)

low : (r : ℕ) (y : ℤ) → y <ℤ neg_ℤ (pos r) → (y +ℤ pos r) <ℤ pos 0
low r y h =
    show< (y ∷ pos r ∷ []) (search reify depth 40)
    (omega (arith, read< (y ∷ pos r ∷ []) (search reify depth 40) h))

high : (r : ℕ) (y : ℤ) → pos r <ℤ y → pos (2 * r + 1) ≤ℤ (y +ℤ pos r)
high r y h =
    show≤ (y ∷ pos r ∷ []) (search reify depth 40)
    (omega (arith, read< (y ∷ pos r ∷ []) (search reify depth 40) h))

-- outside: above, below, left and right of it
module _ {A : Type 0} (z : A) (r : ℕ) (l : List A) (dy dx : ℤ) where
  pub square_above : dy <ℤ neg_ℤ (pos r) → square_at z r l dy dx ≡ z
  unfolding square_at
  square_above h = row_before z (2 * r + 1) l (dy +ℤ pos r) (dx +ℤ pos r) (low r dy h)

  pub square_below : pos r <ℤ dy → square_at z r l dy dx ≡ z
  unfolding square_at
  square_below h = row_after z (2 * r + 1) l (dy +ℤ pos r) (dx +ℤ pos r) (high r dy h)

  pub square_left : dx <ℤ neg_ℤ (pos r) → square_at z r l dy dx ≡ z
  unfolding square_at
  square_left h = column_before z (2 * r + 1) l (dy +ℤ pos r) (dx +ℤ pos r) (low r dx h)

  pub square_right : pos r <ℤ dx → square_at z r l dy dx ≡ z
  unfolding square_at
  square_right h = column_after z (2 * r + 1) l (dy +ℤ pos r) (dx +ℤ pos r) (high r dx h)

  -- inside, by the row and column counted from its corner
  pub square_inside : (i j : ℕ) → dy +ℤ pos r ≡ pos i → dx +ℤ pos r ≡ pos j → i < 2 * r + 1 → j < 2 * r + 1
      → square_at z r l dy dx ≡ get_or l (i * (2 * r + 1) + j) z
  unfolding square_at
  square_inside i j e f h k = ap₂ (grid_at z (2 * r + 1) l) e f ∙ grid_inside z (2 * r + 1) l i j h k

-- the same by the two cells (row, col) and (y, x) that the offset lies between
abbrev pub Far : ℕ → ℕ → ℕ → Type 0
Far r a y = (y + r < a) ⊎ (a + r < y)

module _ {A : Type 0} (z : A) (r : ℕ) (l : List A) (row col y x : ℕ) where
  pub square_at_inside : row ≤ y + r → y ≤ row + r → col ≤ x + r → x ≤ col + r
      → square_at z r l (pos y -ℤ pos row) (pos x -ℤ pos col) ≡ get_or l ((y + r - row) * (2 * r + 1) + (x + r - col)) z
  square_at_inside a b c d =
      square_inside z r l _ _ (y + r - row) (x + r - col) (counted y row a) (counted x col c)
      (omega arith) (omega arith)
    where
      counted : (y a : ℕ) → a ≤ y + r → pos y -ℤ pos a +ℤ pos r ≡ pos (y + r - a)
      counted y a h = show≡ (pos y ∷ pos a ∷ pos r ∷ pos (y + r - a) ∷ []) (search reify depth 40) (omega arith)

  pub square_at_outside : Far r row y ⊎ Far r col x → square_at z r l (pos y -ℤ pos row) (pos x -ℤ pos col) ≡ z
  square_at_outside o = outside o
    where
      under : (y a : ℕ) → y + r < a → (pos y -ℤ pos a) <ℤ neg_ℤ (pos r)
      under y a h = show< (pos y ∷ pos a ∷ pos r ∷ []) (search reify depth 40) (omega arith)

      past : (y a : ℕ) → a + r < y → pos r <ℤ (pos y -ℤ pos a)
      past y a h = show< (pos y ∷ pos a ∷ pos r ∷ []) (search reify depth 40) (omega arith)

      outside : Far r row y ⊎ Far r col x → square_at z r l (pos y -ℤ pos row) (pos x -ℤ pos col) ≡ z
      outside (inl (inl h)) = square_above z r l _ _ (under y row h)
      outside (inl (inr h)) = square_below z r l _ _ (past y row h)
      outside (inr (inl h)) = square_left z r l _ _ (under x col h)
      outside (inr (inr h)) = square_right z r l _ _ (past x col h)

-- entries after those of the square are not read
pub square_append : {A : Type 0} (z : A) (r : ℕ) (k l : List A) (dy dx : ℤ) → (2 * r + 1) * (2 * r + 1) ≤ length k
    → square_at z r (k ++ l) dy dx ≡ square_at z r k dy dx
unfolding square_at grid_at
square_append z r k l dy dx h = go (dy +ℤ pos r) (dx +ℤ pos r)
  where
    n : ℕ
    n = 2 * r + 1

    chosen : (y x : ℕ) (a b : Bool) → ltb y n ≡ a → ltb x n ≡ b
        → pick a (pick b (get_or (k ++ l) (y * n + x) z) z) z ≡ pick a (pick b (get_or k (y * n + x) z) z) z
    chosen y x true true e f =
        let down : y < 2 * r + 1 = ltb→lt y n (subst T (sym e) tt) in
        let along : x < 2 * r + 1 = ltb→lt x n (subst T (sym f) tt) in
        get_or-append k l z (y * n + x) (lt_of_lt_of_le (cell< down along) h)
    chosen y x true false e f = refl
    chosen y x false b e f = refl

    go : (y x : ℤ) → grid_at z (2 * r + 1) (k ++ l) y x ≡ grid_at z (2 * r + 1) k y x
    go (pos y) (pos x) = chosen y x (ltb y n) (ltb x n) refl refl
    go (pos y) (negsuc x) = refl
    go (negsuc y) x = refl

-- a square of images
pub square_map : {A B : Type 0} (f : A → B) (z : A) (r : ℕ) (l : List A) (dy dx : ℤ)
    → square_at (f z) r (map f l) dy dx ≡ f (square_at z r l dy dx)
unfolding square_at grid_at
square_map {A} f z r l dy dx = go (dy +ℤ pos r) (dx +ℤ pos r)
  where
    n : ℕ
    n = 2 * r + 1

    chosen : (b : Bool) (x y : A) → pick b (f x) (f y) ≡ f (pick b x y)
    chosen true x y = refl
    chosen false x y = refl

    go : (y x : ℤ) → grid_at (f z) (2 * r + 1) (map f l) y x ≡ f (grid_at z (2 * r + 1) l y x)
    go (pos y) (pos x) =
        ap (λ v. pick (ltb y n) (pick (ltb x n) v (f z)) (f z)) (get_or-map f l (y * n + x) z)
        ∙ ap (λ v. pick (ltb y n) v (f z)) (chosen (ltb x n) (get_or l (y * n + x) z) z)
        ∙ chosen (ltb y n) (pick (ltb x n) (get_or l (y * n + x) z) z) z
    go (pos y) (negsuc x) = refl
    go (negsuc y) x = refl

-- where an offset lies: before the square, after it, or at the place i counted from its edge
pub data Place (r : ℕ) (d : ℤ) : Type 0 where
  before : d <ℤ neg_ℤ (pos r) → Place r d
  within : (i : ℕ) → i < 2 * r + 1 → d +ℤ pos r ≡ pos i → Place r d
  after : pos r <ℤ d → Place r d

pub place : (r : ℕ) (d : ℤ) → Place r d
place r d = go (d +ℤ pos r) refl
  where
    at : (i : ℕ) → d +ℤ pos r ≡ pos i → Dec (i < 2 * r + 1) → Place r d
    at i e (yes h) = within i h e
    at i e (no h) =
        after (show< (d ∷ pos r ∷ []) (search reify depth 40)
        (omega (arith, read≡ (d ∷ pos r ∷ pos i ∷ []) (search reify depth 40) e)))

    go : (z : ℤ) → d +ℤ pos r ≡ z → Place r d
    go (pos i) e = at i e (dec_lt i (2 * r + 1))
    go (negsuc i) e =
        before (show< (d ∷ pos r ∷ []) (search reify depth 40)
        (omega (arith, read≡ (d ∷ pos r ∷ negsuc i ∷ []) (search reify depth 40) e)))

-- a square that holds f inside, where f is 0 outside, holds f at every offset
pub square_by : (r : ℕ) (l : List ℤ) (f : ℤ → ℤ → ℤ) → Supported2 r f
    → ((i j : ℕ) → i < 2 * r + 1 → j < 2 * r + 1
    → get_or l (i * (2 * r + 1) + j) (pos 0) ≡ f (pos i -ℤ pos r) (pos j -ℤ pos r))
    → (dy dx : ℤ) → square_at (pos 0) r l dy dx ≡ f dy dx
square_by r l f s h dy dx = go (place r dy) (place r dx)
  where
    back : (d : ℤ) (i : ℕ) → d +ℤ pos r ≡ pos i → pos i -ℤ pos r ≡ d
    back d i e = ap (λ z. z -ℤ pos r) (sym e) ∙ ring! (d ∷ pos r ∷ []) (search reify depth 40) refl

    go : Place r dy → Place r dx → square_at (pos 0) r l dy dx ≡ f dy dx
    go (before k) q = square_above (pos 0) r l dy dx k ∙ sym ((s.rows dx).below dy k)
    go (after k) q = square_below (pos 0) r l dy dx k ∙ sym ((s.rows dx).above dy k)
    go (within i k e) (before q) = square_left (pos 0) r l dy dx q ∙ sym ((s.columns dy).below dx q)
    go (within i k e) (after q) = square_right (pos 0) r l dy dx q ∙ sym ((s.columns dy).above dx q)
    go (within i k e) (within j q g) =
        square_inside (pos 0) r l dy dx i j e g k q ∙ h i j k q ∙ ap₂ f (back dy i e) (back dx j g)
