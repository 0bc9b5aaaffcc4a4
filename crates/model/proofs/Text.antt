-- Laws of texts: the digits of a number, and the items that a reader yields.
--   digits_low, digits_more, length_most  the digits: one, or those of the tenth and one more; and how many at most
--   digits_apart                          no two numbers have the same digits, whatever follows that is no digit
--   cap_low, cap_is                       a number that is read below the limit
--   number_low, number_high               a number is yielded for its whole run of digits, as 257 where it is above 256
--   leading_zero                          in a longer run that begins 0 the second digit cannot be there
--   yielded_number                        where a number is yielded stands the whole run of its digits
use mathlib.Core.Path.{◌≡◌, refl, ◌∙◌, ap, sym}
use mathlib.Core.Bool.{Bool, true, false, true≢false, ◌&&◌, and-eq-true_iff, and-false}
use mathlib.Core.Logic.{inl, inr}
use mathlib.Core.List.{List, [], ◌∷◌, ◌++◌, append_assoc}
use Prim.Native.Nat.{ℕ, zero, suc, ◌+◌, ◌-◌, ◌*◌, ◌/◌, ◌%◌, ◌^◌, ◌≤◌, ◌<◌}
use native.Mathlib.Nat.{add_assoc, le_refl, pow-suc}
use native.Mathlib.Omega.{arith}
use borrow.Author.Tests.{ltb-true, ltb-false, lt-ltb, le-ltb, le-leb, lt-leb, leb-true, leb-false, eqb-true, eqb-false}
use borrow.Author.Tests.{ne_eqb}
use lib.Dec.{leb, ltb, eqb}
use lib.ListN.{drop_of_length-le, length, drop, length-append}
use Rattle.model.specs.declared.Item.TheVariants.{Word, Number, LineEnd, Other}
use Rattle.model.specs.Text.{Run}
use Rattle.model.specs.declared.Step.{Step}
use Rattle.model.specs.Basic.{pick}
use Rattle.model.specs.Text.{is_letter, is_digit, digits_in, digits, cap_to, capped, grow_to, NoDigit, run_to, step}
use Rattle.model.specs.Text.{number_step, item_to, step_to, step_at}
use Rattle.model.specs.Grammar.{Beyond}

-- ---- the digits of a number
same_digits : (f g n : ℕ) → n ≤ f → n ≤ g → digits_in f n ≡ digits_in g n
same_digits zero zero n h k = refl
same_digits zero (suc g) n h k = rw (lt-ltb n 10 (omega arith))
same_digits (suc f) zero n h k = rw (lt-ltb n 10 (omega arith))
same_digits (suc f) (suc g) n h k = go (ltb n 10) refl (λ l r. same_digits f g (n / 10) l r)
  where
    go : (b : Bool) → ltb n 10 ≡ b
        → (n / 10 ≤ f → n / 10 ≤ g → digits_in f (n / 10) ≡ digits_in g (n / 10))
        → digits_in (suc f) n ≡ digits_in (suc g) n
    go true e ih = rw e
    go false e ih =
        let l = ltb-false n 10 e in
        rw (e, ih (omega arith) (omega arith))

pub digits_low : (n : ℕ) → n < 10 → digits n ≡ (48 + n) ∷ []
unfolding digits
digits_low n h = same_digits n (suc n) n (le_refl n) (omega arith) ∙ rw (lt-ltb n 10 h)

pub digits_more : (n : ℕ) → 10 ≤ n → digits n ≡ digits (n / 10) ++ ((48 + n % 10) ∷ [])
unfolding digits
digits_more n h =
    same_digits n (suc n) n (le_refl n) (omega arith) ∙
    rw (le-ltb n 10 h, same_digits n (n / 10) (n / 10) (omega arith) (le_refl (n / 10)))

pub length_low : (n : ℕ) → n < 10 → length (digits n) ≡ 1
length_low n h = ap length (digits_low n h)

pub length_more : (n : ℕ) → 10 ≤ n → length (digits n) ≡ length (digits (n / 10)) + 1
length_more n h = ap length (digits_more n h) ∙ simp length-append

-- every number has a digit
pub digits_some : (n : ℕ) → 1 ≤ length (digits n)
digits_some n = go (ltb n 10) refl
  where
    go : (b : Bool) → ltb n 10 ≡ b → 1 ≤ length (digits n)
    go true e = omega (arith, length_low n (ltb-true n 10 e))
    go false e = omega (arith, length_more n (ltb-false n 10 e))

-- a number below 10 ^ (k + 1) has at most k + 1 digits
pub length_most : (k n : ℕ) → n < 10 ^ suc k → length (digits n) ≤ suc k
length_most zero n h = omega (arith, length_low n (omega arith))
length_most (suc k) n h = go (ltb n 10) refl (length_most k (n / 10))
  where
    go : (b : Bool) → ltb n 10 ≡ b → (n / 10 < 10 ^ suc k → length (digits (n / 10)) ≤ suc k)
        → length (digits n) ≤ suc (suc k)
    go true e ih = omega (arith, length_low n (ltb-true n 10 e))
    go false e ih =
        let p = pow-suc 10 (suc k) in
        let r = ih (omega arith) in
        omega (arith, length_more n (ltb-false n 10 e))

pub and_true : (a b : Bool) → a && b ≡ true → (a ≡ true) × (b ≡ true)
and_true a b = (and-eq-true_iff a b).0

-- a number outside its field
pub beyond : (lo hi v : ℕ) → leb lo v && leb v hi ≡ false → Beyond lo hi v
beyond lo hi v = go (leb lo v) refl (leb v hi) refl
  where
    go : (a : Bool) → leb lo v ≡ a → (b : Bool) → leb v hi ≡ b → a && b ≡ false → Beyond lo hi v
    go false e b f h = inl (leb-false lo v e)
    go true e false f h = inr (leb-false v hi f)
    go true e true f h = absurd (true≢false h)

pub beyond_false : (lo hi v : ℕ) → Beyond lo hi v → leb lo v && leb v hi ≡ false
beyond_false lo hi v (inl h) = rw (lt-leb lo v h)
beyond_false lo hi v (inr h) = rw (lt-leb v hi h) (and-false (leb lo v))

pub digit_range : (b : ℕ) → is_digit b ≡ true → (48 ≤ b) × (b ≤ 57)
digit_range b e =
    let p = and_true (leb 48 b) (leb b 57) e in
    (leb-true 48 b p.0, leb-true b 57 p.1)

-- ---- from the digits to what is read
-- a number below the limit is read as it is, and what is read below the limit is the number
pub cap_low : (limit n : ℕ) → n < limit → cap_to limit n ≡ n
cap_low limit n h = rw (lt-ltb n limit h)

pub cap_is : (limit n : ℕ) {v : ℕ} → v ≡ cap_to limit n → v < limit → n ≡ v
cap_is limit n {v} e h = go (ltb n limit) refl
  where
    go : (b : Bool) → ltb n limit ≡ b → n ≡ v
    go true f = sym (e ∙ rw f)
    go false f =
        let top : v ≡ limit = e ∙ rw f in
        absurd (omega arith)

-- the cap does not change whether a value is in its field
pub cap_inside : (limit lo hi v : ℕ) → hi < limit
    → leb lo (cap_to limit v) && leb (cap_to limit v) hi ≡ leb lo v && leb v hi
cap_inside limit lo hi v k = go (ltb v limit) refl
  where
    go : (b : Bool) → ltb v limit ≡ b → leb lo (cap_to limit v) && leb (cap_to limit v) hi ≡ leb lo v && leb v hi
    go true t = rw t
    go false t =
        let h = ltb-false v limit t in
        rw (t, lt-leb limit hi k, lt-leb v hi (omega arith))
        (and-false (leb lo limit) ∙ sym (and-false (leb lo v)))

pub capped_low : (n : ℕ) → n ≤ 256 → capped n ≡ n
capped_low n h = cap_low 257 n (omega arith)

pub capped_high : (n : ℕ) → 256 < n → capped n ≡ 257
capped_high n h = rw (le-ltb n 257 (omega arith))

pub digit : (r : ℕ) → r < 10 → is_digit (48 + r) ≡ true
digit r h = rw (le-leb 48 (48 + r) (omega arith), le-leb (48 + r) 57 (omega arith))

-- one digit, and one more, under a limit
grow_first : (limit n : ℕ) → grow_to limit 0 (48 + n) ≡ cap_to limit n
grow_first limit n = ap (cap_to limit) (omega arith)

grow_capped : (limit n : ℕ) → grow_to limit (cap_to limit (n / 10)) (48 + n % 10) ≡ cap_to limit n
grow_capped limit n = go (ltb (n / 10) limit) refl
  where
    go : (d : Bool) → ltb (n / 10) limit ≡ d → grow_to limit (cap_to limit (n / 10)) (48 + n % 10) ≡ cap_to limit n
    go true f = rw f (ap (cap_to limit) (omega arith))
    go false f =
        let k = ltb-false (n / 10) limit f in
        rw (f, le-ltb (limit * 10 + ((48 + n % 10) - 48)) limit (omega arith), le-ltb n limit (omega arith))

-- the run goes on after the digits of n with n
run_on : (limit f n : ℕ) → n ≤ f → (at : ℕ) (rest : List ℕ)
    → run_to limit 0 at (digits_in f n ++ rest) ≡ run_to limit (cap_to limit n) (at + length (digits_in f n)) rest
run_on limit zero n h at rest = rw (digit n (omega arith), grow_first limit n)
run_on limit (suc f) n h at rest = go (ltb n 10) refl (λ l. run_on limit f (n / 10) l at)
  where
    go : (b : Bool) → ltb n 10 ≡ b
        → (n / 10 ≤ f → (r : List ℕ)
        → run_to limit 0 at (digits_in f (n / 10) ++ r)
        ≡ run_to limit (cap_to limit (n / 10)) (at + length (digits_in f (n / 10))) r)
        → run_to limit 0 at (digits_in (suc f) n ++ rest)
        ≡ run_to limit (cap_to limit n) (at + length (digits_in (suc f) n)) rest
    go true e ih =
        let l = ltb-true n 10 e in
        rw (e, digit n (omega arith), grow_first limit n)
    go false e ih =
        let l = ltb-false n 10 e in
        let m : n % 10 < 10 = omega arith in
        rw (
          e,
          append_assoc,
          ih (omega arith) (((48 + n % 10) ∷ []) ++ rest),
          digit (n % 10) m,
          grow_capped limit n,
          length-append,
          add_assoc,
        )

run_stops : (limit : ℕ) (rest : List ℕ) → NoDigit rest → (v i : ℕ)
    → run_to limit v i rest ≡ record { value = v; end = i }
run_stops limit [] h v i = refl
run_stops limit (x ∷ xs) h v i = rw h

run_back : (limit n : ℕ) (rest : List ℕ) → NoDigit rest → (at : ℕ)
    → run_to limit 0 at (digits n ++ rest) ≡ record { value = cap_to limit n; end = at + length (digits n) }
unfolding digits
run_back limit n rest nd at =
    run_on limit n n (le_refl n) at rest ∙ run_stops limit rest nd (cap_to limit n) (at + length (digits_in n n))

digits_is : (n : ℕ) → digits n ≡ digits_in n n
unfolding digits
digits_is n = refl

-- a number from 1 on begins 1 to 9
abbrev First : List ℕ → Type 0
First l = (x : ℕ) × (xs : List ℕ) × (l ≡ x ∷ xs) × (49 ≤ x) × (x ≤ 57)

first : (f n : ℕ) → n ≤ f → 1 ≤ n → First (digits_in f n)
first zero n h k = absurd (omega arith)
first (suc f) n h k = go (ltb n 10) refl (λ l r. first f (n / 10) l r)
  where
    go : (b : Bool) → ltb n 10 ≡ b → (n / 10 ≤ f → 1 ≤ n / 10 → First (digits_in f (n / 10)))
        → First (digits_in (suc f) n)
    go true e ih =
        let l = ltb-true n 10 e in
        (48 + n, [], rw e, omega arith, omega arith)
    go false e ih =
        let l = ltb-false n 10 e in
        let (x, xs, p, lo, hi) = ih (omega arith) (omega arith) in
        (x, xs ++ ((48 + n % 10) ∷ []), rw (e, p), lo, hi)

no_letter : (x : ℕ) → x ≤ 57 → is_letter x ≡ false
no_letter x h = rw (lt-leb 97 x (omega arith))

item_first : (limit at x : ℕ) (xs : List ℕ) (r : Run) → 49 ≤ x → x ≤ 57 → run_to limit 0 at (x ∷ xs) ≡ r
    → item_to limit at (x ∷ xs) ≡ step (Number r.value) at r.end
item_first limit at x xs r lo hi g =
    let d : is_digit x ≡ true = rw (le-leb 48 x (omega arith), le-leb x 57 hi) in
    let z : eqb x 48 ≡ false = ne_eqb x 48 (λ e. omega arith) in
    rw (no_letter x hi, z, g, d)

item_back : (limit n : ℕ) (rest : List ℕ) → NoDigit rest → (at : ℕ)
    → item_to limit at (digits n ++ rest) ≡ step (Number (cap_to limit n)) at (at + length (digits n))
item_back limit zero rest nd at =
    let e : run_to limit 0 at (48 ∷ rest) ≡ record { value = cap_to limit 0; end = at + 1 } =
    rw (digits_low 0 (omega arith)) at (run_back limit 0 rest nd at) in
    rw (digits_low 0 (omega arith), e, le-ltb (at + 1) (at + 1) (le_refl (at + 1)))
item_back limit (suc m) rest nd at =
    let (x, xs, p, lo, hi) = first (suc m) (suc m) (le_refl (suc m)) (omega arith) in
    let q : digits (suc m) ≡ x ∷ xs = digits_is (suc m) ∙ p in
    let g = run_back limit (suc m) rest nd at in
    let g' : run_to limit 0 at (x ∷ (xs ++ rest))
    ≡ record { value = cap_to limit (suc m); end = at + length (digits (suc m)) } =
    rw (ap (λ (l : List ℕ). l ++ rest) q) at g in
    ap (λ (l : List ℕ). item_to limit at (l ++ rest)) q ∙ item_first limit at x (xs ++ rest) _ lo hi g'

-- ---- no two numbers have the same digits, whatever follows that is no digit
-- the number that digits after v make, and what follows them
abbrev valued : ℕ → List ℕ → ℕ × List ℕ
valued v [] = (v, [])
valued v (x ∷ xs) = pick (is_digit x) (valued (v * 10 + (x - 48)) xs) (v, x ∷ xs)

valued_on : (f n : ℕ) → n ≤ f → (rest : List ℕ) → valued 0 (digits_in f n ++ rest) ≡ valued n rest
valued_on zero n h rest = rw (digit n (omega arith)) (ap (λ v. valued v rest) (omega arith))
valued_on (suc f) n h rest = go (ltb n 10) refl (λ l. valued_on f (n / 10) l)
  where
    go : (b : Bool) → ltb n 10 ≡ b
        → (n / 10 ≤ f → (r : List ℕ) → valued 0 (digits_in f (n / 10) ++ r) ≡ valued (n / 10) r)
        → valued 0 (digits_in (suc f) n ++ rest) ≡ valued n rest
    go true e ih =
        let l = ltb-true n 10 e in
        rw (e, digit n (omega arith)) (ap (λ v. valued v rest) (omega arith))
    go false e ih =
        let l = ltb-false n 10 e in
        rw (e, append_assoc, ih (omega arith) (((48 + n % 10) ∷ []) ++ rest), digit (n % 10) (omega arith))
        (ap (λ v. valued v rest) (omega arith))

valued_back : (n : ℕ) (rest : List ℕ) → NoDigit rest → valued 0 (digits n ++ rest) ≡ (n, rest)
unfolding digits
valued_back n [] d = valued_on n n (le_refl n) []
valued_back n (x ∷ xs) d = valued_on n n (le_refl n) (x ∷ xs) ∙ rw d

pub digits_apart : (n n' : ℕ) (rest rest' : List ℕ) → NoDigit rest → NoDigit rest'
    → digits n ++ rest ≡ digits n' ++ rest' → (n ≡ n') × (rest ≡ rest')
digits_apart n n' rest rest' d d' e =
    let q = sym (valued_back n rest d) ∙ ap (valued 0) e ∙ valued_back n' rest' d' in
    (ap (λ p. p.0) q, ap (λ p. p.1) q)

-- ---- what is yielded
pub run_end : (limit : ℕ) (xs : List ℕ) (v i : ℕ) → i ≤ (run_to limit v i xs).end
run_end limit [] v i = le_refl i
run_end limit (x ∷ xs) v i = go (is_digit x) refl (run_end limit xs (grow_to limit v x) (i + 1))
  where
    go : (b : Bool) → is_digit x ≡ b → i + 1 ≤ (run_to limit (grow_to limit v x) (i + 1) xs).end
        → i ≤ (run_to limit v i (x ∷ xs)).end
    go true t ih = rw t (omega arith)
    go false t ih = rw t (le_refl i)

-- a number is yielded for its whole run of digits, whatever its length: it, or the limit where it is not below it
pub number_yielded : (limit : ℕ) (s : List ℕ) (at n : ℕ) (rest : List ℕ) → drop at s ≡ digits n ++ rest → NoDigit rest
    → step_to limit s at ≡ step (Number (cap_to limit n)) at (at + length (digits n))
number_yielded limit s at n rest e nd = rw e (item_back limit n rest nd at)

pub number_low : (s : List ℕ) (at n : ℕ) (rest : List ℕ) → drop at s ≡ digits n ++ rest → NoDigit rest → n ≤ 256
    → step_at s at ≡ step (Number n) at (at + length (digits n))
number_low s at n rest e nd h =
    number_yielded 257 s at n rest e nd ∙ ap (λ v. step (Number v) at (at + length (digits n))) (capped_low n h)

pub number_high : (s : List ℕ) (at n : ℕ) (rest : List ℕ) → drop at s ≡ digits n ++ rest → NoDigit rest → 256 < n
    → step_at s at ≡ step (Number 257) at (at + length (digits n))
number_high s at n rest e nd h =
    number_yielded 257 s at n rest e nd ∙ ap (λ v. step (Number v) at (at + length (digits n))) (capped_high n h)

-- past the end nothing is
pub nothing_yielded : (s : List ℕ) (at : ℕ) → length s ≤ at → step_at s at ≡ step Other at at
nothing_yielded s at h = rw (drop_of_length-le s h)

-- in a longer run that begins 0 the second digit cannot be there
pub leading_zero : (s : List ℕ) (at x : ℕ) (rest : List ℕ) → drop at s ≡ 48 ∷ x ∷ rest → is_digit x ≡ true
    → step_at s at ≡ step Other (at + 1) (at + 1)
leading_zero s at x rest e d =
    let v = grow_to 257 (grow_to 257 0 48) x in
    let l = run_end 257 rest v (at + 1 + 1) in
    rw (e, d, lt-ltb (at + 1) (run_to 257 v (at + 1 + 1) rest).end (omega arith))

-- ---- from what is read to the digits
-- one digit more
digits_snoc : (v x : ℕ) → 1 ≤ v → 48 ≤ x → x ≤ 57 → digits (v * 10 + (x - 48)) ≡ digits v ++ (x ∷ [])
digits_snoc v x h l u =
    let n = v * 10 + (x - 48) in
    let p : n / 10 ≡ v = omega arith in
    let q : 48 + n % 10 ≡ x = omega arith in
    digits_more n (omega arith) ∙ rw (p, q)

-- a whole run of digits, that of a number of any size
abbrev Stands : List ℕ → Type 0
Stands xs = (v : ℕ) × (rest : List ℕ) × (xs ≡ digits v ++ rest) × NoDigit rest

-- the digits of v and those that follow them
whole_run : (xs : List ℕ) (v : ℕ) → 1 ≤ v → Stands (digits v ++ xs)
whole_run [] v h = (v, [], refl, tt)
whole_run (x ∷ xs) v h = go (is_digit x) refl (whole_run xs (v * 10 + (x - 48)))
  where
    go : (b : Bool) → is_digit x ≡ b → (1 ≤ v * 10 + (x - 48) → Stands (digits (v * 10 + (x - 48)) ++ xs))
        → Stands (digits v ++ (x ∷ xs))
    go true t ih =
        let (l, u) = digit_range x t in
        let (n, rest, e, nd) = ih (omega arith) in
        (n, rest, sym (append_assoc (digits v) (x ∷ []) xs) ∙ rw (← digits_snoc v x h l u) e, nd)
    go false t ih = (v, x ∷ xs, refl, t)

other_no_number : {A : Type 0} (v : ℕ) → Other ≡ Number v → A
other_no_number v e = absurd (let z : ◌≡◌ {A = ℕ} 0 1 = cc in omega arith)

-- a run that a number was read from
number_stands : (limit at x : ℕ) (xs : List ℕ) (v : ℕ) → is_digit x ≡ true
    → (number_step at x (run_to limit 0 at (x ∷ xs))).item ≡ Number v → Stands (x ∷ xs)
number_stands limit at x xs v t i = go (eqb x 48) refl
  where
    one : ℕ
    one = grow_to limit 0 x

    alone : (ys : List ℕ) → (run_to limit one (at + 1) ys).end ≤ at + 1 → NoDigit ys
    alone [] h = tt
    alone (y ∷ ys) h = next (is_digit y) refl
      where
        next : (b : Bool) → is_digit y ≡ b → is_digit y ≡ false
        next true d = absurd (omega (arith, run_end limit ys (grow_to limit one y) (at + 1 + 1), rw d at h))
        next false d = d

    go : (b : Bool) → eqb x 48 ≡ b → Stands (x ∷ xs)
    go false c =
        let (l, u) = digit_range x t in
        let e : x ∷ [] ≡ digits (x - 48) =
        ap (λ (a : ℕ). a ∷ []) (omega arith) ∙ sym (digits_low (x - 48) (omega arith)) in
        let (n, rest, p, nd) = whole_run xs (x - 48) (omega (arith, eqb-false x 48 c)) in
        (n, rest, ap (λ (a : List ℕ). a ++ xs) e ∙ p, nd)
    go true c = zero_run (ltb (at + 1) (run_to limit one (at + 1) xs).end) refl
      where
        zero_run : (d : Bool) → ltb (at + 1) (run_to limit one (at + 1) xs).end ≡ d → Stands (x ∷ xs)
        zero_run true d = other_no_number v (rw (t, c, d) at i)
        zero_run false d =
            let e : x ∷ [] ≡ digits 0 =
            ap (λ (a : ℕ). a ∷ []) (eqb-true x 48 c) ∙ sym (digits_low 0 (omega arith)) in (
              0,
              xs,
              ap (λ (a : List ℕ). a ++ xs) e,
              alone xs (ltb-false (at + 1) (run_to limit one (at + 1) xs).end d),
            )

item_stands : (limit at : ℕ) (xs : List ℕ) (v : ℕ) → (item_to limit at xs).item ≡ Number v → Stands xs
item_stands limit at [] v h = other_no_number v h
item_stands limit at (x ∷ xs) v h = go (is_letter x) refl (is_digit x) refl (eqb x 10) refl
  where
    go : (a : Bool) → is_letter x ≡ a → (b : Bool) → is_digit x ≡ b → (d : Bool) → eqb x 10 ≡ d → Stands (x ∷ xs)
    go true t b u d w =
        absurd (let j : Word ≡ Number v = rw t at h in let z : ◌≡◌ {A = ℕ} 0 1 = cc in omega arith)
    go false t true u d w =
        let e : item_to limit at (x ∷ xs) ≡ number_step at x (run_to limit 0 at (x ∷ xs)) = rw (t, u) in
        number_stands limit at x xs v u (sym (ap (λ (r : Step). r.item) e) ∙ h)
    go false t false u true w =
        absurd (let j : LineEnd ≡ Number v = rw (t, u, w) at h in let z : ◌≡◌ {A = ℕ} 0 1 = cc in omega arith)
    go false t false u false w = other_no_number v (rw (t, u, w) at h)

-- where a number is yielded stands the whole run of its digits
pub yielded_number : (limit : ℕ) (s : List ℕ) (at v : ℕ) → (step_to limit s at).item ≡ Number v
    → (n : ℕ) × (rest : List ℕ) × (drop at s ≡ digits n ++ rest) × NoDigit rest × (v ≡ cap_to limit n)
yielded_number limit s at v h =
    let (n, rest, e, nd) = item_stands limit at (drop at s) v h in
    let q : Number v ≡ Number (cap_to limit n) =
    sym h ∙ ap (λ (st : Step). st.item) (number_yielded limit s at n rest e nd) in
    (n, rest, e, nd, cc)
