-- What a call answers and leaves where it is refused, and where it is not.
--   no_result, same_result, same_refusal  what a reply says, it says alone
--   is_refused, is_done                   the number that the judge found, and the buffer as it was; or the outcome
--   was_taken, was_done                   a call that answers a value was not refused, and the value is the outcome's
--   ends_refused, ends_done               the same of a function that ends as a call does
--   ends_as                               it ends as an outcome that is the call's
use mathlib.Core.Path.{◌≡◌, refl, sym, ◌∙◌, ap, subst}
use Prim.Native.Nat.{ℕ, zero, suc}
use native.Mathlib.Omega.{arith}
use Rattle.model.specs.Calls.{Reply, result, refused, Outcome, Ends, unless}

-- the value of a result
abbrev value_or : {A : Type 0} → A → Reply A → A
value_or a (result b) = b
value_or a (refused n o) = a

abbrev IsResult : {A : Type 0} → Reply A → Type 0
IsResult (result a) = Unit {0}
IsResult (refused n o) = ⊥

-- a refusal is no result, and each is one number or one value only
pub no_result : {A : Type 0} {n k : ℕ} {a : A} → refused n k ≡ result a → ⊥
no_result e = subst IsResult (sym e) tt

pub same_result : {A : Type 0} {a b : A} → result a ≡ result b → a ≡ b
same_result {a = a} e = ap (value_or a) e

abbrev drawn_by : {A : Type 0} → Reply A → ℕ × ℕ
drawn_by (result a) = (0, 0)
drawn_by (refused n k) = (n, k)

pub same_refusal : {A : Type 0} {n k m j : ℕ} → ◌≡◌ {A = Reply A} (refused n k) (refused m j) → (n ≡ m) × (k ≡ j)
same_refusal e = (ap (λ r. (drawn_by r).0) e, ap (λ r. (drawn_by r).1) e)

module _ {A B : Type 0} (b : B) (o : Outcome A B) where
  -- the number answered is the one that the judge found, and the buffer is as it was
  pub is_refused : (n : ℕ) {x : ℕ} → x ≡ n → (x ≡ 0 → ⊥)
      → (refused x 0 ≡ (unless n b o).reply) × (b ≡ (unless n b o).left)
  is_refused zero e h = absurd (h e)
  is_refused (suc n) e h = (ap (λ k. refused k 0) e, refl)

  -- what is answered and left is the outcome's
  pub is_done : (n : ℕ) {b' : B} → n ≡ 0 → b' ≡ o.left
      → (o.reply ≡ (unless n b o).reply) × (b' ≡ (unless n b o).left)
  is_done zero e f = (refl, f)
  is_done (suc n) e f = absurd (omega arith)

  -- a call that answers a value was not refused
  pub was_taken : (n : ℕ) {a : A} → (unless n b o).reply ≡ result a → (n ≡ 0) × (o ≡ unless n b o)
  was_taken zero f = (refl, refl)
  was_taken (suc n) f = absurd (subst IsResult (sym f) tt)

  -- and the value is the outcome's
  pub was_done : (n : ℕ) {a v : A} → o.reply ≡ result v → (unless n b o).reply ≡ result a
      → (n ≡ 0) × (v ≡ a) × (o ≡ unless n b o)
  was_done n {a} e f =
      let (taken, same) = was_taken n f in
      (taken, ap (value_or a) (sym e ∙ ap (λ o. o.reply) same ∙ f), same)

  -- the same of a function that ends as a call does
  pub ends_refused : (n : ℕ) {x : ℕ} → x ≡ n → (x ≡ 0 → ⊥) → Ends (unless n b o) (refused x 0) b
  ends_refused n e h = let (reply, left) = is_refused n e h in record { reply_is = reply; left_is = left }

  pub ends_done : (n : ℕ) → n ≡ 0 → {reply : Reply A} {left : B} → Ends o reply left → Ends (unless n b o) reply left
  ends_done zero e h = h
  ends_done (suc n) e h = absurd (omega arith)

-- a function that ends as that outcome, which is the call's
pub ends_as : {A B : Type 0} {o v : Outcome A B} → o ≡ v → Ends o v.reply v.left
ends_as e = record { reply_is = sym (ap (λ r. r.reply) e); left_is = sym (ap (λ r. r.left) e) }
