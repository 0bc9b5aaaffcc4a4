-- Lists of bytes as loops and chains read them.
--   above_any  whether a byte is above a bound, as `any` finds it
--   left_next  what is left of a list after n entries begins with entry n
use mathlib.Core.Bool.{Bool, true, false}
use mathlib.Core.List.{List, [], ◌∷◌}
use mathlib.Core.Logic.{◌⊎◌, inl, inr}
use mathlib.Core.Path.{◌≡◌}
use Prim.Native.Nat.{ℕ, zero, suc, ◌≤◌, ◌<◌}
use native.Mathlib.Omega.{arith}
use lib.ListN.{length, drop, get_or}
use Rattle.std.specs.Bool.{MatchBool}
use Rattle.std.specs.List.{HoldsAt, AllWithin}
use Rattle.std.proofs.lemmas.Bool.{true_from_ne_false, cases_lt}
use Rattle.std.proofs.lemmas.List.{get_or_past}
use Rattle.model.specs.Refusal.{above}
use Rattle.model.proofs.Refusal.{none_above, above_none}

pub above_any : (k : ℕ) (l : List ℕ) (b : Bool)
    → MatchBool b ((i : ℕ) × (i < length l) × HoldsAt (λ x. k < x) l i) (AllWithin (λ x. x ≤ k) l 0 (length l))
    → above k l ≡ b
above_any k l true (i, _, h) = true_from_ne_false (above k l) (λ e. omega (arith, none_above k l e i, h 0))
above_any k l false h = above_none k l (record { each = λ i. go i (cases_lt i (length l)) })
  where
    go : (i : ℕ) → (i < length l) ⊎ (length l ≤ i) → get_or l i 0 ≤ k
    go i (inl p) = h i 0 (omega arith) p
    go i (inr p) = rw (get_or_past l i 0 p) (omega arith)

pub left_next : {x : ℕ} {xs : List ℕ} (l : List ℕ) (n : ℕ) → drop n l ≡ x ∷ xs
    → (n < length l) × (get_or l n 0 ≡ x) × (xs ≡ drop (suc n) l)
left_next [] zero e = cc
left_next [] (suc n) e = cc
left_next (y ∷ l) zero e = (omega arith, cc, cc)
left_next (y ∷ l) (suc n) e = let (i, x, xs) = left_next l n e in (omega (arith, i), x, xs)
