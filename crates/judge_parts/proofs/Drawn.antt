-- A list that is judged in parts, its first n conditions and then the others.
--   some_number  a reason's number is not 0
--   drawn_first  what the first n draw is drawn by the list, and so by what a `?` answers
--   drawn_next   where the first n draw none, the list draws what the others do
use mathlib.Core.Bool.{true, false}
use mathlib.Core.List.{List, [], ◌∷◌}
use mathlib.Core.Path.{◌≡◌, ◌∙◌, ap}
use Prim.Native.Nat.{ℕ, zero, suc}
use native.Mathlib.Omega.{arith}
use lib.Dec.{T, ltb, ltb→lt}
use lib.ListN.{take, drop}
use Rattle.std.specs.Prelude.{Result}
use Rattle.std.specs.Result.{IsErrAnd}
use Rattle.std.proofs.lemmas.Result.{err_from_is_err_and}
use Rattle.model.specs.declared.Reason.{Reason}
use Rattle.model.specs.Reason.{number_of, drawn}
use Rattle.model.specs.Refusal.{Refusal, ◌when◌, first_of}
use Rattle.model.proofs.Refusal.{numbered}

above_0 : (r : Reason) → T (ltb 0 (number_of r))
above_0 Reason.Size = tt
above_0 Reason.Radius = tt
above_0 Reason.Reach = tt
above_0 Reason.Kind = tt
above_0 Reason.Length = tt
above_0 Reason.Sum = tt
above_0 Reason.Dot = tt
above_0 Reason.Cell = tt
above_0 Reason.Pair = tt
above_0 Reason.Byte = tt
above_0 Reason.Field = tt
above_0 Reason.Room = tt
above_0 Reason.Input = tt
above_0 Reason.Layout = tt
above_0 Reason.Maximum = tt
above_0 Reason.Contradiction = tt
above_0 Reason.Pfm = tt
above_0 Reason.Sample = tt
above_0 Reason.Table = tt
above_0 Reason.Ledger = tt
above_0 Reason.Like = tt
above_0 Reason.Locked = tt

pub some_number : (r : Reason) → number_of r ≡ 0 → ⊥
some_number r e = omega (arith, e, ltb→lt 0 (number_of r) (above_0 r))

stays : (n : ℕ) (l : List Refusal) (r : Reason) → number_of r ≡ first_of (take n l) → number_of r ≡ first_of l
stays zero l r e = absurd (some_number r e)
stays (suc n) [] r e = e
stays (suc n) (m when true ∷ l) r e = e
stays (suc n) (m when false ∷ l) r e = stays n l r e

pub drawn_first : (n : ℕ) (l : List Refusal) (q : Result (Unit {0}) Reason) (r : Reason)
    → IsErrAnd q (λ a. a ≡ r) → number_of r ≡ first_of (take n l) → drawn q ≡ first_of l
drawn_first n l q r h e =
    let (a, is, same) = err_from_is_err_and q h in
    ap drawn is ∙ ap number_of same ∙ stays n l r e

pub drawn_next : (n : ℕ) (l : List Refusal) → T (numbered (take n l)) → 0 ≡ first_of (take n l) → {x : ℕ}
    → x ≡ first_of (drop n l) → x ≡ first_of l
drawn_next zero l t e f = f
drawn_next (suc n) [] t e f = f
drawn_next (suc n) (zero when b ∷ l) t e f = absurd t
drawn_next (suc n) (suc m when true ∷ l) t e f = absurd (omega (arith, e))
drawn_next (suc n) (suc m when false ∷ l) t e f = drawn_next n l t e f
