-- Laws of what the code answers of a text.
--   err_same                the exit of a `?` refuses as what it asked did
--   reason_some             no reason has the number 0
--   ended_refused           what is refused before the end is refused at the end
--   place_then, place_stop  parts after parts that were read, and after parts that were refused
use mathlib.Core.List.{List, ◌++◌}
use mathlib.Core.Path.{◌≡◌, sym, ◌∙◌, ap}
use Prim.Native.Nat.{ℕ}
use native.Mathlib.Omega.{arith}
use borrow.Author.Tests.{ne_eqb}
use Rattle.std.specs.Prelude.{Result, Ok, Err}
use Rattle.std.specs.Result.{IsErrAnd}
use Rattle.model.specs.Format.{Place}
use Rattle.model.specs.declared.Reason.{Reason}
use Rattle.model.specs.declared.Refused.{Refused}
use Rattle.model.specs.Format.{Part, place, parse, place_of, ended}
use Rattle.model.specs.Reason.{number_of}
use Rattle.model.proofs.Format.{parse_append, parse_refused}
use Rattle.invariants.specs.Reading.{place_in}

pub err_same : {T E : Type 0} {e : E} (r : Result T E) → IsErrAnd r (λ f. f ≡ e) → r ≡ Err e
err_same (Ok x) h = absurd h
err_same (Err f) h = ap Err h

pub reason_some : (r : Reason) → number_of r ≡ 0 → ⊥
reason_some Reason.Size e = omega arith
reason_some Reason.Radius e = omega arith
reason_some Reason.Reach e = omega arith
reason_some Reason.Kind e = omega arith
reason_some Reason.Length e = omega arith
reason_some Reason.Sum e = omega arith
reason_some Reason.Dot e = omega arith
reason_some Reason.Cell e = omega arith
reason_some Reason.Pair e = omega arith
reason_some Reason.Byte e = omega arith
reason_some Reason.Field e = omega arith
reason_some Reason.Room e = omega arith
reason_some Reason.Input e = omega arith
reason_some Reason.Layout e = omega arith
reason_some Reason.Maximum e = omega arith
reason_some Reason.Contradiction e = omega arith
reason_some Reason.Pfm e = omega arith
reason_some Reason.Sample e = omega arith
reason_some Reason.Table e = omega arith
reason_some Reason.Ledger e = omega arith
reason_some Reason.Like e = omega arith
reason_some Reason.Locked e = omega arith

pub ended_refused : (s : List ℕ) (r : Refused) {p : Place} → place_in (Err r) ≡ p → place_in (Err r) ≡ ended s p
ended_refused s r e = rw (← e, ne_eqb (number_of r.reason) 0 (reason_some r.reason))

module _ (a b : List Part) (s : List ℕ) (at : ℕ) where
  pub place_then : {k : ℕ} → place 0 k ≡ place_of (parse a s at)
      → place_of (parse (a ++ b) s at) ≡ place_of (parse b s k)
  place_then e =
      ap place_of (parse_append a b s at (sym (ap (λ (p : Place). p.refusal) e)))
      ∙ ap (λ (p : Place). place_of (parse b s p.at)) (sym e)

  pub place_stop : (r : Refused) → place_in (Err r) ≡ place_of (parse a s at)
      → place_of (parse (a ++ b) s at) ≡ place_in (Err r)
  place_stop r e =
      ap place_of (parse_refused a b s at (λ z. reason_some r.reason (ap (λ (p : Place). p.refusal) e ∙ z))) ∙ sym e
