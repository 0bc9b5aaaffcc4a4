-- The verdicts of a filed sheet, as the code comes to them.
--   count_by, count_none  the dots at the start, and the number that stands for one below 0
--   measured_by           a plate whose table was filled and whose squared error was worked out
--   figure_by             the figure, by the bits of the two numbers
--   unstarted, started    rest, by the number with which a start is refused
--   startable_by          what a start takes, its dots being given, holds the locks
--   ok_none, ledger_by    the ledger, by the number that 21 draws
use mathlib.Core.Bool.{Bool, true, false, not}
use mathlib.Core.List.{List, [], ◌∷◌}
use mathlib.Core.Path.{◌≡◌, refl, sym, ◌∙◌, ap, subst}
use Prim.Native.Nat.{ℕ, zero, suc, ◌+◌, ◌-◌, ◌≤◌, ◌<◌}
use native.Mathlib.Omega.{arith}
use borrow.Author.Tests.{eqb-true, eqb-false, ne_eqb}
use lib.Dec.{eqb, lit≤}
use lib.IntN.{ℤ, pos, negsuc, ◌+ℤ◌, ◌-ℤ◌}
use lib.ListN.{length}
use mir.Syntax.{w64}
use mir.Val.{to_z, of_z}
use Rattle.std.specs.Prelude.{Result, Ok, Err}
use Rattle.std.specs.Result.{is_ok}
use Rattle.algebra.proofs.Solver.{reify}
use Rattle.algebra.proofs.Order.{read≡, show≡}
use Rattle.model.specs.declared.Measures.{Measures}
use Rattle.model.specs.declared.Reason.{Reason}
use Rattle.model.specs.Reason.{number_of, drawn}
use Rattle.judge_parts.proofs.Drawn.{some_number}
use Rattle.model.specs.FiledCalls.{Rests, Lowers, Unstarted}
use Rattle.model.specs.declared.Stats.{Stats}
use Rattle.model.specs.Basic.{pick}
use Rattle.model.specs.Error.{Target, target_for, cells, filtered_errors, squared_error}
use Rattle.model.specs.Ledger.{count_of, dot_total, unequal, wrong_stats}
use Rattle.model.specs.Lock.{LocksHold}
use Rattle.model.specs.Refusal.{first_of, start_refusal, PlateFits}
use Rattle.model.specs.FiledCalls.{ledger_fits, resting_of}
use Rattle.model.proofs.Error.{filtered_long}
use Rattle.model.proofs.Refusal.{start_hold}
use Rattle.model.proofs.Screen.{is_given}
use Rattle.model.proofs.State.{same}
use Rattle.judge_ledger.proofs.Tests.{apart}
use Rattle.filed_rest.specs.Measured.{Measured, Startable}

-- ---- the dots at the start: those on the plate - on + off
module _ (n on off : ℕ) where
  abbrev start : ℤ
  start = pos n -ℤ pos on +ℤ pos off

  pub count_by : on ≤ n + off → n + off - on ≡ count_of (pos n -ℤ pos on +ℤ pos off)
  count_by h =
      let rest : pos (n + off - on) ≡ start =
      show≡ (pos (n + off - on) ∷ pos n ∷ pos on ∷ pos off ∷ []) (search reify depth 40) (omega arith) in
      ap count_of rest

  pub count_none : n + off < on → 18446744073709551615 ≡ count_of (pos n -ℤ pos on +ℤ pos off)
  count_none h = go start refl
    where
      go : (z : ℤ) → start ≡ z → 18446744073709551615 ≡ count_of z
      go (pos i) e =
          absurd (omega (arith, read≡ (pos n ∷ pos on ∷ pos off ∷ pos i ∷ []) (search reify depth 40) e))
      go (negsuc i) e = refl

-- ---- a plate whose table was filled and whose squared error was worked out
pub measured_by : {m : Measures} {psf gray dots : List ℕ} {n : ℕ} {table : List ℤ} {squared : ℤ}
    → PlateFits m psf gray dots n → table ≡ filtered_errors (target_for m psf gray) dots
    → squared ≡ squared_error (target_for m psf gray) dots → Measured m psf gray dots table squared
measured_by {dots} f e z =
    record {
      plate = subst (PlateFits _ _ _ dots) (f.halftone.table_length ∙ sym (ap length e ∙ filtered_long _ dots)) f;
      table_is = e;
      squared_is = z;
    }

-- ---- the figure
pub figure_by : (n : ℕ) (z : ℤ) {squared : ℤ} → to_z w64 n ≡ pos n → to_z w64 (of_z w64 z) ≡ z → z ≡ squared
    → eqb n (of_z w64 z) ≡ not (unequal (pos n) squared)
figure_by n z e f is = go (eqb n (of_z w64 z)) refl ∙ ap (λ x. not (unequal (pos n) x)) is
  where
    go : (b : Bool) → eqb n (of_z w64 z) ≡ b → b ≡ not (unequal (pos n) z)
    go true h =
        ap not (sym (same {a = pos n} {b = z} (sym e ∙ ap (to_z w64) (eqb-true n (of_z w64 z) h) ∙ f)))
    go false h = ap not (sym (apart (pos n) z (λ q. eqb-false n (of_z w64 z) h (ap (of_z w64) q))))

-- ---- rest
pub unstarted : {x : ℕ} (number : ℕ) (b : Bool) → x ≡ number → (x ≡ 0 → ⊥) → Unstarted x ≡ resting_of number b
unstarted zero b e h = absurd (h e)
unstarted (suc n) b e h = ap Unstarted e

pub started : {x : ℕ} (number : ℕ) {b c : Bool} → x ≡ number → x ≡ 0 → b ≡ c → pick b Rests Lowers ≡ resting_of number c
started number {b} {c} e z f =
    subst (λ k. pick b Rests Lowers ≡ resting_of k c) (sym z ∙ e) (ap (λ d. pick d Rests Lowers) f)

pub startable_by : (m : Measures) (psf gray dots : List ℕ) (n : ℕ) {table : List ℤ} {squared : ℤ} {x : ℕ}
    → Measured m psf gray dots table squared → m.start ≡ 2 → x ≡ start_refusal m psf gray dots n → x ≡ 0
    → Startable m psf gray dots table squared
startable_by m psf gray dots n f given e z =
    let no_kind : (k : ℕ) → k < 2 → m.start ≡ k → ⊥ = λ k h i. omega (arith, given, i) in
    record {
      measured = f;
      locks =
          subst (LocksHold (target_for m psf gray)) (is_given m gray dots (no_kind 0 (lit≤ tt)) (no_kind 1 (lit≤ tt)))
          (start_hold m psf gray dots n (sym e ∙ z));
    }

-- ---- the ledger
pub ok_none : (r : Result (Unit {0}) Reason) → is_ok r ≡ eqb (drawn r) 0
ok_none (Ok u) = refl
ok_none (Err e) = sym (ne_eqb (number_of e) 0 (some_number e))

pub ledger_by : (t : Target) (dots : List ℕ) (s : Stats) {x n total : ℕ} {squared : ℤ} {s' : Stats}
    → x ≡ first_of (wrong_stats n t.step squared total s' ∷ [])
    → n ≡ cells t → squared ≡ squared_error t dots → total ≡ dot_total dots → s' ≡ s
    → eqb x 0 ≡ ledger_fits t dots s
unfolding ledger_fits
ledger_by t dots s e n z d l =
    ap (λ k. eqb k 0) (e ∙ (λ i. first_of (wrong_stats (n i) t.step (z i) (d i) (l i) ∷ [])))
