-- Laws of convergence (01: settling), for every target.
--   converge_rule, converge_only                 it keeps to document 01's rule, and nothing else does
--   converge_again, converge_anew, converge_end  the rule as a loop steps by it
--   converge_keeps                               what each accepted change keeps, it keeps
--   converge_scans, converge_counts              its scans are few, and no accepted change is forgotten
--   converge_rest                                it ends at rest, by its last two scans alone
use mathlib.Core.Path.{◌≡◌, refl, sym, ◌∙◌, ap, subst}
use Prim.Native.Nat.{ℕ, zero, suc, ◌+◌, ◌*◌, ◌≤◌, ◌<◌}
use native.Mathlib.Nat.{not-suc-le-zero, le_refl}
use native.Mathlib.Omega.{arith}
use borrow.Author.Tests.{eqb-true, eqb-false, eq-eqb, ne_eqb}
use lib.Dec.{eqb}
use lib.IntN.{nat_abs}
use Rattle.model.specs.Basic.{pick}
use Rattle.model.specs.Error.{Target, cells, squared_error, filtered_errors, Halftone}
use Rattle.model.specs.Reference.{Reference}
use Rattle.model.specs.Scan.{Rule, toggles, Sweep, sweep, Convergence, swaps, turn, converge_in, converge_from}
use Rattle.model.specs.Lists.{Rest}
use Rattle.model.specs.Ledger.{changes}
use Rattle.model.proofs.Basic.{pick_cases, pick_cong}
use Rattle.model.proofs.Scan.{Lawful, toggles_lawful, swaps_lawful, Keeps, sweep_keeps}
use Rattle.model.proofs.Scan.{sweep_halftone, sweep_counts, sweep_lowers, sweep_still}
use Rattle.model.proofs.Rest.{rest_by}

module _ (t : Target) (reach : ℕ) where
  -- the size of E
  abbrev size : Reference → ℕ
  size p = nat_abs (squared_error t p.dots)

  abbrev toggled : Reference → Sweep
  toggled p = sweep t (toggles t) p

  abbrev swapped : Reference → Sweep
  swapped p = sweep t (swaps t reach) p

  -- a scan that accepts nothing
  same : (rule : Rule) (p : Reference) → (sweep t rule p).changes ≡ 0 → (sweep t rule p).after ≡ p
  same rule p e = (sweep_still t rule p (cells t) e).0

  -- what a turn hands on where something was accepted
  record Follows (p q : Reference) : Type 0 where
    lower : size q < size p
    halftone : t.top ≡ 1 → Halftone t p.dots → Halftone t q.dots

  module _ (wide : 0 < t.width) where
    follows : (rule : Rule) → (t.top ≡ 1 → Lawful t rule) → (p : Reference) → ((sweep t rule p).changes ≡ 0 → ⊥)
        → Follows p (sweep t rule p).after
    follows rule lawful p some =
        record {
          lower = sweep_lowers t rule p wide (cells t) some;
          halftone = λ one f. sweep_halftone t rule (lawful one) p f (cells t) (le_refl (cells t));
        }

    follows_toggles : (p : Reference) → ((toggled p).changes ≡ 0 → ⊥) → Follows p (toggled p).after
    follows_toggles = follows (toggles t) (toggles_lawful t)

    follows_swaps : (p : Reference) → ((swapped p).changes ≡ 0 → ⊥) → Follows p (swapped p).after
    follows_swaps = follows (swaps t reach) (λ one. swaps_lawful t reach)

    -- after a toggle scan that accepted nothing
    follows_both : (p : Reference) → (toggled p).changes ≡ 0 → ((swapped (toggled p).after).changes ≡ 0 → ⊥)
        → Follows p (swapped (toggled p).after).after
    follows_both p none some =
        subst (λ q. Follows q (swapped (toggled p).after).after) (same (toggles t) p none)
        (follows_swaps (toggled p).after some)

    -- two that agree on what follows
    turn_cong : (f g : Reference → ℕ → Convergence) (p : Reference) (n : ℕ)
        → ((q : Reference) (k : ℕ) → Follows p q → f q k ≡ g q k) → turn t reach f p n ≡ turn t reach g p n
    turn_cong f g p n agree =
        pick_cong (eqb (toggled p).changes 0)
        (λ e. pick_cong (eqb (swapped (toggled p).after).changes 0) (λ d. refl) (λ d.
        agree _ _ (follows_both p (eqb-true _ _ e) (eqb-false _ _ d))))
        (λ e. agree _ _ (follows_toggles p (eqb-false _ _ e)))

    -- ---- the rule: convergence is one turn, and then convergence
    -- fuel above E is fuel enough
    fuel : (i j : ℕ) (p : Reference) (n : ℕ) → size p < i → size p < j
        → converge_in t reach i p n ≡ converge_in t reach j p n
    unfolding converge_in
    fuel zero j p n h k = absurd (not-suc-le-zero h)
    fuel (suc i) zero p n h k = absurd (not-suc-le-zero k)
    fuel (suc i) (suc j) p n h k =
        turn_cong (converge_in t reach i) (converge_in t reach j) p n (λ q l f.
        fuel i j q l (omega (arith, f.lower)) (omega (arith, f.lower)))

    pub converge_rule : (p : Reference) (n : ℕ) → converge_from t reach p n ≡ turn t reach (converge_from t reach) p n
    unfolding converge_from converge_in
    converge_rule p n =
        turn_cong (converge_in t reach (size p)) (converge_from t reach) p n (λ q l f.
        fuel (size p) (suc (size q)) q l f.lower (omega arith))

    -- nothing else keeps to it, where a dot byte is 0 or 1
    pub converge_only : t.top ≡ 1 → (f : Reference → ℕ → Convergence)
        → ((p : Reference) (n : ℕ) → Halftone t p.dots → f p n ≡ turn t reach f p n)
        → (p : Reference) (n : ℕ) → Halftone t p.dots → f p n ≡ converge_from t reach p n
    converge_only one f rule p n h = go (suc (size p)) p n h (omega arith)
      where
        go : (i : ℕ) (p : Reference) (n : ℕ) → Halftone t p.dots → size p < i → f p n ≡ converge_from t reach p n
        go zero p n h k = absurd (not-suc-le-zero k)
        go (suc i) p n h k =
            rule p n h
            ∙ turn_cong f (converge_from t reach) p n (λ q l d. go i q l (d.halftone one h) (omega (arith, d.lower)))
            ∙ sym (converge_rule p n)

    -- ---- what a loop steps by
    module _ (p : Reference) (n : ℕ) where
      abbrev swept : Sweep
      swept = swapped (toggled p).after

      abbrev again : Convergence
      again = converge_from t reach (toggled p).after (n + 1)

      abbrev anew : Convergence
      anew = converge_from t reach swept.after (n + 2)

      abbrev end : Convergence
      end = record { after = swept.after; scans = n + 2 }

      -- the toggle scan accepts something
      pub converge_again : ((toggled p).changes ≡ 0 → ⊥) → converge_from t reach p n ≡ again
      converge_again some =
          converge_rule p n
          ∙ ap (λ b. pick b (pick (eqb swept.changes 0) end anew) again) (ne_eqb (toggled p).changes 0 some)

      module _ (none : (toggled p).changes ≡ 0) where
        turned : converge_from t reach p n ≡ pick (eqb swept.changes 0) end anew
        turned =
            converge_rule p n
            ∙ ap (λ b. pick b (pick (eqb swept.changes 0) end anew) again) (eq-eqb (toggled p).changes 0 none)

        -- it accepts nothing, but the swap scan does
        pub converge_anew : (swept.changes ≡ 0 → ⊥) → converge_from t reach p n ≡ anew
        converge_anew some = turned ∙ ap (λ b. pick b end anew) (ne_eqb swept.changes 0 some)

        -- neither accepts anything
        pub converge_end : swept.changes ≡ 0 → converge_from t reach p n ≡ end
        converge_end e = turned ∙ ap (λ b. pick b end anew) (eq-eqb swept.changes 0 e)

    -- ---- what each turn hands back, convergence has
    module _ (Q : Reference → ℕ → Convergence → Type 0)
        (again : (p : Reference) (n : ℕ) (r : Convergence) → ((toggled p).changes ≡ 0 → ⊥)
        → Q (toggled p).after (n + 1) r → Q p n r)
        (anew : (p : Reference) (n : ℕ) (r : Convergence) → (toggled p).changes ≡ 0 → ((swapped p).changes ≡ 0 → ⊥)
        → Q (swapped p).after (n + 2) r → Q p n r)
        (end : (p : Reference) (n : ℕ) → (toggled p).changes ≡ 0 → (swapped p).changes ≡ 0
        → Q p n (record { after = p; scans = n + 2 })) where
      -- the swap scan, and what follows it
      abbrev rest : Reference → ℕ → Convergence
      rest a n =
          pick (eqb (swapped a).changes 0) (record { after = (swapped a).after; scans = n + 2 })
          (converge_from t reach (swapped a).after (n + 2))

      one_turn : (p : Reference) (n : ℕ)
          → ((q : Reference) (k : ℕ) → Follows p q → Q q k (converge_from t reach q k))
          → Q p n (converge_from t reach p n)
      one_turn p n ih =
          subst (Q p n) (sym (converge_rule p n)) (pick_cases (Q p n) (eqb (toggled p).changes 0)
          (λ e. resting (eqb-true _ _ e))
          (λ e. let some = eqb-false _ _ e in again p n _ some (ih _ _ (follows_toggles p some))))
        where
          resting : (toggled p).changes ≡ 0 → Q p n (rest (toggled p).after n)
          resting none =
              subst (λ a. Q p n (rest a n)) (sym (same (toggles t) p none))
              (pick_cases (Q p n) (eqb (swapped p).changes 0)
              (λ e.
              let none' = eqb-true (swapped p).changes 0 e in
              subst (λ q. Q p n (record { after = q; scans = n + 2 })) (sym (same (swaps t reach) p none'))
              (end p n none none'))
              (λ e.
              let some : (swapped p).changes ≡ 0 → ⊥ = eqb-false _ _ e in
              anew p n _ none some (ih _ _ (follows_swaps p some))))

      converge_ind : (p : Reference) (n : ℕ) → Q p n (converge_from t reach p n)
      converge_ind p n = go (suc (size p)) p n (omega arith)
        where
          go : (i : ℕ) (p : Reference) (n : ℕ) → size p < i → Q p n (converge_from t reach p n)
          go zero p n h = absurd (not-suc-le-zero h)
          go (suc i) p n h = one_turn p n (λ q k f. go i q k (omega (arith, f.lower)))

    -- what each accepted change keeps, it keeps
    pub converge_keeps : t.top ≡ 1 → (P : Reference → Type 0) → Keeps t P → (p : Reference) (n : ℕ) → Halftone t p.dots → P p
        → P (converge_from t reach p n).after
    converge_keeps one P keep =
        converge_ind (λ p n r. Halftone t p.dots → P p → P r.after)
        (λ p n r some ih f h. ih ((follows_toggles p some).halftone one f) (kept (toggles t) (toggles_lawful t one) p f h))
        (λ p n r none some ih f h.
        ih ((follows_swaps p some).halftone one f) (kept (swaps t reach) (swaps_lawful t reach) p f h))
        (λ p n none none' f h. h)
      where
        kept : (rule : Rule) → Lawful t rule → (p : Reference) → Halftone t p.dots → P p → P (sweep t rule p).after
        kept rule lawful p f h = sweep_keeps t rule lawful p f P keep h (cells t) (le_refl (cells t))

    -- ---- its scans are at most two, and two more for each change that it accepts
    pub converge_scans : (p : Reference) (n : ℕ)
        → (let r = converge_from t reach p n in
        r.scans + 2 * changes p.figures ≤ n + 2 * changes r.after.figures + 2)
    converge_scans =
        converge_ind (λ p n r. r.scans + 2 * changes p.figures ≤ n + 2 * changes r.after.figures + 2)
        (λ p n r some ih. omega (arith, sweep_counts t (toggles t) p (cells t)))
        (λ p n r none some ih. omega (arith, sweep_counts t (swaps t reach) p (cells t)))
        (λ p n none none'. omega arith)

    -- and no accepted change is forgotten
    pub converge_counts : (p : Reference) (n : ℕ)
        → changes p.figures ≤ changes (converge_from t reach p n).after.figures
    converge_counts =
        converge_ind (λ p n r. changes p.figures ≤ changes r.after.figures)
        (λ p n r some ih. omega (arith, sweep_counts t (toggles t) p (cells t)))
        (λ p n r none some ih. omega (arith, sweep_counts t (swaps t reach) p (cells t)))
        (λ p n none none'. omega arith)

    -- ---- it ends at rest
    module _ (step : 0 < t.step) (one : t.top ≡ 1) (near : reach ≤ 6) where
      pub converge_rest : (p : Reference) (n : ℕ) → Halftone t p.dots
          → (let dots = (converge_from t reach p n).after.dots in Rest t reach dots (filtered_errors t dots))
      converge_rest =
          converge_ind
          (λ p n r. Halftone t p.dots → Rest t reach r.after.dots (filtered_errors t r.after.dots))
          (λ p n r some ih f. ih ((follows_toggles p some).halftone one f))
          (λ p n r none some ih f. ih ((follows_swaps p some).halftone one f))
          (λ p n none none' f.
          rest_by t reach wide step one near p.dots f (sweep_still t (toggles t) p (cells t) none).1
          (sweep_still t (swaps t reach) p (cells t) none').1)
