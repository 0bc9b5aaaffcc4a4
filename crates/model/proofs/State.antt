-- Laws of the state: the dot total, and where 20 and 21 are drawn.
--   dots_counted                       the dot total is the number of dot bytes that are 1
--   below, at_least, equal             what the tests of 20 and 21 say
--   state_accepted, state_known        none of their conditions holds exactly where the state fits
--   ledger_exactly                     21 is not drawn exactly where the ledger fits dots with their table
--   total_known                        the dot total of a ledger that 21 does not refuse
--   fresh_fits                         dots with their table and a fresh ledger fit
--   fits_accepted, accepted_fits       so they are drawn exactly where it does not fit
use mathlib.Core.Bool.{Bool, true, false, not}
use mathlib.Core.Logic.{ite}
use mathlib.Core.List.{List, [], ◌∷◌, filter}
use mathlib.Core.Path.{◌≡◌, refl, sym, ◌∙◌, ap, subst}
use Prim.Native.Nat.{ℕ, ◌+◌, ◌*◌, ◌≤◌}
use native.Mathlib.Decide.{ℕ_discrete}
use native.Mathlib.Nat.{mul-zero}
use native.Mathlib.Omega.{arith}
use borrow.Author.Tests.{le-ltb, ltb-false}
use lib.Dec.{T, ltb, lit≤}
use lib.IntN.{ℤ, pos, +ℤ_invr}
use lib.Signed.{lt_z, ◌≤ℤ◌, ◌<ℤ◌, ≤ℤ_refl, lt_z_no, clash_ℤ}
use lib.ListN.{length, get_or}
use Rattle.algebra.proofs.Solver.{reify}
use Rattle.algebra.proofs.Order.{ordℤ, show≡}
use Rattle.model.specs.declared.Stats.{Stats}
use Rattle.model.specs.Basic.{Exactly, AtMost, some_below}
use Rattle.model.specs.Psf.{total}
use Rattle.model.specs.Error.{Target, cells, filtered_error, filtered_errors, squared_error, most_squared}
use Rattle.model.specs.Ledger.{dot_total, ledger_dots, unequal, some, faults, wrong_stats, fresh_stats, most_count}
use Rattle.model.specs.State.{bad_table, bad_stats, StateFits}
use Rattle.model.specs.Refusal.{first_of}
use Rattle.model.proofs.Basic.{at_most_tail, get_d_tabulate, tabulate-by, neither, none_below, all_below}
use Rattle.model.proofs.Error.{filtered_long}
use Rattle.model.proofs.Refusal.{None, ◌nor◌, none, drawn_none}

-- ---- the dot total
pub total≤ : (k : ℕ) (l : List ℕ) → AtMost k l → total l ≤ length l * k
unfolding total
total≤ k [] h = omega arith
total≤ k (x ∷ l) h = omega (arith, h.each 0, total≤ k l (at_most_tail h))

-- the dot bytes that are 1
abbrev dots_of : List ℕ → List ℕ
dots_of = filter (λ d. ℕ_discrete d 1)

pub dots_counted : (dots : List ℕ) → AtMost 1 dots → dot_total dots ≡ length (dots_of dots)
unfolding total
dots_counted [] h = refl
dots_counted (d ∷ dots) h = go (ℕ_discrete d 1) (dots_counted dots (at_most_tail h))
  where
    go : (x : Dec (d ≡ 1)) → dot_total dots ≡ length (dots_of dots)
        → d + total dots ≡ length (ite x (d ∷ dots_of dots) (dots_of dots))
    go (yes e) ih = omega arith
    go (no e) ih = omega (arith, h.each 0)

-- ---- the tests of 20 and 21
pub not_below : (a b : ℤ) → b ≤ℤ a → lt_z a b ≡ false
not_below a b h = go (lt_z a b) refl
  where
    go : (x : Bool) → lt_z a b ≡ x → x ≡ false
    go true e = clash_ℤ {a = a} {b = b} (record { lt = subst T (sym e) tt }) h
    go false e = refl

pub below : {a b : ℤ} → lt_z a b ≡ true → a <ℤ b
below e = record { lt = subst T (sym e) tt }

pub is_below : {a b : ℤ} → a <ℤ b → lt_z a b ≡ true
is_below {a} {b} h = go (lt_z a b) h.lt
  where
    go : (x : Bool) → T x → x ≡ true
    go true k = refl
    go false k = absurd k

pub at_least : (a b : ℤ) → lt_z a b ≡ false → b ≤ℤ a
at_least a b h = lt_z_no {a = a} {b = b} (subst (λ x. T (not x)) (sym h) tt)

pub same : {a b : ℤ} → a ≡ b → unequal a b ≡ false
same {a} {b} e = rw (e, not_below b b (≤ℤ_refl b)) refl

pub equal : (a b : ℤ) → unequal a b ≡ false → a ≡ b
equal a b h =
    let (low, high) = neither (lt_z a b) (lt_z b a) h in
    show≡ (a ∷ b ∷ []) (search reify depth 40) (omega (arith, ordℤ, at_least a b low, at_least b a high))

-- no test of a list holds
abbrev Clear : List Bool → Type 0
Clear [] = Unit {0}
Clear (b ∷ l) = (b ≡ false) × Clear l

clear : (l : List Bool) → some l ≡ false → Clear l
clear [] h = tt
clear (b ∷ l) h = let (first, others) = neither b (some l) h in (first, clear l others)

module _ (t : Target) (dots : List ℕ) where
  -- 20 is not drawn of T
  table_accepted : (table : List ℤ) → table ≡ filtered_errors t dots
      → some_below (cells t) (λ m. unequal (get_or table m (pos 0)) (filtered_error t dots m)) ≡ false
  unfolding filtered_errors
  table_accepted table e =
      none_below (cells t) _ (λ i h.
      same (ap (λ l. get_or l i (pos 0)) e ∙ get_d_tabulate (cells t) (filtered_error t dots) i (pos 0) h))

  -- neither 20 nor 21 is drawn
  pub state_accepted : (table : List ℤ) (s : Stats) → StateFits t dots table s
      → None (bad_table t dots table ∷ bad_stats t dots s ∷ [])
  unfolding bad_table wrong_stats filtered_errors
  state_accepted table s f = (
    table_accepted table f.table_is,
    (
      same f.error_is
          nor (not_below _ _ f.start_low nor not_below _ _ f.start_high nor refl)
          nor (le-ltb _ _ f.on_few nor le-ltb _ _ f.off_few nor le-ltb _ _ f.swaps_few nor refl)
          nor le-ltb _ _ f.dots_fit
          nor same f.total_is
          nor not_below _ _ f.fall
          nor refl,
      tt,
    ),
  )

  -- and only such a state draws neither
  pub state_known : (table : List ℤ) (s : Stats) → length table ≡ cells t
      → None (bad_table t dots table ∷ bad_stats t dots s ∷ []) → StateFits t dots table s
  unfolding bad_table wrong_stats filtered_errors
  state_known table s long drawn =
      let (error, (start, (count, (few, (total, (fall, _))))))
      = clear (faults (cells t) t.step (squared_error t dots) (dot_total dots) s) drawn.1.0 in
      let f = s.figures in
      let first = f.start_error in
      let (low, (high, _)) = clear (lt_z first (pos 0) ∷ lt_z (pos most_squared) first ∷ []) start in
      let (on, (off, (swaps, _))) = clear (ltb most_count f.on ∷ ltb most_count f.off ∷ ltb most_count f.swaps ∷ [])
      count in
      record {
        table_is = tabulate-by (pos 0) (cells t) (filtered_error t dots) table long (λ i h.
            equal _ _ (all_below (cells t) _ drawn.0 i h));
        error_is = equal _ _ error;
        start_low = at_least _ _ low;
        start_high = at_least _ _ high;
        on_few = ltb-false _ _ on;
        off_few = ltb-false _ _ off;
        swaps_few = ltb-false _ _ swaps;
        dots_fit = ltb-false _ _ few;
        total_is = equal _ _ total;
        fall = at_least _ _ fall;
      }

  -- the dot total of a ledger that 21 does not refuse
  pub total_known : (s : Stats) → first_of (bad_stats t dots s ∷ []) ≡ 0 → pos (dot_total dots) ≡ ledger_dots s.figures
  unfolding wrong_stats
  total_known s e =
      let (drawn, _) = none (bad_stats t dots s ∷ []) tt refl e in
      let (_, (_, (_, (_, (total, _)))))
      = clear (faults (cells t) t.step (squared_error t dots) (dot_total dots) s) drawn in
      equal _ _ total

  -- a ledger that 21 does not refuse fits dots with their table, and no other does
  pub ledger_exactly : (s : Stats)
      → Exactly (first_of (bad_stats t dots s ∷ []) ≡ 0) (StateFits t dots (filtered_errors t dots) s)
  unfolding bad_table wrong_stats
  ledger_exactly s = (
    λ e.
        state_known _ s (filtered_long t dots)
        (table_accepted _ refl, none (bad_stats t dots s ∷ []) tt refl e),
    λ f. drawn_none (bad_stats t dots s ∷ []) (state_accepted _ s f).1,
  )

  -- of dots with their table and a fresh ledger
  pub fresh_fits : AtMost 1 dots → length dots ≡ cells t
      → pos 0 ≤ℤ squared_error t dots → squared_error t dots ≤ℤ pos most_squared
      → StateFits t dots (filtered_errors t dots) (fresh_stats t dots)
  unfolding fresh_stats
  fresh_fits bits long low high =
      record {
        table_is = refl;
        error_is = refl;
        start_low = low;
        start_high = high;
        on_few = lit≤ tt;
        off_few = lit≤ tt;
        swaps_few = lit≤ tt;
        dots_fit = omega (arith, total≤ 1 dots bits, long);
        total_is = ap pos (omega arith);
        fall = rw (mul-zero t.step, +ℤ_invr (squared_error t dots)) (≤ℤ_refl (pos 0));
      }

-- ---- 20 and 21 are drawn exactly where the state does not fit
module _ (t : Target) (dots : List ℕ) (table : List ℤ) (s : Stats) where
  pub fits_accepted : StateFits t dots table s → first_of (bad_table t dots table ∷ bad_stats t dots s ∷ []) ≡ 0
  fits_accepted f = drawn_none (bad_table t dots table ∷ bad_stats t dots s ∷ []) (state_accepted t dots table s f)

  pub accepted_fits : length table ≡ cells t → first_of (bad_table t dots table ∷ bad_stats t dots s ∷ []) ≡ 0
      → StateFits t dots table s
  unfolding bad_table wrong_stats
  accepted_fits long e =
      state_known t dots table s long (none (bad_table t dots table ∷ bad_stats t dots s ∷ []) tt refl e)
