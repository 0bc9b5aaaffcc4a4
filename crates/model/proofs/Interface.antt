-- The C interface: over slices of the right size its calls are those of document 01.
--   two_behind, three_behind                 two parts behind the pointers, and three
--   counted, not_counted                     a call over a slice of so many numbers, and of another number: 5
--   other_count, measures_draw               what the slice of measures draws, and these
--   ledger_draws, slices_draw                then that of the ledger; and what slices of the right size draw
--   start_over_lem, call_over_lem                    a start and each later call over slices of the right size, refused alike
--   over_other_count, call_over_other_count  and over another number of measures: 5
--   toggle_is_told, swap_is_told             the change of an attempt tells whether it was accepted
--   measures_read, stored_read               measures, and a ledger, that were stored are read back as they were
--   run_over_lem                                 its lists of calls are lists of calls, so demand 3 holds of them
use mathlib.Core.Bool.{false}
use mathlib.Core.List.{List, [], ◌∷◌, ◌++◌}
use mathlib.Core.Path.{◌≡◌, refl, sym, ◌∙◌, ap, subst}
use Prim.Native.Nat.{ℕ, zero, suc}
use native.Mathlib.Omega.{arith}
use borrow.Author.Tests.{eq-eqb, ne_eqb}
use lib.IntN.{ℤ}
use lib.Signed.{clash_ℤ}
use lib.ListN.{length, drop}
use Rattle.model.specs.declared.Measures.{Measures}
use Rattle.model.specs.declared.Stats.{Stats}
use Rattle.model.specs.Error.{Target, target_for, cell_at, filtered_errors}
use Rattle.model.specs.Refusal.{Refusal, ◌when◌, first_of, start_refusals, start_refusal, bad_measures}
use Rattle.model.specs.State.{Asked, no_cell, toggle_asked, swap_asked, later_refusals}
use Rattle.model.specs.State.{later_refusal, toggle_refusal, swap_refusal}
use Rattle.model.specs.Reference.{Reference, reference, Tried, accepted, declined, attempt}
use Rattle.model.specs.Calls.{Reply, result, refused, Outcome, unless, Buffers, with_table, later_call, start_call}
use Rattle.model.specs.Calls.{toggle_call, swap_call, toggle_scan_call, swap_scan_call, converge_call}
use Rattle.model.specs.Lists.{Call, toggle_at, swap_at, toggle_scan, swap_scan, convergence}
use Rattle.model.specs.Lists.{Result, tried, swept, rested, Held, latest, outcome, hand_on, call, call_next, run}
use Rattle.model.specs.Interface.{bad_count, over_count, measures_size, measures_in}
use Rattle.model.specs.Interface.{stats_size, stats_numbers, stats_in, slice_refusal, over_slices}
use Rattle.model.specs.Interface.{start_over, toggle_over, swap_over, Told}
use Rattle.model.specs.Interface.{Slices, slices_of, held_in, stats_after, leave, call_over, run_over}
use Rattle.model.specs.Change.{Move, toggle, swap}
use Rattle.model.specs.Sheet.{values_of}
use Rattle.model.proofs.Refusal.{first_passes, by_first, by_second}
use Rattle.model.proofs.Calls.{was_taken, was_done}
use Rattle.model.proofs.Later.{toggle_enters, swap_enters}
use Rattle.model.proofs.Attempts.{attempt_cases}
use Rattle.model.proofs.Lists.{runs_alike}

-- what is refused twice alike is refused once
twice : {A B : Type 0} (b : B) (p : Outcome A B) (n k : ℕ) → ((n ≡ 0 → ⊥) → n ≡ k)
    → unless n b (unless k b p) ≡ unless k b p
twice b p zero k h = refl
twice b p (suc n) k h =
    subst (λ j. record { reply = refused (suc n) 0; left = b } ≡ unless j b p) (h (λ e. absurd (omega arith))) refl

-- two parts behind the pointers, and three
pub two_behind : {A B : Type 0} {a c : A} {b d : B} → a ≡ c → b ≡ d → ◌≡◌ {A = A × B} (a, b) (c, d)
two_behind e f = λ i. (e i, f i)

pub three_behind : {A B C : Type 0} {a a' : A} {b b' : B} {c c' : C} → a ≡ a' → b ≡ b' → c ≡ c'
    → ◌≡◌ {A = A × B × C} (a, b, c) (a', b', c')
three_behind e f g = λ i. (e i, f i, g i)

-- ---- a slice of so many numbers, and of another number
module _ {A B C : Type 0} (n : ℕ) (l : List C) (kept : B) (o : Outcome A B) where
  pub counted : length l ≡ n → over_count n l kept o ≡ o
  unfolding over_count
  counted e = rw (eq-eqb (length l) n e) refl

  pub not_counted : (length l ≡ n → ⊥) → over_count n l kept o ≡ record { reply = refused 5 0; left = kept }
  unfolding over_count
  not_counted h = rw (ne_eqb (length l) n h) refl

-- ---- what the two slices of a call draw
module _ (measures : List ℕ) (stats : List ℤ) where
  abbrev refusals : List Refusal
  refusals = bad_measures (measures_in measures)

  -- 5 over another number of measures
  pub other_count : (length measures ≡ measures_size → ⊥) → slice_refusal measures stats ≡ 5
  unfolding slice_refusal
  other_count h = rw (ne_eqb (length measures) measures_size h) refl

  module _ (five : length measures ≡ measures_size) where
    -- over five, what they draw
    pub measures_draw : (first_of refusals ≡ 0 → ⊥) → slice_refusal measures stats ≡ first_of refusals
    unfolding slice_refusal
    measures_draw h =
        rw (eq-eqb (length measures) measures_size five)
        (sym (by_first refusals (bad_count stats_size stats) tt refl h))

    -- or else 5, over another number of the ledger's
    pub ledger_draws : first_of refusals ≡ 0 → (length stats ≡ stats_size → ⊥) → slice_refusal measures stats ≡ 5
    unfolding slice_refusal
    ledger_draws z h =
        let drawn : 5 ≡ first_of (bad_count stats_size stats) = rw (ne_eqb (length stats) stats_size h) refl in
        rw (eq-eqb (length measures) measures_size five)
        (sym (by_second refusals (bad_count stats_size stats) tt refl z drawn))

    -- over six of these no more than the measures draw
    pub slices_draw : length stats ≡ stats_size → slice_refusal measures stats ≡ first_of refusals
    unfolding slice_refusal
    slices_draw six =
        rw (eq-eqb (length measures) measures_size five, eq-eqb (length stats) stats_size six)
        (first_passes refusals (5 when false ∷ []) [] (refl, tt))

-- ---- the calls over them
module _ (measures psf gray dots : List ℕ) (table stats : List ℤ) where
  abbrev kept : Buffers
  kept = record { dots = dots; table = table }

  -- a call whose refusals begin with those
  over_slices_lem : length measures ≡ measures_size → length stats ≡ stats_size
      → {A : Type 0} (l : List Refusal) → l ≡ bad_measures (measures_in measures) ++ drop 4 l → (p : Outcome A Buffers)
      → let o = unless (first_of l) kept p in over_slices measures psf gray dots table stats o ≡ o
  unfolding over_slices
  over_slices_lem five six l e p =
      twice kept p (slice_refusal measures stats) (first_of l)
      (λ h. by_first (bad_measures (measures_in measures)) (drop 4 l) tt (slices_draw measures stats five six) h
      ∙ ap first_of (sym e))

  pub start_over_lem : length measures ≡ measures_size → length stats ≡ stats_size
      → start_over measures psf gray dots table stats ≡ start_call (measures_in measures) psf gray dots table
  unfolding start_call start_refusal
  start_over_lem five six =
      over_slices_lem five six (start_refusals (measures_in measures) psf gray dots (length table)) refl _

  -- another number of measures, any call
  pub over_other_count : (length measures ≡ measures_size → ⊥) → {A : Type 0} (o : Outcome A Buffers)
      → over_slices measures psf gray dots table stats o ≡ record { reply = refused 5 0; left = kept }
  unfolding over_slices
  over_other_count h o = rw (other_count measures stats h) refl

module _ (measures psf gray : List ℕ) where
  abbrev m : Measures
  m = measures_in measures

  pub call_over_lem : (h : Slices) (c : Call) → length measures ≡ measures_size → length h.stats ≡ stats_size
      → call_over measures psf gray h c ≡ call m psf gray (held_in h) c
  unfolding toggle_call swap_call toggle_scan_call swap_scan_call converge_call later_call toggle_refusal swap_refusal
      later_refusal
  call_over_lem h c five six = go c
    where
      drawn : Asked → List Refusal
      drawn = later_refusals m psf gray h.dots h.table (stats_in h.stats)

      taken : {A : Type 0} (f : A → Result) (a : Asked) (p : Outcome A Buffers)
          → let o = unless (first_of (drawn a)) (record { dots = h.dots; table = h.table }) p in
          outcome f (over_slices measures psf gray h.dots h.table h.stats o) ≡ outcome f o
      taken f a p =
          ap (outcome f)
          (over_slices_lem measures psf gray h.dots h.table h.stats five six (drawn a) refl p)

      go : (c : Call) → call_over measures psf gray h c ≡ call m psf gray (held_in h) c
      go (toggle_at row col) = taken tried (toggle_asked m gray row col) _
      go (swap_at row col row' col') = taken tried (swap_asked m gray h.dots row col row' col') _
      go toggle_scan = taken swept no_cell _
      go swap_scan = taken swept no_cell _
      go convergence = taken rested no_cell _

  pub call_over_other_count : (h : Slices) (c : Call) → (length measures ≡ measures_size → ⊥)
      → call_over measures psf gray h c
      ≡ record { reply = refused 5 0; left = record { dots = h.dots; table = h.table } }
  call_over_other_count h c k = go c
    where
      drawn : {A : Type 0} (f : A → Result) (o : Outcome A Buffers)
          → outcome f (over_slices measures psf gray h.dots h.table h.stats o)
          ≡ record { reply = refused 5 0; left = record { dots = h.dots; table = h.table } }
      drawn f o = ap (outcome f) (over_other_count measures psf gray h.dots h.table h.stats k o)

      go : (c : Call) → call_over measures psf gray h c
          ≡ record { reply = refused 5 0; left = record { dots = h.dots; table = h.table } }
      go (toggle_at row col) = drawn tried _
      go (swap_at row col row' col') = drawn tried _
      go toggle_scan = drawn swept _
      go swap_scan = drawn swept _
      go convergence = drawn rested _

-- ---- an attempt's change tells whether it was accepted
attempt_is_told : (t : Target) (stats : List ℤ) (p : Reference) (v : Move)
    → (let done = attempt t p v in
    Told p.dots (filtered_errors t p.dots) stats done.answer (with_table t done.after.dots))
attempt_is_told t stats p v =
    attempt_cases t p v (λ done.
    Told p.dots (filtered_errors t p.dots) stats done.answer (with_table t done.after.dots))
    (λ l. record { below_is_accepted = λ _. tt; accepted_is_below = λ _. l; else_kept = λ h. clash_ℤ l h })
    (λ h.
    record {
      below_is_accepted = λ l. clash_ℤ l h;
      accepted_is_below = λ b. absurd b;
      else_kept = λ _. (refl, refl, refl);
    })

module _ (measures psf gray dots : List ℕ) (table stats : List ℤ) where
  abbrev sizes : Measures
  sizes = measures_in measures

  abbrev t : Target
  t = target_for sizes psf gray

  -- of a call that, not refused, was handed T
  call_is_told : (number : ℕ) (v : Move) (a : Tried) → (number ≡ 0 → table ≡ filtered_errors t dots)
      → (let o = over_slices measures psf gray dots table stats
      (later_call number t dots table (attempt t (reference dots (stats_in stats)) v)) in
      o.reply ≡ result a → Told dots table stats a o.left)
  unfolding over_slices later_call
  call_is_told number v a fresh e =
      let p = reference dots (stats_in stats) in
      let (_, outer) = was_taken _ _ (slice_refusal measures stats) e in
      let (taken, value, inner) = was_done _ _ number refl (ap (λ o. o.reply) outer ∙ e) in
      subst (λ o. Told dots table stats a o.left) (inner ∙ outer)
      (subst (λ a. Told dots table stats a (with_table t (attempt t p v).after.dots)) value
      (subst (λ T. Told dots T stats (attempt t p v).answer (with_table t (attempt t p v).after.dots))
      (sym (fresh taken)) (attempt_is_told t stats p v)))

  pub toggle_is_told : (row col : ℕ) (a : Tried)
      → (let o = toggle_over measures psf gray dots table stats row col in
      o.reply ≡ result a → Told dots table stats a o.left)
  unfolding toggle_call
  toggle_is_told row col a =
      call_is_told (toggle_refusal sizes psf gray dots table (stats_in stats) row col)
      (toggle dots (cell_at sizes.width row col)) a
      (λ e. (toggle_enters sizes psf gray dots table (stats_in stats) row col e).0.state.table_is)

  pub swap_is_told : (row col row' col' : ℕ) (a : Tried)
      → (let o = swap_over measures psf gray dots table stats row col row' col' in
      o.reply ≡ result a → Told dots table stats a o.left)
  unfolding swap_call
  swap_is_told row col row' col' a =
      call_is_told (swap_refusal sizes psf gray dots table (stats_in stats) row col row' col')
      (swap dots (cell_at sizes.width row col) (cell_at sizes.width row' col')) a
      (λ e. (swap_enters sizes psf gray dots table (stats_in stats) row col row' col' e).0.state.table_is)

-- ---- lists
pub measures_read : (m : Measures) → measures_in (values_of m) ≡ m
unfolding measures_in
measures_read m = refl

pub stored_read : (s : Stats) → stats_in (stats_numbers s) ≡ s
unfolding stats_in
stored_read s = refl

stats_after_lem : (s : Stats) (r : Reply Result) → stats_after (stats_numbers s) r ≡ stats_numbers (latest s r)
stats_after_lem s (result (tried (accepted s' d))) = refl
stats_after_lem s (result (tried (declined d))) = refl
stats_after_lem s (result (swept r)) = refl
stats_after_lem s (result (rested r)) = refl
stats_after_lem s (refused n o) = refl

leave_over : (h : Held) (o : Outcome Result Buffers) → leave (slices_of h) o ≡ slices_of (hand_on h o)
leave_over h o =
    ap (λ l. record { dots = o.left.dots; table = o.left.table; stats = l })
    (stats_after_lem h.stats o.reply)

pub run_over_lem : (measures psf gray : List ℕ) (h : Held) (l : List Call) → length measures ≡ measures_size
    → (let r = run (measures_in measures) psf gray h l in
    run_over measures psf gray (slices_of h) l ≡ (r.0, slices_of r.1))
unfolding stats_in
run_over_lem measures psf gray h l five =
    let m = measures_in measures in
    (runs_alike (λ h c. let o = call_over measures psf gray h c in record { reply = o.reply; left = leave h o })
    (call_next m psf gray) slices_of (λ h. Unit {0}) (λ h c k. (
      ap (λ o. record { reply = o.reply; left = leave (slices_of h) o })
          (call_over_lem measures psf gray (slices_of h) c five refl)
          ∙ ap (λ s. record { reply = (call m psf gray h c).reply; left = s }) (leave_over h (call m psf gray h c)),
      tt,
    )) h l tt).0
