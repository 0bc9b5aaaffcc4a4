-- Demand 3 (specs/Promises.antt): what holds after every list of calls from a start (`demand_3`), and that what a call
-- leaves is accepted again (`left_is_accepted`).
use mathlib.Core.Path.{◌≡◌, refl, sym, ap, subst}
use mathlib.Core.List.{List}
use Prim.Native.Nat.{ℕ, ◌*◌}
use native.Mathlib.Omega.{arith}
use lib.IntN.{ℤ, pos, ◌*ℤ◌}
use lib.Signed.{◌≤ℤ◌}
use lib.ListN.{length}
use lib.Dec.{lit≤}
use Rattle.model.specs.declared.Measures.{Measures}
use Rattle.model.specs.declared.Stats.{Stats}
use Rattle.model.specs.Basic.{AtMost, All}
use Rattle.model.specs.Error.{target_for, filtered_errors, squared_error}
use Rattle.model.specs.Lock.{LocksHold}
use Rattle.model.specs.Ledger.{changes, ledger_dots, fall_of, dot_total, fresh_stats}
use Rattle.model.specs.State.{later_refusal}
use Rattle.model.specs.Reference.{Reference, stats_of}
use Rattle.model.specs.Screen.{start_dots}
use Rattle.model.specs.Calls.{result, start_call}
use Rattle.model.specs.Lists.{Call, convergence, Held, hand_on, call, run, begin, reference_run, Expected, Rest}
use Rattle.model.specs.Refusal.{start_refusal}
use Rattle.model.specs.Scan.{converge}
use Rattle.model.specs.Promises.{ComesToRest, Demand3}
use Rattle.model.proofs.Calls.{was_done}
use Rattle.model.proofs.Start.{start_later}
use Rattle.model.proofs.Later.{fits_later, later_enters}
use Rattle.model.proofs.Attempts.{Sound}
use Rattle.model.proofs.Scan.{start_kept, sound_halftone}
use Rattle.model.proofs.Converge.{converge_scans, converge_counts, converge_rest}
use Rattle.model.proofs.Lists.{held_of, call_same, call_later, Alike, run_same, run_expected}

module _ (m : Measures) (psf gray : List ℕ) where
  -- beside a reference that later calls accept, a settling is not refused
  comes_to_rest : (p : Reference) → Sound m psf gray p
      → ComesToRest m psf gray p (call m psf gray (held_of (target_for m psf gray) p) convergence)
  unfolding converge
  comes_to_rest p f =
      let t = target_for m psf gray in
      let (reply, next) = call_same m psf gray p f convergence in
      record {
        answer = (converge t m.reach p).answer;
        is_answered = reply;
        is_at_rest =
            subst (λ h. Rest t m.reach h.dots h.table) (sym next)
            (converge_rest t m.reach f.plate.halftone.wide.0 (lit≤ tt) refl f.plate.reach_near p 0
            (sound_halftone m psf gray p f));
        scans_are_few =
            omega (
              arith,
              converge_scans t m.reach f.plate.halftone.wide.0 p 0,
              converge_counts t m.reach f.plate.halftone.wide.0 p 0,
            );
      }

  module _ (first : List ℕ) (f : Sound m psf gray (begin (target_for m psf gray) first)) where
    abbrev From : Reference → Type 0
    From p =
        (p.figures.start_error ≡ squared_error (target_for m psf gray) first)
        × (p.figures.start_dots ≡ dot_total first)

    beside : (l : List Call)
        → Alike m psf gray From
        (start_kept (target_for m psf gray) (squared_error (target_for m psf gray) first) (dot_total first))
        (run m psf gray (held_of (target_for m psf gray) (begin (target_for m psf gray) first)) l)
        (reference_run m psf gray (begin (target_for m psf gray) first) l)
    unfolding begin
    beside l = run_same m psf gray From _ (begin (target_for m psf gray) first) l f (refl, refl)

    from_start : (l : List Call)
        → Demand3 m psf gray first (held_of (target_for m psf gray) (begin (target_for m psf gray) first)) l
    unfolding stats_of
    from_start l =
        let t = target_for m psf gray in
        let r = beside l in
        let p = (reference_run m psf gray (begin t first) l).1 in
        let held = ap (λ x. x.1) r.same in
        let answers = ap (λ x. x.0) r.same in
        let back = sym held in
        record {
          table_is_fresh = subst (λ h. h.table ≡ filtered_errors t h.dots) back refl;
          error_is_fresh = subst (λ h. h.stats.error ≡ squared_error t h.dots) back refl;
          dots_are_bits =
              subst (λ h. (length h.dots ≡ m.height * m.width) × AtMost 1 h.dots) back
              (r.sound.plate.halftone.dots_length, r.sound.plate.halftone.bits);
          locked_cells_are_untouched = subst (λ h. LocksHold t h.dots) back r.sound.locks;
          start_error_is_kept = subst (λ h. h.stats.figures.start_error ≡ squared_error t first) back r.kept.0;
          start_dots_are_kept = subst (λ h. h.stats.figures.start_dots ≡ dot_total first) back r.kept.1;
          dots_are_reference = ap (λ h. h.dots) held;
          stats_are_reference = ap (λ h. h.stats) held;
          answers_are_reference = answers;
          refusals_are_expected = subst (All Expected) (sym answers) (run_expected m psf gray (begin t first) l);
          dots_are_balanced =
              subst (λ h. pos (dot_total h.dots) ≡ ledger_dots h.stats.figures) back r.sound.state.total_is;
          fall_is_enough =
              subst (λ h. (pos 255 *ℤ pos (changes p.figures)) ≤ℤ fall_of h.stats) back r.sound.state.fall;
          convergences_end_at_rest = λ before rest e.
              subst (λ h.
              ComesToRest m psf gray (reference_run m psf gray (begin t first) before).1
              (call m psf gray h convergence))
              (sym (ap (λ x. x.1) (beside before).same)) (comes_to_rest _ (beside before).sound);
        }

  -- for every list of calls from every start that was not refused
  pub demand_3 : (dots : List ℕ) (table : List ℤ) (s : Stats) → AtMost 255 gray
      → (start_call m psf gray dots table).reply ≡ result s
      → (l : List Call)
      → (let begun = (start_call m psf gray dots table).left in
      Demand3 m psf gray (start_dots m gray dots) (record { dots = begun.dots; table = begun.table; stats = s }) l)
  unfolding start_call begin stats_of fresh_stats
  demand_3 dots table s bytes e l =
      let first = start_dots m gray dots in
      let t = target_for m psf gray in
      let (taken, value, same) = was_done _ _ (start_refusal m psf gray dots (length table)) refl e in
      subst (λ o.
      Demand3 m psf gray first (record { dots = o.left.dots; table = o.left.table; stats = s }) l) same
      (subst (λ s.
      Demand3 m psf gray first (record { dots = first; table = filtered_errors t first; stats = s }) l) value
      (from_start first (start_later m psf gray dots (length table) bytes taken) l))

  -- handed on as left, nothing draws 20 or 21, nor 1 to 7 or 16: from whatever a later call accepts, and whatever the call
  pub left_is_accepted : (h : Held) (c : Call) → later_refusal m psf gray h.dots h.table h.stats ≡ 0
      → (let h' = hand_on h (call m psf gray h c) in later_refusal m psf gray h'.dots h'.table h'.stats ≡ 0)
  left_is_accepted h c e =
      fits_later m psf gray _ _ _
      (call_later m psf gray h c (later_enters m psf gray h.dots h.table h.stats e))
