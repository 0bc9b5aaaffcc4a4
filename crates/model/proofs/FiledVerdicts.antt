-- What the verdicts on a filed sheet say (`verdicts_hold`), for every sheet that a check answers.
--   filed_plate    such a sheet is a plate that nothing refuses
--   filed_starts   so a start refuses it with 16 or not at all
--   rests_exactly  a plate is found at rest exactly where no toggle and no swap within reach lowers E
--   verdicts_hold  the promises of the verdicts
use mathlib.Core.Bool.{Bool, true, false, true≢false, and-eq-true_iff}
use mathlib.Core.List.{List, [], ◌∷◌}
use mathlib.Core.Path.{◌≡◌, refl, sym, ◌∙◌, ap}
use Prim.Native.Nat.{ℕ, zero, suc, ◌≤◌, ◌<◌}
use native.Mathlib.Omega.{arith}
use borrow.Author.Tests.{eqb-true, eq-eqb, not-true}
use lib.Dec.{eqb, lit≤}
use lib.IntN.{pos}
use Rattle.model.specs.declared.FiledFigures.{FiledFigures}
use Rattle.model.specs.FiledCalls.{Resting}
use Rattle.model.specs.FiledCalls.{Rests, Lowers, Unstarted}
use Rattle.model.specs.Basic.{Exactly}
use Rattle.model.specs.Psf.{total}
use Rattle.model.specs.Error.{Target, cells, filtered_errors, squared_error, Halftone}
use Rattle.model.specs.Refusal.{first_of, bad_locks, start_refusal, PlateFits}
use Rattle.model.specs.State.{bad_stats}
use Rattle.model.specs.Scan.{toggles, swaps, sweep}
use Rattle.model.specs.Lists.{begin, Rest}
use Rattle.model.specs.Sheet.{Sheet, cells_of, Valid}
use Rattle.model.specs.Program.{sheet_target}
use Rattle.model.specs.FiledCalls.{filed_stats, ledger_fits, rests, resting_of, verdict_of}
use Rattle.model.specs.FiledPromises.{VerdictPromises}
use Rattle.model.proofs.Refusal.{first_passes, until_dots, plate_draws_none, draws_16}
use Rattle.model.proofs.State.{same, equal, ledger_exactly}
use Rattle.model.proofs.Reference.{fits_halftone}
use Rattle.model.proofs.Scan.{sweep_still, sweep_calm}
use Rattle.model.proofs.Rest.{rest_by, rest_calm}

-- ---- the plate
pub filed_plate : (s : Sheet) → Valid s → s.measures.start ≡ 2 → 1 ≤ total s.psf → total s.psf ≤ 1024
    → PlateFits s.measures s.psf s.gray s.dots (cells_of s.measures)
filed_plate s v given low high =
    let r = v.in_range in
    record {
      reach_near = r.reached;
      kind_known = r.kind;
      halftone = record {
        wide = r.wide;
        high = r.high;
        psf_fits = record { near = r.near; square = v.shaped.psf_length; sum_low = low; sum_high = high };
        gray_length = v.shaped.gray_length;
        dots_length = rw (eq-eqb s.measures.start 2 given) at v.shaped.dots_length;
        table_length = refl;
        bits = v.dots_most;
        top_black = refl;
      };
    }

-- so of what a start refuses only 16 is left
filed_starts : (s : Sheet) → Valid s → s.measures.start ≡ 2 → 1 ≤ total s.psf → total s.psf ≤ 1024
    → start_refusal s.measures s.psf s.gray s.dots (cells_of s.measures)
    ≡ first_of (bad_locks (sheet_target s) s.dots ∷ [])
unfolding start_refusal
filed_starts s v given low high =
    let m = s.measures in
    rw (eq-eqb m.start 2 given)
    (first_passes [] (until_dots m s.psf s.gray s.dots (cells_of m)) (bad_locks (sheet_target s) s.dots ∷ [])
    (plate_draws_none m s.psf s.gray s.dots (cells_of m) (filed_plate s v given low high)))

-- ---- at rest
module _ (t : Target) (reach : ℕ) (wide : 0 < t.width) (step : 0 < t.step) (one : t.top ≡ 1) (near : reach ≤ 6)
    (dots : List ℕ) (f : Halftone t dots) where
  pub rests_exactly : Exactly (rests t reach dots ≡ true) (Rest t reach dots (filtered_errors t dots))
  unfolding rests begin
  rests_exactly = (still, calm)
    where
      still : rests t reach dots ≡ true → Rest t reach dots (filtered_errors t dots)
      still e =
          let p = begin t dots in
          let a = (sweep t (toggles t) p).changes in
          let b = (sweep t (swaps t reach) p).changes in
          let (none, none') = (and-eq-true_iff (eqb a 0) (eqb b 0)).0 e in
          rest_by t reach wide step one near dots f (sweep_still t (toggles t) p (cells t) (eqb-true a 0 none)).1
          (sweep_still t (swaps t reach) p (cells t) (eqb-true b 0 none')).1

      calm : Rest t reach dots (filtered_errors t dots) → rests t reach dots ≡ true
      calm r =
          let p = begin t dots in
          let a = sweep_calm t (toggles t) p (cells t) (λ m h. (rest_calm t reach near dots r m h).0) in
          let b = sweep_calm t (swaps t reach) p (cells t) (λ m h. (rest_calm t reach near dots r m h).1) in
          rw (a, b) refl

-- what is answered of it, by the number that a start draws and by what the scans found: no two answers are the same
abbrev code_of : Resting → ℕ
code_of Rests = 0
code_of Lowers = 1
code_of (Unstarted n) = suc (suc n)

rests_is : (n : ℕ) (b : Bool) → Exactly (resting_of n b ≡ Rests) ((n ≡ 0) × (b ≡ true))
rests_is zero true = (λ e. (refl, refl), λ h. refl)
rests_is zero false = (λ e. absurd (omega (arith, ap code_of e)), λ h. absurd (true≢false (sym h.1)))
rests_is (suc n) b = (λ e. absurd (omega (arith, ap code_of e)), λ h. absurd (omega (arith, h.0)))

lowers_is : (n : ℕ) (b : Bool) → Exactly (resting_of n b ≡ Lowers) ((n ≡ 0) × (b ≡ true → ⊥))
lowers_is zero true = (λ e. absurd (omega (arith, ap code_of e)), λ h. absurd (h.1 refl))
lowers_is zero false = (λ e. (refl, λ t. true≢false (sym t)), λ h. refl)
lowers_is (suc n) b = (λ e. absurd (omega (arith, ap code_of e)), λ h. absurd (omega (arith, h.0)))

unstarted_is : (n : ℕ) (b : Bool) (k : ℕ) → Exactly (resting_of n b ≡ Unstarted k) ((n ≡ k) × (k ≡ 0 → ⊥))
unstarted_is zero true k = (λ e. absurd (omega (arith, ap code_of e)), λ h. absurd (h.1 (sym h.0)))
unstarted_is zero false k = (λ e. absurd (omega (arith, ap code_of e)), λ h. absurd (h.1 (sym h.0)))
unstarted_is (suc n) b k =
    let same : resting_of (suc n) b ≡ Unstarted k → suc n ≡ k = λ e. omega (arith, ap code_of e) in
    (λ e. (same e, λ z. omega (arith, same e)), λ h. ap Unstarted h.0)

-- ---- the three verdicts
module _ (s : Sheet) (f : FiledFigures) (v : Valid s) (given : s.measures.start ≡ 2) (low : 1 ≤ total s.psf)
    (high : total s.psf ≤ 1024) where
  abbrev t : Target
  t = sheet_target s

  abbrev number : ℕ
  number = start_refusal s.measures s.psf s.gray s.dots (cells_of s.measures)

  abbrev found : Bool
  found = rests t s.measures.reach s.dots

  found_exactly : Exactly (found ≡ true) (Rest t s.measures.reach s.dots (filtered_errors t s.dots))
  found_exactly =
      let fits = filed_plate s v given low high in
      rests_exactly t s.measures.reach v.in_range.wide.0 (lit≤ tt) refl v.in_range.reached s.dots
      (fits_halftone fits.halftone)

  pub verdicts_hold : VerdictPromises s f
  unfolding verdict_of ledger_fits
  verdicts_hold =
      let after = pos f.after in
      let squared = squared_error t s.dots in
      let ledger = first_of (bad_stats t s.dots (filed_stats s.dots f) ∷ []) in
      let (fits, is-fit) = ledger_exactly t s.dots (filed_stats s.dots f) in
      let (to-rest, from-rest) = found_exactly in
      let (is-rests, rests-so) = rests_is number found in
      let (is-lowers, lowers-so) = lowers_is number found in
      let starts = filed_starts s v given low high in
      let (takes, else) = draws_16 t s.dots in
      record {
        figure_agrees_exactly = (λ e. equal after squared (not-true _ e), λ e. rw (same e) refl);
        ledger_fits_exactly = (λ e. fits (eqb-true ledger 0 e), λ f. eq-eqb ledger 0 (is-fit f));
        rests_exactly = (
          λ e. let (n, b) = is-rests e in (n, to-rest b),
          λ (n, r). rests-so (n, from-rest r),
        );
        lowers_exactly = (
          λ e. let (n, b) = is-lowers e in (n, λ r. b (from-rest r)),
          λ (n, r). lowers-so (n, λ b. r (to-rest b)),
        );
        unstarted_exactly = unstarted_is number found;
        start_takes_it = (λ e. takes.0 (sym starts ∙ e), λ f. starts ∙ takes.1 f);
        else_16_is_drawn = (λ e. else.0 (sym starts ∙ e), λ f. starts ∙ else.1 f);
      }
