-- What `settle` prints of a plate is a filed sheet that checks (`printed_checks`): the ledger that is filed is that of
-- the reference at rest, which later calls accept, and its figures are small enough.
use mathlib.Core.Bool.{true}
use mathlib.Core.List.{List, [], ◌∷◌}
use mathlib.Core.Path.{◌≡◌, refl, sym, ◌∙◌, ap, subst}
use Prim.Native.Nat.{ℕ, ◌+◌, ◌*◌, ◌≤◌}
use native.Mathlib.Omega.{arith}
use borrow.Author.Tests.{le-leb}
use lib.IntN.{ℤ, pos, ◌+ℤ◌, ◌-ℤ◌}
use lib.Signed.{◌≤ℤ◌}
use lib.ListN.{length}
use Rattle.algebra.proofs.Solver.{ring!, reify}
use Rattle.algebra.proofs.Order.{ordℤ}
use Rattle.model.specs.declared.FiledFigures.{FiledFigures}
use Rattle.model.specs.declared.Measures.{Measures}
use Rattle.model.specs.FiledCalls.{Rests}
use Rattle.model.specs.FiledCalls.{Verdict}
use Rattle.model.specs.Basic.{AtMost}
use Rattle.model.specs.Error.{Target, filtered_errors, squared_error, most_squared}
use Rattle.model.specs.Lock.{LocksHold}
use Rattle.model.specs.Ledger.{count_of, dot_total}
use Rattle.model.specs.State.{StateFits}
use Rattle.model.specs.Reference.{Reference, stats_of}
use Rattle.model.specs.Scan.{converge}
use Rattle.model.specs.Calls.{result}
use Rattle.model.specs.Lists.{begin}
use Rattle.model.specs.Sheet.{Sheet, entries_of, cells_of}
use Rattle.model.specs.SheetCalls.{written_sheet}
use Rattle.model.specs.Program.{sheet_target, output}
use Rattle.model.specs.ProgramPromises.{IsSheet, converged_from, first_dots, Printed, Unrefused}
use Rattle.model.specs.Filed.{figures_in, most_figure, IsFiled}
use Rattle.model.specs.FiledCalls.{filed_stats, verdict_of, check_call}
use Rattle.model.specs.FiledPromises.{Checkable}
use Rattle.model.proofs.Attempts.{Sound}
use Rattle.model.proofs.Halftone.{squared_most}
use Rattle.model.proofs.Converge.{converge_scans}
use Rattle.model.proofs.Sheet.{entries_most, at_most_cons}
use Rattle.model.proofs.Printed.{printed_sound, program_promises}
use Rattle.model.proofs.FiledVerdicts.{verdicts_hold}
use Rattle.model.proofs.FiledCheck.{check_answered}

-- the dots at the start, told from those now
dots_back : (d n on off : ℕ) → pos n ≡ pos d +ℤ pos on -ℤ pos off → count_of (pos n -ℤ pos on +ℤ pos off) ≡ d
dots_back d n on off e = ap count_of (ap (λ z. z -ℤ pos on +ℤ pos off) e ∙ back)
  where
    back : pos d +ℤ pos on -ℤ pos off -ℤ pos on +ℤ pos off ≡ pos d
    back = ring! (pos d ∷ pos on ∷ pos off ∷ []) (search reify depth 40) refl

at_most : (k n : ℕ) → pos n ≤ℤ pos k → n ≤ k
at_most k n h = omega (arith, ordℤ, h)

module _ (input : List ℕ) (none : Unrefused input) (s : Sheet) (given : IsSheet input s) (p : Printed input s) where
  abbrev t : Target
  t = sheet_target s

  abbrev after : Reference
  after = (converged_from s).after

  abbrev sheet : Sheet
  sheet = written_sheet s.measures s.psf s.gray p.dots

  abbrev figures : FiledFigures
  figures = record {
    before = p.before;
    after = p.after;
    on = p.on;
    off = p.off;
    swaps = p.swaps;
    scans = p.scans;
  }

  sound : Sound s.measures s.psf s.gray after
  sound = (printed_sound input none s given).0

  -- ---- the ledger that is filed is that of the reference
  stats_are : filed_stats after.dots figures ≡ stats_of t after
  unfolding stats_of
  stats_are = λ i. record {
    error = error i;
    figures = record {
      start_error = start i;
      start_dots = dots i;
      on = p.on_is_reference i;
      off = p.off_is_reference i;
      swaps = p.swaps_is_reference i;
    };
  }
    where
      error : pos p.after ≡ squared_error t after.dots
      error = p.after_is_of_dots ∙ ap (squared_error t) p.dots_are_reference

      start : pos p.before ≡ after.figures.start_error
      start = p.before_is_of_start ∙ sym (printed_sound input none s given).1

      dots : count_of (pos (dot_total after.dots) -ℤ pos p.on +ℤ pos p.off) ≡ after.figures.start_dots
      dots =
          rw (p.on_is_reference, p.off_is_reference)
          (dots_back after.figures.start_dots (dot_total after.dots) after.figures.on after.figures.off
          sound.state.total_is)

  fits : StateFits t p.dots (filtered_errors t p.dots) (filed_stats p.dots figures)
  unfolding stats_of
  fits =
      subst (λ d. StateFits t d (filtered_errors t d) (filed_stats d figures)) (sym p.dots_are_reference)
      (subst (StateFits t after.dots (filtered_errors t after.dots)) (sym stats_are) sound.state)

  -- ---- its figures are small enough to be filed
  scans_few : p.scans ≤ 2 * (p.on + p.off + p.swaps) + 2
  unfolding converge begin
  scans_few =
      omega (
        arith,
        p.scans_is_reference,
        p.on_is_reference,
        p.off_is_reference,
        p.swaps_is_reference,
        converge_scans t s.measures.reach given.is_valid.in_range.wide.0 (begin t (first_dots s)) 0,
      )

  figures_few : AtMost most_figure (figures_in figures)
  figures_few =
      let k = most_figure in
      let end : AtMost k [] = record { each = λ i. omega arith } in
      let squared = squared_most sound.plate.halftone given.is_valid.gray_most in
      let before = at_most most_squared p.before fits.start_high in
      let now = at_most most_squared p.after (subst (λ z. z ≤ℤ pos most_squared)
      (ap (squared_error t) (sym p.dots_are_reference) ∙ sym p.after_is_of_dots) squared) in
      at_most_cons k p.before _ (omega (arith, before))
      (at_most_cons k p.after _ (omega (arith, now))
      (at_most_cons k p.on _ (omega (arith, fits.on_few))
      (at_most_cons k p.off _ (omega (arith, fits.off_few))
      (at_most_cons k p.swaps _ (omega (arith, fits.swaps_few))
      (at_most_cons k p.scans []
      (omega (arith, scans_few, fits.on_few, fits.off_few, fits.swaps_few)) end)))))

  -- ---- so it is a filed sheet that can be checked, and checks
  is_filed : IsFiled (output input) sheet figures
  is_filed = record {
    is_text = p.is_printed;
    is_valid = p.is_a_sheet.is_valid;
    is_given = refl;
    figures_most = figures_few;
  }

  module _ (psf gray dots : List ℕ) (table : List ℤ) (a : 49 ≤ length psf) (b : 4096 ≤ length gray)
      (c : 4096 ≤ length dots) (d : 4096 ≤ length table) where
    checkable : Checkable (output input) psf gray dots table sheet figures
    checkable = record {
      is_filed = is_filed;
      room =
          rw (
            le-leb (entries_of m) (length psf) (omega (arith, entries_most m given.is_valid.in_range)),
            le-leb (cells_of m) (length gray) (omega (arith, few)),
            le-leb (cells_of m) (length dots) (omega (arith, few)),
            le-leb (cells_of m) (length table) (omega (arith, few)),
          ) refl;
      sum_low = sound.plate.halftone.psf_fits.sum_low;
      sum_high = sound.plate.halftone.psf_fits.sum_high;
    }
      where
        m : Measures
        m = s.measures

        few : cells_of m ≤ 4096
        few = given.is_small

    checks : (v : Verdict)
        × ((check_call (output input) psf gray dots table).reply ≡ result v)
        × (v.figure ≡ true)
        × (v.ledger ≡ true)
        × (v.rest ≡ Rests)
    checks =
        let f = sound.plate.halftone.psf_fits in
        let v = p.is_a_sheet.is_valid in
        let said = verdicts_hold sheet figures v refl f.sum_low f.sum_high in
        let locks = subst (LocksHold t) (sym p.dots_are_reference) sound.locks in (
          verdict_of sheet figures,
          ap (λ o. o.reply) (check_answered (output input) psf gray dots table sheet figures checkable),
          said.figure_agrees_exactly.1 p.after_is_of_dots,
          said.ledger_fits_exactly.1 fits,
          said.rests_exactly.1 (said.start_takes_it.1 locks, p.is_at_rest),
        )

pub printed_checks : (input : List ℕ) → Unrefused input → (psf gray dots : List ℕ) (table : List ℤ)
    → 49 ≤ length psf → 4096 ≤ length gray → 4096 ≤ length dots → 4096 ≤ length table
    → (v : Verdict)
    × ((check_call (output input) psf gray dots table).reply ≡ result v)
    × (v.figure ≡ true)
    × (v.ledger ≡ true)
    × (v.rest ≡ Rests)
printed_checks input none =
    let (s, given, p) = (program_promises input).prints_exactly.1 none in
    checks input none s given p
