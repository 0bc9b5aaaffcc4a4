-- Trying a plate for rest by a toggle scan and a swap scan from a fresh ledger.
--   fresh_ready                scans take a plate with a fresh ledger
--   still_ready                and what a toggle scan that accepts nothing leaves
--   not_at_rest, swaps_decide  where it accepts something there is no rest; else the swap scan decides
use mathlib.Core.Bool.{Bool, false, ◌&&◌}
use mathlib.Core.List.{List}
use mathlib.Core.Path.{◌≡◌, sym, ◌∙◌, ap, ap₂, subst}
use Prim.Native.Nat.{ℕ}
use borrow.Author.Tests.{eq-eqb, ne_eqb}
use lib.Dec.{eqb}
use lib.IntN.{ℤ}
use Rattle.model.specs.declared.Measures.{Measures}
use Rattle.model.specs.declared.Progress.{Progress}
use Rattle.model.specs.declared.Stats.{Stats}
use Rattle.model.specs.Basic.{AtMost}
use Rattle.model.specs.Error.{Target, target_for, cells, filtered_errors}
use Rattle.model.specs.Ledger.{fresh_stats}
use Rattle.model.specs.State.{StateFits, LaterFits}
use Rattle.model.specs.Reference.{Reference, reference, stats_of}
use Rattle.model.specs.Scan.{toggles, swaps, Sweep, sweep, progress_of}
use Rattle.model.specs.Lists.{begin}
use Rattle.model.specs.FiledCalls.{rests}
use Rattle.model.proofs.Halftone.{squared_least, squared_most}
use Rattle.model.proofs.State.{fresh_fits}
use Rattle.model.proofs.Attempts.{entry_sound}
use Rattle.model.proofs.Scan.{sweep_still}
use Rattle.invariants.specs.Plate.{Ready, Leaves}
use Rattle.invariants.specs.Trials.{performed}
use Rattle.invariants.specs.Window.{HoldsKernel}
use Rattle.filed_rest.specs.Measured.{Startable}

module _ (m : Measures) (psf gray dots : List ℕ) {s : Stats} (fresh : s ≡ fresh_stats (target_for m psf gray) dots) where
  abbrev t : Target
  t = target_for m psf gray

  -- the plate before the scans
  abbrev first : Reference
  first = reference dots s

  first_is : first ≡ begin t dots
  unfolding begin fresh_stats
  first_is = ap (reference dots) fresh

  abbrev toggled : Sweep
  toggled = sweep t (toggles t) first

  pub fresh_ready : {c table : List ℤ} {squared : ℤ} → Startable m psf gray dots table squared
      → HoldsKernel m.radius psf c → AtMost 255 gray → Ready m psf gray c dots table s
  fresh_ready g kernel bytes =
      let f = g.measured in
      let h = f.plate.halftone in
      let state = fresh_fits t dots h.bits h.dots_length (squared_least h) (squared_most h bytes) in
      record {
        later =
            record {
              plate = f.plate;
              locks = g.locks;
              state =
                  subst (λ (X : Type 0). X) (λ i. StateFits t dots (sym f.table_is i) (sym fresh i)) state;
            };
        kernel = kernel;
        bytes = bytes;
      }

  -- what the toggle scan leaves
  module _ {r : Progress} {dots' : List ℕ} {table' : List ℤ} (left : Leaves t (performed t toggled) r dots' table') where
    changes_are : r.changes ≡ toggled.changes
    unfolding progress_of
    changes_are = ap (λ x. x.changes) left.answer_is

    -- where it accepts nothing, all is as it was
    module _ (none : r.changes ≡ 0) where
      same : toggled.after ≡ first
      same = (sweep_still t (toggles t) first (cells t) (sym changes_are ∙ none)).0

      dots_are : dots' ≡ dots
      dots_are = left.dots_are ∙ ap (λ x. x.dots) same

      stats_are : r.stats ≡ stats_of t first
      unfolding progress_of
      stats_are = ap (λ x. x.stats) left.answer_is ∙ ap (stats_of t) same

      pub still_ready : {c table : List ℤ} → Ready m psf gray c dots table s → Ready m psf gray c dots' table' r.stats
      still_ready {c} {table} f =
          let table_is = left.table_is ∙ ap (λ x. filtered_errors t x.dots) same in
          record {
            later =
                subst (λ (X : Type 0). X) (λ i. LaterFits m psf gray (sym dots_are i) (sym table_is i) (sym stats_are i))
                (entry_sound m psf gray dots table s f.later);
            kernel = f.kernel;
            bytes = f.bytes;
          }

    module _ (reach : ℕ) where
      abbrev clear : Reference → Bool
      clear p = eqb (sweep t (swaps t reach) p).changes 0

      pub not_at_rest : (r.changes ≡ 0 → ⊥) → false ≡ rests t reach dots
      unfolding rests
      not_at_rest h =
          ap (λ b. b && clear first) (sym (ne_eqb toggled.changes 0 (λ e. h (changes_are ∙ e))))
          ∙ ap (λ p. eqb (sweep t (toggles t) p).changes 0 && clear p) first_is

      pub swaps_decide : r.changes ≡ 0 → {q : Progress} {d : List ℕ} {e : List ℤ}
          → Leaves t (performed t (sweep t (swaps t reach) (reference dots' r.stats))) q d e
          → eqb q.changes 0 ≡ rests t reach dots
      unfolding rests progress_of stats_of
      swaps_decide none swapped =
          ap (λ x. eqb x.changes 0) swapped.answer_is
          ∙ ap clear (ap₂ reference (dots_are none) (stats_are none))
          ∙ ap (λ b. b && clear first) (sym (eq-eqb toggled.changes 0 (sym changes_are ∙ none)))
          ∙ ap (λ p. eqb (sweep t (toggles t) p).changes 0 && clear p) first_is
