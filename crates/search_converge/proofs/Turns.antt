-- The turns of a settling: what holds before each, and what its two scans make of it.
--   Made, made_by               a scan that was made beside the reference
--   Turning, turning_first      before a turn; before the first
--   turning_again, again_lower  the toggle scan accepts something: E is lower, and a turn follows
--   turning_anew, anew_lower    only the swap scan does: the same
--   turning_end                 neither does: the settling is at its end
use mathlib.Core.List.{List}
use mathlib.Core.Path.{◌≡◌, refl, sym, ◌∙◌, ap, ap₂, subst}
use Prim.Native.Nat.{ℕ, ◌+◌, ◌*◌, ◌^◌, ◌≤◌, ◌<◌}
use native.Mathlib.Nat.{le_refl}
use native.Mathlib.Omega.{arith}
use lib.IntN.{ℤ, nat_abs}
use Rattle.model.specs.declared.Measures.{Measures}
use Rattle.model.specs.declared.Stats.{Stats}
use Rattle.model.specs.declared.Progress.{Progress}
use Rattle.model.specs.Error.{Target, target_for, cells, filtered_errors, squared_error}
use Rattle.model.specs.Ledger.{changes}
use Rattle.model.specs.State.{LaterFits}
use Rattle.model.specs.Reference.{Reference, reference, stats_of}
use Rattle.model.specs.Scan.{Rule, toggles, swaps, Sweep, sweep, progress_of, converge_from, converge}
use Rattle.invariants.specs.Plate.{Leaves}
use Rattle.invariants.specs.Trials.{performed}
use Rattle.model.proofs.Attempts.{entry_stats, entry_sound}
use Rattle.model.proofs.Scan.{Lawful, sweep_later, sweep_counts, sweep_still, sweep_lowers}
use Rattle.model.proofs.Converge.{converge_again, converge_anew, converge_end}

module _ (m : Measures) (psf gray : List ℕ) where
  abbrev t : Target
  t = target_for m psf gray

  -- ---- a scan that was made beside the reference q
  pub record Made (rule : Rule) (q : Reference) (dots : List ℕ) (table : List ℤ) (r : Progress) : Type 0 where
    pub fits : LaterFits m psf gray dots table r.stats
    pub after_is : reference dots r.stats ≡ (sweep t rule q).after
    pub changes_are : r.changes ≡ (sweep t rule q).changes

  pub made_by : (rule : Rule) → Lawful t rule → (dots : List ℕ) (table : List ℤ) (s : Stats)
      → LaterFits m psf gray dots table s
      → {dots' : List ℕ} {table' : List ℤ} {r : Progress}
      → Leaves t (performed t (sweep t rule (reference dots s))) r dots' table'
      → Made rule (reference dots s) dots' table' r
  unfolding progress_of stats_of
  made_by rule lawful dots table s f {dots'} {table'} {r} left =
      subst (λ x. Made rule q dots' table' x) (sym left.answer_is)
      (subst (λ x. Made rule q dots' x (progress_of t (sweep t rule q))) (sym left.table_is)
      (subst
      (λ x. Made rule q x (filtered_errors t (sweep t rule q).after.dots) (progress_of t (sweep t rule q)))
      (sym left.dots_are)
      (record {
        fits =
            sweep_later m psf gray rule lawful q (entry_sound m psf gray dots table s f) (cells t) (le_refl (cells t));
        after_is = refl;
        changes_are = refl;
      })))
    where
      q : Reference
      q = reference dots s

  module _ {rule : Rule} {dots : List ℕ} {table : List ℤ} {s : Stats} (f : LaterFits m psf gray dots table s)
      {dots' : List ℕ} {table' : List ℤ} {r : Progress} (made : Made rule (reference dots s) dots' table' r) where
    -- its accepted changes are those counted
    made_counts : r.changes + changes s.figures ≡ changes r.stats.figures
    made_counts =
        ap (λ k. k + changes s.figures) made.changes_are
        ∙ sweep_counts t rule (reference dots s) (cells t)
        ∙ ap (λ p. changes p.figures) (sym made.after_is)

    -- where there are any, E is lower
    made_lower : (r.changes ≡ 0 → ⊥) → nat_abs r.stats.error < nat_abs s.error
    made_lower some =
        subst (λ (z : ℤ). nat_abs z < nat_abs s.error)
        (ap (λ x. squared_error t x.dots) (sym made.after_is) ∙ sym made.fits.state.error_is)
        (subst (λ (z : ℤ). nat_abs (squared_error t (sweep t rule (reference dots s)).after.dots) < nat_abs z)
        (sym f.state.error_is)
        (sweep_lowers t rule (reference dots s) f.plate.halftone.wide.0 (cells t)
        (λ e. some (made.changes_are ∙ e))))

    -- where there are none, E is the same
    made_same : r.changes ≡ 0 → r.stats.error ≡ s.error
    made_same none =
        made.fits.state.error_is
        ∙ ap (λ x. squared_error t x.dots) made.after_is
        ∙ ap (λ x. squared_error t x.dots)
        (sweep_still t rule (reference dots s) (cells t) (sym made.changes_are ∙ none)).0
        ∙ sym f.state.error_is

  -- ---- before a turn, n scans after the reference p: what is left of the settling is all of it
  pub record Turning (p : Reference) (n : ℕ) (dots : List ℕ) (table : List ℤ) (s : Stats) : Type 0 where
    pub fits : LaterFits m psf gray dots table s
    pub ahead : converge_from t m.reach (reference dots s) n ≡ converge_from t m.reach p 0
    pub few : n + 2 * changes p.figures ≤ 2 * changes s.figures

  pub turning_first : (dots : List ℕ) (table : List ℤ) (s : Stats) → LaterFits m psf gray dots table s
      → Turning (reference dots s) 0 dots table s
  turning_first dots table s f = record { fits = f; ahead = refl; few = omega arith }

  module _ {p : Reference} {n : ℕ} {dots : List ℕ} {table : List ℤ} {s : Stats} (f : Turning p n dots table s) where
    abbrev q : Reference
    q = reference dots s

    wide : 0 < m.width
    wide = f.fits.plate.halftone.wide.0

    -- the scans are few enough to count
    pub scans_fit : n + 2 < 2 ^ 64
    scans_fit =
        let g = f.fits.state in
        omega (arith, f.few, g.on_few, g.off_few, g.swaps_few)

    module _ {dots1 : List ℕ} {table1 : List ℤ} {a : Progress}
        (made : Made (toggles t) (reference dots s) dots1 table1 a) where
      -- the toggle scan accepts something
      pub turning_again : (a.changes ≡ 0 → ⊥) → Turning p (n + 1) dots1 table1 a.stats
      turning_again some =
          record {
            fits = made.fits;
            ahead =
                ap (λ x. converge_from t m.reach x (n + 1)) made.after_is
                ∙ sym (converge_again t m.reach wide q n (λ e. some (made.changes_are ∙ e)))
                ∙ f.ahead;
            few = omega (arith, f.few, made_counts f.fits made);
          }

      pub again_lower : (a.changes ≡ 0 → ⊥) → nat_abs a.stats.error < nat_abs s.error
      again_lower = made_lower f.fits made

      -- it accepts nothing, and the swap scan follows
      module _ (none : a.changes ≡ 0) {dots2 : List ℕ} {table2 : List ℤ} {b : Progress}
          (swept : Made (swaps t m.reach) (reference dots1 a.stats) dots2 table2 b) where
        abbrev swapped : Reference → Sweep
        swapped = sweep t (swaps t m.reach)

        two : n + 1 + 1 ≡ n + 2
        two = omega arith

        after_is : reference dots2 b.stats ≡ (swapped (sweep t (toggles t) q).after).after
        after_is = swept.after_is ∙ ap (λ x. (swapped x).after) made.after_is

        changes_are : b.changes ≡ (swapped (sweep t (toggles t) q).after).changes
        changes_are = swept.changes_are ∙ ap (λ x. (swapped x).changes) made.after_is

        -- the swap scan accepts something
        pub turning_anew : (b.changes ≡ 0 → ⊥) → Turning p (n + 1 + 1) dots2 table2 b.stats
        turning_anew some =
            record {
              fits = swept.fits;
              ahead =
                  ap₂ (converge_from t m.reach) after_is two
                  ∙ sym (converge_anew t m.reach wide q n (sym made.changes_are ∙ none)
                  (λ e. some (changes_are ∙ e)))
                  ∙ f.ahead;
              few = omega (arith, f.few, made_counts f.fits made, made_counts made.fits swept);
            }

        pub anew_lower : (b.changes ≡ 0 → ⊥) → nat_abs b.stats.error < nat_abs s.error
        anew_lower some =
            subst (λ (z : ℤ). nat_abs b.stats.error < nat_abs z) (made_same f.fits made none)
            (made_lower made.fits swept some)

        -- it accepts nothing either: the settling is at its end
        pub turning_end : b.changes ≡ 0
            → Leaves t (converge t m.reach p) (record { stats = b.stats; scans = n + 1 + 1 }) dots2 table2
        unfolding converge
        turning_end e =
            record {
              answer_is =
                  ap₂ (λ x k. record { stats = x; scans = k })
                  (entry_stats m psf gray dots2 table2 b.stats swept.fits) two
                  ∙ ap (λ x. record { stats = stats_of t x.after; scans = x.scans }) end;
              dots_are = ap (λ x. x.after.dots) end;
              table_is = swept.fits.state.table_is ∙ ap (λ x. filtered_errors t x.after.dots) end;
            }
          where
            end : record { after = reference dots2 b.stats; scans = n + 2 } ≡ converge_from t m.reach p 0
            end =
                ap (λ x. record { after = x; scans = n + 2 }) after_is
                ∙ sym (converge_end t m.reach wide q n (sym made.changes_are ∙ none) (sym changes_are ∙ e))
                ∙ f.ahead
