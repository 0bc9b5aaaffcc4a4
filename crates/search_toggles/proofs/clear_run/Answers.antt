-- `search_toggles::clear_run` meets its contract: as far as the tests find nothing, no toggle lowers E.
use mathlib.Core.Path.{◌≡◌, sym, ◌∙◌, ap, ap₂, subst}
use mathlib.Core.Bool.{false}
use Prim.Native.Nat.{ℕ, ◌+◌, ◌*◌, ◌≤◌, ◌<◌}
use native.Mathlib.Nat.{le_refl}
use native.Mathlib.Omega.{arith}
use lib.IntN.{ℤ, pos, nat_abs}
use lib.ListN.{length, get_or}
use lib.Signed.{lt_z}
use mir.Syntax.{w32}
use mir.Val.{to_z, of_z}
use Rattle.algebra.proofs.Grid.{rows_apart}
use Rattle.algebra.proofs.Machine.{read_back}
use Rattle.model.specs.Basic.{square_at}
use Rattle.model.specs.Change.{sign, toggle_sum, toggle, lowers}
use Rattle.model.specs.Setting.{target_in}
use Rattle.model.specs.Error.{most_filtered}
use Rattle.invariants.specs.Plate.{JudgedIn, OnPlate, cell_of}
use Rattle.invariants.specs.Window.{Small, most_kernel}
use Rattle.invariants.proofs.Plate.{place_fits, kernel_square, kernel_small, judged_small, toggle_weighs}
use Rattle.search_runs.specs.Run.{TogglesClear}
use Rattle.search_toggles.proofs.clear_run.Goals as goal
use Rattle.search_toggles.proofs.clear_run.Goals.{After-peak-peak, Start}

-- what is known from the start
module _ (s : Start) where
  abbrev judged : JudgedIn s.args.setting s.args.c.now
      s.args.dots.now s.args.table.now
  judged = s.requires.0

  abbrev on : OnPlate s.args.setting.measures s.args.at
  on = s.requires.1

pub index-m-requires : goal.index-m-requires
index-m-requires c = let s : Start = search in place_fits (judged s) (on s)

pub run_length-n-requires : goal.run_length-n-requires
run_length-n-requires c = let s : Start = search in (on s).col_below

pub peak-peak-requires : goal.peak-peak-requires
peak-peak-requires c = let s : Start = search in kernel_square (judged s)

-- the run and the peak, as the locals hold them
module _ (p : After-peak-peak) where
  abbrev m : ℕ
  m = cell_of p.args.setting.measures.width p.args.at

  -- the run ends in its row
  short : p.args.at.col + p.run_length-n.result ≤ p.args.setting.measures.width
  short = p.run_length-n.ensures.1

  room : m + p.run_length-n.result ≤ p.args.setting.measures.height * p.args.setting.measures.width
  room = omega (arith, short, rows_apart p.args.setting.measures.width p.requires.1.row_below)

  peak-is : to_z w32 (of_z w32 p.peak-peak.result)
      ≡ square_at (pos 0) (2 * p.args.setting.measures.radius) p.args.c.now (pos 0) (pos 0)
  peak-is = read_back w32 p.peak-peak.result p.peak-peak.type_inv ∙ p.peak-peak.ensures

  -- so the tests can be made
  testable : ((p.index-m.result + p.run_length-n.result ≤ length p.args.dots.now)
      × (p.index-m.result + p.run_length-n.result ≤ length p.args.table.now))
      × ((nat_abs (to_z w32 (of_z w32 p.peak-peak.result)) ≤ most_kernel) × Small most_filtered p.args.table.now)
  testable =
      let f = p.requires.0.plate.halftone in
      let at = p.index-m.ensures in (
        (omega (arith, room, at, f.dots_length), omega (arith, room, at, f.table_length)),
        (
          subst (λ (z : ℤ). nat_abs z ≤ most_kernel) (sym peak-is) (kernel_small p.requires.0 _ _),
          judged_small p.requires.0,
        ),
      )

  -- and where they find nothing in the first n cells, no toggle there lowers E
  quiet : {n : ℕ} → n ≤ p.run_length-n.result
      → TogglesClear (to_z w32 (of_z w32 p.peak-peak.result)) p.args.dots.now p.args.table.now
      p.index-m.result n
      → (j : ℕ) → j < n
      → lowers (target_in p.args.setting) p.args.dots.now
      (toggle p.args.dots.now (m + j)) ≡ false
  quiet few clear j h =
      sym (ap (λ z. lt_z z (pos 0))
      (ap₂ (λ P (k : ℕ). toggle_sum 255 P (sign p.args.dots.now (k + j)) (get_or p.args.table.now (k + j) (pos 0)))
      peak-is p.index-m.ensures
      ∙ toggle_weighs p.requires.0 (m + j) (omega (arith, room))))
      ∙ clear.each j h

pub any_toggles-requires : goal.any_toggles-requires
any_toggles-requires c = let t = testable (goal.at.any_toggles-requires c).After-peak-peak in record { n_in_bounds = t.0; peak_bound = t.1 }

pub returns-then-not-any_toggles : goal.returns-then-not-any_toggles
returns-then-not-any_toggles c =
    let p = (goal.at.returns-then-not-any_toggles c).After-peak-peak in
    (short p, quiet p (le_refl _) (c.any_toggles.ensures (c.if-not-any_toggles.true)))

pub quiet_toggles-requires : goal.quiet_toggles-requires
quiet_toggles-requires c = let t = testable (goal.at.quiet_toggles-requires c).After-peak-peak in record { n_in_bounds = t.0; peak_bound = t.1 }

pub returns : goal.returns
returns c =
    let p = (goal.at.returns c).After-peak-peak in
    let (few, clear) = c.quiet_toggles.ensures in
    (omega (arith, few, short p), quiet p few clear)
