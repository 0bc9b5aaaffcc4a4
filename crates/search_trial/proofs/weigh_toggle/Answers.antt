-- `search_trial::weigh_toggle` meets its contract: the formula over the table is the change of the reference.
use mathlib.Core.Path.{◌≡◌, sym, ◌∙◌, ap₂, subst}
use Prim.Native.Nat.{ℕ, ◌*◌, ◌≤◌, ◌<◌}
use lib.IntN.{ℤ, pos, nat_abs}
use lib.ListN.{length, get_or}
use mir.Syntax.{w32, w64}
use mir.Val.{to_z, of_z}
use Rattle.algebra.proofs.Machine.{read_back}
use Rattle.model.specs.Basic.{square_at}
use Rattle.model.specs.Change.{sign, toggle_sum}
use Rattle.invariants.specs.Plate.{JudgedIn, OnPlate, cell_of, most_change}
use Rattle.invariants.specs.Window.{most_kernel}
use Rattle.invariants.proofs.Plate.{kernel_square, judged_small, kernel_small, place_fits, on_plate, on_dots, on_table}
use Rattle.invariants.proofs.Plate.{toggle_weighs}
use Rattle.search_trial.proofs.weigh_toggle.Goals as goal
use Rattle.search_trial.proofs.weigh_toggle.Goals.{After-peak, Start}

-- what is known from the start
module _ (s : Start) where
  abbrev judged : JudgedIn s.args.setting s.args.c.now s.args.dots.now s.args.table.now
  judged = s.requires.0

  abbrev on : OnPlate s.args.setting.measures s.args.at
  on = s.requires.1

pub peak-requires : goal.peak-requires
peak-requires c = let s : Start = search in kernel_square (judged s)

pub index-requires : goal.index-requires
index-requires c = let s : Start = search in place_fits (judged s) (on s)

-- the peak as its local holds it
module _ (p : After-peak) where
  peak-is : to_z w32 (of_z w32 p.peak.result)
      ≡ square_at (pos 0) (2 * p.args.setting.measures.radius) p.args.c.now (pos 0) (pos 0)
  peak-is = read_back w32 p.peak.result p.peak.type_inv ∙ p.peak.ensures

pub toggle_change-requires : goal.toggle_change-requires
toggle_change-requires c =
    let s : Start = search in
    let p = (goal.at.toggle_change-requires c).After-peak in
    let there = sym c.index.ensures in record {
      m_in_bounds = (
        subst (λ k. k < length s.args.dots.now) there (on_dots (judged s) (on s)),
        subst (λ k. k < length s.args.table.now) there (on_table (judged s) (on s)),
      );
      peak_bound = (
        subst (λ (z : ℤ). nat_abs z ≤ most_kernel) (sym (peak-is p)) (kernel_small (judged s) (pos 0) (pos 0)),
        judged_small (judged s),
      );
    }

pub returns : goal.returns
returns c =
    let s : Start = search in
    let p = (goal.at.returns c).After-peak in
    let dots = s.args.dots.now in
    let table = s.args.table.now in
    let m = cell_of s.args.setting.measures.width s.args.at in
    let back = read_back w64 c.toggle_change.result c.toggle_change.type_inv in
    record {
      delta_is =
          back
          ∙ c.toggle_change.ensures.value
          ∙ ap₂ (λ P (k : ℕ). toggle_sum 255 P (sign dots k) (get_or table k (pos 0))) (peak-is p) c.index.ensures
          ∙ toggle_weighs (judged s) m (on_plate (judged s) (on s));
      small = subst (λ (z : ℤ). nat_abs z ≤ most_change) (sym back) c.toggle_change.ensures.result_bound;
    }
