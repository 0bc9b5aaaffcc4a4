-- `search_trial::weigh_swap` meets its contract: the formula over the table and c between the cells is the change of the
-- reference.
use mathlib.Core.Path.{◌≡◌, sym, ◌∙◌, ap₂, subst}
use Prim.Native.Nat.{ℕ, ◌*◌, ◌≤◌, ◌<◌}
use native.Mathlib.Omega.{arith}
use lib.IntN.{ℤ, pos, nat_abs, ◌-ℤ◌}
use lib.ListN.{length, get_or}
use mir.Syntax.{w32, w64}
use mir.Val.{to_z, of_z}
use Rattle.algebra.proofs.Machine.{read_back}
use Rattle.model.specs.Basic.{square_at}
use Rattle.model.specs.Change.{sign, swap_sum}
use Rattle.invariants.specs.Plate.{JudgedIn, OnPlate, most_change}
use Rattle.invariants.specs.Window.{most_kernel}
use Rattle.invariants.proofs.Plate.{kernel_square, judged_small, kernel_small, place_fits, on_dots, on_table, swap_weighs}
use Rattle.search_trial.proofs.weigh_swap.Goals as goal
use Rattle.search_trial.proofs.weigh_swap.Goals.{After-peak, Start}

-- what is known from the start
module _ (s : Start) where
  abbrev judged : JudgedIn s.args.setting s.args.c.now s.args.dots.now s.args.table.now
  judged = s.requires.judged

  abbrev one : OnPlate s.args.setting.measures s.args.at
  one = s.requires.on_plate.0

  abbrev other : OnPlate s.args.setting.measures s.args.to
  other = s.requires.on_plate.1

pub index-m-requires : goal.index-m-requires
index-m-requires c = let s : Start = search in place_fits (judged s) (one s)

pub index-n-requires : goal.index-n-requires
index-n-requires c = let s : Start = search in place_fits (judged s) (other s)

pub between-apart-requires : goal.between-apart-requires
between-apart-requires c =
    let s : Start = search in
    let f = (judged s).plate.halftone in record {
      holds_square = kernel_square (judged s);
      row_bound = (
        omega (arith, (one s).row_below, f.high.1),
        omega (arith, (one s).col_below, f.wide.1),
        omega (arith, (other s).row_below, f.high.1),
        omega (arith, (other s).col_below, f.wide.1),
      );
    }

pub peak-requires : goal.peak-requires
peak-requires c = let s : Start = search in kernel_square (judged s)

-- c between the cells and the peak, as the locals hold them
module _ (p : After-peak) where
  abbrev at : (dy dx : ℤ) → ℤ
  at dy dx = square_at (pos 0) (2 * p.args.setting.measures.radius) p.args.c.now dy dx

  peak-is : to_z w32 (of_z w32 p.peak.result) ≡ at (pos 0) (pos 0)
  peak-is = read_back w32 p.peak.result p.peak.type_inv ∙ p.peak.ensures

  abbrev apart : ℤ
  apart =
      at (pos p.args.at.row -ℤ pos p.args.to.row)
      (pos p.args.at.col -ℤ pos p.args.to.col)

  apart-is : to_z w32 (of_z w32 p.between-apart.result) ≡ apart
  apart-is = read_back w32 p.between-apart.result p.between-apart.type_inv ∙ p.between-apart.ensures

pub swap_change-requires : goal.swap_change-requires
swap_change-requires c =
    let s : Start = search in
    let dots = s.args.dots.now in
    let table = s.args.table.now in record {
      m_in_bounds = (
        subst (λ k. k < length dots) (sym c.index-m.ensures) (on_dots (judged s) (one s)),
        subst (λ k. k < length table) (sym c.index-m.ensures) (on_table (judged s) (one s)),
        subst (λ k. k < length table) (sym c.index-n.ensures) (on_table (judged s) (other s)),
      );
      peak_bound = (
        subst (λ (z : ℤ). nat_abs z ≤ most_kernel) (sym (peak-is c)) (kernel_small (judged s) _ _),
        subst (λ (z : ℤ). nat_abs z ≤ most_kernel) (sym (apart-is c)) (kernel_small (judged s) _ _),
        judged_small (judged s),
      );
    }

pub returns : goal.returns
returns c =
    let s : Start = search in
    let p = (goal.at.returns c).After-peak in
    let dots = s.args.dots.now in
    let table = s.args.table.now in
    let back = read_back w64 c.swap_change.result c.swap_change.type_inv in
    record {
      delta_is =
          back
          ∙ c.swap_change.ensures.value
          ∙ ap₂ (λ P z. swap_sum 255 P z (sign dots c.index-m.result) (get_or table c.index-m.result (pos 0))
          (get_or table c.index-n.result (pos 0))) (peak-is p) (apart-is p)
          ∙ ap₂ (λ (k l : ℕ). swap_sum 255 (at p (pos 0) (pos 0)) (apart p) (sign dots k) (get_or table k (pos 0)) (get_or table l (pos 0)))
          c.index-m.ensures c.index-n.ensures
          ∙ swap_weighs (judged s) (one s) (other s) s.requires.on_plate.2;
      small = subst (λ (z : ℤ). nat_abs z ≤ most_change) (sym back) c.swap_change.ensures.result_bound;
    }
