-- `starts_screen::order` meets its contract: the cells passed have their dots, and the next cell stands at (row, col).
use mathlib.Core.List.{List}
use mathlib.Core.Path.{◌≡◌, sym, ◌∙◌, ap, ap₂}
use Prim.Native.Nat.{ℕ, ◌+◌, ◌/◌, ◌%◌, ◌<◌}
use native.Mathlib.Nat.{suc-mul}
use native.Mathlib.Omega.{arith}
use lib.ListN.{length, get_or, set}
use Rattle.algebra.proofs.Grid.{cell_row, cell_column}
use Rattle.model.specs.Screen.{threshold_at, screened, ordered}
use Rattle.model.proofs.Basic.{fill_next, fill_all}
use Rattle.starts_screen.proofs.order.Goals as goal
use Rattle.starts_screen.proofs.order.Goals.{then-col-width, else-col-width}
use Rattle.starts_screen.proofs.order.Invariants.{Ordered}

module _ {width : ℕ} {gray dots : List ℕ} {row col n : ℕ} (s : Ordered width gray dots row col n) where
  module _ (more : n < length gray) {t d : ℕ} (e : t ≡ threshold_at row col) (f : d ≡ screened (get_or gray n 0) t) where
    is-dot : d ≡ ordered width gray n
    unfolding ordered
    is-dot =
        f ∙ ap (screened (get_or gray n 0))
        (e ∙ sym (ap₂ threshold_at (ap (λ k. k / width) s.place ∙ cell_row s.column)
        (ap (λ k. k % width) s.place ∙ cell_column row s.column)))

    next_row : col + 1 ≡ width → Ordered width gray (set dots n d) (row + 1) 0 (n + 1)
    next_row h =
        record {
          within = omega arith;
          place = omega (arith, s.place, h, suc-mul row width);
          column = omega (arith, s.column);
          filling = fill_next s.filling more is-dot;
        }

    next_column : (col + 1 ≡ width → ⊥) → Ordered width gray (set dots n d) row (col + 1) (n + 1)
    next_column h =
        record {
          within = omega arith;
          place = omega (arith, s.place);
          column = omega (arith, s.column, h);
          filling = fill_next s.filling more is-dot;
        }

pub loop-n-preserved : goal.loop-n-preserved
loop-n-preserved c =
    elim c.if-col-width.branch [
      | then-col-width w ↦ rw (w.row-is, w.col-is) (next_row c.loop-n.invariant (omega arith) c.threshold.ensures c.screen.ensures w.if-col-width.true)
      | else-col-width w ↦ rw (w.row-is, w.col-is) (next_column c.loop-n.invariant (omega arith) c.threshold.ensures c.screen.ensures w.if-col-width.false)
    ]

pub returns : goal.returns
returns c = fill_all c.loop-n.invariant.filling (omega arith)
