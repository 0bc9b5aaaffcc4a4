-- `sheet_fields::judge_grid` meets its contract. The loop's invariant: what is left from `next` on ends where all of it
-- ends.
use mathlib.Core.Path.{◌≡◌}
use Rattle.model.specs.Format.{grid, parse, place_of}
use Rattle.sheet_fields.proofs.Parts.{left}
use Rattle.sheet_fields.proofs.judge_grid.Given as goal

abbrev pub invariant-loop-i : goal.invariant-loop-i
invariant-loop-i l =
    place_of (left l.w l.hi l.s l.n l.i l.next) ≡ place_of (parse (grid l.w l.hi 0 l.n) l.s l.at)
