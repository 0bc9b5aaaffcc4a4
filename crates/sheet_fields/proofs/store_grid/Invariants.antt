-- `sheet_fields::store_grid` meets its contract. The loop's invariant: what is left from `next` on is good, ends where all of
-- it ends, and fills the rest of what all of it fills.
use mathlib.Core.Path.{◌≡◌}
use lib.ListN.{length}
use lib.Seq.{sets}
use Rattle.model.specs.Format.{grid, parse}
use Rattle.sheet_fields.proofs.Parts.{left}
use Rattle.sheet_fields.proofs.store_grid.Given as goal

abbrev pub invariant-loop-i : goal.invariant-loop-i
invariant-loop-i l =
    let all = parse (grid l.w l.hi 0 l.n) l.s l.at in
    let rest = left l.w l.hi l.s l.n l.i l.next in
    (length l.out ≡ length l.initial.out)
    × (rest.refusal ≡ 0)
    × (rest.at ≡ all.at)
    × (sets l.out l.i rest.values ≡ sets l.initial.out 0 all.values)
