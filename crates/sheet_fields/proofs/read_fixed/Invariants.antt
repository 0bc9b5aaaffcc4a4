-- `sheet_fields::read_fixed` meets its contract. The loop's invariant: the bytes that are left are read at `next` as all
-- of them are at `at`.
use mathlib.Core.Path.{◌≡◌}
use lib.ListN.{drop}
use Rattle.model.specs.Format.{fixed_at}
use Rattle.sheet_fields.proofs.read_fixed.Given as goal

abbrev pub invariant-loop-b : goal.invariant-loop-b
invariant-loop-b l = fixed_at (drop l.b-index l.bytes) l.s l.next ≡ fixed_at l.bytes l.s l.at
