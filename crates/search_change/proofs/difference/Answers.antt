-- `search_change::difference` meets its contract: two entries are small enough to be taken from each other.
use Rattle.std.proofs.Common.{pos}
use Prim.Native.Nat.{ℕ}
use lib.Dec.{lit<}
use lib.ListN.{get_or}
use mir.Syntax.{w32}
use mir.Val.{of_z}
use Rattle.algebra.proofs.Machine.{Holds, of_small, sub_holds}
use Rattle.model.specs.Change.{sign}
use Rattle.model.specs.Error.{most_filtered}
use Rattle.search_change.proofs.Signs.{signed_holds}
use Rattle.search_change.proofs.difference.Goals as goal

pub returns-clause-value : goal.returns-clause-value
returns-clause-value c =
    let held : (q : ℕ) → Holds w32 (of_z w32 (get_or c.args.table.now q (pos 0))) (get_or c.args.table.now q (pos 0)) most_filtered =
    λ q. of_small w32 (get_or c.args.table.now q (pos 0)) (c.requires.small.each q) (lit< tt) in
    (signed_holds c.signed.result (sign c.args.dots.now c.args.m)
    (sub_holds (held c.args.m) (held c.args.n) (lit< tt)) (lit< tt) (c.signed.ensures.value, c.signed.ensures.result_value)).value
