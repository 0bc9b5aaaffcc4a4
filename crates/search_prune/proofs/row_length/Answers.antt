-- `search_prune::row_length` meets its contract.
use Rattle.std.proofs.Common.{refl, lt-ltb, le-ltb}
use Rattle.search_prune.specs.Grid.{row_length}
use Rattle.search_prune.proofs.row_length.Goals as goal

pub returns-then-reach-lt4 : goal.returns-then-reach-lt4
unfolding row_length
returns-then-reach-lt4 c = rw (lt-ltb _ _ c.if-reach-lt4.true) refl

pub returns-else-reach-lt4 : goal.returns-else-reach-lt4
unfolding row_length
returns-else-reach-lt4 c = rw (le-ltb _ _ c.if-reach-lt4.false) refl
