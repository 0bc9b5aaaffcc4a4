-- `search_prune::lay_worths` meets its contract: entry by entry.
use lib.IntN.{pos}
use Rattle.model.proofs.Basic.{Filling}
use Rattle.search_prune.specs.Grid.{grid_size, worth_in}
use Rattle.search_prune.proofs.lay_worths.Given as goal

abbrev pub invariant-loop-q : goal.invariant-loop-q
invariant-loop-q l = Filling (pos 0) (worth_in l.radius l.c l.reach) (grid_size l.reach) l.q l.grid
