-- `search_prune::lay_worths` meets its contract: entry by entry.
use Rattle.std.proofs.Common.{arith}
use Rattle.model.proofs.Basic.{fill_all}
use Rattle.invariants.proofs.Window.{small_by}
use Rattle.search_prune.specs.Grid.{grid_size, worth_in}
use Rattle.search_prune.proofs.Grid.{worth_in_small}
use Rattle.search_prune.proofs.lay_worths.Goals as goal

pub returns : goal.returns
returns c =
    let a = c.args in
    let laid = c.loop-q.invariant in
    record {
      near = c.requires.1;
      long = laid.long;
      small =
          small_by (grid_size a.reach) (worth_in a.radius a.c.now a.reach) (fill_all laid (omega arith))
          (worth_in_small a.radius c.requires.0.small a.reach);
      at = λ q h. laid.each q (omega arith);
    }
