-- What a swap scan is handed of the offsets within reach.
use Rattle.std.specs.Prelude.{List, ℤ}
use Rattle.model.specs.declared.Measures.{Measures}
use Rattle.invariants.specs.Partners.{HoldsOffsets, HoldsWorths}
use Rattle.search_prune.specs.Grid.{GridFits}
use Rattle.search_swaps.specs.declared.Offers.{Offers}

-- their codes in document 01's order, and what they are worth by the kernel c, in that order and in rows
pub record HoldsOffers (m : Measures) (c : List ℤ) (o : Offers) : Type 0 where
  pub codes : HoldsOffsets m.reach o.codes.now
  pub worths : HoldsWorths m.radius c o.codes.now o.worths.now
  pub grid : GridFits m.radius c m.reach o.grid.now
