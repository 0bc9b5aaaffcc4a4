-- `search_offsets::within_reach` meets its contract. That the table holds the codes of the offsets within 6 in their order is
-- one computed test of the whole table: antt computes `codes` where `returns` hands on what `keep` ensures.
use Rattle.std.proofs.Common.{sym, subst}
use Rattle.model.specs.Partners.{offsets_of, offsets_from, offsets}
use Rattle.model.proofs.Basic.{part_whole}
use Rattle.invariants.specs.Partners.{HoldsOffsets}
use Rattle.search_offsets.proofs.Codes.{codes, holds}
use Rattle.search_offsets.proofs.within_reach.Goals as goal

pub returns : goal.returns
unfolding codes offsets offsets_from offsets_of
returns c =
    let (few, kept) = c.keep.ensures in record {
      holds_offsets = subst (HoldsOffsets c.args.reach) (sym kept) (holds c.args.reach c.requires.0);
      upper_bound = (few, part_whole _ _ few);
    }
