-- `search_partners::weigh_offsets` meets its contract: each entry from the kernel at its offset.
use Rattle.std.proofs.Common.{arith}
use Rattle.model.proofs.Basic.{fill_next}
use Rattle.search_partners.proofs.Worths.{gap_fits, worth_fits, worth_is}
use Rattle.search_partners.proofs.weigh_offsets.Goals as goal

pub overflow_sub-worths : goal.overflow_sub-worths
overflow_sub-worths c = gap_fits c.args.radius c.requires.0.small _ _ c.peak-top.ensures c.between.ensures

pub overflow_mul-worths : goal.overflow_mul-worths
overflow_mul-worths c = worth_fits c.args.radius c.requires.0.small _ _ c.peak-top.ensures c.between.ensures

pub loop-k-preserved : goal.loop-k-preserved
loop-k-preserved c =
    let between = rw (c.digits.ensures.digits_are.0, c.digits.ensures.digits_are.1) at c.between.ensures in
    fill_next c.loop-k.invariant (omega arith) (worth_is c.args.radius c.requires.0.small _ _ c.peak-top.ensures between)
