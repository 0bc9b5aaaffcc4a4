-- `pfm_samples::brightness` meets its contract: the last digits of the sum, or 0.
use lib.Ieee.{of_bits}
use Rattle.model.proofs.Samples.{shade_values}
use Rattle.pfm_samples.proofs.Rounded.{sum_number, sum_last}
use Rattle.pfm_samples.proofs.Shades.{shade_positive, shade_zero}
use Rattle.pfm_samples.proofs.brightness.Goals as goal

pub returns-then-v : goal.returns-then-v
unfolding of_bits
returns-then-v c =
    let start = c in
    let v = start.args.v in
    sum_last v c.times_255-sum.ensures.1 (shade_values v start.requires) _ c.times_255-sum.ensures.0

pub returns : goal.returns
unfolding of_bits
returns c = let start = c in shade_zero start.args.v c.if-v.false start.requires

pub times_255-sum-requires : goal.times_255-sum-requires
unfolding of_bits
times_255-sum-requires c =
    let start = c in
    let above = c in
    shade_positive start.args.v above.if-v.true start.requires

pub float_to_bits-result : goal.float_to_bits-result
unfolding of_bits
float_to_bits-result c =
    let start = c in
    let v = start.args.v in
    sum_number v c.times_255-sum.ensures.1 (shade_values v start.requires) _ c.times_255-sum.ensures.0
