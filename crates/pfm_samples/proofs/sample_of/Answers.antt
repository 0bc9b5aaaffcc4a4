-- `pfm_samples::sample_of` meets its contract, by its four tests.
use mathlib.Core.Bool.{false}
use mathlib.Core.Path.{◌≡◌, sym, ◌∙◌}
use lib.Ieee.{binary32, of_bits, nan_bits}
use Rattle.pfm_samples.proofs.ThreeKinds.{no_number, shade, above, below, low_shade, low_number}
use Rattle.pfm_samples.proofs.sample_of.Goals as goal
use Rattle.pfm_samples.proofs.sample_of.Goals.{Else-is_nan_pattern, else-v-via-then-v+else-v-2, else-v-via-else-v}

-- it is a number
is_number : (c : Else-is_nan_pattern) → nan_bits binary32 c.args.n ≡ false
is_number c = sym c.is_nan_pattern.ensures ∙ c.if-is_nan_pattern.false

pub returns-then-n-le1065353216 : goal.returns-then-n-le1065353216
returns-then-n-le1065353216 c = low_shade c.args.n c.if-n-le1065353216.true

pub returns-then-is_nan_pattern : goal.returns-then-is_nan_pattern
returns-then-is_nan_pattern c =
    no_number c.args.n (sym c.is_nan_pattern.ensures ∙ c.if-is_nan_pattern.true)

pub returns-else-v : goal.returns-else-v
unfolding of_bits
returns-else-v c =
    let number = is_number (goal.at.returns-else-v c).Else-is_nan_pattern in
    elim c.else-v.branch [
      | else-v-via-then-v+else-v-2 w ↦ above c.args.n number w.if-v.true w.if-v-2.false
      | else-v-via-else-v w ↦ below c.args.n number w.if-v.false
    ]

pub returns-then-v-2 : goal.returns-then-v-2
unfolding of_bits
returns-then-v-2 c =
    shade c.args.n (is_number (goal.at.returns-then-v-2 c).Else-is_nan_pattern) c.if-v.true c.if-v-2.true

pub float_from_bits-result : goal.float_from_bits-result
float_from_bits-result c = rw (low_number c.args.n c.if-n-le1065353216.true) tt

pub float_from_bits-v : goal.float_from_bits-v
float_from_bits-v c = rw (is_number c) tt
