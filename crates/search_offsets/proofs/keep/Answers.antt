-- `search_offsets::keep` meets its contract: of the codes passed, those within reach have been written in their order.
use Rattle.std.proofs.Common.{refl, sym, ◌∙◌, arith}
use Rattle.search_offsets.specs.Codes.{kept}
use Rattle.search_offsets.proofs.keep.Goals as goal
use Rattle.search_offsets.proofs.keep.Goals.{then-is_within, else-is_within}
use Rattle.search_offsets.proofs.keep.Invariants.{kept_one, left_out}

pub loop-code-init : goal.loop-code-init
unfolding kept
loop-code-init c = record { passed = omega arith; few = omega arith; long = refl; keeps = refl }

pub loop-code-preserved : goal.loop-code-preserved
loop-code-preserved c = elim c.if-is_within.branch [
  | then-is_within w ↦ rw (w.out-is, w.count-is) (kept_one c.loop-code.invariant (omega arith) (omega arith) (sym c.is_within.ensures ∙ w.if-is_within.true))
  | else-is_within w ↦ rw (w.out-is, w.count-is) (left_out c.loop-code.invariant (omega arith) (sym c.is_within.ensures ∙ w.if-is_within.false))
]
