-- `platemaker::pm_start` meets its contract: a slice is refused, or the call is made and its answer laid out.
use mathlib.Core.Path.{refl}
use native.Mathlib.Omega.{arith}
use Rattle.model.specs.Calls.{start_call}
use Rattle.platemaker.proofs.Ledgers.{start_storable}
use Rattle.platemaker.proofs.Laid.{to_lay, slices_refused, slices_taken}
use Rattle.platemaker.proofs.pm_start.Goals as goal

pub returns-in-Err : goal.returns-in-Err
returns-in-Err c =
    record {
      makes = slices_refused _ _ _ _ _ _ _ _ _ c.in-Err.reason c.in-Err.ensures.drawn c.into.ensures;
      -- gray is made of bytes
      at_most = record { each = λ i. omega (arith, c.type_inv.gray i) };
    }

pub lay_start-requires : goal.lay_start-requires
lay_start-requires c = (
  c.in_default.ensures.sized.1,
  to_lay _ c.start.ensures.ends.reply_is (start_storable _ _ _ _ _ c.start.ensures.at_most),
)

pub returns : goal.returns
returns c =
    record {
      makes = slices_taken (λ m p g d t s. start_call m p g d t) _ _ _ _ _ _ c.in_default.ensures.drawn
          c.measures_of.ensures refl c.start.ensures.ends c.lay_start.ensures;
      at_most = c.start.ensures.at_most;
    }
