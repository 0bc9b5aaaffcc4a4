-- `search::try_swap` meets its contract: refused with the judge's number, or the reference's swap.
use mathlib.Core.Path.{◌≡◌, sym}
use Prim.Native.Nat.{◌<◌}
use Rattle.model.specs.State.{LaterFits, swap_refusal}
use Rattle.model.specs.Calls.{later_call, swap_call}
use Rattle.model.proofs.Calls.{ends_refused}
use Rattle.model.proofs.Later.{swap_enters}
use Rattle.invariants.specs.Plate.{Unlike}
use Rattle.invariants.proofs.Plate.{leaves_ends}
use Rattle.judge_parts.proofs.Drawn.{some_number}
use Rattle.search.proofs.try_swap.Goals as goal
use Rattle.search.proofs.try_swap.Goals.{After-known_bytes, Start}

pub returns-in-Err : goal.returns-in-Err
unfolding swap_call later_call
returns-in-Err c = ends_refused _ _ _ c.in-Err.ensures (some_number _)

-- what is known once nothing is refused
module _ (e : After-known_bytes) where
  abbrev s : Start
  s = search

  taken : swap_refusal s.args.setting.measures s.args.setting.psf.now s.args.setting.gray.now s.args.dots.now
      s.args.table.now s.args.stats s.args.at.row s.args.at.col s.args.to.row s.args.to.col
      ≡ 0
  taken = sym e.in_default.ensures

  enters : LaterFits s.args.setting.measures s.args.setting.psf.now s.args.setting.gray.now s.args.dots.now
      s.args.table.now s.args.stats
      × ((s.args.at.row < s.args.setting.measures.height) × (s.args.at.col < s.args.setting.measures.width))
      × ((s.args.to.row < s.args.setting.measures.height) × (s.args.to.col < s.args.setting.measures.width))
      × Unlike s.args.setting.measures s.args.dots.now s.args.at s.args.to
  enters =
      let (fits, one, other, _, unlike) = swap_enters _ _ _ _ _ _ _ _ _ _ taken in (fits, one, other, unlike)

pub kernel-c-requires : goal.kernel-c-requires
kernel-c-requires c = (enters (goal.at.kernel-c-requires c).After-known_bytes).0.plate.halftone.psf_fits

pub swap-requires : goal.swap-requires
swap-requires c =
    let e = (goal.at.swap-requires c).After-known_bytes in
    let (fits, one, other, unlike) = enters e in record {
      ready = record { later = fits; kernel = c.kernel-c.ensures; bytes = c.known_bytes.ensures };
      on_plate = (
        record { row_below = one.0; col_below = one.1 },
        record { row_below = other.0; col_below = other.1 },
        unlike,
      );
    }

pub returns : goal.returns
unfolding swap_call
returns c =
    let e = (goal.at.returns c).After-known_bytes in
    leaves_ends (s e).args.dots.now (s e).args.table.now (taken e) c.swap.ensures
