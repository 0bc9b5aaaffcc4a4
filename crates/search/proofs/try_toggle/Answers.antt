-- `search::try_toggle` meets its contract: refused with the judge's number, or the reference's toggle.
use mathlib.Core.Path.{◌≡◌, sym}
use Prim.Native.Nat.{◌<◌}
use Rattle.model.specs.State.{LaterFits, toggle_refusal}
use Rattle.model.specs.Calls.{later_call, toggle_call}
use Rattle.model.proofs.Calls.{ends_refused}
use Rattle.model.proofs.Later.{toggle_enters}
use Rattle.invariants.proofs.Plate.{leaves_ends}
use Rattle.judge_parts.proofs.Drawn.{some_number}
use Rattle.search.proofs.try_toggle.Goals as goal
use Rattle.search.proofs.try_toggle.Goals.{After-known_bytes, Start}

pub returns-in-Err : goal.returns-in-Err
unfolding toggle_call later_call
returns-in-Err c = ends_refused _ _ _ c.in-Err.ensures (some_number _)

-- what is known once nothing is refused
module _ (e : After-known_bytes) where
  abbrev s : Start
  s = search

  taken : toggle_refusal s.args.setting.measures s.args.setting.psf.now s.args.setting.gray.now s.args.dots.now
      s.args.table.now s.args.stats s.args.at.row s.args.at.col ≡ 0
  taken = sym e.in_default.ensures

  enters : LaterFits s.args.setting.measures s.args.setting.psf.now s.args.setting.gray.now s.args.dots.now
      s.args.table.now s.args.stats
      × ((s.args.at.row < s.args.setting.measures.height) × (s.args.at.col < s.args.setting.measures.width))
  enters = let (fits, on, _) = toggle_enters _ _ _ _ _ _ _ _ taken in (fits, on)

pub kernel-c-requires : goal.kernel-c-requires
kernel-c-requires c = (enters (goal.at.kernel-c-requires c).After-known_bytes).0.plate.halftone.psf_fits

pub toggle-requires : goal.toggle-requires
toggle-requires c =
    let e = (goal.at.toggle-requires c).After-known_bytes in
    let (fits, on) = enters e in (
      record { later = fits; kernel = c.kernel-c.ensures; bytes = c.known_bytes.ensures },
      record { row_below = on.0; col_below = on.1 },
    )

pub returns : goal.returns
unfolding toggle_call
returns c =
    let e = (goal.at.returns c).After-known_bytes in
    leaves_ends (s e).args.dots.now (s e).args.table.now (taken e) c.toggle.ensures
