-- `search_toggles::toggle_all` meets its contract: cell by cell, in raster order, it is the reference's toggle scan; where a
-- run of cells is passed over, the reference accepts nothing.
use mathlib.Core.Path.{refl}
use Prim.Native.Nat.{◌*◌, ◌<◌}
use native.Mathlib.Omega.{arith}
use Rattle.algebra.proofs.Grid.{cell<}
use Rattle.model.specs.Setting.{target_in}
use Rattle.model.specs.Error.{Target}
use Rattle.model.specs.Reference.{reference}
use Rattle.model.specs.Scan.{toggles}
use Rattle.model.proofs.Attempts.{Sound, entry_sound}
use Rattle.model.proofs.Scan.{Lawful, toggles_lawful}
use Rattle.invariants.specs.Plate.{ReadyIn, OnPlate, cell_of}
use Rattle.invariants.proofs.Plate.{ready_judged, place_fits}
use Rattle.invariants.proofs.Scanning.{scanning_start, scanning_fits, scanning_few, scanning_here}
use Rattle.invariants.proofs.Scanning.{scanning_next, scanning_ahead, scanning_end, toggle_declined}
use Rattle.search_toggles.proofs.toggle_all.Goals as goal
use Rattle.search_toggles.proofs.toggle_all.Goals.{In-loop-cell, Start}

pub loop-cell-init : goal.loop-cell-init
loop-cell-init c = scanning_start _ _ _ (toggles _) c.requires.later

-- what is known from the start
module _ (s : Start) where
  abbrev target : Target
  target = target_in s.args.setting

  lawful : Lawful target (toggles target)
  lawful = toggles_lawful target refl

  sound : Sound s.args.setting.measures s.args.setting.psf.now s.args.setting.gray.now
      (reference s.args.dots.now s.args.stats)
  sound = entry_sound _ _ _ _ _ _ s.requires.later

-- what is known at each cell, which is on the plate
module _ (v : In-loop-cell) where
  abbrev start : Start
  start = search

  ready : ReadyIn v.args.setting v.args.c.now v.loop-cell.dots
      v.loop-cell.table v.loop-cell.progress.stats
  ready = record {
    later = scanning_fits v.loop-cell.invariant (lawful start) (sound start);
    kernel = v.requires.kernel;
    bytes = v.requires.bytes;
  }

  here : OnPlate v.args.setting.measures v.loop-cell.cell
  here = scanning_here v.loop-cell.invariant (lawful start) (sound start) v.loop-cell-test.true

  is-a-cell : cell_of v.args.setting.measures.width v.loop-cell.cell < v.args.setting.measures.height * v.args.setting.measures.width
  is-a-cell = cell< here.row_below here.col_below

pub clear_run-n-requires : goal.clear_run-n-requires
clear_run-n-requires c = (ready_judged (ready c), here c)

pub ahead-cell-requires : goal.ahead-cell-requires
ahead-cell-requires c =
    let v = (goal.at.ahead-cell-requires c).In-loop-cell in
    let (row, col, wide) = place_fits (ready_judged (ready v)) (here v) in
    (row, col, wide, c.clear_run-n.ensures.0)

pub loop-cell-smaller-then-n-gt0 : goal.loop-cell-smaller-then-n-gt0
loop-cell-smaller-then-n-gt0 c =
    let v = (goal.at.loop-cell-smaller-then-n-gt0 c).In-loop-cell in
    omega (arith, c.ahead-cell.ensures.0, c.if-n-gt0.true, is-a-cell v)

pub loop-cell-preserved-then-n-gt0 : goal.loop-cell-preserved-then-n-gt0
loop-cell-preserved-then-n-gt0 c =
    let v = (goal.at.loop-cell-preserved-then-n-gt0 c).In-loop-cell in
    scanning_ahead v.loop-cell.invariant (lawful (start v)) (sound (start v)) (here v) c.ahead-cell.ensures.1 c.ahead-cell.ensures.0
    c.clear_run-n.ensures.0
    (λ j h. toggle_declined (target (start v)) v.loop-cell.dots v.loop-cell.progress _ (c.clear_run-n.ensures.1 j h))

pub run_end-tested-requires : goal.run_end-tested-requires
run_end-tested-requires c =
    let v = (goal.at.run_end-tested-requires c).In-loop-cell in place_fits (ready_judged (ready v)) (here v)

pub toggle_cell-progress-requires : goal.toggle_cell-progress-requires
toggle_cell-progress-requires c =
    let v = (goal.at.toggle_cell-progress-requires c).In-loop-cell in record {
      ready = ready v;
      on_plate = (here v, scanning_few v.loop-cell.invariant (lawful (start v)) (sound (start v)));
    }

pub next-cell-requires : goal.next-cell-requires
next-cell-requires c =
    let v = (goal.at.next-cell-requires c).In-loop-cell in place_fits (ready_judged (ready v)) (here v)

pub loop-cell-smaller : goal.loop-cell-smaller
loop-cell-smaller c =
    let v = (goal.at.loop-cell-smaller c).In-loop-cell in omega (arith, c.next-cell.ensures.0, is-a-cell v)

pub loop-cell-preserved : goal.loop-cell-preserved
loop-cell-preserved c =
    let v = (goal.at.loop-cell-preserved c).In-loop-cell in
    scanning_next v.loop-cell.invariant (lawful (start v)) (sound (start v)) (here v) c.next-cell.ensures.1 c.next-cell.ensures.0
    refl c.toggle_cell-progress.ensures

pub returns : goal.returns
returns c =
    let s : Start = search in scanning_end c.loop-cell.invariant (lawful s) (sound s) c.loop-cell-test.false
