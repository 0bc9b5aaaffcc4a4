-- `search_swaps::swap_by` meets its contract: from each cell on, the scan stays as it is up to the first that takes a
-- partner, and the swap with it is the one that a scan accepts there.
use mathlib.Core.List.{List}
use mathlib.Core.Path.{sym, ◌∙◌, ap, subst}
use Prim.Native.Nat.{ℕ, ◌<◌}
use native.Mathlib.Nat.{le_of_eq, le_of_lt, mul-le-mul}
use native.Mathlib.Omega.{arith}
use lib.IntN.{ℤ}
use Rattle.algebra.proofs.Grid.{cell<}
use Rattle.model.specs.declared.Cell.{Cell}
use Rattle.model.specs.declared.Progress.{Progress}
use Rattle.model.specs.Basic.{pick}
use Rattle.model.specs.Setting.{target_in}
use Rattle.model.specs.Error.{Target}
use Rattle.model.specs.Reference.{Reference, reference}
use Rattle.model.specs.Scan.{swaps, trials_to}
use Rattle.model.proofs.Scan.{Lawful, swaps_lawful}
use Rattle.model.proofs.Attempts.{Sound, entry_sound}
use Rattle.invariants.specs.Partners.{HoldsOffsets}
use Rattle.invariants.specs.Plate.{JudgedIn, ReadyIn, OnPlate, OnWay, cell_of}
use Rattle.invariants.specs.Trials.{Quiet, Takes}
use Rattle.invariants.proofs.Plate.{ready_judged, place_fits, way_on, way_end}
use Rattle.invariants.proofs.Trials.{all_failed}
use Rattle.invariants.proofs.Scanning.{Scanning, scanning_start, scanning_fits, scanning_few, scanning_next, scanning_end}
use Rattle.search_swaps.proofs.Spans.{span_ahead, tallied_there, tallied_end, trials_none, trials_most}
use Rattle.search_swaps.proofs.Spans.{plate_dots, lowers_there}
use Rattle.search_swaps.proofs.swap_by.Goals as goal
use Rattle.search_swaps.proofs.swap_by.Goals.{After-next_taker-taker, Start}

pub loop-task-init : goal.loop-task-init
loop-task-init c =
    (scanning_start _ _ _ (swaps _ _) c.requires.ready.later, trials_none _ _ _ c.args.task.counted c.args.setting.measures.width)

-- what is known from the start
module _ (s : Start) where
  abbrev t : Target
  t = target_in s.args.setting

  abbrev p : Reference
  p = reference s.args.dots.now s.args.task.stats

  abbrev held : HoldsOffsets s.args.setting.measures.reach s.args.offers.codes.now
  held = s.requires.holds_offers.codes

  lawful : Lawful t (swaps t s.args.setting.measures.reach)
  lawful = swaps_lawful t s.args.setting.measures.reach

  sound : Sound s.args.setting.measures s.args.setting.psf.now s.args.setting.gray.now p
  sound = entry_sound _ _ _ _ _ _ s.requires.ready.later

  -- later calls accept what is there
  module _ {at : Cell} {dots : List ℕ} {table : List ℤ} {progress : Progress}
      (u : Scanning s.args.setting.measures s.args.setting.psf.now s.args.setting.gray.now
      (swaps t s.args.setting.measures.reach) p at dots table progress) where
    ready : ReadyIn s.args.setting s.args.c.now dots table progress.stats
    ready =
        record { later = scanning_fits u lawful sound; kernel = s.requires.ready.kernel; bytes = s.requires.ready.bytes }

    judged : JudgedIn s.args.setting s.args.c.now dots table
    judged = ready_judged ready

pub next_taker-taker-requires : goal.next_taker-taker-requires
next_taker-taker-requires c =
    let s : Start = search in
    let here = c.loop-task.invariant.0 in record {
      judged = (judged s here, here.on_way);
      holds_offers = s.requires.holds_offers;
    }

-- the first cell that takes a partner, if one does
module _ (f : After-next_taker-taker) where
  abbrev s : Start
  s = search

  abbrev at : Cell
  at = f.next_taker-taker.result.at

  abbrev m : ℕ
  m = cell_of f.args.setting.measures.width at

  abbrev way : OnWay f.args.setting.measures at
  way = f.next_taker-taker.ensures.on_way.0

  abbrev quiet : Quiet (t s) f.args.setting.measures.reach f.loop-task.dots
      (cell_of f.args.setting.measures.width f.loop-task.from.at) m
  quiet = f.next_taker-taker.ensures.on_way.1

  abbrev takes : at.row < f.args.setting.measures.height
      → Takes (t s) f.args.setting.measures.reach f.loop-task.dots m f.next_taker-taker.result.found
  takes = f.next_taker-taker.ensures.takes

  -- the scan stands there
  stands : Scanning f.args.setting.measures f.args.setting.psf.now f.args.setting.gray.now
      (swaps (t s) f.args.setting.measures.reach) (p s) at f.loop-task.dots f.loop-task.table f.loop-task.progress
  stands = span_ahead f.loop-task.invariant.0 (lawful s) (sound s) way quiet

  -- a cell that takes one
  on : at.row < f.args.setting.measures.height → OnPlate f.args.setting.measures at
  on above = way_on way above

pub tally-trials-requires : goal.tally-trials-requires
tally-trials-requires c =
    let f = (goal.at.tally-trials-requires c).After-next_taker-taker in
    let j = judged (s f) f.loop-task.invariant.0 in
    let h = j.plate.halftone in record {
      plate_fits = (plate_dots j.plate, held (s f));
      on_way = (f.loop-task.invariant.0.on_way, way f, (quiet f).forward);
      found_in_bounds = (
        λ on. subst (λ n. f.next_taker-taker.result.found < n) (sym (held (s f)).long) (takes f on).listed,
        trials_most (t (s f)) f.args.setting.measures.reach j.plate.reach_near (p (s f))
            f.args.task.counted _
            (omega (arith, f.loop-task.invariant.0.on_way.so_far, mul-le-mul h.high.1 h.wide.1))
            f.loop-task.invariant.1,
      );
    }

pub returns-then-setting-taker : goal.returns-then-setting-taker
returns-then-setting-taker c =
    let f = (goal.at.returns-then-setting-taker c).After-next_taker-taker in
    let end = way_end (way f) c.if-setting-taker.true in record {
      fact = scanning_end (stands f) (lawful (s f)) (sound (s f)) c.if-setting-taker.true;
      trials_value = tallied_end f.loop-task.invariant.0 (lawful (s f)) (sound (s f)) (way f) (quiet f) f.args.task.counted
          f.next_taker-taker.result.found
          f.loop-task.invariant.1 c.tally-trials.ensures (le_of_eq (sym end))
          ∙ ap (λ n. pick f.args.task.counted
          (trials_to (t (s f)) (swaps (t (s f)) f.args.setting.measures.reach) (p (s f)) n) 0) end;
    }

pub swap_cell-progress-requires : goal.swap_cell-progress-requires
swap_cell-progress-requires c =
    let f = (goal.at.swap_cell-progress-requires c).After-next_taker-taker in
    let taken = takes f c.if-setting-taker.false in
    let short = subst (λ n. f.next_taker-taker.result.found < n) (sym (held (s f)).long) taken.listed in record {
      ready = ready (s f) (stands f);
      on_plate = (on f c.if-setting-taker.false, scanning_few (stands f) (lawful (s f)) (sound (s f)), held (s f));
      found_in_bounds = (short, lowers_there (held (s f)) short taken);
    }

pub next-requires : goal.next-requires
next-requires c =
    let f = (goal.at.next-requires c).After-next_taker-taker in
    place_fits (judged (s f) f.loop-task.invariant.0) (on f c.if-setting-taker.false)

pub loop-task-smaller : goal.loop-task-smaller
loop-task-smaller c =
    let f = (goal.at.loop-task-smaller c).After-next_taker-taker in
    omega (arith, c.next.ensures.0, cell< (on f c.if-setting-taker.false).row_below (on f c.if-setting-taker.false).col_below, (quiet f).forward)

pub loop-task-preserved : goal.loop-task-preserved
loop-task-preserved c =
    let f = (goal.at.loop-task-preserved c).After-next_taker-taker in
    let taken = takes f c.if-setting-taker.false in
    let next = c.next.ensures.0 in (
      scanning_next (stands f) (lawful (s f)) (sound (s f)) (on f c.if-setting-taker.false) c.next.ensures.1 next
          (all_failed (t (s f)) f.args.setting.measures.reach f.loop-task.dots f.loop-task.progress (m f)
          f.next_taker-taker.result.found (le_of_lt taken.listed) taken.failed)
          c.swap_cell-progress.ensures,
      tallied_there f.loop-task.invariant.0 (lawful (s f)) (sound (s f)) (way f) (quiet f) f.args.task.counted
          f.next_taker-taker.result.found
          f.loop-task.invariant.1 c.tally-trials.ensures (cell< (on f c.if-setting-taker.false).row_below (on f c.if-setting-taker.false).col_below) taken
          ∙ ap (λ n. pick f.args.task.counted
          (trials_to (t (s f)) (swaps (t (s f)) f.args.setting.measures.reach) (p (s f)) n) 0) (sym next),
    )
