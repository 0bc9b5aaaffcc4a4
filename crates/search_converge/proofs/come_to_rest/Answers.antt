-- `search_converge::come_to_rest` meets its contract: before each turn, what is left of the settling is all of it.
use mathlib.Core.List.{List}
use mathlib.Core.Path.{refl}
use native.Mathlib.Omega.{arith}
use lib.IntN.{ℤ}
use Rattle.model.specs.declared.Progress.{Progress}
use Rattle.model.specs.declared.Stats.{Stats}
use Rattle.model.specs.Setting.{target_in}
use Rattle.model.specs.Error.{Target}
use Rattle.model.specs.Reference.{reference}
use Rattle.model.specs.Scan.{toggles, swaps, sweep}
use Rattle.model.specs.State.{LaterFits}
use Rattle.invariants.specs.Plate.{ReadyIn, Leaves}
use Rattle.invariants.specs.Trials.{performed}
use Rattle.model.proofs.Scan.{toggles_lawful, swaps_lawful}
use Prim.Native.Nat.{ℕ}
use Rattle.search_converge.proofs.Turns.{Made, made_by, scans_fit}
use Rattle.search_converge.proofs.Turns.{turning_first, turning_again, again_lower, turning_anew, anew_lower, turning_end}
use Rattle.search_converge.proofs.come_to_rest.Goals as goal
use Rattle.search_converge.proofs.come_to_rest.Goals.{Start}

pub loop-setting-init : goal.loop-setting-init
loop-setting-init c = turning_first _ _ _ _ _ c.args.stats c.requires.later

-- what is known from the start
module _ (s : Start) where
  abbrev target : Target
  target = target_in s.args.setting

  -- what a scan asks for
  with-kernel : {dots : List ℕ} {table : List ℤ} {r : Stats}
      → LaterFits s.args.setting.measures s.args.setting.psf.now s.args.setting.gray.now dots table r
      → ReadyIn s.args.setting s.args.c.now dots table r
  with-kernel f = record { later = f; kernel = s.requires.kernel; bytes = s.requires.bytes }

  module _ {dots : List ℕ} {table : List ℤ} {now : Stats}
      (fits : LaterFits s.args.setting.measures s.args.setting.psf.now s.args.setting.gray.now dots table now)
      {dots1 : List ℕ} {table1 : List ℤ} {r : Progress} where
    -- the toggle scan of a turn
    toggled : Leaves target (performed target (sweep target (toggles target) (reference dots now))) r dots1 table1
        → Made s.args.setting.measures s.args.setting.psf.now s.args.setting.gray.now (toggles target) (reference dots now) dots1 table1 r
    toggled left = made_by _ _ _ (toggles _) (toggles_lawful _ refl) dots table now fits left

    -- and the swap scan after it
    swapped : Leaves target (performed target (sweep target (swaps target s.args.setting.measures.reach) (reference dots now))) r
        dots1 table1
        → Made s.args.setting.measures s.args.setting.psf.now s.args.setting.gray.now (swaps target s.args.setting.measures.reach) (reference dots now)
        dots1 table1 r
    swapped left = made_by _ _ _ (swaps _ _) (swaps_lawful _ _) dots table now fits left

pub toggle_all-toggled-requires : goal.toggle_all-toggled-requires
toggle_all-toggled-requires c = let s : Start = search in with-kernel s c.loop-setting.invariant.fits

pub overflow_add-scans : goal.overflow_add-scans
overflow_add-scans c = record { fits = omega (arith, scans_fit _ _ _ c.loop-setting.invariant) }

pub swap_all-swapped-requires : goal.swap_all-swapped-requires
swap_all-swapped-requires c =
    let s : Start = search in
    with-kernel s (toggled s c.loop-setting.invariant.fits c.toggle_all-toggled.ensures).fits

pub overflow_add-scans-then-toggled-eq0 : goal.overflow_add-scans-then-toggled-eq0
overflow_add-scans-then-toggled-eq0 c = record { fits = omega (arith, scans_fit _ _ _ c.loop-setting.invariant) }

pub returns-then-swapped-eq0 : goal.returns-then-swapped-eq0
returns-then-swapped-eq0 c =
    let s : Start = search in
    let made = toggled s c.loop-setting.invariant.fits c.toggle_all-toggled.ensures in
    turning_end _ _ _ c.loop-setting.invariant made c.if-toggled-eq0.true (swapped s made.fits c.swap_all-swapped.ensures)
    c.if-swapped-eq0.true

pub loop-setting-smaller-else-swapped-eq0 : goal.loop-setting-smaller-else-swapped-eq0
loop-setting-smaller-else-swapped-eq0 c =
    let s : Start = search in
    let made = toggled s c.loop-setting.invariant.fits c.toggle_all-toggled.ensures in
    anew_lower _ _ _ c.loop-setting.invariant made c.if-toggled-eq0.true (swapped s made.fits c.swap_all-swapped.ensures)
    c.if-swapped-eq0.false

pub loop-setting-preserved-else-swapped-eq0 : goal.loop-setting-preserved-else-swapped-eq0
loop-setting-preserved-else-swapped-eq0 c =
    let s : Start = search in
    let made = toggled s c.loop-setting.invariant.fits c.toggle_all-toggled.ensures in
    turning_anew _ _ _ c.loop-setting.invariant made c.if-toggled-eq0.true (swapped s made.fits c.swap_all-swapped.ensures)
    c.if-swapped-eq0.false

pub loop-setting-smaller : goal.loop-setting-smaller
loop-setting-smaller c =
    let s : Start = search in
    again_lower _ _ _ c.loop-setting.invariant (toggled s c.loop-setting.invariant.fits c.toggle_all-toggled.ensures)
    c.if-toggled-eq0.false

pub loop-setting-preserved : goal.loop-setting-preserved
loop-setting-preserved c =
    let s : Start = search in
    turning_again _ _ _ c.loop-setting.invariant (toggled s c.loop-setting.invariant.fits c.toggle_all-toggled.ensures)
    c.if-toggled-eq0.false
