-- `search_swaps::swap_cell` meets its contract: the partner found stands on the plate, its dot unlike, and the swap with
-- it is the one that a scan accepts there.
use mathlib.Core.Bool.{true, true≢false, and-eq-true_iff}
use mathlib.Core.Path.{◌≡◌, sym, ◌∙◌, ap, subst}
use Prim.Native.Nat.{ℕ, ◌+◌, ◌-◌, ◌≤◌, ◌<◌}
use native.Mathlib.Omega.{arith}
use lib.ListN.{length, get_or}
use Rattle.model.specs.declared.Cell.{Cell}
use Rattle.model.specs.Change.{swap, lowers}
use Rattle.model.specs.Setting.{target_in}
use Rattle.model.specs.Error.{Target}
use Rattle.model.specs.Partners.{lands, partner}
use Rattle.model.specs.Scan.{suits}
use Rattle.model.proofs.Attempts.{entry_stats}
use Rattle.model.proofs.Scan.{Suited, suits_so}
use Rattle.invariants.specs.Partners.{row_of, column_of, offset_of, HoldsOffsets}
use Rattle.invariants.specs.Plate.{OnPlate, cell_of, Unlike, cell_swap}
use Rattle.invariants.specs.Trials.{lowers_at}
use Rattle.invariants.proofs.Plate.{ready_judged}
use Rattle.invariants.proofs.Scanning.{attempt_advances}
use Rattle.invariants.proofs.Trials.{swap_taken}
use Rattle.search_swaps.proofs.Partner.{landed, stands, partner_on}
use Rattle.search_swaps.proofs.swap_cell.Goals as goal
use Rattle.search_swaps.proofs.swap_cell.Goals.{Start}

-- what is known from the start
module _ (s : Start) where
  abbrev on : OnPlate s.args.setting.measures s.args.at
  on = s.requires.on_plate.0

  abbrev held : HoldsOffsets s.args.setting.measures.reach s.args.codes.now
  held = s.requires.on_plate.2

  abbrev target : Target
  target = target_in s.args.setting

  abbrev m : ℕ
  m = cell_of s.args.setting.measures.width s.args.at

  -- the offset found
  abbrev code : ℕ
  code = get_or s.args.codes.now s.args.found 0

-- where the partner stands, and that its dot is unlike
module _ (start : Start) where
  abbrev row : ℕ
  row = start.args.at.row

  abbrev col : ℕ
  col = start.args.at.col

  short : start.args.found < length start.args.codes.now
  short = start.requires.found_in_bounds.0

  near : (row_of (code start) ≤ 12) × (column_of (code start) ≤ 12)
  near = (held start).near start.args.found short

  took : lowers_at (target start) start.args.dots.now (m start) (offset_of (code start)) ≡ true
  took = start.requires.found_in_bounds.1

  lowersAt-is : (suits (target start) start.args.dots.now (m start) (offset_of (code start)) ≡ true)
      × (lowers (target start) start.args.dots.now
      (swap start.args.dots.now (m start) (partner start.args.setting.measures.width (m start) (offset_of (code start))))
      ≡ true)
  lowersAt-is = (and-eq-true_iff _ _).0 took

  suited : Suited (target start) start.args.dots.now (m start) (offset_of (code start))
  suited = suits_so (target start) start.args.dots.now (m start) (offset_of (code start)) lowersAt-is.0

  lands_there : lands start.args.setting.measures.width start.args.setting.measures.height (m start) (offset_of (code start)) ≡ true
  lands_there = suited.lands_there

  abbrev to : Cell
  to = record { row = row + row_of (code start) - 6; col = col + column_of (code start) - 6 }

  there : OnPlate start.args.setting.measures to
  there =
      partner_on (ready_judged start.requires.ready) (on start) (row_of (code start)) (column_of (code start)) lands_there

  inside : (6 ≤ row + row_of (code start)) × (6 ≤ col + column_of (code start))
  inside = (landed _ _ row col (on start).col_below (row_of (code start)) (column_of (code start)) lands_there).0

  -- the swap with it lowers E
  lower : lowers (target start) start.args.dots.now (cell_swap start.args.setting.measures start.args.dots.now
      start.args.at to) ≡ true
  lower =
      ap (λ k. lowers (target start) start.args.dots.now (swap start.args.dots.now (m start) k))
      (sym (stands _ start.args.setting.measures.height row col (on start).col_below (row_of (code start))
      (column_of (code start)) lands_there))
      ∙ lowersAt-is.1

  unlike : Unlike start.args.setting.measures start.args.dots.now start.args.at to
  unlike =
      subst (λ k. get_or start.args.dots.now (m start) 0 ≡ get_or start.args.dots.now k 0 → ⊥)
      (stands _ start.args.setting.measures.height row col (on start).col_below (row_of (code start))
      (column_of (code start)) lands_there) suited.unlike

pub bounds-codes-found : goal.bounds-codes-found
bounds-codes-found c = let a : Start = search in short a

pub overflow_add-to : goal.overflow_add-to
overflow_add-to c =
    let a : Start = search in
    let f = a.requires.ready.later.plate.halftone in
    record { fits = omega (arith, c.digits-offset.ensures.digits_small, (on a).row_below, f.high) }

pub overflow_sub-to : goal.overflow_sub-to
overflow_sub-to c = let a : Start = search in omega (arith, (inside a).0, c.digits-offset.ensures.digits_are)

pub overflow_add-to-2 : goal.overflow_add-to-2
overflow_add-to-2 c =
    let a : Start = search in
    let f = a.requires.ready.later.plate.halftone in
    record { fits = omega (arith, c.digits-offset.ensures.digits_small, (on a).col_below, f.wide) }

pub overflow_sub-to-2 : goal.overflow_sub-to-2
overflow_sub-to-2 c = let a : Start = search in omega (arith, (inside a).1, c.digits-offset.ensures.digits_are)

pub swap-answer-requires : goal.swap-answer-requires
swap-answer-requires c =
    let a : Start = search in
    let (down, right) = c.digits-offset.ensures.digits_are in record {
      ready = a.requires.ready;
      on_plate = (on a, rw (down, right) (there a), rw (down, right) (unlike a));
    }

pub advance-requires : goal.advance-requires
advance-requires c = c.requires.on_plate.1

pub returns : goal.returns
returns c =
    let a : Start = search in
    let (down, right) = c.digits-offset.ensures.digits_are in
    let g = a.args in
    let found = g.found in
    let taken =
    swap_taken (target a) g.setting.measures.reach g.dots.now g.progress (m a) found
    (subst (λ n. found < n) (held a).long (short a)) ((held a).at found (short a)) (took a)
    (stands _ _ _ _ (on a).col_below (row_of (code a)) (column_of (code a)) (lands_there a)) in
    attempt_advances (target a) g.dots.now g.progress (cell_swap g.setting.measures g.dots.now g.at (to a))
    _ _ (entry_stats _ _ _ _ _ _ a.requires.ready.later) (λ e. taken) (λ e. absurd (true≢false (sym (lower a) ∙ e))) _
    c.advance.ensures (rw (down, right) at c.swap-answer.ensures)
