-- `search_toggles::toggle_cell` meets its contract: a locked cell is passed over, and at any other the attempt is the
-- reference's visit of it.
use mathlib.Core.Path.{◌≡◌, sym, ◌∙◌, ap, subst}
use Prim.Native.Nat.{ℕ, ◌<◌}
use lib.ListN.{length, get_or}
use Rattle.model.specs.Setting.{target_in}
use Rattle.model.specs.Error.{Target}
use Rattle.model.specs.Lock.{locked, locked_gray}
use Rattle.model.proofs.Attempts.{entry_stats}
use Rattle.invariants.specs.Plate.{OnPlate, cell_of, cell_toggle}
use Rattle.invariants.proofs.Plate.{place_fits, ready_judged, on_gray}
use Rattle.invariants.proofs.Scanning.{visit_none, toggle_locked, toggle_declined, toggle_accepted, attempt_advances}
use Rattle.search_toggles.proofs.toggle_cell.Goals as goal
use Rattle.search_toggles.proofs.toggle_cell.Goals.{After-is_locked, Start}

-- what is known from the start
module _ (s : Start) where
  abbrev on : OnPlate s.args.setting.measures s.args.at
  on = s.requires.on_plate.0

  abbrev target : Target
  target = target_in s.args.setting

  abbrev n : ℕ
  n = cell_of s.args.setting.measures.width s.args.at

pub index-requires : goal.index-requires
index-requires c = let s : Start = search in place_fits (ready_judged s.requires.ready) (on s)

pub bounds-setting-index : goal.bounds-setting-index
bounds-setting-index c =
    let s : Start = search in
    subst (λ k. k < length s.args.setting.gray.now) (sym c.index.ensures) (on_gray (ready_judged s.requires.ready) (on s))

-- whether the cell is locked, as the code is told
locked-is : (k : After-is_locked) → k.is_locked.result ≡ locked k.args.setting.gray.now (cell_of k.args.setting.measures.width k.args.at)
unfolding locked
locked-is k = k.is_locked.ensures ∙ ap (λ j. locked_gray (get_or k.args.setting.gray.now j 0)) k.index.ensures

pub returns-then-is_locked : goal.returns-then-is_locked
returns-then-is_locked c =
    let s : Start = search in
    let k = (goal.at.returns-then-is_locked c).After-is_locked in
    visit_none s.requires.ready.later
    (toggle_locked (target s) s.args.dots.now s.args.progress (n s) (sym (locked-is k) ∙ c.if-is_locked.true))

pub toggle-answer-requires : goal.toggle-answer-requires
toggle-answer-requires c = let s : Start = search in (s.requires.ready, on s)

pub advance-requires : goal.advance-requires
advance-requires c = c.requires.on_plate.1

pub returns : goal.returns
returns c =
    let s : Start = search in
    let k = (goal.at.returns c).After-is_locked in
    let a = s.args in
    attempt_advances (target s) a.dots.now a.progress (cell_toggle a.setting.measures a.dots.now a.at) _ _
    (entry_stats _ _ _ _ _ _ s.requires.ready.later)
    (toggle_accepted (target s) a.dots.now a.progress (n s) (sym (locked-is k) ∙ c.if-is_locked.false))
    (toggle_declined (target s) a.dots.now a.progress (n s)) _ c.advance.ensures c.toggle-answer.ensures
