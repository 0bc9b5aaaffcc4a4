-- `search_trial::make_toggle` meets its contract: the other byte is stored, and the ledger counts it.
use mathlib.Core.Path.{sym, ◌∙◌, ap, subst}
use Prim.Native.Nat.{ℕ, ◌-◌, ◌≤◌, ◌<◌}
use native.Mathlib.Omega.{arith}
use lib.Dec.{eqb}
use lib.IntN.{ℤ, nat_abs}
use lib.ListN.{length, get_or, set}
use mir.Syntax.{w64}
use mir.Val.{to_z, of_z}
use Rattle.algebra.proofs.Machine.{read_back}
use Rattle.model.specs.Basic.{pick}
use Rattle.model.specs.Change.{made, toggle}
use Rattle.model.specs.Error.{Target, filtered_errors}
use Rattle.model.specs.Setting.{target_in}
use Rattle.model.specs.Ledger.{on_count, off_count, counted}
use Rattle.model.specs.Reference.{accept}
use Rattle.model.proofs.Attempts.{counted_is}
use Rattle.model.proofs.Turn.{toggle_sets}
use Rattle.invariants.specs.Plate.{JudgedIn, OnPlate, cell_of, most_change}
use Rattle.invariants.proofs.Plate.{ready_judged, place_fits, on_dots, countable}
use Rattle.search_trial.proofs.make_toggle.Goals as goal
use Rattle.search_trial.proofs.make_toggle.Goals.{Start}

-- what is known from the start
module _ (s : Start) where
  judged : JudgedIn s.args.setting s.args.c.now s.args.dots.now s.args.table.now
  judged = ready_judged s.requires.ready.0

  abbrev on : OnPlate s.args.setting.measures s.args.at
  on = s.requires.ready.1

  abbrev t : Target
  t = target_in s.args.setting

pub index-requires : goal.index-requires
index-requires c = let s : Start = search in place_fits (judged s) (on s)

pub bounds-dots-index : goal.bounds-dots-index
bounds-dots-index c =
    let s : Start = search in
    subst (λ k. k < length s.args.dots.now) (sym c.index.ensures) (on_dots (judged s) (on s))

pub overflow_sub-dot : goal.overflow_sub-dot
overflow_sub-dot c =
    let s : Start = search in (judged s).plate.halftone.bits.each c.index.result

pub store-requires : goal.store-requires
store-requires c = let s : Start = search in record { judged = judged s; on_plate = (on s, omega arith) }

pub count_toggle-requires : goal.count_toggle-requires
count_toggle-requires c =
    countable c.requires.ready.0
    (subst (λ (z : ℤ). nat_abs z ≤ most_change) (sym (read_back w64 c.args.delta c.ranges.delta.sfits))
    c.requires.weighs.small)

pub returns : goal.returns
unfolding toggle accept made
returns c =
    let s : Start = search in
    let dots = s.args.dots.now in
    let n = cell_of s.args.setting.measures.width s.args.at in
    let there = c.index.ensures in
    let as-made =
    ap (λ (k : ℕ). set dots n (1 - get_or dots k 0)) there
    ∙ sym (ap (made dots) (toggle_sets dots (judged s).plate.halftone.bits n)) in
    record {
      answer_is =
          c.count_toggle.ensures
          ∙ ap (λ (k : ℕ). counted s.args.stats (to_z w64 (of_z w64 s.args.delta)) (pick (eqb (get_or dots k 0) 0) on_count off_count)) there
          ∙ counted_is (t s) dots s.args.stats (toggle dots n) s.requires.ready.0.later.state.error_is
          (read_back w64 s.args.delta s.ranges.delta.sfits ∙ s.requires.weighs.delta_is);
      dots_are = c.store.ensures.dots_after ∙ as-made;
      table_is = c.store.ensures.table_after ∙ ap (filtered_errors (t s)) (c.store.ensures.dots_after ∙ as-made);
    }
