-- `search_trial::make_swap` meets its contract: each cell's byte is stored at the other, and the ledger counts it.
use mathlib.Core.Path.{sym, ◌∙◌, ap, ap₂, subst}
use Prim.Native.Nat.{ℕ, ◌≤◌, ◌<◌}
use lib.IntN.{ℤ, nat_abs}
use lib.ListN.{length, get_or, set}
use mir.Syntax.{w64}
use Rattle.algebra.proofs.Machine.{read_back}
use Rattle.model.specs.Change.{made, swap}
use Rattle.model.specs.Error.{Target, filtered_errors}
use Rattle.model.specs.Setting.{target_in}
use Rattle.model.specs.Reference.{accept}
use Rattle.model.proofs.Attempts.{counted_is}
use Rattle.invariants.specs.Plate.{JudgedIn, OnPlate, cell_of, most_change}
use Rattle.invariants.proofs.Plate.{ready_judged, place_fits, on_dots, stored_judged, countable}
use Rattle.search_trial.proofs.make_swap.Goals as goal
use Rattle.search_trial.proofs.make_swap.Goals.{Start}

-- what is known from the start
module _ (s : Start) where
  judged : JudgedIn s.args.setting s.args.c.now s.args.dots.now s.args.table.now
  judged = ready_judged s.requires.ready

  abbrev one : OnPlate s.args.setting.measures s.args.at
  one = s.requires.on_plate.0

  abbrev other : OnPlate s.args.setting.measures s.args.to
  other = s.requires.on_plate.1

  abbrev t : Target
  t = target_in s.args.setting

pub index-requires : goal.index-requires
index-requires c = let s : Start = search in place_fits (judged s) (one s)

pub bounds-dots-index : goal.bounds-dots-index
bounds-dots-index c =
    let s : Start = search in
    subst (λ k. k < length s.args.dots.now) (sym c.index.ensures) (on_dots (judged s) (one s))

pub index-requires-2 : goal.index-requires-2
index-requires-2 c = let s : Start = search in place_fits (judged s) (other s)

pub bounds-dots-index-2 : goal.bounds-dots-index-2
bounds-dots-index-2 c =
    let s : Start = search in
    subst (λ k. k < length s.args.dots.now) (sym c.index-2.ensures) (on_dots (judged s) (other s))

pub store-requires : goal.store-requires
store-requires c =
    let s : Start = search in record {
      judged = judged s;
      on_plate = (one s, (judged s).plate.halftone.bits.each c.index-2.result);
    }

pub store-requires-2 : goal.store-requires-2
store-requires-2 c =
    let s : Start = search in
    let low = (judged s).plate.halftone.bits in record {
      judged = stored_judged (judged s) (one s) (low.each c.index-2.result) c.store.ensures.dots_after
          c.store.ensures.table_after;
      on_plate = (other s, low.each c.index.result);
    }

pub count_swap-requires : goal.count_swap-requires
count_swap-requires c =
    countable c.requires.ready
    (subst (λ (z : ℤ). nat_abs z ≤ most_change) (sym (read_back w64 c.args.delta c.ranges.delta.sfits))
    c.requires.weighs.small)

pub returns : goal.returns
unfolding swap accept made
returns c =
    let s : Start = search in
    let dots = s.args.dots.now in
    let m = cell_of s.args.setting.measures.width s.args.at in
    let n = cell_of s.args.setting.measures.width s.args.to in
    let as-made =
    c.store-2.ensures.dots_after
    ∙ ap (λ l. set l n (get_or dots c.index.result 0)) c.store.ensures.dots_after
    ∙ ap₂ (λ (k l : ℕ). set (set dots m (get_or dots l 0)) n (get_or dots k 0)) c.index.ensures
    c.index-2.ensures in
    record {
      answer_is =
          c.count_swap.ensures
          ∙ counted_is (t s) dots s.args.stats (swap dots m n) s.requires.ready.later.state.error_is
          (read_back w64 s.args.delta s.ranges.delta.sfits ∙ s.requires.weighs.delta_is);
      dots_are = as-made;
      table_is = c.store-2.ensures.table_after ∙ ap (filtered_errors (t s)) as-made;
    }
