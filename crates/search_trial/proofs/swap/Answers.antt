-- `search_trial::swap` meets its contract: weighed, then declined or made, it is the reference's attempt.
use mathlib.Core.Path.{sym, ◌∙◌, subst}
use lib.IntN.{ℤ}
use mir.Syntax.{w64}
use mir.Val.{to_z, of_z}
use Rattle.algebra.proofs.Machine.{read_back}
use Rattle.model.specs.Change.{Move}
use Rattle.model.specs.Error.{Target}
use Rattle.model.specs.Setting.{target_in}
use Rattle.invariants.specs.Plate.{cell_swap, Weighs}
use Rattle.invariants.proofs.Plate.{ready_judged, attempt_declined, attempt_accepted}
use Rattle.search_trial.proofs.swap.Goals as goal
use Rattle.search_trial.proofs.swap.Goals.{After-weigh_swap-delta, Start}

pub weigh_swap-delta-requires : goal.weigh_swap-delta-requires
weigh_swap-delta-requires c = record {
  judged = ready_judged c.requires.ready;
  on_plate = c.requires.on_plate;
}

-- the change as its local holds it
module _ (w : After-weigh_swap-delta) where
  abbrev s : Start
  s = search

  abbrev t : Target
  t = target_in s.args.setting

  abbrev v : Move
  v = cell_swap s.args.setting.measures s.args.dots.now s.args.at s.args.to

  abbrev delta : ℤ
  delta = to_z w64 (of_z w64 w.weigh_swap-delta.result)

  weighs : Weighs t s.args.dots.now v delta
  weighs =
      subst (Weighs t s.args.dots.now v)
      (sym (read_back w64 w.weigh_swap-delta.result w.weigh_swap-delta.type_inv)) w.weigh_swap-delta.ensures

pub make_swap-swapped-requires : goal.make_swap-swapped-requires
make_swap-swapped-requires c = let w = (goal.at.make_swap-swapped-requires c).After-weigh_swap-delta in record {
  ready = (s w).requires.ready;
  on_plate = ((s w).requires.on_plate.0, (s w).requires.on_plate.1);
  weighs = weighs w;
}

pub returns-then-lowers : goal.returns-then-lowers
returns-then-lowers c =
    let w = (goal.at.returns-then-lowers c).After-weigh_swap-delta in
    attempt_accepted (weighs w) (s w).args.stats (sym c.lowers.ensures ∙ c.if-lowers.true)
    c.make_swap-swapped.ensures

pub returns : goal.returns
returns c =
    let w = (goal.at.returns c).After-weigh_swap-delta in
    attempt_declined (weighs w) (s w).args.stats (s w).requires.ready.later.state.table_is
    (sym c.lowers.ensures ∙ c.if-lowers.false)
