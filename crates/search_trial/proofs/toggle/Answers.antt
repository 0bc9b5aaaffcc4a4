-- `search_trial::toggle` meets its contract: weighed, then declined or made, it is the reference's attempt.
use mathlib.Core.Path.{sym, ◌∙◌, subst}
use lib.IntN.{ℤ}
use mir.Syntax.{w64}
use mir.Val.{to_z, of_z}
use Rattle.algebra.proofs.Machine.{read_back}
use Rattle.model.specs.Change.{Move}
use Rattle.model.specs.Error.{Target}
use Rattle.model.specs.Setting.{target_in}
use Rattle.invariants.specs.Plate.{cell_toggle, Weighs}
use Rattle.invariants.proofs.Plate.{ready_judged, attempt_declined, attempt_accepted}
use Rattle.search_trial.proofs.toggle.Goals as goal
use Rattle.search_trial.proofs.toggle.Goals.{After-weigh_toggle-delta, Start}

pub weigh_toggle-delta-requires : goal.weigh_toggle-delta-requires
weigh_toggle-delta-requires c = (ready_judged c.requires.0, c.requires.1)

-- the change as its local holds it
module _ (w : After-weigh_toggle-delta) where
  abbrev s : Start
  s = search

  abbrev t : Target
  t = target_in s.args.setting

  abbrev v : Move
  v = cell_toggle s.args.setting.measures s.args.dots.now s.args.at

  abbrev delta : ℤ
  delta = to_z w64 (of_z w64 w.weigh_toggle-delta.result)

  weighs : Weighs t s.args.dots.now v delta
  weighs =
      subst (Weighs t s.args.dots.now v)
      (sym (read_back w64 w.weigh_toggle-delta.result w.weigh_toggle-delta.type_inv)) w.weigh_toggle-delta.ensures

pub make_toggle-toggled-requires : goal.make_toggle-toggled-requires
make_toggle-toggled-requires c = let w = (goal.at.make_toggle-toggled-requires c).After-weigh_toggle-delta in record {
  ready = (s w).requires;
  weighs = weighs w;
}

pub returns-then-lowers : goal.returns-then-lowers
returns-then-lowers c =
    let w = (goal.at.returns-then-lowers c).After-weigh_toggle-delta in
    attempt_accepted (weighs w) (s w).args.stats (sym c.lowers.ensures ∙ c.if-lowers.true)
    c.make_toggle-toggled.ensures

pub returns : goal.returns
returns c =
    let w = (goal.at.returns c).After-weigh_toggle-delta in
    attempt_declined (weighs w) (s w).args.stats (s w).requires.0.later.state.table_is
    (sym c.lowers.ensures ∙ c.if-lowers.false)
