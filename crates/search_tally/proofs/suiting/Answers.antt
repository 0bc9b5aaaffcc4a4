-- `search_tally::suiting` meets its contract: a partner off the plate does not suit, and on it the tests are those of the
-- reference.
use mathlib.Core.Bool.{not, true≢false}
use mathlib.Core.Path.{◌≡◌, sym, ◌∙◌, ap}
use native.Mathlib.Omega.{arith}
use Rattle.model.specs.Lock.{locked}
use Rattle.model.specs.Scan.{suits, exchangeable}
use Rattle.model.specs.Setting.{target_in}
use Rattle.model.proofs.Partners.{lands_on}
use Rattle.invariants.specs.Partners.{offset_of}
use Rattle.invariants.specs.Plate.{cell_of}
use Rattle.search_tally.proofs.Weighing.{suits_is, both_open, shut_there, shut_here}
use Rattle.search_tally.proofs.suiting.Goals as goal
use Rattle.search_tally.proofs.suiting.Goals.{In-Some, then-not-is_locked, else-not-is_locked}

pub bounds-setting-n : goal.bounds-setting-n
bounds-setting-n c =
    omega (arith, lands_on _ _ _ (offset_of c.args.code) c.in-Some.ensures.0, c.in-Some.ensures.1, c.requires.0.halftone.gray_length)

-- the partner suits where the two cells can be exchanged
told : (c : In-Some) → suits (target_in c.args.setting) c.args.dots.now (cell_of c.args.setting.measures.width c.args.at) (offset_of c.args.code)
    ≡ exchangeable (target_in c.args.setting) c.args.dots.now c.index-m.result c.in-Some.n
told c = suits_is (target_in c.args.setting) c.args.dots.now (offset_of c.args.code) c.index-m.ensures c.in-Some.ensures

pub returns-then-not-is_locked-2 : goal.returns-then-not-is_locked-2
unfolding locked
returns-then-not-is_locked-2 c =
    let told = told (goal.at.returns-then-not-is_locked-2 c).In-Some in
    elim c.if-not-is_locked.branch [
      | then-not-is_locked w ↦
          both_open (target_in c.args.setting) c.args.dots.now _ _ (sym c.is_locked.ensures ∙ w.if-not-is_locked.true)
          (ap not (sym w.is_locked-then-not-is_locked.ensures) ∙ sym w.value-is ∙ c.if-not-is_locked-2.true)
          ∙ sym told
      | else-not-is_locked w ↦
          absurd (true≢false (sym c.if-not-is_locked-2.true ∙ w.value-is ∙ ap not w.if-not-is_locked.false))
    ]

pub returns-else-not-is_locked-2 : goal.returns-else-not-is_locked-2
unfolding locked
returns-else-not-is_locked-2 c =
    let told = told (goal.at.returns-else-not-is_locked-2 c).In-Some in
    c.if-not-is_locked-2.false
    ∙ elim c.if-not-is_locked.branch [
      | then-not-is_locked w ↦
          shut_there (target_in c.args.setting) c.args.dots.now _ _ (sym c.is_locked.ensures ∙ w.if-not-is_locked.true)
          (ap not (sym w.is_locked-then-not-is_locked.ensures) ∙ sym w.value-is ∙ c.if-not-is_locked-2.false)
      | else-not-is_locked w ↦ shut_here (target_in c.args.setting) c.args.dots.now _ _ (sym c.is_locked.ensures ∙ w.if-not-is_locked.false)
    ]
    ∙ sym told
