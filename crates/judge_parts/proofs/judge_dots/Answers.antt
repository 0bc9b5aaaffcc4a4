-- `judge_parts::judge_dots` meets its contract: `any` tells whether a byte is above 1.
use Rattle.std.proofs.Common.{◌≡◌, ◌<◌, ◌≤◌, ◌∙◌, rules, tests}
use Rattle.std.proofs.lemmas.Iterator.{cases_from_any, YieldsList-from_slice}
use Rattle.model.specs.Refusal.{above}
use Rattle.judge_parts.proofs.Lists.{above_any}
use Rattle.judge_parts.proofs.judge_dots.Goals as goal
use Rattle.judge_parts.proofs.judge_dots.Goals.{After-any}

above_is : (c : After-any) → above 1 c.args.dots.now ≡ c.any.result
above_is c =
    above_any 1 c.args.dots.now c.any.result
    (cases_from_any _ _ _ (λ x. 1 < x) (λ x. x ≤ 1) c.any.ensures.ran (YieldsList-from_slice c.args.dots.now cc)
    (λ x q k. search (rules, tests)) (λ x q k. search (rules, tests)))

pub returns-then-any : goal.returns-then-any
returns-then-any c = rw (above_is (goal.at.returns-then-any c).After-any ∙ c.if-any.true)

pub returns : goal.returns
returns c = rw (above_is (goal.at.returns c).After-any ∙ c.if-any.false)
