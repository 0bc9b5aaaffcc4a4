-- `judge_parts::any_contradiction` meets its contract. The loop's invariant: whether one of the cells passed does.
use Rattle.std.proofs.Common.{sym, ◌∙◌, ap₂, ℕ, ◌||◌, length, add-one, rules}
use Rattle.std.proofs.lemmas.List.{length_push}
use Rattle.model.specs.Basic.{some_below}
use Rattle.model.specs.Lock.{locked}
use Rattle.judge_parts.proofs.Lists.{left_next}
use Rattle.judge_parts.proofs.any_contradiction.Goals as goal

pub loop-gray-init : goal.loop-gray-init
unfolding some_below
loop-gray-init c = search rules

pub loop-gray-preserved : goal.loop-gray-preserved
unfolding some_below locked
loop-gray-preserved c =
    let n : ℕ = length c.loop-gray.yielded in
    let l = c.loop-gray.invariant in
    let (first, second) = c.in-Some.ensures.steps in
    let (within, gray, gray_left) = left_next c.args.gray.now n (sym l.gray_left ∙ first) in
    let (_, dot, dots_left) = left_next c.args.dots.now n (sym l.dots_left ∙ second) in
    rw (length_push, add-one) (record {
      within = within;
      gray_left = gray_left;
      dots_left = dots_left;
      any_is = rw (gray, dot) (ap₂ ◌||◌ l.any_is c.contradicts-any.ensures);
    })
