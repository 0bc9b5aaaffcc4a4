-- `judge_input::judge_later` meets its contract: 1 to 6 are judged first.
use Rattle.model.specs.Refusal.{input_refusals}
use Rattle.judge_parts.proofs.Drawn.{drawn_first}
use Rattle.judge_input.proofs.judge_later.Goals as goal

pub returns-in_err-judge_handed : goal.returns-in_err-judge_handed
returns-in_err-judge_handed c =
    let a = c.args.setting in
    drawn_first 6 (input_refusals a.measures a.psf.now a.gray.now c.args.dots.now c.args.table)
    _ _ c.from_residual.ensures.1 c.in_err-judge_handed.ensures
