-- `judge_input::judge_handed` meets its contract: 1 to 4 are judged first.
use Rattle.std.proofs.Common.{[], ◌∷◌}
use Rattle.model.specs.Refusal.{handed}
use Rattle.judge_parts.proofs.Drawn.{drawn_first}
use Rattle.judge_input.proofs.judge_handed.Goals as goal

pub returns-in_err-judge_all_measures : goal.returns-in_err-judge_all_measures
returns-in_err-judge_all_measures c =
    let a = c.args in
    drawn_first 4 (handed a.measures a.psf.now (a.gray ∷ a.dots ∷ a.table ∷ [])) _ _ c.from_residual.ensures.1
    c.in_err-judge_all_measures.ensures
