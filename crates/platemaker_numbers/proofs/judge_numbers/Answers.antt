-- `platemaker_numbers::judge_numbers` meets its contract: where measures are refused, the slices draw what they draw.
use mathlib.Core.Path.{sym, ◌∙◌, ap}
use native.Mathlib.Omega.{arith}
use Rattle.std.proofs.lemmas.Result.{err_from_is_err_and}
use Rattle.model.specs.Reason.{number_of, drawn}
use Rattle.model.proofs.Interface.{measures_draw}
use Rattle.judge_parts.proofs.Drawn.{some_number}
use Rattle.platemaker_numbers.proofs.judge_numbers.Goals as goal

pub returns-in_err-judge_all_measures-clause-drawn : goal.returns-in_err-judge_all_measures-clause-drawn
returns-in_err-judge_all_measures-clause-drawn c =
    let (r, is, same) = err_from_is_err_and c.from_residual.result c.from_residual.ensures.1 in
    let e = rw c.measures_of.ensures at c.in_err-judge_all_measures.ensures in
    ap drawn is ∙ ap number_of same ∙ e
    ∙ sym (measures_draw c.args.measures.now c.args.stats.now (omega arith) (λ z. some_number _ (e ∙ z)))
