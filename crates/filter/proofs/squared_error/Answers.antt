-- `filter::squared_error` meets its contract: refused by the judge, or the sum. The gray slice stands in for the table that
-- is not lent (`halftone_again`).
use mathlib.Core.Path.{sym, ◌∙◌, ap, refl}
use lib.Dec.{lit≤}
use mir.Syntax.{w64}
use Rattle.std.proofs.lemmas.Result.{err_from_is_err_and}
use Rattle.algebra.proofs.Machine.{read_back}
use Rattle.model.specs.Reason.{number_of}
use Rattle.model.specs.Calls.{result, refused, reply_of, squared_error_call}
use Rattle.model.proofs.Refusal.{halftone_again, halftone_fits}
use Rattle.model.proofs.Calls.{is_refused, is_done}
use Rattle.judge_parts.proofs.Drawn.{some_number}
use Rattle.filter.proofs.squared_error.Goals as goal

pub returns-in_err-judge_halftone : goal.returns-in_err-judge_halftone
unfolding squared_error_call
returns-in_err-judge_halftone c =
    let (r, is, same) = err_from_is_err_and c.from_residual.result c.from_residual.ensures.1 in
    ap reply_of is
    ∙ ap (λ e. refused (number_of e) 0) same
    ∙ (is_refused tt _ _ (c.in_err-judge_halftone.ensures ∙ halftone_again _ _ _ _ _ _) (some_number _)).0

pub square-error-requires : goal.square-error-requires
square-error-requires c = (halftone_fits _ _ _ _ _ _ _ (sym c.in_ok-judge_halftone.ensures), lit≤ tt)

pub returns : goal.returns
unfolding squared_error_call
returns c =
    ap result (read_back w64 c.square-error.result c.square-error.type_inv ∙ c.square-error.ensures)
    ∙ (is_done tt _ _ (sym (halftone_again _ _ _ _ _ _) ∙ sym c.in_ok-judge_halftone.ensures) refl).0
