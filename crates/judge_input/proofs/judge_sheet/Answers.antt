-- `judge_input::judge_sheet` meets its contract: 1 to 4 are judged first, then 5, then 7. `judge_lengths` is handed the
-- length of the dots twice, which tests it no differently from once.
use Rattle.std.proofs.Common.{List, drop, ◌∙◌}
use mathlib.Core.Bool.{or_self_left}
use Rattle.model.specs.Refusal.{Refusal, write_refusals, write_refusal}
use Rattle.judge_parts.proofs.Drawn.{drawn_first, drawn_next}
use Rattle.judge_input.proofs.judge_sheet.Goals as goal
use Rattle.judge_input.proofs.judge_sheet.Goals.{Start}

abbrev list : Start → List Refusal
list s =
    let a = s.args in
    write_refusals a.setting.measures a.setting.psf.now a.setting.gray.now a.dots.now

pub returns-in_err-judge_all_measures : goal.returns-in_err-judge_all_measures
unfolding write_refusal
returns-in_err-judge_all_measures c =
    let s : Start = search in
    drawn_first 4 (list s) _ _ c.from_residual.ensures.1 c.in_err-judge_all_measures.ensures

pub returns-in_err-judge_lengths : goal.returns-in_err-judge_lengths
unfolding write_refusal
returns-in_err-judge_lengths c =
    let s : Start = search in
    drawn_next 4 (list s) tt c.in_ok-judge_all_measures.ensures
    (drawn_first 1 (drop 4 (list s)) _ _ c.from_residual-in_err-judge_lengths.ensures.1
    (c.in_err-judge_lengths.ensures ∙ simp or_self_left))
