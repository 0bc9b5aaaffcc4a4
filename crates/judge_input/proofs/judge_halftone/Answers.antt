-- `judge_input::judge_halftone` meets its contract: 1 and 2 are judged first, then 5 and 6, then 7.
use Rattle.std.proofs.Common.{List, [], ◌∷◌, drop}
use Rattle.model.specs.Refusal.{Refusal, halftone_refusals, halftone_refusal}
use Rattle.judge_parts.proofs.Drawn.{drawn_first, drawn_next}
use Rattle.judge_input.proofs.judge_halftone.Goals as goal
use Rattle.judge_input.proofs.judge_halftone.Goals.{Start}

abbrev list : Start → List Refusal
list s =
    let a = s.args in
    halftone_refusals a.width a.height a.radius a.psf.now a.gray.now a.dots.now (a.table ∷ [])

pub returns-in_err-judge_measures : goal.returns-in_err-judge_measures
unfolding halftone_refusal
returns-in_err-judge_measures c =
    let s : Start = search in
    drawn_first 2 (list s) _ _ c.from_residual.ensures.1 c.in_err-judge_measures.ensures

pub returns-in_err-judge_slices : goal.returns-in_err-judge_slices
unfolding halftone_refusal
returns-in_err-judge_slices c =
    let s : Start = search in
    drawn_next 2 (list s) tt c.in_ok-judge_measures.ensures
    (drawn_first 2 (drop 2 (list s)) _ _ c.from_residual-in_err-judge_slices.ensures.1 c.in_err-judge_slices.ensures)
