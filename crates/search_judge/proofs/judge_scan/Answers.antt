-- `search_judge::judge_scan` meets its contract: 1 to 7 and 16, then 20 and 21.
use Rattle.std.proofs.Common.{List}
use Rattle.model.specs.Refusal.{Refusal}
use Rattle.model.specs.State.{no_cell, later_refusals, later_refusal}
use Rattle.judge_parts.proofs.Drawn.{drawn_first, drawn_next}
use Rattle.search_judge.proofs.Lists.{input_fits}
use Rattle.search_judge.proofs.judge_scan.Goals as goal
use Rattle.search_judge.proofs.judge_scan.Goals.{Start}

abbrev list : Start → List Refusal
list s =
    let a = s.args in
    let g = a.setting in
    later_refusals g.measures g.psf.now g.gray.now a.dots.now a.table.now a.stats no_cell

pub returns-in_err-judge_later : goal.returns-in_err-judge_later
unfolding later_refusal
returns-in_err-judge_later c =
    let s : Start = search in
    drawn_first 8 (list s) _ _ c.from_residual.ensures.1 c.in_err-judge_later.ensures

pub judge_state-requires : goal.judge_state-requires
judge_state-requires c = input_fits c.args.setting c.args.dots.now _ c.in_ok-judge_later.ensures

pub returns : goal.returns
unfolding later_refusal
returns c =
    let s : Start = search in
    drawn_next 8 (list s) tt c.in_ok-judge_later.ensures c.judge_state.ensures
