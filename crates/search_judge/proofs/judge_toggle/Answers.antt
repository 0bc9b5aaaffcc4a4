-- `search_judge::judge_toggle` meets its contract: 1 to 7 and 16, then 8, then 20 and 21, then 23.
use Rattle.std.proofs.Common.{List, drop}
use Rattle.model.specs.Ledger.{wrong_stats}
use Rattle.model.specs.Refusal.{Refusal}
use Rattle.model.specs.State.{toggle_asked, later_refusals, bad_table, toggle_refusal}
use Rattle.judge_parts.proofs.Drawn.{drawn_first, drawn_next}
use Rattle.search_judge.proofs.Lists.{input_fits, on}
use Rattle.search_judge.proofs.judge_toggle.Goals as goal
use Rattle.search_judge.proofs.judge_toggle.Goals.{Start}

abbrev list : Start → List Refusal
list s =
    let a = s.args in
    let g = a.setting in
    later_refusals g.measures g.psf.now g.gray.now a.dots.now a.table.now a.stats
    (toggle_asked g.measures g.gray.now a.at.row a.at.col)

pub returns-in_err-judge_later : goal.returns-in_err-judge_later
unfolding toggle_refusal
returns-in_err-judge_later c =
    let s : Start = search in
    drawn_first 8 (list s) _ _ c.from_residual.ensures.1 c.in_err-judge_later.ensures

pub returns-in_err-judge_cell : goal.returns-in_err-judge_cell
unfolding toggle_refusal
returns-in_err-judge_cell c =
    let s : Start = search in
    drawn_next 8 (list s) tt c.in_ok-judge_later.ensures
    (drawn_first 1 (drop 8 (list s)) _ _ c.from_residual-in_err-judge_cell.ensures.1 c.in_err-judge_cell.ensures)

pub judge_state-requires : goal.judge_state-requires
judge_state-requires c = input_fits c.args.setting c.args.dots.now _ c.in_ok-judge_later.ensures

pub returns-in_err-judge_state : goal.returns-in_err-judge_state
unfolding toggle_refusal
returns-in_err-judge_state c =
    let s : Start = search in
    drawn_next 8 (list s) tt c.in_ok-judge_later.ensures
    (drawn_next 1 (drop 8 (list s)) tt c.in_ok-judge_cell.ensures
    (drawn_first 2 (drop 9 (list s)) _ _ c.from_residual-in_err-judge_state.ensures.1 c.in_err-judge_state.ensures))

pub judge_free-requires : goal.judge_free-requires
judge_free-requires c =
    let f = input_fits c.args.setting c.args.dots.now _ c.in_ok-judge_later.ensures in
    on _ _ _ _ c.in_ok-judge_cell.ensures f.gray_length c.index.ensures

pub returns : goal.returns
unfolding toggle_refusal bad_table wrong_stats
returns c =
    let s : Start = search in
    drawn_next 8 (list s) tt c.in_ok-judge_later.ensures
    (drawn_next 1 (drop 8 (list s)) tt c.in_ok-judge_cell.ensures
    (drawn_next 2 (drop 9 (list s)) tt c.in_ok-judge_state.ensures (rw c.index.ensures at c.judge_free.ensures)))
