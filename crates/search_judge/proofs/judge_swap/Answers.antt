-- `search_judge::judge_swap` meets its contract: 1 to 7 and 16, then 8 and 9, then 20 and 21, then 23 and 22.
use Rattle.std.proofs.Common.{List, drop}
use Rattle.model.specs.Ledger.{wrong_stats}
use Rattle.model.specs.Refusal.{Refusal}
use Rattle.model.specs.State.{swap_asked, later_refusals, bad_table, swap_refusal}
use Rattle.judge_parts.proofs.Drawn.{drawn_first, drawn_next}
use Rattle.search_judge.proofs.Lists.{input_fits, both_on}
use Rattle.search_judge.proofs.judge_swap.Goals as goal
use Rattle.search_judge.proofs.judge_swap.Goals.{Start}

abbrev list : Start → List Refusal
list s =
    let a = s.args in
    let g = a.setting in
    later_refusals g.measures g.psf.now g.gray.now a.dots.now a.table.now a.stats
    (swap_asked g.measures g.gray.now a.dots.now a.at.row a.at.col a.to.row a.to.col)

pub returns-in_err-judge_later : goal.returns-in_err-judge_later
unfolding swap_refusal
returns-in_err-judge_later c =
    let s : Start = search in
    drawn_first 8 (list s) _ _ c.from_residual.ensures.1 c.in_err-judge_later.ensures

pub returns-in_err-judge_cells : goal.returns-in_err-judge_cells
unfolding swap_refusal
returns-in_err-judge_cells c =
    let s : Start = search in
    drawn_next 8 (list s) tt c.in_ok-judge_later.ensures
    (drawn_first 1 (drop 8 (list s)) _ _ c.from_residual-in_err-judge_cells.ensures.1 c.in_err-judge_cells.ensures)

pub returns-in_err-judge_pair : goal.returns-in_err-judge_pair
unfolding swap_refusal
returns-in_err-judge_pair c =
    let s : Start = search in
    drawn_next 8 (list s) tt c.in_ok-judge_later.ensures
    (drawn_next 1 (drop 8 (list s)) tt c.in_ok-judge_cells.ensures
    (drawn_first 1 (drop 9 (list s)) _ _ c.from_residual-in_err-judge_pair.ensures.1 c.in_err-judge_pair.ensures))

pub judge_state-requires : goal.judge_state-requires
judge_state-requires c = input_fits c.args.setting c.args.dots.now _ c.in_ok-judge_later.ensures

pub returns-in_err-judge_state : goal.returns-in_err-judge_state
unfolding swap_refusal
returns-in_err-judge_state c =
    let s : Start = search in
    drawn_next 8 (list s) tt c.in_ok-judge_later.ensures
    (drawn_next 1 (drop 8 (list s)) tt c.in_ok-judge_cells.ensures
    (drawn_next 1 (drop 9 (list s)) tt c.in_ok-judge_pair.ensures
    (drawn_first 2 (drop 10 (list s)) _ _ c.from_residual-in_err-judge_state.ensures.1 c.in_err-judge_state.ensures)))

pub judge_free_pair-requires : goal.judge_free_pair-requires
judge_free_pair-requires c =
    let f = input_fits c.args.setting c.args.dots.now _ c.in_ok-judge_later.ensures in
    both_on _ _ _ _ _ _ c.in_ok-judge_cells.ensures f.gray_length c.index-one.ensures c.index-other.ensures

pub returns-in_err-judge_free_pair : goal.returns-in_err-judge_free_pair
unfolding swap_refusal bad_table wrong_stats
returns-in_err-judge_free_pair c =
    let s : Start = search in
    drawn_next 8 (list s) tt c.in_ok-judge_later.ensures
    (drawn_next 1 (drop 8 (list s)) tt c.in_ok-judge_cells.ensures
    (drawn_next 1 (drop 9 (list s)) tt c.in_ok-judge_pair.ensures
    (drawn_next 2 (drop 10 (list s)) tt c.in_ok-judge_state.ensures
    (drawn_first 1 (drop 12 (list s)) _ _ c.from_residual-in_err-judge_free_pair.ensures.1
    (rw (c.index-one.ensures, c.index-other.ensures) at c.in_err-judge_free_pair.ensures)))))

pub judge_like-requires : goal.judge_like-requires
judge_like-requires c =
    let f = input_fits c.args.setting c.args.dots.now _ c.in_ok-judge_later.ensures in
    both_on _ _ _ _ _ _ c.in_ok-judge_cells.ensures f.dots_length c.index-one.ensures c.index-other.ensures

pub returns : goal.returns
unfolding swap_refusal bad_table wrong_stats
returns c =
    let s : Start = search in
    drawn_next 8 (list s) tt c.in_ok-judge_later.ensures
    (drawn_next 1 (drop 8 (list s)) tt c.in_ok-judge_cells.ensures
    (drawn_next 1 (drop 9 (list s)) tt c.in_ok-judge_pair.ensures
    (drawn_next 2 (drop 10 (list s)) tt c.in_ok-judge_state.ensures
    (drawn_next 1 (drop 12 (list s)) tt
    (rw (c.index-one.ensures, c.index-other.ensures) at c.in_ok-judge_free_pair.ensures)
    (rw (c.index-one.ensures, c.index-other.ensures) at c.judge_like.ensures)))))
