-- `judge_state::judge_state` meets its contract: the local array's part is the table worked out afresh, and the ledger
-- is held against the sums of the callees.
use Rattle.std.proofs.Common.{◌≡◌, length, ◌≤◌, refl, sym, ◌∙◌, subst, arith}
use mathlib.Core.Bool.{true≢false}
use borrow.Author.Tests.{not-true, not-false}
use lib.Seq.{length-take-le}
use mir.Syntax.{w64}
use mir.Val.{to_z, of_z}
use Rattle.std.specs.Cmp.Rules.{signed_items}
use Rattle.algebra.proofs.Machine.{read_back}
use Rattle.model.specs.Setting.{target_in}
use Rattle.model.specs.Error.{most_cells, squared_error}
use Rattle.model.specs.Refusal.{HalftoneFits}
use Rattle.model.proofs.Halftone.{few_cells}
use Rattle.judge_ledger.proofs.Tests.{plate_asked}
use Rattle.judge_state.proofs.Fresh.{table_drawn, table_passed}
use Rattle.judge_state.proofs.judge_state.Goals as goal
use Rattle.judge_state.proofs.judge_state.Goals.{Start}

-- the table's entries fit into the local array
held : (s : Start) → length s.args.table.now ≤ most_cells
held s = omega (arith, few_cells s.requires, s.requires.table_length)

pub slice_bounds-fresh-end : goal.slice_bounds-fresh-end
slice_bounds-fresh-end c = let s : Start = search in sym (length-take-le _ _ (held s))

pub filter_and_square-error-requires : goal.filter_and_square-error-requires
filter_and_square-error-requires c =
    let s : Start = search in
    let a = s.args in
    subst (HalftoneFits (target_in a.setting) a.dots.now) (sym (length-take-le _ _ (held s))) s.requires

pub judge_ledger-requires : goal.judge_ledger-requires
judge_ledger-requires c =
    let k = c.filter_and_square-error in
    plate_asked c.requires refl c.known_bytes.ensures c.sum.ensures (read_back w64 k.result k.type_inv ∙ k.ensures.1)

pub returns : goal.returns
returns c =
    let a = c.args in
    let k = c.filter_and_square-error in
    let error_is : to_z w64 (of_z w64 k.result) ≡ squared_error (target_in a.setting) a.dots.now
    = read_back w64 k.result k.type_inv ∙ k.ensures.1 in
    let same = (signed_items a.table.now k.new.table).0 (not-false _ (sym c.ne.ensures ∙ c.if-ne.false)) in
    table_passed (target_in a.setting) a.dots.now a.table.now a.stats (same ∙ k.ensures.0)
    (rw (sym c.requires.table_length, sym error_is, sym c.sum.ensures) c.judge_ledger.ensures)

pub returns-then-ne : goal.returns-then-ne
returns-then-ne c =
    let a = c.args in
    let k = c.filter_and_square-error in
    let differ = not-true _ (sym c.ne.ensures ∙ c.if-ne.true) in
    table_drawn (target_in a.setting) a.dots.now a.table.now a.stats c.requires.table_length
    (λ e. true≢false (sym ((signed_items a.table.now k.new.table).1 (e ∙ sym k.ensures.0)) ∙ differ))
