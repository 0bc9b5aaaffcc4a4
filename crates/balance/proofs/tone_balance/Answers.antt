-- `balance::tone_balance` meets its contract: refused for the judge's reason, or the sums divided.
use Rattle.std.proofs.Common.{refl, sym, ◌∙◌, ap, arith}
use Rattle.model.specs.Basic.{AtMost}
use Rattle.model.specs.Calls.{result}
use Rattle.model.specs.Balance.{balance_call}
use Rattle.model.proofs.Balance.{some_cells}
use Rattle.model.proofs.Calls.{is_done}
use Rattle.balance.proofs.Division.{fits, dots_few, gray_few, by_sums}
use Rattle.balance.proofs.tone_balance.Goals as goal

pub returns : goal.returns
unfolding balance_call
returns c =
    let a = c.args in
    ap result (by_sums a.size a.gray.now a.dots.now c.sum-worth.result c.sum.result
    c.divide.ensures c.sum-worth.ensures c.sum.ensures)
    ∙ (is_done tt _ _ (sym c.in_ok-judge_balance.ensures) refl).0

pub overflow_mul-worth : goal.overflow_mul-worth
overflow_mul-worth c =
    let a = c.args in
    record { fits = omega (arith, dots_few a.size a.gray.now a.dots.now c.in_ok-judge_balance.ensures, c.sum-worth.ensures) }

pub divide-requires : goal.divide-requires
divide-requires c =
    let a = c.args in
    let passed = c.in_ok-judge_balance.ensures in
    let bytes : AtMost 255 a.gray.now = record { each = λ i. omega (arith, c.type_inv.gray i) } in
    let size = (fits a.size a.gray.now a.dots.now passed).0 in
    let dots = dots_few a.size a.gray.now a.dots.now passed in
    let gray = gray_few a.size a.gray.now a.dots.now passed bytes in (
      omega (arith, dots, gray, c.sum-worth.ensures, c.sum.ensures),
      omega (arith, dots, gray, c.sum-worth.ensures, c.sum.ensures),
      omega (arith, some_cells a.size size, size.wide.0),
    )
