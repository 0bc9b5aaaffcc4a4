-- `search_partners::partner_cell` meets its contract: it lands where its row and its column do, and there it stands.
use Rattle.std.proofs.Common.{◌≡◌, ◌+◌, ◌-◌, sym, ◌∙◌, ap₂, ⊎_elim, arith}
use Rattle.model.specs.Error.{cell_at}
use Rattle.invariants.specs.Partners.{row_of, column_of}
use Rattle.search_partners.proofs.Landing.{partner_is, off_top, off_bottom, off_left, off_right, on}
use Rattle.search_partners.proofs.partner_cell.Goals as goal

pub returns-in_err-row : goal.returns-in_err-row
returns-in_err-row c =
    let a = c.args in
    rw c.from_residual.ensures
    (⊎_elim
    (λ h. off_top a.width a.height a.at.row a.at.col c.requires.1 (row_of a.code) (column_of a.code) (omega arith))
    (λ h. off_bottom a.width a.height a.at.row a.at.col c.requires.1 (row_of a.code) (column_of a.code) (omega arith))
    c.in_err-row.ensures)

pub returns-in_err-col : goal.returns-in_err-col
returns-in_err-col c =
    let a = c.args in
    rw c.from_residual-in_err-col.ensures
    (⊎_elim
    (λ h. off_left a.width a.height a.at.row a.at.col c.requires.1 (row_of a.code) (column_of a.code) (omega arith))
    (λ h. off_right a.width a.height a.at.row a.at.col c.requires.1 (row_of a.code) (column_of a.code) (omega arith))
    c.in_err-col.ensures)

pub returns : goal.returns
returns c =
    let a = c.args in
    let row = c.in_ok-row.ensures in
    let col = c.in_ok-col.ensures in
    let down : a.at.row + row_of a.code - 6 ≡ c.in_ok-row.row = omega (arith, row) in
    let right : a.at.col + column_of a.code - 6 ≡ c.in_ok-col.col = omega (arith, col) in (
      on a.width a.height a.at.row a.at.col c.requires.1 (row_of a.code) (column_of a.code)
          (omega (arith, row)) (omega (arith, row)) (omega (arith, col)) (omega (arith, col)),
      c.index.ensures
          ∙ sym (partner_is a.width a.height a.at.row a.at.col c.requires.1 (row_of a.code) (column_of a.code)
          (omega (arith, row)) (omega (arith, col))
          ∙ ap₂ (cell_at a.width) down right),
    )
