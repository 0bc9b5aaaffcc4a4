-- `sheet_fields::read_name` meets its contract: the byte that ends it stands after its letters.
use mathlib.Core.List.{[], ◌∷◌}
use mathlib.Core.Path.{sym, ◌∙◌}
use Rattle.sheet_fields.proofs.Parts.{fixed_then}
use Rattle.sheet_fields.proofs.read_name.Goals as goal

pub returns : goal.returns
returns c =
    let a = c.args in
    c.read_end.ensures
    ∙ sym (fixed_then a.name.now (a.end ∷ []) a.s.now a.at c.in_ok-next.next c.in_ok-next.ensures)
