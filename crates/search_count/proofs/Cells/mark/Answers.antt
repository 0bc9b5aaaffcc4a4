-- `search_count::Cells::mark` meets its contract: its two tests are those of the definition.
use Rattle.std.proofs.Common.{◌≡◌, Bool, true, false, refl, sym, ◌∙◌, ap}
use mathlib.Core.Bool.{not}
use mir.Val.{bool_byte}
use Rattle.model.specs.Basic.{one_if}
use Rattle.search_count.specs.Marks.{mark_of}
use Rattle.search_count.proofs.Cells.mark.Goals as goal
use Rattle.search_count.proofs.Cells.mark.Goals.{then-not-is_locked, else-not-is_locked}

byte_is : (b : Bool) → bool_byte b ≡ one_if b
byte_is true = refl
byte_is false = refl

pub returns : goal.returns
unfolding mark_of
returns c =
    c.from.ensures
    ∙ byte_is c.if-not-is_locked.from
    ∙ ap one_if (elim c.if-not-is_locked.branch [
      | then-not-is_locked w ↦ w.from-is ∙ rw (sym c.is_locked.ensures ∙ w.if-not-is_locked.true) refl
      | else-not-is_locked w ↦
          w.from-is ∙ ap not w.if-not-is_locked.false ∙ rw (sym c.is_locked.ensures ∙ w.if-not-is_locked.false) refl
    ])
