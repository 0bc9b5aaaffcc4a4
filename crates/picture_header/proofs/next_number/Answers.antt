-- `picture_header::next_number` meets its contract.
use Rattle.std.proofs.Common.{◌≡◌, ◌&&◌}
use Rattle.model.specs.PictureHeader.{number_next}
use Rattle.picture_header.specs.Read.{told}
use Rattle.picture_header.proofs.Parts.{told_ok}
use Rattle.picture_header.proofs.next_number.Goals as goal
use Rattle.picture_header.proofs.next_number.Goals.{then-is_ok, else-is_ok}

pub returns : goal.returns
unfolding number_next
returns c =
    let gap = told_ok c.skip_spaces-gap.result c.is_ok.ensures.value in
    let there : c.if-is_ok.tell ≡ (told c.skip_spaces-gap.result).0 && (told c.read_digits-number.result).0 =
    elim c.if-is_ok.branch [
      | then-is_ok w ↦ rw (w.tell-is, told_ok _ w.is_ok-then-is_ok.ensures.value, ← gap, w.if-is_ok.true)
      | else-is_ok w ↦ rw (w.tell-is, ← gap, w.if-is_ok.false)
    ] in
    rw (
      c.tell.ensures,
      there,
      c.read_of.ensures,
      c.read_digits-number.ensures,
      c.read_of-from.ensures,
      c.skip_spaces-gap.ensures,
    )
