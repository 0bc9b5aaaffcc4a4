-- `picture_header::pbm_header` meets its contract.
use Rattle.std.proofs.Common.{◌≡◌, ◌≤◌, ◌&&◌}
use Rattle.model.specs.declared.After.{After}
use Rattle.model.specs.declared.NetpbmHeader.{NetpbmHeader}
use Rattle.model.specs.PictureHeader.{magic, number_next, most_value, pbm_header}
use Rattle.picture_header.specs.Read.{told}
use Rattle.picture_header.proofs.Parts.{told_ok, told_either, told_header, end_after}
use Rattle.picture_header.proofs.pbm_header.Goals as goal
use Rattle.picture_header.proofs.pbm_header.Goals.{then-is_ok, else-is_ok}

pub returns : goal.returns
unfolding pbm_header
returns c =
    let s = c.args.s.now in
    let h = number_next s (number_next s (magic s 52)) in
    let size = told_ok c.read_size-size.result c.is_ok.ensures.value in
    let there : c.if-is_ok.tell ≡ (told c.read_size-size.result).0 && (told c.read_end-end.result).0 =
    elim c.if-is_ok.branch [
      | then-is_ok w ↦ rw (w.tell-is, told_ok _ w.is_ok-then-is_ok.ensures.value, ← size, w.if-is_ok.true)
      | else-is_ok w ↦ rw (w.tell-is, ← size, w.if-is_ok.false)
    ] in
    record {
      value =
          rw (
            told_header c.tell.result,
            c.tell.ensures,
            there,
            c.read_of-at.ensures,
            c.read_end-end.ensures,
            c.read_of-z.ensures,
            c.read_size-size.ensures.value,
            end_after s h,
          );
      width_le_most_value =
          told_either (λ (h : After NetpbmHeader). (h.value.size.width ≤ most_value) × (h.value.size.height ≤ most_value))
          c.tell.result
          (rw (c.tell.ensures, c.read_of-z.ensures) c.read_size-size.ensures.width_le_most_value);
    }
