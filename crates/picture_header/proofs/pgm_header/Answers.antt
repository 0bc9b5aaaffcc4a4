-- `picture_header::pgm_header` meets its contract.
use Rattle.std.proofs.Common.{◌≡◌, ◌≤◌, ◌&&◌}
use Rattle.model.specs.declared.After.{After}
use Rattle.model.specs.declared.NetpbmHeader.{NetpbmHeader}
use Rattle.model.specs.PictureHeader.{magic, number_next, most_value, pgm_header}
use Rattle.picture_header.specs.Read.{told}
use Rattle.picture_header.proofs.Parts.{told_ok, told_either, told_header, number_after, end_after}
use Rattle.picture_header.proofs.pgm_header.Goals as goal
use Rattle.picture_header.proofs.pgm_header.Goals.{then-is_ok, else-is_ok, then-is_ok-2, else-is_ok-2}

pub returns : goal.returns
unfolding pgm_header
returns c =
    let s = c.args.s.now in
    let h = number_next s (number_next s (magic s 53)) in
    let m = number_next s h in
    let size = told_ok c.read_size-size.result c.is_ok.ensures.value in
    let numbers : c.if-is_ok.value ≡ (told c.read_size-size.result).0 && (told c.next_number-maximum.result).0 =
    elim c.if-is_ok.branch [
      | then-is_ok w ↦ rw (w.value-is, told_ok _ w.is_ok-then-is_ok.ensures.value, ← size, w.if-is_ok.true)
      | else-is_ok w ↦ rw (w.value-is, ← size, w.if-is_ok.false)
    ] in
    let there : c.if-is_ok-2.there ≡ c.if-is_ok.value && (told c.read_end-end.result).0 =
    elim c.if-is_ok-2.branch [
      | then-is_ok-2 w ↦ rw (w.there-is, told_ok _ w.is_ok-there.ensures.value, w.if-is_ok-2.true)
      | else-is_ok-2 w ↦ rw (w.there-is, w.if-is_ok-2.false)
    ] in
    record {
      value =
          rw (
            told_header c.tell.result,
            c.tell.ensures,
            there,
            numbers,
            c.read_of-at.ensures,
            c.read_end-end.ensures,
            c.read_of-m.ensures,
            c.next_number-maximum.ensures,
            c.read_of-z.ensures,
            c.read_size-size.ensures.value,
            end_after s m,
            number_after s h,
          );
      width_le_most_value =
          told_either (λ (h : After NetpbmHeader). (h.value.size.width ≤ most_value) × (h.value.size.height ≤ most_value))
          c.tell.result
          (rw (c.tell.ensures, c.read_of-z.ensures) c.read_size-size.ensures.width_le_most_value);
    }
