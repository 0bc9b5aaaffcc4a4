-- `picture_header::read_size` meets its contract.
use Rattle.std.proofs.Common.{◌≡◌, ◌&&◌, ◌∙◌}
use Rattle.model.specs.PictureHeader.{magic, number_next}
use Rattle.picture_header.specs.Read.{told, size_found}
use Rattle.picture_header.proofs.Glyphs.{most_number}
use Rattle.picture_header.proofs.Parts.{told_ok, magic_is, number_after}
use Rattle.picture_header.proofs.read_size.Goals as goal
use Rattle.picture_header.proofs.read_size.Goals.{then-starts_with, else-starts_with, then-is_ok, else-is_ok}

pub returns : goal.returns
returns c =
    let s = c.args.s.now in
    let m = magic s c.args.kind in
    let opens = c.starts_with.ensures.value ∙ magic_is c.args.kind s in
    let wide : c.if-starts_with.value ≡ m.some && (told c.next_number-width.result).0 =
    elim c.if-starts_with.branch [
      | then-starts_with w ↦ rw (w.value-is, told_ok _ w.is_ok.ensures.value, ← opens, w.if-starts_with.true)
      | else-starts_with w ↦ rw (w.value-is, ← opens, w.if-starts_with.false)
    ] in
    let there : c.if-is_ok.there ≡ c.if-starts_with.value && (told c.next_number-height.result).0 =
    elim c.if-is_ok.branch [
      | then-is_ok w ↦ rw (w.there-is, told_ok _ w.is_ok-there.ensures.value, w.if-is_ok.true)
      | else-is_ok w ↦ rw (w.there-is, w.if-is_ok.false)
    ] in
    let value : told c.tell.result ≡ size_found s c.args.kind =
    rw (
      c.tell.ensures,
      there,
      wide,
      c.read_of-h.ensures,
      c.next_number-height.ensures,
      c.read_of-w.ensures,
      c.next_number-width.ensures,
      number_after s (number_next s m),
      number_after s m,
    ) in
    record {
      value = value;
      width_le_most_value = rw value (most_number s m, most_number s (number_next s m));
    }
