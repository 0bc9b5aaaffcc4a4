-- `picture_header::read_digits` meets its contract.
use Rattle.std.proofs.Common.{◌≡◌, ltb, lt-ltb, sym, ◌∙◌, arith}
use Rattle.model.specs.PictureHeader.{glyphs_at, found, number_from}
use Rattle.picture_header.proofs.Glyphs.{digits_more, digits_stop, digits_past}
use Rattle.picture_header.proofs.read_digits.Goals as goal

pub loop-byte-preserved : goal.loop-byte-preserved
loop-byte-preserved c =
    let next = c.in-Some.ensures in
    record {
      later = omega (arith, next.later);
      same =
          rw (lt-ltb c.args.at c.in-Some.byte.at (omega (arith, next.later)), c.with_digit-value.ensures)
          (sym (digits_more next _ _ (sym c.if-is_digit.ensures)) ∙ c.loop-byte.invariant.same);
    }

pub returns : goal.returns
returns c =
    let at = c.loop-byte.end in
    let some = ltb c.args.at at in
    let value = c.loop-byte.value in
    let stop : number_from some value at (glyphs_at c.args.s.now at) ≡ found some value at =
    grind (arith, digits_past, digits_stop) in
    rw (c.tell.ensures, ← c.loop-byte.invariant.same, stop)
