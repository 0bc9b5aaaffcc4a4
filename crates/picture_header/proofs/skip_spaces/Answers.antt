-- `picture_header::skip_spaces` meets its contract.
use Rattle.std.proofs.Common.{◌≡◌, ltb, lt-ltb, sym, ◌∙◌, arith}
use Rattle.model.specs.PictureHeader.{glyphs_at, found, spaces_from}
use Rattle.picture_header.proofs.Glyphs.{spaces_more, spaces_stop, spaces_past}
use Rattle.picture_header.proofs.skip_spaces.Goals as goal
use Rattle.picture_header.proofs.skip_spaces.Goals.{in-None-1, in-Some+else-is_space}

pub loop-byte-preserved : goal.loop-byte-preserved
loop-byte-preserved c =
    let next = c.in-Some.ensures in
    record {
      later = omega (arith, next.later);
      same =
          rw (lt-ltb c.args.at c.in-Some.byte.at (omega (arith, next.later)))
          (sym (spaces_more next _ (sym c.if-is_space.ensures)) ∙ c.loop-byte.invariant.same);
    }

pub returns : goal.returns
returns c =
    let at = c.loop-byte.end in
    let some = ltb c.args.at at in
    let stop : spaces_from some at (glyphs_at c.args.s.now at) ≡ found some 0 at =
    grind (arith, spaces_past, spaces_stop) in
    rw (c.tell.ensures, ← c.loop-byte.invariant.same, stop)
