-- The loop's invariant: the bytes outside comments from `i` on, within a comment or not, are those from `at` on.
use Rattle.std.proofs.Common.{◌≡◌, drop}
use Rattle.model.specs.PictureHeader.{glyphs, glyphs_at}
use Rattle.picture_header.proofs.next_byte.Given as goal

abbrev pub invariant-loop-i : goal.invariant-loop-i
invariant-loop-i l = glyphs l.comment l.i (drop l.i l.s) ≡ glyphs_at l.s l.at
