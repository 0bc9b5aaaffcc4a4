-- The loop's invariant: the white space from `end` on gives what that from `at` on gives.
use Rattle.std.proofs.Common.{◌≡◌, ◌≤◌, ◌-◌, false, ltb, length}
use Rattle.model.specs.PictureHeader.{glyphs_at, spaces_from}
use Rattle.picture_header.proofs.skip_spaces.Given as goal

abbrev pub invariant-loop-byte : goal.invariant-loop-byte
invariant-loop-byte l =
    record {
      later : l.at ≤ l.end;
      same : spaces_from (ltb l.at l.end) l.end (glyphs_at l.s l.end) ≡ spaces_from false l.at (glyphs_at l.s l.at);
    }

abbrev pub decreases-loop-byte : goal.decreases-loop-byte
decreases-loop-byte l = length l.s - l.end
