-- The loop's invariant: with the value so far the digits from `end` on give what those from `at` on give.
use Rattle.std.proofs.Common.{◌≡◌, ◌≤◌, ◌-◌, false, ltb, length}
use Rattle.model.specs.PictureHeader.{glyphs_at, number_from}
use Rattle.picture_header.proofs.read_digits.Given as goal

abbrev pub invariant-loop-byte : goal.invariant-loop-byte
invariant-loop-byte l =
    record {
      later : l.at ≤ l.end;
      same :
          number_from (ltb l.at l.end) l.value l.end (glyphs_at l.s l.end)
          ≡ number_from false 0 l.at (glyphs_at l.s l.at);
    }

abbrev pub decreases-loop-byte : goal.decreases-loop-byte
decreases-loop-byte l = length l.s - l.end
