-- `sheet_read::read_measures` meets its contract: each number that it read is in its field.
use Rattle.sheet_fields.proofs.Parts.{field_range}
use Rattle.sheet_read.proofs.read_measures.Goals as goal

pub returns-clause-in_range : goal.returns-clause-in_range
returns-clause-in_range c =
    let s = c.args.s.now in
    let kind = field_range c.args.least 2 10 s c.in_ok-reach.reach.at c.in_ok-start.ensures in
    record {
      wide = field_range 1 256 32 s c.in_ok-line.line c.in_ok-width.ensures;
      high = field_range 1 256 32 s c.in_ok-width.width.at c.in_ok-height.ensures;
      near = (field_range 0 3 32 s c.in_ok-height.height.at c.in_ok-radius.ensures).1;
      reached = (field_range 0 6 32 s c.in_ok-radius.radius.at c.in_ok-reach.ensures).1;
      kind = kind.1;
    }
