-- `filed_judge::start_dots` meets its contract: the difference, or the number that stands for one below 0.
use Rattle.filed_judge.proofs.Verdicts.{count_by, count_none}
use Rattle.filed_judge.proofs.start_dots.Goals as goal

pub returns-then-most-on : goal.returns-then-most-on
returns-then-most-on c = count_none _ _ _ c.if-most-on.true

pub returns : goal.returns
returns c = count_by _ _ _ c.if-most-on.false
