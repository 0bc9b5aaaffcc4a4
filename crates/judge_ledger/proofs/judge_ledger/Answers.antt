-- `judge_ledger::judge_ledger` meets its contract: each return is read off its tests.
use Rattle.std.proofs.Common.{rules}
use Rattle.model.specs.Ledger.{wrong_stats}
use Rattle.judge_ledger.proofs.judge_ledger.Goals as goal

pub returns-then-figures-lt0 : goal.returns-then-figures-lt0
unfolding wrong_stats
returns-then-figures-lt0 c = search rules

pub returns-then-stats-error : goal.returns-then-stats-error
unfolding wrong_stats
returns-then-stats-error c = search rules

pub returns : goal.returns
unfolding wrong_stats
returns c = search rules
