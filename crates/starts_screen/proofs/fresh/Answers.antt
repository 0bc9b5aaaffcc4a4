-- `starts_screen::fresh` meets its contract: E is the one handed in, the dots are counted, and the counts are 0.
use mathlib.Core.Path.{◌∙◌}
use mir.Syntax.{w64}
use Rattle.algebra.proofs.Machine.{read_back}
use Rattle.model.specs.Ledger.{fresh_stats}
use Rattle.starts_screen.proofs.fresh.Goals as goal

pub returns : goal.returns
unfolding fresh_stats
returns c t is =
    let s = c in
    let error = read_back w64 s.args.squared s.ranges.squared.sfits ∙ is in
    λ i. record {
      error = error i;
      figures = record { start_error = error i; start_dots = c.sum-count.ensures i; on = 0; off = 0; swaps = 0 };
    }
