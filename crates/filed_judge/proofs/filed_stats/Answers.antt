-- `filed_judge::filed_stats` meets its contract: each figure fits its place in the ledger.
use mathlib.Core.Path.{◌∙◌, ap}
use native.Mathlib.Omega.{arith}
use lib.Dec.{lit<}
use lib.IntN.{pos, ◌+ℤ◌, ◌-ℤ◌}
use mir.Syntax.{w64}
use Rattle.algebra.proofs.Machine.{of_cast}
use Rattle.model.specs.Ledger.{count_of}
use Rattle.filed_judge.proofs.filed_stats.Goals as goal

pub overflow_cast-result : goal.overflow_cast-result
overflow_cast-result c = record { sfits = omega (arith, c.requires.2.each 1) }

pub overflow_cast-result-2 : goal.overflow_cast-result-2
overflow_cast-result-2 c = record { sfits = omega (arith, c.requires.2.each 0) }

pub start_dots-requires : goal.start_dots-requires
start_dots-requires c = (c.requires.1, c.requires.2.each 2, c.requires.2.each 3)

pub returns : goal.returns
returns c =
    let f = c.args.f in
    let after = (of_cast w64 f.after (c.requires.2.each 1) (lit< tt)).value in
    let before = (of_cast w64 f.before (c.requires.2.each 0) (lit< tt)).value in
    let start = c.start_dots.ensures ∙ ap (λ k. count_of (pos k -ℤ pos f.on +ℤ pos f.off)) c.requires.0 in
    λ i. record {
      error = after i;
      figures =
          record { start_error = before i; start_dots = start i; on = f.on; off = f.off; swaps = f.swaps };
    }
