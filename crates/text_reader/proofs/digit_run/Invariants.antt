-- `text_reader::digit_run` meets its contract. The loop's invariant: with the value so far, the digits from `i` on give
-- the run that those from `at` on give.
use mathlib.Core.Path.{◌≡◌}
use lib.ListN.{drop}
use Rattle.model.specs.Text.{run_to}
use Rattle.text_reader.proofs.digit_run.Given as goal

abbrev pub invariant-loop-i : goal.invariant-loop-i
invariant-loop-i l = run_to l.limit l.value l.i (drop l.i l.s) ≡ run_to l.limit 0 l.at (drop l.at l.s)
