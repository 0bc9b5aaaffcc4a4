-- `search_count::span_trials` meets its contract: the swaps of the rows so far are counted, by marks.
use mathlib.Core.Path.{◌≡◌}
use Prim.Native.Nat.{◌+◌, ◌*◌, ◌≤◌, ◌<◌}
use Rattle.search_count.specs.Marks.{marked_trials}
use Rattle.search_count.proofs.span_trials.Given as goal

abbrev pub invariant-loop-row : goal.invariant-loop-row
invariant-loop-row l =
    (l.col < l.setting.measures.width)
    × (l.row * l.setting.measures.width + l.col ≤ l.to.row * l.setting.measures.width + l.to.col)
    × (l.trials + marked_trials l.setting.measures l.setting.gray.now l.dots (l.fn.from.row * l.setting.measures.width + l.fn.from.col)
    ≡ marked_trials l.setting.measures l.setting.gray.now l.dots (l.row * l.setting.measures.width + l.col))
