-- `search_prune::row_lowers` meets its contract: where no sum is below 0, every trial fails.
use Rattle.std.proofs.Common.{◌+◌, ◌-◌, ◌<◌, ◌≤◌, pos, nat_abs, ◌∙◌, arith}
use Rattle.std.proofs.lemmas.List.{get_or-take, get_or-drop, length-take, length-drop}
use mathlib.Core.Bool.{not, and-false}
use lib.Dec.{eqb, lit<}
use lib.ListN.{length, get_or, drop}
use mir.Syntax.{w32}
use Rattle.algebra.proofs.Machine.{of_small}
use Rattle.model.specs.Error.{most_filtered}
use Rattle.search_prune.proofs.row_lowers.Goals as goal

pub returns-else-any_below : goal.returns-else-any_below
returns-else-any_below c _ =
    let a = c.args in
    let small : nat_abs a.value ≤ most_filtered = rw c.requires.dot_value.1 (c.requires.run_test.tabled.small.each a.m) in
    let value = (of_small w32 a.value small (lit< tt)).value ∙ c.requires.dot_value.1 in
    let n = a.from + length a.worths.now - a.from in record {
      each = λ k h.
          let within : k < n = omega arith in
          let sum =
          rw (c.requires.dot_value.0, value, get_or-take n (drop a.from a.table.now) k (pos 0) within, get_or-drop a.from a.table.now k (pos 0))
          at ((c.any_below.ensures c.if-any_below.false).each k (simp (length-take, length-drop) (omega arith))) in
          rw sum (and-false (not (eqb (get_or a.dots.now a.m 0) (get_or a.dots.now (a.from + k) 0))));
    }
