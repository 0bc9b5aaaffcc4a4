-- `judge_parts::any_contradiction` meets its contract. The loop's invariant: whether one of the cells passed does.
use Rattle.std.proofs.Common.{Bool, ◌&&◌, not, List, ◌≡◌, ℕ, ◌≤◌, eqb, length, get_or, drop}
use Rattle.std.specs.Iterator.Adapters.{zip_first, zip_second}
use Rattle.std.specs.Slice.Iter.{iter_rest}
use Rattle.model.specs.Basic.{some_below}
use Rattle.model.specs.Lock.{locked, locked_byte}
use Rattle.judge_parts.proofs.any_contradiction.Given as goal

-- cell n contradicts its gray, as the target has it
abbrev pub test : (gray dots : List ℕ) → ℕ → Bool
test gray dots n = locked gray n && not (eqb (get_or dots n 0) (locked_byte 1 (get_or gray n 0)))

abbrev pub invariant-loop-gray : goal.invariant-loop-gray
invariant-loop-gray l =
    let n = length l.yielded in
    record {
      within : n ≤ length l.fn.gray;
      gray_left : iter_rest (zip_first l.gray-iterator) ≡ drop n l.fn.gray;
      dots_left : iter_rest (zip_second l.gray-iterator) ≡ drop n l.dots;
      any_is : l.any ≡ some_below n (test l.fn.gray l.dots);
    }
