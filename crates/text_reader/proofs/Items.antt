-- How many letters a run of letters has.
use mathlib.Core.Bool.{Bool, true, false, cond}
use mathlib.Core.List.{List, [], ◌∷◌}
use mathlib.Core.Path.{◌≡◌}
use Prim.Native.Nat.{ℕ, ◌+◌}
use native.Mathlib.Omega.{arith}
use Rattle.std.specs.List.{prefix_len}
use Rattle.model.specs.Basic.{pick}
use Rattle.model.specs.Text.{is_letter, word_end}

pub word_length : (i : ℕ) (xs : List ℕ) → word_end i xs ≡ i + prefix_len is_letter xs
word_length i [] = omega arith
word_length i (x ∷ xs) = go (is_letter x) (word_length (i + 1) xs)
  where
    go : (b : Bool) → word_end (i + 1) xs ≡ i + 1 + prefix_len is_letter xs
        → pick b (word_end (i + 1) xs) i ≡ i + cond b (1 + prefix_len is_letter xs) 0
    go true e = omega arith
    go false e = omega arith
