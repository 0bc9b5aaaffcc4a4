-- The front of an array that was lent, filled and is lent again: it fits (`again_fits`), it is as long (`again_whole`), and
-- it is what it was filled with (`again_is`).
use mathlib.Core.List.{List, ◌++◌}
use mathlib.Core.Path.{◌≡◌, ◌∙◌}
use Prim.Native.Nat.{ℕ, ◌≤◌}
use native.Mathlib.Omega.{arith}
use lib.ListN.{length, take, drop}
use lib.Seq.{length_front, take_at, length-take-le}
use Rattle.model.proofs.Basic.{part_whole}

module _ {A : Type 0} (n : ℕ) (l filled : List A) (fits : n ≤ length l) (long : length filled ≡ length (take n l)) where
  pub again_fits : n ≤ length (filled ++ drop n l)
  again_fits = omega (arith, length_front l filled n long)

  pub again_whole : n ≡ length (take n (filled ++ drop n l))
  again_whole = part_whole n (filled ++ drop n l) again_fits

  pub again_is : take n (filled ++ drop n l) ≡ filled
  again_is = take_at filled (drop n l) n (long ∙ length-take-le n l fits)
