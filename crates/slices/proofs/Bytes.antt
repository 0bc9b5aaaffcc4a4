-- Bytes taken one by one.
--   bytes_from  the byte there, and those after it
--   total_sum   the sum of bytes as the library has it
use Rattle.std.proofs.Common.{List, [], ◌∷◌, ◌≡◌, ◌∙◌, ℕ, ◌+◌, ◌<◌, length, get_or, drop, refl, add-one, drop-cons, arith}
use Rattle.std.specs.List.{sum}
use Rattle.std.proofs.lemmas.List.Sums.{sum_by-cons}
use Rattle.model.specs.Psf.{total}

pub bytes_from : (l : List ℕ) (i : ℕ) → i < length l → drop i l ≡ get_or l i 0 ∷ drop (i + 1) l
bytes_from l i h = drop-cons l i 0 h ∙ rw add-one

pub total_sum : (l : List ℕ) → total l ≡ sum l
unfolding total
total_sum [] = refl
total_sum (x ∷ l) = omega (arith, total_sum l, sum_by-cons (λ x. x) x l)
