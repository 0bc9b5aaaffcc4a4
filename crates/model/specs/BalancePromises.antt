-- The promises of C-15 (02): what the tone balance answers, and what its two numbers say. That they hold is
-- `balance_promises` of proofs/Main.antt.
use Rattle.std.specs.Prelude.{List, ◌≡◌, ℕ, ◌≤◌, ℤ, pos, nat_abs, length, ◌≤ℤ◌, ◌<ℤ◌}
use Rattle.algebra.specs.Sum.{sum_to}
use Rattle.model.specs.declared.Size.{Size}
use Rattle.model.specs.declared.ToneBalance.{ToneBalance}
use Rattle.model.specs.Basic.{Exactly, AtMost}
use Rattle.model.specs.Error.{target_of, error}
use Rattle.model.specs.Calls.{Reply, result, refused}
use Rattle.model.specs.Netpbm.{InSize, cells_in}
use Rattle.model.specs.Balance.{tone_difference, Divides, target_of_size, balance_call}

module _ (z : Size) (gray dots : List ℕ) where
  -- gray and dots have a byte for each cell
  abbrev pub CoverCells : Type 0
  CoverCells = (length gray ≡ cells_in z) × (length dots ≡ cells_in z)

  -- what is answered, by what is handed in: each case leaves out what the ones above it have, so one alone holds
  pub data BalanceAnswer (reply : Reply ToneBalance) : Type 0 where
    -- 1 width or height outside 1 to 256
    draws_1 : (InSize z → ⊥) → reply ≡ refused 1 0 → BalanceAnswer reply
    -- 5 gray or dots of another length than the cells
    draws_5 : InSize z → (CoverCells → ⊥) → reply ≡ refused 5 0 → BalanceAnswer reply
    -- 7 a dot byte above 1
    draws_7 : InSize z → CoverCells → (AtMost 1 dots → ⊥) → reply ≡ refused 7 0 → BalanceAnswer reply
    -- else two numbers
    answers : InSize z → CoverCells → AtMost 1 dots → (b : ToneBalance) → reply ≡ result b → BalanceAnswer reply

  -- D
  abbrev pub difference : ℤ
  difference = tone_difference (target_of_size z gray) dots

  -- of a balance that is answered
  pub record BalanceSays (b : ToneBalance) : Type 0 where
    -- D = q × N + remainder, remainder from 0 to N - 1
    pub balance_divides : Divides difference (cells_in z) b
    -- and this is so of no other two numbers
    pub nothing_else_divides : (b' : ToneBalance) → Divides difference (cells_in z) b' → b' ≡ b
    -- D is the sum of the errors of the cells, whatever the psf
    pub difference_sums_errors : (radius : ℕ) (psf : List ℕ)
        → difference ≡ sum_to (cells_in z) (error (target_of z.width z.height radius psf gray) dots)
    -- the plate is lighter than its ground exactly when q is below 0, as dark exactly when both are 0, and darker exactly
    -- when neither is so
    pub lighter_exactly : Exactly (difference <ℤ pos 0) (b.quotient <ℤ pos 0)
    pub as_dark_exactly : Exactly (difference ≡ pos 0) ((b.quotient ≡ pos 0) × (b.remainder ≡ 0))
    pub darker_exactly : Exactly (pos 0 <ℤ difference)
        ((pos 0 ≤ℤ b.quotient) × ((b.quotient ≡ pos 0) × (b.remainder ≡ 0) → ⊥))
    -- q is at most 255 from 0
    pub quotient_is_bounded : AtMost 255 gray → nat_abs b.quotient ≤ 255

  pub record BalancePromises : Type 0 where
    pub balance_is_judged : BalanceAnswer (balance_call z gray dots).reply
    pub balance_says : (b : ToneBalance) → (balance_call z gray dots).reply ≡ result b → BalanceSays b
