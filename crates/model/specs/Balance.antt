-- The tone balance (02, C-15): by how much a plate is darker than its ground, to the last unit. Its call is handed a
-- size, gray and dots, and no psf; it is lent no buffer.
use Rattle.std.specs.Prelude.{List, [], ◌∷◌, ◌≡◌, ℕ, ◌-◌, ◌/◌, ◌%◌, ◌<◌, ℤ, pos, negsuc, ◌+ℤ◌, ◌-ℤ◌, ◌*ℤ◌, length}
use Rattle.model.specs.declared.Size.{Size}
use Rattle.model.specs.declared.ToneBalance.{ToneBalance}
use Rattle.model.specs.Psf.{total}
use Rattle.model.specs.Error.{Target, target_of}
use Rattle.model.specs.Ledger.{dot_total}
use Rattle.model.specs.Refusal.{Refusal, first_of, bad_size, bad_dot}
use Rattle.model.specs.Calls.{Reply, result, refused, Outcome, unless}
use Rattle.model.specs.Netpbm.{cells_in}
use Rattle.model.specs.PictureCalls.{bad_cells_length}

-- D = step × dots - the sum of gray
unfoldable pub tone_difference : Target → List ℕ → ℤ
tone_difference t dots = pos t.step *ℤ pos (dot_total dots) -ℤ pos (total t.gray)

-- 02's condition: d = quotient × n + remainder, remainder from 0 to n - 1
pub record Divides (d : ℤ) (n : ℕ) (b : ToneBalance) : Type 0 where
  pub adds_up : d ≡ b.quotient *ℤ pos n +ℤ pos b.remainder
  pub is_below : b.remainder < n

-- the two numbers that meet it (`balance_divides`, `nothing_else_divides`); negsuc d is -1 - d
unfoldable pub divided : ℤ → ℕ → ToneBalance
divided (pos d) n = record { quotient = pos (d / n); remainder = d % n }
divided (negsuc d) n = record { quotient = negsuc (d / n); remainder = n - 1 - d % n }

-- ---- the call
-- the target of a plate of that size, without a psf
abbrev pub target_of_size : Size → (gray : List ℕ) → Target
target_of_size z gray = target_of z.width z.height 0 [] gray

-- its list: 1, 5 of gray of that length, 5 of the dots, 7
abbrev pub balance_refusals : Size → (gray : ℕ) (dots : List ℕ) → List Refusal
balance_refusals z gray dots =
    bad_size z.width z.height ∷ bad_cells_length z gray ∷ bad_cells_length z (length dots) ∷ bad_dot dots ∷ []

unfoldable pub balance_call : Size → (gray dots : List ℕ) → Outcome ToneBalance (Unit {0})
balance_call z gray dots =
    unless (first_of (balance_refusals z (length gray) dots)) tt
    (record { reply = result (divided (tone_difference (target_of_size z gray) dots) (cells_in z)); left = tt })
