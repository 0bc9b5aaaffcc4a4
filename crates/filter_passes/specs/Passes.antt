-- The two passes that build the table, as the functions of this crate leave them: the errors spread by the psf over the
-- plate widened by r on each side, and that gathered by the psf at the cells. Either pass adds a block of the plate's
-- size for each entry of the psf.
use Rattle.std.specs.Prelude.{List, ◌≡◌, ℕ, ◌+◌, ◌*◌, ◌/◌, ◌%◌, ◌<◌, ◌≤◌, ℤ, pos, ◌+ℤ◌, ◌*ℤ◌, length, get_or}
use Rattle.algebra.specs.Sum.{sum_to}
use Rattle.algebra.specs.Moved.{moved}
use Rattle.model.specs.Basic.{tabulate}
use Rattle.filter_passes.specs.declared.Frame.{Frame}

-- t is t₀ with some rows of n entries of c, times the amount, added: row y stands at `from + y × span` in c, and at
-- `at + y × stride` in t
pub record Added (at stride : ℕ) (c : List ℤ) (from span n rows : ℕ) (amount : ℤ) (t₀ t : List ℤ) : Type 0 where
  pub long : length t ≡ length t₀
  pub inside : (y x : ℕ) → y < rows → x < n
      → get_or t (at + y * stride + x) (pos 0)
      ≡ get_or t₀ (at + y * stride + x) (pos 0) +ℤ amount *ℤ get_or c (from + y * span + x) (pos 0)
  pub outside : (q : ℕ) → ((y x : ℕ) → y < rows → x < n → q ≡ at + y * stride + x → ⊥)
      → get_or t q (pos 0) ≡ get_or t₀ q (pos 0)

-- the largest size of a spread error: 255 × 1,024
abbrev pub most_spread : ℕ
most_spread = 261120

-- the cells of the widened plate
abbrev pub cells_around : (w h r : ℕ) → ℕ
cells_around w h r = (h + 2 * r) * (w + 2 * r)

-- the frames of the plate, and of the widened plate
abbrev pub plate : (w : ℕ) → Frame
plate w = record { span = w; moves = 0 }

abbrev pub widened : (w r : ℕ) → Frame
widened w r = record { span = w + 2 * r; moves = 1 }

-- where the block of entry k of the psf begins
abbrev pub corner_of : (r : ℕ) → Frame → (k : ℕ) → ℕ
corner_of r f k = k / (2 * r + 1) * f.moves * f.span + k % (2 * r + 1) * f.moves

module _ (w h r : ℕ) where
  -- every block lies within a slice of that length
  pub record Lies (f : Frame) (long : ℕ) : Type 0 where
    pub narrow : f.span ≤ 262
    pub once : f.moves ≤ 1
    pub wide : (k : ℕ) → w + k % (2 * r + 1) * f.moves ≤ f.span
    pub ends : (k y : ℕ) → k < (2 * r + 1) * (2 * r + 1) → y < h → corner_of r f k + y * f.span + w ≤ long

  -- what the block of entry k of the psf brings to the place q
  abbrev pub brought : (from to : Frame) → List ℤ → (k q : ℕ) → ℤ
  brought from to c k q =
      moved h w (λ m. get_or c (corner_of r from k + m / w * from.span + m % w) (pos 0))
      (k / (2 * r + 1) * to.moves) (k % (2 * r + 1) * to.moves) (q / to.span) (q % to.span)

  module _ (psf : List ℕ) (from to : Frame) (c : List ℤ) where
    -- by the first i entries of the psf
    unfoldable pub passed_at : (i q : ℕ) → ℤ
    passed_at i q = sum_to i (λ k. pos (get_or psf k 0) *ℤ brought from to c k q)

    -- by all of them, in a slice of that length
    unfoldable pub passed : (long : ℕ) → List ℤ
    passed long = tabulate long (passed_at (length psf))

  module _ (psf : List ℕ) where
    abbrev pub spread : List ℤ → List ℤ
    spread e = passed psf (plate w) (widened w r) e (cells_around w h r)

    abbrev pub gathered : List ℤ → List ℤ
    gathered g = passed psf (widened w r) (plate w) g (h * w)
