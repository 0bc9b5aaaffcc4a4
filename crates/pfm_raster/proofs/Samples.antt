-- The first sample of a raster that is no shade, of those that were looked at (`first_found`).
use Rattle.std.proofs.Common.{◌≡◌, ℕ, zero, suc, ◌+◌, ◌-◌, ◌≤◌, ◌<◌, Bool, true, false, List, Option, Some, None, sym, ◌∙◌, ap, arith}
use Rattle.std.specs.Option.{MatchOption}
use Rattle.model.specs.Pfm.{sample_at, is_no_shade, first_no_shade}
use Rattle.model.proofs.PfmVerdicts.{first_here, first_next, first_none}

module _ (little : Bool) (raster : List ℕ) where
  abbrev Shades : ℕ → Type 0
  Shades i = (k : ℕ) → k < i → is_no_shade (sample_at little raster k) ≡ false

  passed : (i n : ℕ) → Shades i → first_no_shade little raster 0 (i + n) ≡ first_no_shade little raster i n
  passed zero n h = ap (first_no_shade little raster 0) (omega arith)
  passed (suc i) n h =
      ap (first_no_shade little raster 0) (omega arith)
      ∙ passed i (suc n) (λ k l. h k (omega arith))
      ∙ first_next little raster i n (h i (omega arith))
      ∙ ap (λ j. first_no_shade little raster j n) (omega arith)

  all_passed : (cells : ℕ) → Shades cells → first_no_shade little raster 0 cells ≡ cells
  all_passed cells h =
      ap (first_no_shade little raster 0) (omega arith) ∙ passed cells 0 h ∙ first_none little raster cells

  passed_to : (i cells : ℕ) → i < cells → is_no_shade (sample_at little raster i) ≡ true → Shades i
      → i ≡ first_no_shade little raster 0 cells
  passed_to i cells more e h =
      let rest : cells ≡ i + suc (cells - (i + 1)) = omega arith in
      sym (ap (first_no_shade little raster 0) rest
      ∙ passed i (suc (cells - (i + 1))) h
      ∙ first_here little raster i (cells - (i + 1)) e)

  pub first_found : (cells : ℕ) (r : Option ℕ)
      → MatchOption r ((k : ℕ) → 0 ≤ k → k < cells → is_no_shade (sample_at little raster k) ≡ false)
      (λ i. (0 ≤ i) × (i < cells) × (is_no_shade (sample_at little raster i) ≡ true)
      × ((k : ℕ) → 0 ≤ k → k < i → is_no_shade (sample_at little raster k) ≡ false))
      → MatchOption r (first_no_shade little raster 0 cells ≡ cells)
      (λ i. (i < cells) × (i ≡ first_no_shade little raster 0 cells))
  first_found cells None h = all_passed cells (λ k l. h k (omega arith) l)
  first_found cells (Some i) (_, more, e, h) = (more, passed_to i cells more e (λ k l. h k (omega arith) l))
