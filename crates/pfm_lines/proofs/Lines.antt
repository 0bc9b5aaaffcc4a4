-- The scale of a PFM, as the code reads it.
--   place_some                       what was read is no refusal
--   is_big, is_little_lem, no_scale  the scale, by its two lines
use mathlib.Core.List.{List}
use mathlib.Core.Path.{◌≡◌, sym, ◌∙◌, ap}
use Prim.Native.Nat.{ℕ}
use borrow.Author.Tests.{ne_eqb}
use Rattle.std.specs.Prelude.{Some, None, Result, Ok, Err}
use Rattle.std.specs.Result.{result_ok}
use Rattle.std.proofs.lemmas.Option.{none-some, same_Some}
use Rattle.model.specs.declared.Refused.{Refused}
use Rattle.model.specs.Text.{bytes}
use Rattle.model.specs.Format.{place, fixed_at}
use Rattle.model.specs.Pfm.{one_float, minus_one, scale_line}
use Rattle.model.specs.PfmCalls.{no_lines, lines_of, scale_after}
use Rattle.model.specs.Reason.{number_of}
use Rattle.model.proofs.PfmHeaders.{big_line, little_line}
use Rattle.invariants.specs.Reading.{place_in}
use Rattle.invariants.proofs.Reading.{reason_some}

-- ---- what was read is no refusal
pub place_some : (r : Result ℕ Refused) {k : ℕ} → Some k ≡ result_ok r → place 0 k ≡ place_in r
place_some (Ok at) {k} e = ap (place 0) (same_Some k at e)
place_some (Err q) {k} e = absurd (none-some k (sym e))

-- ---- the scale, after a size up to a place
module _ (w h : ℕ) (s : List ℕ) (at : ℕ) where
  big : fixed_at (bytes "1.0\n") s at ≡ fixed_at (scale_line one_float) s at
  big = sym (ap (λ l. fixed_at l s at) big_line)

  little : fixed_at (bytes "-1.0\n") s at ≡ fixed_at (scale_line minus_one) s at
  little = sym (ap (λ l. fixed_at l s at) little_line)

  pub is_big : {k : ℕ} → place 0 k ≡ fixed_at (bytes "1.0\n") s at → lines_of w h one_float k ≡ scale_after w h s at
  unfolding scale_after
  is_big e = rw (← (e ∙ big))

  module _ (q : Refused) (e : place_in (Err q) ≡ fixed_at (bytes "1.0\n") s at) where
    pub is_little_lem : {k : ℕ} → place 0 k ≡ fixed_at (bytes "-1.0\n") s at
        → lines_of w h minus_one k ≡ scale_after w h s at
    unfolding scale_after
    is_little_lem f = rw (← (e ∙ big), ne_eqb (number_of q.reason) 0 (reason_some q.reason), ← (f ∙ little))

    pub no_scale : (r : Result ℕ Refused) → place_in r ≡ fixed_at (bytes "-1.0\n") s at → None ≡ result_ok r
        → no_lines ≡ scale_after w h s at
    unfolding scale_after
    no_scale (Ok k) f n = absurd (none-some k n)
    no_scale (Err p) f n =
        rw (
          ← (e ∙ big),
          ne_eqb (number_of q.reason) 0 (reason_some q.reason),
          ← (f ∙ little),
          ne_eqb (number_of p.reason) 0 (reason_some p.reason),
        )
