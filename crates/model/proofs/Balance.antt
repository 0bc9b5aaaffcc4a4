-- Laws of the tone balance (02, C-15).
--   divided_divides, divides_is              the division is met by its two numbers, and by no others
--   lighter, as_dark, darker, quotient_most  what they say of the number that is divided
--   difference_errors, difference_most       D is the sum of the errors, and its size
--   balance_fits, some_cells                 what a call that is not refused was handed, and that its plate has cells
--   balance_answers, balance_says            what the call answers, and what two numbers say that it answers
use mathlib.Core.Bool.{Bool, true, false, true≢false, ◌||◌}
use mathlib.Core.List.{List, [], ◌∷◌}
use mathlib.Core.Logic.{◌⊎◌, inl, inr}
use mathlib.Core.Path.{◌≡◌, refl, sym, ◌∙◌, ap, ap₂, subst}
use Prim.Native.Nat.{ℕ, zero, suc, ◌+◌, ◌*◌, ◌-◌, ◌/◌, ◌%◌, ◌≤◌, ◌<◌}
use native.Mathlib.Nat as NatL
use native.Mathlib.Omega.{arith}
use lib.IntN.{ℤ, pos, negsuc, neg_ℤ, nat_abs, ◌+ℤ◌, ◌*ℤ◌}
use lib.ListN.{length, get_or}
use lib.Signed.{◌≤ℤ◌, ◌<ℤ◌}
use Rattle.algebra.specs.Sum.{sum_to}
use Rattle.algebra.proofs.Ring.{neg-one-*ℤ}
use Rattle.algebra.proofs.Grid.{cell_row, cell_column}
use Rattle.algebra.proofs.Sum.{sum_cong, sum_add, sum_scale}
use Rattle.algebra.proofs.SumOrder.{nat_abs_sum}
use Rattle.algebra.proofs.Solver.{reify}
use Rattle.algebra.proofs.Order.{ordℤ, pp, nn, show≡}
use Rattle.model.specs.declared.Size.{Size}
use Rattle.model.specs.declared.ToneBalance.{ToneBalance}
use Rattle.model.specs.Basic.{Exactly, AtMost}
use Rattle.model.specs.Psf.{total}
use Rattle.model.specs.Error.{Target, target_of, cells, error}
use Rattle.model.specs.Ledger.{dot_total}
use Rattle.model.specs.Refusal.{◌when◌, first_of, outside, differs, above}
use Rattle.model.specs.Calls.{result, Outcome, unless}
use Rattle.model.specs.Netpbm.{InSize, cells_in}
use Rattle.model.specs.PictureCalls.{picture_refusals}
use Rattle.model.specs.Balance.{tone_difference, Divides, divided, target_of_size, balance_refusals, balance_call}
use Rattle.model.specs.BalancePromises.{CoverCells, BalanceAnswer, draws_1, draws_5, draws_7, answers}
use Rattle.model.specs.BalancePromises.{difference, BalanceSays}
use Rattle.model.proofs.Psf.{total_sum}
use Rattle.model.proofs.Error.{error≤}
use Rattle.model.proofs.Refusal.{none, drawn_none, ◌nor◌, within, alike_not, none_above, above_none}
use Rattle.model.proofs.Calls.{was_done}
use Rattle.model.proofs.Pictures.{size_fits, picture_fits}

-- ---- the division
-- a number below 0, by its quotient and its remainder
below_is : (n q r : ℕ) → r < n → negsuc q *ℤ pos n +ℤ pos r ≡ negsuc (q * n + (n - 1 - r))
below_is n q r h =
    show≡ (negsuc q ∷ pos n ∷ pos r ∷ negsuc (q * n + (n - 1 - r)) ∷ []) (search reify depth 40)
    (omega (arith, NatL.suc-mul q n))

pub divided_divides : (d : ℤ) {n : ℕ} → 0 < n → Divides d n (divided d n)
unfolding divided
divided_divides (pos d) {n} h =
    record { adds_up = sym (ap pos (NatL.div-add-mod' d n)); is_below = NatL.mod-lt d h }
divided_divides (negsuc d) {n} h =
    let low = NatL.mod-lt d h in
    record {
      adds_up =
          ap negsuc (omega (arith, NatL.div-add-mod' d n, low))
          ∙ sym (below_is n (d / n) (n - 1 - d % n) (omega (arith, low)));
      is_below = omega (arith, low);
    }

-- nothing else meets it
pub divides_is : {d : ℤ} {n : ℕ} {b : ToneBalance} → Divides d n b → b ≡ divided d n
unfolding divided
divides_is {d} {n} {b} f = go b.quotient b.remainder f.adds_up f.is_below
  where
    go : (q : ℤ) (r : ℕ) → d ≡ q *ℤ pos n +ℤ pos r → r < n → record { quotient = q; remainder = r } ≡ divided d n
    go (pos q) r e h =
        sym (ap (λ d. divided d n) e
        ∙ ap₂ (λ q r. record { quotient = pos q; remainder = r }) (cell_row h) (cell_column q h))
    go (negsuc q) r e h =
        let low : n - 1 - r < n = omega arith in
        sym (ap (λ d. divided d n) (e ∙ below_is n q r h)
        ∙ ap₂ (λ q r. record { quotient = negsuc q; remainder = n - 1 - r }) (cell_row low) (cell_column q low)
        ∙ ap (λ r. record { quotient = negsuc q; remainder = r }) (omega (arith, h)))

-- ---- what its two numbers say
-- the number that is divided, from 0 on and below
data Sides (d : ℤ) (n : ℕ) (b : ToneBalance) : Type 0 where
  from_0 : (q : ℕ) → b.quotient ≡ pos q → d ≡ pos (q * n + b.remainder) → Sides d n b
  below_0 : (q : ℕ) → b.quotient ≡ negsuc q → d ≡ negsuc (q * n + (n - 1 - b.remainder)) → Sides d n b

sides : {d : ℤ} {n : ℕ} {b : ToneBalance} → Divides d n b → Sides d n b
sides {d} {n} {b} f = go b.quotient refl f.adds_up
  where
    go : (q : ℤ) → b.quotient ≡ q → d ≡ q *ℤ pos n +ℤ pos b.remainder → Sides d n b
    go (pos q) i e = from_0 q i e
    go (negsuc q) i e = below_0 q i (e ∙ below_is n q b.remainder f.is_below)

module _ {d : ℤ} {n : ℕ} {b : ToneBalance} (f : Divides d n b) where
  pub lighter : Exactly (d <ℤ pos 0) (b.quotient <ℤ pos 0)
  lighter = go (sides f)
    where
      go : Sides d n b → Exactly (d <ℤ pos 0) (b.quotient <ℤ pos 0)
      go (from_0 q i e) = (
        λ l. absurd (omega (arith, ordℤ, l, ap nn e)),
        λ l. absurd (omega (arith, ordℤ, l, ap nn i)),
      )
      go (below_0 q i e) = (λ l. omega (arith, ordℤ, ap pp i, ap nn i), λ l. omega (arith, ordℤ, ap pp e, ap nn e))

  pub as_dark : Exactly (d ≡ pos 0) ((b.quotient ≡ pos 0) × (b.remainder ≡ 0))
  as_dark = go (sides f)
    where
      -- no row of cells, and no cell
      both_0 : (q r : ℕ) → r < n → q * n + r ≡ 0 → (q ≡ 0) × (r ≡ 0)
      both_0 zero r h e = (refl, omega (arith, e))
      both_0 (suc q) r h e = absurd (omega (arith, NatL.suc-mul q n, e, h))

      go : Sides d n b → Exactly (d ≡ pos 0) ((b.quotient ≡ pos 0) × (b.remainder ≡ 0))
      go (from_0 q i e) = (
        λ o. let (p, r) = both_0 q b.remainder f.is_below (ap pp (sym e ∙ o)) in (i ∙ ap pos p, r),
        λ (p, r). e ∙ ap pos (ap₂ (λ q r. q * n + r) (ap pp (sym i ∙ p)) r ∙ omega (arith, NatL.zero-mul n)),
      )
      go (below_0 q i e) = (
        λ o. absurd (omega (arith, ap nn (sym e ∙ o))),
        λ (p, r). absurd (omega (arith, ap nn (sym i ∙ p))),
      )

  pub darker : Exactly (pos 0 <ℤ d) ((pos 0 ≤ℤ b.quotient) × ((b.quotient ≡ pos 0) × (b.remainder ≡ 0) → ⊥))
  darker = go (sides f)
    where
      go : Sides d n b
          → Exactly (pos 0 <ℤ d) ((pos 0 ≤ℤ b.quotient) × ((b.quotient ≡ pos 0) × (b.remainder ≡ 0) → ⊥))
      go (from_0 q i e) = (
        λ l. (omega (arith, ordℤ, ap nn i), λ both. omega (arith, ordℤ, l, ap pp (as_dark.1 both))),
        λ (_, apart). some (NatL.eq-zero-or-pos (q * n + b.remainder)) apart,
      )
        where
          some : (q * n + b.remainder ≡ 0) ⊎ (0 < q * n + b.remainder)
              → ((b.quotient ≡ pos 0) × (b.remainder ≡ 0) → ⊥) → pos 0 <ℤ d
          some (inl o) apart = absurd (apart (as_dark.0 (e ∙ ap pos o)))
          some (inr l) apart = omega (arith, ordℤ, ap pp e, ap nn e, l)
      go (below_0 q i e) = (
        λ l. absurd (omega (arith, ordℤ, l, ap pp e)),
        λ (l, apart). absurd (omega (arith, ordℤ, l, ap pp i, ap nn i)),
      )

  -- the quotient is at most k from 0 where the number is at most k × n
  pub quotient_most : {k : ℕ} → nat_abs d ≤ n * k → nat_abs b.quotient ≤ k
  quotient_most {k} h = go (sides f)
    where
      go : Sides d n b → nat_abs b.quotient ≤ k
      go (from_0 q i e) =
          let few : q * n ≤ k * n = omega (arith, h, ap nat_abs e, NatL.mul_comm n k) in
          omega (arith, ap nat_abs i, NatL.le_of_mul-le-mul_right few (omega (arith, f.is_below)))
      go (below_0 q i e) =
          let few : q * n < k * n = omega (arith, h, ap nat_abs e, NatL.mul_comm n k) in
          omega (arith, ap nat_abs i, NatL.lt_of_mul-lt-mul_right n few)

-- ---- D
-- it is the sum of the errors
module _ (t : Target) (dots : List ℕ) (gray_long : length t.gray ≡ cells t) (dots_long : length dots ≡ cells t) where
  abbrev entries : List ℕ → ℤ
  entries l = sum_to (cells t) (λ n. pos (get_or l n 0))

  entries_sum : (l : List ℕ) → length l ≡ cells t → entries l ≡ pos (total l)
  entries_sum l e = sym (ap (λ n. sum_to n (λ i. pos (get_or l i 0))) e) ∙ total_sum l

  -- what the dots are worth, and the gray taken away
  worth : sum_to (cells t) (λ n. pos t.step *ℤ pos (get_or dots n 0)) ≡ pos t.step *ℤ pos (dot_total dots)
  worth =
      sum_scale (cells t) (pos t.step) (λ n. pos (get_or dots n 0))
      ∙ ap (λ z. pos t.step *ℤ z) (entries_sum dots dots_long)

  less_gray : sum_to (cells t) (λ n. neg_ℤ (pos (get_or t.gray n 0))) ≡ neg_ℤ (pos (total t.gray))
  less_gray =
      sum_cong (cells t) (λ n l. sym (neg-one-*ℤ (pos (get_or t.gray n 0))))
      ∙ sum_scale (cells t) (negsuc 0) (λ n. pos (get_or t.gray n 0))
      ∙ neg-one-*ℤ (entries t.gray)
      ∙ ap neg_ℤ (entries_sum t.gray gray_long)

  pub difference_errors : tone_difference t dots ≡ sum_to (cells t) (error t dots)
  unfolding tone_difference error
  difference_errors =
      sym (sum_add (cells t) (λ n. pos t.step *ℤ pos (get_or dots n 0)) (λ n. neg_ℤ (pos (get_or t.gray n 0)))
      ∙ ap₂ (λ a b. a +ℤ b) worth less_gray)

  -- and its size, where no error is above k
  pub difference_most : (k : ℕ) → ((n : ℕ) → nat_abs (error t dots n) ≤ k) → nat_abs (tone_difference t dots) ≤ cells t * k
  difference_most k h =
      subst (λ z. nat_abs z ≤ cells t * k) (sym difference_errors) (nat_abs_sum (cells t) (error t dots) k (λ n l. h n))

-- ---- the call
-- a size and a length that draw neither 1 nor 5
sized_so : (z : Size) (n : ℕ) → outside z.width || outside z.height ≡ false
    → differs (cells_in z) (n ∷ []) ≡ false → InSize z × (n ≡ cells_in z)
sized_so z n e f = picture_fits z n refl (drawn_none (picture_refusals z n) (e, (f, tt)))

-- what a call that is not refused was handed
pub balance_fits : (z : Size) (gray : ℕ) (dots : List ℕ) {x : ℕ} → x ≡ first_of (balance_refusals z gray dots) → x ≡ 0
    → InSize z × (gray ≡ cells_in z) × (length dots ≡ cells_in z) × AtMost 1 dots
balance_fits z gray dots e o =
    let (size, (g, (d, (bits, _)))) = none (balance_refusals z gray dots) tt e o in
    let (in_size, gray_long) = sized_so z gray size g in
    (in_size, gray_long, (sized_so z (length dots) size d).1, record { each = none_above 1 dots bits })

-- a plate has cells
pub some_cells : (z : Size) → InSize z → 0 < cells_in z
some_cells z i = NatL.mul-pos i.high.0 i.wide.0

module _ (z : Size) (gray dots : List ℕ) where
  -- what it answers, by its list
  pub balance_answers : BalanceAnswer z gray dots (balance_call z gray dots).reply
  unfolding balance_call
  balance_answers =
      go (outside z.width || outside z.height) (differs (cells_in z) (length gray ∷ []))
      (differs (cells_in z) (length dots ∷ [])) (above 1 dots) refl refl refl refl
    where
      o : Outcome ToneBalance (Unit {0})
      o = record { reply = result (divided (difference z gray dots) (cells_in z)); left = tt }

      sized : InSize z → outside z.width || outside z.height ≡ false
      sized i = within 256 z.width i.wide nor within 256 z.height i.high

      covers : (l : List ℕ) → length l ≡ cells_in z → differs (cells_in z) (length l ∷ []) ≡ false
      covers l e = alike_not e nor refl

      go : (a b c d : Bool)
          → outside z.width || outside z.height ≡ a
          → differs (cells_in z) (length gray ∷ []) ≡ b
          → differs (cells_in z) (length dots ∷ []) ≡ c
          → above 1 dots ≡ d
          → BalanceAnswer z gray dots
          (unless (first_of (1 when a ∷ 5 when b ∷ 5 when c ∷ 7 when d ∷ [])) tt o).reply
      go true b c d e f g h = draws_1 (λ i. true≢false (sym e ∙ sized i)) refl
      go false true c d e f g h =
          draws_5 (size_fits z refl (rw e refl)) (λ l. true≢false (sym f ∙ covers gray l.0)) refl
      go false false true d e f g h =
          draws_5 (size_fits z refl (rw e refl)) (λ l. true≢false (sym g ∙ covers dots l.1)) refl
      go false false false d e f g h = bits d h
        where
          in_size : InSize z
          in_size = (sized_so z (length gray) e f).0

          covered : CoverCells z gray dots
          covered = ((sized_so z (length gray) e f).1, (sized_so z (length dots) e g).1)

          bits : (d : Bool) → above 1 dots ≡ d
              → BalanceAnswer z gray dots (unless (first_of (7 when d ∷ [])) tt o).reply
          bits true h = draws_7 in_size covered (λ i. true≢false (sym h ∙ above_none 1 dots i)) refl
          bits false h = answers in_size covered (record { each = none_above 1 dots h }) _ refl

  -- and what its two numbers say
  pub balance_says : (b : ToneBalance) → (balance_call z gray dots).reply ≡ result b → BalanceSays z gray dots b
  unfolding balance_call tone_difference
  balance_says b e =
      let n = first_of (balance_refusals z (length gray) dots) in
      let (taken, is, _) = was_done tt _ n refl e in
      let (size, g, d, bits) = balance_fits z (length gray) dots refl taken in
      let t = target_of_size z gray in
      let divides : Divides (difference z gray dots) (cells_in z) b =
      subst (Divides (difference z gray dots) (cells_in z)) is (divided_divides _ (some_cells z size)) in
      record {
        balance_divides = divides;
        nothing_else_divides = λ b' f. divides_is f ∙ sym (divides_is divides);
        difference_sums_errors = λ r psf. difference_errors (target_of z.width z.height r psf gray) dots g d;
        lighter_exactly = lighter divides;
        as_dark_exactly = as_dark divides;
        darker_exactly = darker divides;
        quotient_is_bounded = λ bytes. quotient_most divides (difference_most t dots g d 255 (λ m.
            error≤ t 255 dots m (NatL.mul-le-mul_left 255 (bits.each m)) (bytes.each m)));
      }
