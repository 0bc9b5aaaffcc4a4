-- The two passes that build the table, each entry by entry of the psf.
--   added_none, added_rest, added_next  a block added row by row
--   plate_lies, widened_lies            the frames of the plate and of the widened plate
--   pass_none, pass_next, pass_small    a pass, one entry further, and the sizes on the way
--   passed_small, passed_long           what it leaves
--   errors_small                        the errors that the first pass is handed
--   gathered_is                         the two passes, one after the other, leave the filtered error
use mathlib.Core.Path.{◌≡◌, refl, sym, ◌∙◌, ap, ap₂}
use mathlib.Core.List.{List}
use Prim.Native.Nat.{ℕ, ◌+◌, ◌*◌, ◌-◌, ◌/◌, ◌%◌, ◌≤◌, ◌<◌}
use native.Mathlib.Nat as NatL
use native.Mathlib.Decide.{dec_lt}
use native.Mathlib.Omega.{arith}
use lib.IntN.{ℤ, pos, neg_ℤ, nat_abs, ◌+ℤ◌, ◌*ℤ◌, +ℤ_idr, *ℤ-zero}
use lib.ListN.{length, get_or}
use Rattle.algebra.specs.Sum.{sum_to}
use Rattle.algebra.specs.Moved.{moved}
use Rattle.algebra.proofs.Grid.{cell_row, cell_column, cell<, row<, column<, rows_apart}
use Rattle.algebra.proofs.Sum.{sum_next, sum_cong}
use Rattle.algebra.proofs.Moved.{moved_one, moved_cases, moved_cong}
use Rattle.model.specs.Basic.{tabulate, AtMost}
use Rattle.model.specs.Psf.{total}
use Rattle.model.specs.Error.{Target, target_of, error_of, error, filtered_errors, perceived_error}
use Rattle.model.specs.Refusal.{HalftoneFits}
use Rattle.invariants.specs.Window.{Small}
use Rattle.model.proofs.Basic.{table_long, get_d_tabulate, tabulate-by, tabulate-cong}
use Rattle.model.proofs.Psf.{weighed≤}
use Rattle.model.proofs.Halftone.{errors_most}
use Rattle.invariants.proofs.Window.{small_tabulate}
use Rattle.model.proofs.Spread.{perceived_spread, filtered_gathered}
use Rattle.filter_window.specs.Run.{Ran}
use Rattle.filter_passes.specs.declared.Frame.{Frame}
use Rattle.filter_passes.specs.Passes.{Added, Lies, cells_around, plate, widened, corner_of, brought, passed_at, passed}
use Rattle.filter_passes.specs.Passes.{spread, gathered}

-- ---- a block, row by row
module _ {at stride : ℕ} {c : List ℤ} {from span n : ℕ} {amount : ℤ} where
  pub added_none : {t : List ℤ} → Added at stride c from span n 0 amount t t
  added_none = record { long = refl; inside = λ y x h k. absurd (NatL.not-suc-le-zero h); outside = λ q h. refl }

  module _ {y : ℕ} {t₀ t : List ℤ} (narrow : n ≤ stride) (a : Added at stride c from span n y amount t₀ t) where
    -- from row y on nothing is added yet
    pub added_rest : (q : ℕ) → at + y * stride ≤ q → get_or t q (pos 0) ≡ get_or t₀ q (pos 0)
    added_rest q h = a.outside q (λ v x l k e. omega (arith, rows_apart stride l))

    pub added_next : {t' : List ℤ} → Ran (at + y * stride) c (from + y * span) amount n t t'
        → Added at stride c from span n (y + 1) amount t₀ t'
    added_next {t'} r =
        record {
          long = r.long ∙ a.long;
          inside = λ v x h k. elim (dec_lt v y) [
            | yes p ↦ r.below _ (omega (arith, rows_apart stride p)) ∙ a.inside v x p k
            | no p ↦ let o : v ≡ y = omega arith in rw o (this_row x k)
          ];
          outside = λ q h. elim (dec_lt q (at + y * stride)) [
            | yes p ↦ r.below q p ∙ a.outside q (λ v x l k e. h v x (omega arith) k e)
            | no p ↦ elim (dec_lt q (at + y * stride + n)) [
              | yes l ↦ absurd (h y (q - (at + y * stride)) (omega arith) (omega arith) (omega arith))
              | no l ↦ r.beyond q (omega arith) ∙ added_rest q (omega arith)
            ]
          ];
        }
      where
        this_row : (x : ℕ) → x < n
            → get_or t' (at + y * stride + x) (pos 0)
            ≡ get_or t₀ (at + y * stride + x) (pos 0) +ℤ amount *ℤ get_or c (from + y * span + x) (pos 0)
        this_row x k =
            r.within x k
            ∙ ap (λ z. z +ℤ amount *ℤ get_or c (from + y * span + x) (pos 0)) (added_rest _ (omega arith))

-- ---- a pass, entry by entry of the psf
index : (a b y x W : ℕ) → a * W + b + y * W + x ≡ (y + a) * W + (x + b)
index a b y x W = rw (NatL.add-mul y a W) (omega arith)

module _ (w h r : ℕ) where
  abbrev s : ℕ
  s = 2 * r + 1

  abbrev span : ℕ
  span = w + 2 * r

  some : 0 < 2 * r + 1
  some = omega arith

  -- in its own frame no entry moves the plate
  stays : (k : ℕ) → corner_of r (plate w) k ≡ 0
  stays k = rw (NatL.mul-zero (k / s), NatL.mul-zero (k % s), NatL.zero-mul w) refl

  -- the plate lies in its frame, and in that of the widened plate
  pub plate_lies : {long : ℕ} → w ≤ 256 → long ≡ h * w → Lies w h r (plate w) long
  plate_lies {long} narrow e =
      record {
        narrow = omega arith;
        once = omega arith;
        wide = λ k. rw (NatL.mul-zero (k % s)) (omega arith);
        ends = λ k y l m.
            rw (stays k) (omega (arith, rows_apart w m, e));
      }

  pub widened_lies : {long : ℕ} → w ≤ 256 → r ≤ 3 → long ≡ cells_around w h r → Lies w h r (widened w r) long
  widened_lies {long} narrow near e =
      record {
        narrow = omega arith;
        once = omega arith;
        wide = λ k. omega (arith, column< k some, NatL.mul-one (k % s));
        ends = λ k y l m.
            let down : k / s < s = row< k some l in
            let along : k % s < s = column< k some in
            rw (NatL.mul-one (k / s), NatL.mul-one (k % s))
            (omega (
              arith,
              e,
              NatL.add-mul (k / s) y span,
              rows_apart {y = k / s + y} {v = h + 2 * r} span (omega arith),
            ));
      }

  module _ (psf : List ℕ) (from to : Frame) (c : List ℤ) where
    abbrev at : ℕ → ℕ → ℤ
    at = passed_at w h r psf from to c

    abbrev term : ℕ → ℕ → ℤ
    term = brought w h r from to c

    pub pass_none : (N : ℕ) → tabulate N (λ q. pos 0) ≡ tabulate N (at 0)
    unfolding passed_at sum_to
    pass_none N = refl

    pub pass_next : (N i : ℕ) {long : ℕ} {a : ℤ} {t t' : List ℤ} → 0 < w → Lies w h r to long → t ≡ tabulate N (at i)
        → a ≡ pos (get_or psf i 0) → Added (corner_of r to i) to.span c (corner_of r from i) from.span w h a t t'
        → t' ≡ tabulate N (at (i + 1))
    unfolding passed_at
    pass_next N i {a = a} {t} {t'} wide lies b p d =
        tabulate-by (pos 0) N _ t' (d.long ∙ table_long N _ b) (λ q l.
        gained q
        ∙ ap₂ (λ u v. u +ℤ v *ℤ term i q) (ap (λ l. get_or l q (pos 0)) b ∙ get_d_tabulate N _ q (pos 0) l) p
        ∙ sum_next i (λ k. pos (get_or psf k 0) *ℤ term k q))
      where
        down : ℕ
        down = i / s * to.moves

        along : ℕ
        along = i % s * to.moves

        entry : ℕ → ℤ
        entry m = get_or c (corner_of r from i + m / w * from.span + m % w) (pos 0)

        -- a column of the plate stays in its row
        inner : {x : ℕ} → x < w → x + i % s * to.moves < to.span
        inner k = omega (arith, lies.wide i)

        gained : (q : ℕ) → get_or t' q (pos 0) ≡ get_or t q (pos 0) +ℤ a *ℤ term i q
        gained q =
            moved_cases h w entry down along (q / to.span) (q % to.span) wide
            (λ z. get_or t' q (pos 0) ≡ get_or t q (pos 0) +ℤ a *ℤ z)
            (λ y x k l u v.
            let here : corner_of r to i + y * to.span + x ≡ q
            = index down along y x to.span ∙ ap₂ (λ m n. m * to.span + n) u v ∙ NatL.div-add-mod' q to.span in
            rw (cell_row {y = y} l, cell_column y l) (rw here at (d.inside y x k l)))
            (λ none.
            d.outside q (λ y x k l g.
            let there : q ≡ (y + down) * to.span + (x + along) = g ∙ index down along y x to.span in
            none y x k l
            (sym (ap (λ m. m / to.span) there ∙ cell_row (inner l)))
            (sym (ap (λ m. m % to.span) there ∙ cell_column (y + down) (inner l))))
            ∙ sym (ap (λ z. get_or t q (pos 0) +ℤ z) (*ℤ-zero a) ∙ +ℤ_idr (get_or t q (pos 0))))

    pub pass_small : {k : ℕ} (i q : ℕ) → 0 < w → Small k c → total psf ≤ 1024 → i ≤ length psf
        → nat_abs (at i q) ≤ 1024 * k
    unfolding passed_at
    pass_small {k} i q wide small few l =
        NatL.le_trans
        (weighed≤ psf i (λ j. term j q) k l (λ j.
        moved_cases h w _ _ _ (q / to.span) (q % to.span) wide (λ z. nat_abs z ≤ k)
        (λ y x u v g m. small.each _) (λ none. omega arith)))
        (NatL.mul-le-mul_right k few)

    pub passed_small : {k : ℕ} (N : ℕ) → 0 < w → Small k c → total psf ≤ 1024
        → Small (1024 * k) (passed w h r psf from to c N)
    unfolding passed
    passed_small {k} N wide small few =
        small_tabulate (1024 * k) N _ (λ q l. pass_small (length psf) q wide small few (NatL.le_refl (length psf)))

    pub passed_long : (N : ℕ) → length (passed w h r psf from to c N) ≡ N
    unfolding passed
    passed_long N = table_long N _ refl

  -- ---- what the two passes leave of the errors
  module _ (psf gray dots : List ℕ) where
    abbrev target : Target
    target = target_of w h r psf gray

    abbrev errors : List ℤ
    errors = tabulate (h * w) (error_of 255 gray dots)

    abbrev edge : ℕ → ℤ
    edge y = neg_ℤ (pos r) +ℤ pos y

    pub errors_small : {table : ℕ} → HalftoneFits target dots table → AtMost 255 gray → Small 255 errors
    unfolding error
    errors_small f bytes = small_tabulate 255 (h * w) (error_of 255 gray dots) (λ n l. errors_most f bytes n)

    -- the block of entry k, moved
    block_moved : (k Y X : ℕ) → X < span
        → brought w h r (plate w) (widened w r) errors k (Y * span + X)
        ≡ moved h w (error_of 255 gray dots) (k / s) (k % s) Y X
    block_moved k Y X l =
        rw (NatL.mul-one (k / s), NatL.mul-one (k % s), cell_row {y = Y} l, cell_column Y l)
        (moved_cong h w (k / s) (k % s) Y X (λ n u.
        rw (stays k, NatL.zero-add (n / w * w), NatL.div-add-mod' n w)
        (get_d_tabulate (h * w) (error_of 255 gray dots) n (pos 0) u)))

    spread_is : length psf ≡ (2 * r + 1) * (2 * r + 1) → (Y X : ℕ) → Y < h + 2 * r → X < span
        → get_or (spread w h r psf errors) (Y * span + X) (pos 0) ≡ perceived_error target dots (edge Y) (edge X)
    unfolding passed passed_at error
    spread_is square Y X k l =
        get_d_tabulate ((h + 2 * r) * span) _ (Y * span + X) (pos 0) (cell< k l)
        ∙ ap (λ n. sum_to n (λ k. pos (get_or psf k 0)
        *ℤ brought w h r (plate w) (widened w r) errors k (Y * span + X))) square
        ∙ sum_cong (s * s) (λ k m. ap (λ z. pos (get_or psf k 0) *ℤ z) (block_moved k Y X l))
        ∙ perceived_spread target dots Y X

    -- the entry that comes from the block of entry k to the cell q
    block_entry : (g : List ℤ) (k q : ℕ) → 0 < w → q < h * w
        → brought w h r (widened w r) (plate w) g k q
        ≡ get_or g ((q / w + k / s) * span + (q % w + k % s)) (pos 0)
    block_entry g k q wide l =
        moved_one h w _ _ _ (q / w) (q % w) (q / w) (q % w) (row< q wide l) (column< q wide)
        (rw (NatL.mul-zero (k / s)) (omega arith)) (rw (NatL.mul-zero (k % s)) (omega arith))
        ∙ ap (λ n. get_or g n (pos 0))
        (rw (NatL.div-add-mod' q w, NatL.mul-one (k / s), NatL.mul-one (k % s))
        (index (k / s) (k % s) (q / w) (q % w) span))

    pub gathered_is : 0 < w → length psf ≡ (2 * r + 1) * (2 * r + 1)
        → gathered w h r psf (spread w h r psf errors) ≡ filtered_errors target dots
    unfolding passed passed_at filtered_errors
    gathered_is wide square =
        tabulate-cong (h * w) (λ q l.
        ap (λ n. sum_to n (λ k. pos (get_or psf k 0)
        *ℤ brought w h r (widened w r) (plate w) (spread w h r psf errors) k q)) square
        ∙ sum_cong (s * s) (λ k m.
        ap (λ z. pos (get_or psf k 0) *ℤ z)
        (block_entry (spread w h r psf errors) k q wide l
        ∙ spread_is square (q / w + k / s) (q % w + k % s)
        (omega (arith, row< q wide l, row< k some m))
        (omega (arith, column< q wide, column< k some))))
        ∙ filtered_gathered target dots q)
