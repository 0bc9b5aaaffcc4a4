-- Laws of the reference's changes: which are legal, and what fits again after one.
--   made_long, made_bits          the copy on which a change is made: as many dots, each at most as high
--   halftone_made, fits_halftone  a plate that fits fits after it, and its dots are dots for the target
--   toggle_legal, swap_legal      of unlocked cells, toggles, and swaps of unlike dots, are legal
--   accept_fits                   where a legal change lowers E and is accepted, the state fits again
use mathlib.Core.Path.{◌≡◌, refl, sym, ◌∙◌, ap, subst}
use mathlib.Core.List.{List, [], ◌∷◌}
use Prim.Native.Nat.{ℕ, zero, suc, ◌+◌, ◌*◌, ◌-◌, ◌≤◌, ◌<◌}
use native.Mathlib.Nat.{not-suc-le-zero, mul-le-mul_right}
use native.Mathlib.Decide.{ℕ_discrete}
use native.Mathlib.Omega.{arith}
use lib.Dec.{eqb}
use lib.IntN.{ℤ, pos, neg_ℤ, ◌+ℤ◌, ◌-ℤ◌, ◌*ℤ◌}
use lib.Signed.{◌≤ℤ◌, ◌<ℤ◌}
use lib.ListN.{length, get_or, set, length-set}
use lib.Seq.{get_or-set_same, get_or-set_other}
use Rattle.algebra.proofs.Solver.{reify}
use Rattle.algebra.proofs.Order.{ordℤ, read≤, show≤, show≡}
use Rattle.model.specs.declared.Stats.{Stats}
use Rattle.model.specs.Basic.{pick, AtMost, All}
use Rattle.model.specs.Psf.{total}
use Rattle.model.specs.Error.{Target, cells, filtered_errors, squared_error, most_squared, Halftone}
use Rattle.model.specs.Lock.{Free}
use Rattle.model.specs.Refusal.{HalftoneFits}
use Rattle.model.specs.Ledger.{on_count, off_count, net_of, dot_total, raised, changes, most_count}
use Rattle.model.specs.State.{StateFits}
use Rattle.model.specs.Change.{Setting, Move, Placed, made, toggle, swap, Legal, change}
use Rattle.model.specs.Reference.{reference, accept, stats_of}
use Rattle.model.proofs.Error.{squared_nonneg}
use Rattle.model.proofs.Ledger.{raised_start, raised_changes, raised_dots}
use Rattle.model.proofs.Turn.{two, toggle_sets}
use Rattle.model.proofs.Change.{change_least}

-- ---- one store
total_set : (dots : List ℕ) (m x : ℕ) → m < length dots → total (set dots m x) + get_or dots m 0 ≡ total dots + x
unfolding total
total_set [] m x h = absurd (not-suc-le-zero h)
total_set (d ∷ dots) zero x h = omega arith
total_set (d ∷ dots) (suc m) x h = omega (arith, total_set dots m x (omega arith))

bits_set : {b : ℕ} (dots : List ℕ) (m x : ℕ) → m < length dots → x ≤ b → AtMost b dots → AtMost b (set dots m x)
bits_set {b} dots m x h k bits = record { each = λ n. go n (ℕ_discrete n m) }
  where
    go : (n : ℕ) → Dec (n ≡ m) → get_or (set dots m x) n 0 ≤ b
    go n (yes e) = rw (e, get_or-set_same dots m x 0 h) k
    go n (no e) = rw (get_or-set_other dots m n x 0 e) (bits.each n)

-- ---- a legal change
pub made_long : (dots : List ℕ) (l : List Setting) → length (made dots l) ≡ length dots
unfolding made
made_long dots [] = refl
made_long dots (x ∷ l) = made_long (set dots x.cell x.byte) l ∙ length-set dots x.cell x.byte

pub made_bits : {b : ℕ} (dots : List ℕ) (l : List Setting) → Placed (length dots) l → All (λ x. x.byte ≤ b) l
    → AtMost b dots → AtMost b (made dots l)
unfolding made
made_bits dots [] h k bits = bits
made_bits dots (x ∷ l) h k bits =
    made_bits (set dots x.cell x.byte) l (rw (length-set dots x.cell x.byte) h.1) k.1
    (bits_set dots x.cell x.byte h.0 k.0 bits)

-- so a plate that fits fits after it
pub halftone_made : {t : Target} {n : ℕ} (dots : List ℕ) (l : List Setting)
    → HalftoneFits t dots n → Placed (cells t) l → All (λ x. x.byte ≤ t.top) l
    → HalftoneFits t (made dots l) n
halftone_made dots l f placed bits =
    record {
      wide = f.wide;
      high = f.high;
      psf_fits = f.psf_fits;
      gray_length = f.gray_length;
      dots_length = made_long dots l ∙ f.dots_length;
      table_length = f.table_length;
      bits = made_bits dots l (rw f.dots_length placed) bits f.bits;
      top_black = f.top_black;
    }

-- dots that fit are dots for the target
pub fits_halftone : {t : Target} {dots : List ℕ} {n : ℕ} → HalftoneFits t dots n → Halftone t dots
fits_halftone f = record { long = f.dots_length; bits = f.bits }

module _ (t : Target) (dots : List ℕ) (f : Halftone t dots) where
  -- where a dot byte is 0 or 1
  pub toggle_legal : t.top ≡ 1 → (m : ℕ) → m < cells t → Free t m → Legal t dots (toggle dots m)
  unfolding toggle made
  toggle_legal one m h free =
      let is = sym (toggle_sets dots bits m) in
      record {
        placed = (h, tt);
        apart = (tt, tt);
        free = (free, tt);
        another = subst (All (λ x. get_or dots x.cell 0 ≡ x.byte → ⊥)) is (λ e. absurd (omega arith), tt);
        bits = subst (All (λ x. x.byte ≤ t.top)) is (omega (arith, one), tt);
        balance =
            subst (λ l. pos (dot_total (made dots l)) ≡ pos (dot_total dots) +ℤ net_of (toggle dots m).raises) is
            (go (get_or dots m 0) (bits.each m) (total_set dots m (1 - get_or dots m 0) (rw f.long h)));
      }
    where
      bits : AtMost 1 dots
      bits = subst (λ b. AtMost b dots) one f.bits

      after : ℕ
      after = total (set dots m (1 - get_or dots m 0))

      go : (x : ℕ) → x ≤ 1 → after + x ≡ total dots + (1 - x)
          → pos after ≡ pos (total dots) +ℤ net_of (pick (eqb x 0) on_count off_count)
      go zero k e = ap pos (omega (arith, e))
      go (suc zero) k e = show≡ (pos after ∷ pos (total dots) ∷ []) (search reify depth 40) (omega (arith, e))
      go (suc (suc x)) k e = absurd (two x k)

  pub swap_legal : (m n : ℕ) → m < cells t → n < cells t → Free t m → Free t n → (get_or dots m 0 ≡ get_or dots n 0 → ⊥)
      → Legal t dots (swap dots m n)
  unfolding swap made
  swap_legal m n h k free free' unlike =
      let x : ℕ = get_or dots m 0 in
      let y : ℕ = get_or dots n 0 in
      let apart : m ≡ n → ⊥ = λ e. unlike (ap (λ k. get_or dots k 0) e) in
      record {
        placed = (h, (k, tt));
        apart = ((apart, tt), (tt, tt));
        free = (free, (free', tt));
        another = (unlike, (λ e. unlike (sym e), tt));
        bits = (f.bits.each n, (f.bits.each m, tt));
        balance =
            ap pos
            (omega (
              arith,
              total_set (set dots m y) n x (rw (length-set dots m y, f.long) k),
              get_or-set_other dots m n y 0 (λ e. apart (sym e)),
              total_set dots m y (rw f.long h),
            ));
      }

-- ---- an accepted change
-- E falls by the step at least, so the fall stays above the step times the accepted changes
falls : (u n : ℕ) (z e f : ℤ) → (pos u *ℤ pos n) ≤ℤ (z -ℤ e) → (f -ℤ e) ≤ℤ neg_ℤ (pos u)
    → (pos u *ℤ pos (suc n)) ≤ℤ (z -ℤ f)
falls u n z e f h k = rw size (go (pos u *ℤ pos n) (pos u) h k)
  where
    size : pos u *ℤ pos (suc n) ≡ pos u *ℤ pos n +ℤ pos u
    size = ap pos (omega arith)

    go : (x u : ℤ) → x ≤ℤ (z -ℤ e) → (f -ℤ e) ≤ℤ neg_ℤ u → (x +ℤ u) ≤ℤ (z -ℤ f)
    go x u h k =
        let ρ : List ℤ = z ∷ e ∷ f ∷ x ∷ u ∷ [] in
        show≤ ρ (search reify depth 40)
        (omega (arith, read≤ ρ (search reify depth 40) h, read≤ ρ (search reify depth 40) k))

-- and since E is never negative, they are few: 255 is the least step for which this follows
few : (u n : ℕ) (z f : ℤ) → 255 ≤ u → z ≤ℤ pos most_squared → pos 0 ≤ℤ f → (pos u *ℤ pos n) ≤ℤ (z -ℤ f) → n ≤ most_count
few u n z f h k l m =
    let ρ : List ℤ = z ∷ f ∷ pos (u * n) ∷ [] in
    omega (arith, ordℤ, mul-le-mul_right n h, read≤ ρ (search reify depth 40) m)

module _ (t : Target) (wide : 0 < t.width) (step : 255 ≤ t.step) (dots : List ℕ) (long : length dots ≡ cells t)
    (table : List ℤ) (s : Stats) (fits : StateFits t dots table s) where
  pub accept_fits : (v : Move) → Legal t dots v → change t dots v <ℤ pos 0
      → (let p = accept (reference dots s) v in StateFits t p.dots (filtered_errors t p.dots) (stats_of t p))
  unfolding accept stats_of change
  accept_fits v legal lower =
      record {
        table_is = refl;
        error_is = refl;
        start_low = subst (λ z. pos 0 ≤ℤ z) (sym kept.0) fits.start_low;
        start_high = subst (λ z. z ≤ℤ pos most_squared) (sym kept.0) fits.start_high;
        on_few = omega (arith, rise, enough);
        off_few = omega (arith, rise, enough);
        swaps_few = omega (arith, rise, enough);
        dots_fit = rw kept.1 fits.dots_fit;
        total_is = legal.balance ∙ ap (λ z. z +ℤ net_of v.raises) fits.total_is ∙ sym (raised_dots _ _);
        fall = rw (rise, kept.0) fall;
      }
    where
      first : ℤ
      first = s.figures.start_error

      after : ℤ
      after = squared_error t (made dots v.sets)

      kept : ((raised v.raises s.figures).start_error ≡ first)
          × ((raised v.raises s.figures).start_dots ≡ s.figures.start_dots)
      kept = raised_start v.raises s.figures

      rise : changes (raised v.raises s.figures) ≡ suc (changes s.figures)
      rise = raised_changes v.raises s.figures

      fall : (pos t.step *ℤ pos (suc (changes s.figures))) ≤ℤ (first -ℤ after)
      fall =
          falls t.step (changes s.figures) first (squared_error t dots) after
          (subst (λ z. (pos t.step *ℤ pos (changes s.figures)) ≤ℤ (first -ℤ z)) fits.error_is fits.fall)
          (change_least t dots v long legal.placed lower)

      enough : suc (changes s.figures) ≤ most_count
      enough =
          few t.step (suc (changes s.figures)) first after step fits.start_high
          (squared_nonneg t wide (made dots v.sets)) fall
