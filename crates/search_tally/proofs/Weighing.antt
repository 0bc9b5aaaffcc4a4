-- The swaps that a cell has with the partners at the first offsets.
--   suits_is                   a partner that lands suits where the two cells can be exchanged
--   both_open, shut_there, shut_here  whether they can, one test after the other
--   weighed_next, weighed_few  one offset more; at most as many as the offsets
use mathlib.Core.Bool.{true, false, not}
use mathlib.Core.List.{List}
use mathlib.Core.Path.{◌≡◌, refl, sym, ◌∙◌, ap, ap₂}
use Prim.Native.Nat.{ℕ, ◌+◌, ◌≤◌, ◌<◌}
use native.Mathlib.Numerals.{add-one}
use native.Mathlib.Omega.{arith}
use lib.Dec.{eqb}
use lib.ListN.{length, get_or, take, length-take}
use lib.Seq.{take-suc}
use Rattle.model.specs.Basic.{one_if}
use Rattle.model.specs.Error.{Target}
use Rattle.model.specs.Lock.{locked}
use Rattle.model.specs.Partners.{Offset, offsets, lands, partner}
use Rattle.model.specs.Scan.{exchangeable, suits, swaps_by}
use Rattle.model.proofs.Square.{swaps_last, swaps_most}
use Rattle.invariants.specs.Partners.{HoldsOffsets, offset_of, itself}

-- ---- one partner, where it lands: the cell n, and i is the cell m
pub suits_is : (t : Target) (dots : List ℕ) {m i n : ℕ} (o : Offset) → i ≡ m
    → (lands t.width t.height m o ≡ true) × (n ≡ partner t.width m o) → suits t dots m o ≡ exchangeable t dots i n
suits_is t dots o here (on, there) =
    rw on (ap₂ (exchangeable t dots) (sym here) (sym there))

-- the tests of the two cells, one after the other
module _ (t : Target) (dots : List ℕ) (m n : ℕ) where
  pub both_open : locked t.gray m ≡ false → not (locked t.gray n) ≡ true
      → not (eqb (get_or dots m 0) (get_or dots n 0)) ≡ exchangeable t dots m n
  both_open e f = rw (e, f) refl

  pub shut_there : locked t.gray m ≡ false → not (locked t.gray n) ≡ false → false ≡ exchangeable t dots m n
  shut_there e f = rw (e, f) refl

  pub shut_here : locked t.gray m ≡ true → false ≡ exchangeable t dots m n
  shut_here e = rw e refl

-- ---- the first of them
module _ (t : Target) (reach : ℕ) (dots : List ℕ) (m : ℕ) where
  pub weighed_next : {codes : List ℕ} → HoldsOffsets reach codes → (j : ℕ) → j < length codes
      → length (swaps_by t (take (j + 1) (offsets reach)) dots m)
      ≡ length (swaps_by t (take j (offsets reach)) dots m) + one_if (suits t dots m (offset_of (get_or codes j 0)))
  weighed_next h j l =
      ap (λ k. length (swaps_by t (take k (offsets reach)) dots m)) (add-one j)
      ∙ ap (λ k. length (swaps_by t k dots m)) (take-suc (offsets reach) j (offset_of itself) (omega (arith, h.long)))
      ∙ swaps_last t (take j (offsets reach)) (get_or (offsets reach) j (offset_of itself)) dots m
      ∙ ap (λ o. length (swaps_by t (take j (offsets reach)) dots m) + one_if (suits t dots m o)) (h.at j l)

  pub weighed_few : (j : ℕ) → length (swaps_by t (take j (offsets reach)) dots m) ≤ j
  weighed_few j = omega (arith, swaps_most t (take j (offsets reach)) dots m, length-take j (offsets reach))
