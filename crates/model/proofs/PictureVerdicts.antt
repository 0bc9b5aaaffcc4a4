-- What reading a picture comes to, whatever its kind: verdicts that exclude one another, so each answer is given
-- exactly when its own holds.
--   PictureVerdict, Exclusive                       the four verdicts; that they exclude one another
--   read_exactly, read_stored                       it is read, and what is stored then
--   14-exactly, 15-exactly, 12-exactly, drawn_only  it is refused, each number exactly when it is due, and no other
use mathlib.Core.List.{List}
use mathlib.Core.Logic.{◌⊎◌, inl, inr}
use mathlib.Core.Path.{◌≡◌, sym, ◌∙◌, ap, subst}
use Prim.Native.Nat.{ℕ, ◌≤◌, ◌<◌}
use native.Mathlib.Omega.{arith}
use Rattle.model.specs.declared.Size.{Size}
use Rattle.model.specs.Calls.{Reply, result, refused}
use Rattle.model.specs.Netpbm.{cells_in}
use Rattle.model.specs.Basic.{Exactly}
use Rattle.model.proofs.Calls.{no_result, same_result, same_refusal}

-- a file that is none, one with another maximum, and one of a size that may be read, with what it stores
module _ (No Other : Type 0) (Is : Size → Type 0) (stored : (z : Size) → Is z → List ℕ) where
  pub record Exclusive : Type 0 where
    pub none_other : No → Other → ⊥
    pub none_is : {z : Size} → No → Is z → ⊥
    pub other_is : {z : Size} → Other → Is z → ⊥
    pub one_size : {y z : Size} → Is y → Is z → y ≡ z
    pub same_stored : {y z : Size} (p : Is y) (q : Is z) → stored y p ≡ stored z q

  module _ (reply : Reply Size) (left buffer : List ℕ) (room : ℕ) where
    pub data PictureVerdict : Type 0 where
      none : No → reply ≡ refused 14 0 → left ≡ buffer → PictureVerdict
      other : Other → reply ≡ refused 15 0 → left ≡ buffer → PictureVerdict
      short : (z : Size) → Is z → room < cells_in z → reply ≡ refused 12 0 → left ≡ buffer → PictureVerdict
      read : (z : Size) (p : Is z) → cells_in z ≤ room → reply ≡ result z → left ≡ stored z p → PictureVerdict

    module _ (a : Exclusive) where
      -- there is not both too little room and enough
      small : {y z : Size} → Is y → Is z → room < cells_in y → cells_in z ≤ room → ⊥
      small p q few enough = omega (arith, ap cells_in (a.one_size p q))

      pub read_exactly : PictureVerdict → (z : Size) → Exactly (reply ≡ result z) (Is z × (cells_in z ≤ room))
      read_exactly v z = (to v, from v)
        where
          to : PictureVerdict → reply ≡ result z → Is z × (cells_in z ≤ room)
          to (none n r l) e = absurd (no_result (sym r ∙ e))
          to (other o r l) e = absurd (no_result (sym r ∙ e))
          to (short y p few r l) e = absurd (no_result (sym r ∙ e))
          to (read y p enough r l) e =
              subst (λ z. Is z × (cells_in z ≤ room)) (same_result (sym r ∙ e)) (p, enough)

          from : PictureVerdict → Is z × (cells_in z ≤ room) → reply ≡ result z
          from (none n r l) (q, enough) = absurd (a.none_is n q)
          from (other o r l) (q, enough) = absurd (a.other_is o q)
          from (short y p few r l) (q, enough) = absurd (small p q few enough)
          from (read y p _ r l) (q, enough) = r ∙ ap result (a.one_size p q)

      pub read_stored : PictureVerdict → (z : Size) (q : Is z) → cells_in z ≤ room → left ≡ stored z q
      read_stored (none n r l) z q enough = absurd (a.none_is n q)
      read_stored (other o r l) z q enough = absurd (a.other_is o q)
      read_stored (short y p few r l) z q enough = absurd (small p q few enough)
      read_stored (read y p _ r l) z q enough = l ∙ a.same_stored p q

      pub 14-exactly : PictureVerdict → Exactly (reply ≡ refused 14 0) No
      14-exactly v = (to v, from v)
        where
          to : PictureVerdict → reply ≡ refused 14 0 → No
          to (none n r l) e = n
          to (other o r l) e = absurd (omega (arith, (same_refusal (sym r ∙ e)).0))
          to (short y p few r l) e = absurd (omega (arith, (same_refusal (sym r ∙ e)).0))
          to (read y p enough r l) e = absurd (no_result (sym e ∙ r))

          from : PictureVerdict → No → reply ≡ refused 14 0
          from (none n r l) m = r
          from (other o r l) m = absurd (a.none_other m o)
          from (short y p few r l) m = absurd (a.none_is m p)
          from (read y p enough r l) m = absurd (a.none_is m p)

      pub 15-exactly : PictureVerdict → Exactly (reply ≡ refused 15 0) Other
      15-exactly v = (to v, from v)
        where
          to : PictureVerdict → reply ≡ refused 15 0 → Other
          to (none n r l) e = absurd (omega (arith, (same_refusal (sym r ∙ e)).0))
          to (other o r l) e = o
          to (short y p few r l) e = absurd (omega (arith, (same_refusal (sym r ∙ e)).0))
          to (read y p enough r l) e = absurd (no_result (sym e ∙ r))

          from : PictureVerdict → Other → reply ≡ refused 15 0
          from (none n r l) o = absurd (a.none_other n o)
          from (other _ r l) o = r
          from (short y p few r l) o = absurd (a.other_is o p)
          from (read y p enough r l) o = absurd (a.other_is o p)

      pub 12-exactly : PictureVerdict
          → Exactly (reply ≡ refused 12 0) ((z : Size) × Is z × (room < cells_in z))
      12-exactly v = (to v, from v)
        where
          to : PictureVerdict → reply ≡ refused 12 0 → (z : Size) × Is z × (room < cells_in z)
          to (none n r l) e = absurd (omega (arith, (same_refusal (sym r ∙ e)).0))
          to (other o r l) e = absurd (omega (arith, (same_refusal (sym r ∙ e)).0))
          to (short y p few r l) e = (y, p, few)
          to (read y p enough r l) e = absurd (no_result (sym e ∙ r))

          from : PictureVerdict → (z : Size) × Is z × (room < cells_in z) → reply ≡ refused 12 0
          from (none n r l) (z, q, few) = absurd (a.none_is n q)
          from (other o r l) (z, q, few) = absurd (a.other_is o q)
          from (short y p _ r l) (z, q, few) = r
          from (read y p enough r l) (z, q, few) = absurd (small q p few enough)

      -- 14, 15 or 12 and no other, with no byte offset, and the buffer as it was
      pub drawn_only : PictureVerdict → (number at : ℕ) → reply ≡ refused number at
          → ((number ≡ 14) ⊎ (((number ≡ 15) × Other) ⊎ (number ≡ 12))) × (at ≡ 0) × (left ≡ buffer)
      drawn_only (none n r l) number at e = let (k, o) = same_refusal (sym e ∙ r) in (inl k, o, l)
      drawn_only (other h r l) number at e = let (k, o) = same_refusal (sym e ∙ r) in (inr (inl (k, h)), o, l)
      drawn_only (short y p few r l) number at e = let (k, o) = same_refusal (sym e ∙ r) in (inr (inr k), o, l)
      drawn_only (read y p enough r l) number at e = absurd (no_result (sym e ∙ r))
