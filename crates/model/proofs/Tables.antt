-- Tabulated lists in parts and row by row; lists put from a place on; totals.
--   tabulate_part, tabulate_row            a list in two parts, and a row after the rows before it
--   sets_append                            a list put in two parts
--   put_none, put_next, put_part, put_row  a tabulated list that a loop puts from a place on
--   total_append, total_tabulate           the total of two parts, and of one entry more
use mathlib.Core.Path.{◌≡◌, refl, sym, ◌∙◌, ap, ap₂, subst}
use mathlib.Core.List.{List, [], ◌∷◌, ◌++◌, append_assoc, append-nil}
use Prim.Native.Nat.{ℕ, zero, suc, ◌+◌, ◌*◌, ◌/◌, ◌%◌, ◌<◌}
use native.Mathlib.Nat.{add-zero, add-suc, suc-add, suc-mul}
use native.Mathlib.Numerals.{add-one}
use native.Mathlib.Omega.{arith}
use lib.ListN.{length, set}
use lib.Seq.{sets}
use Rattle.algebra.proofs.Grid.{cell_row, cell_column}
use Rattle.model.specs.Basic.{tabulate}
use Rattle.model.specs.Psf.{total}
use Rattle.model.proofs.Basic.{length-tabulate, tabulate-cong}

-- ---- in parts
module _ {A : Type 0} (f : ℕ → A) where
  pub tabulate_part : (n m : ℕ) → tabulate (n + m) f ≡ tabulate n f ++ tabulate m (λ i. f (n + i))
  unfolding tabulate
  tabulate_part n zero = ap (λ k. tabulate k f) (add-zero n) ∙ sym (append-nil (tabulate n f))
  tabulate_part n (suc m) =
      ap (λ k. tabulate k f) (add-suc n m)
      ∙ ap (λ l. l ++ (f (n + m) ∷ [])) (tabulate_part n m)
      ∙ append_assoc (tabulate n f) (tabulate m (λ i. f (n + i))) (f (n + m) ∷ [])

-- entry k of rows of W entries
abbrev pub by_rows : {A : Type 0} → ℕ → (ℕ → ℕ → A) → ℕ → A
by_rows W f k = f (k / W) (k % W)

module _ {A : Type 0} (W : ℕ) (f : ℕ → ℕ → A) (y : ℕ) where
  -- the entries of row y
  row_entries : tabulate W (λ x. by_rows W f (y * W + x)) ≡ tabulate W (f y)
  row_entries = tabulate-cong W (λ x h. ap₂ f (cell_row {y = y} h) (cell_column y h))

  pub tabulate_row : tabulate ((y + 1) * W) (by_rows W f) ≡ tabulate (y * W) (by_rows W f) ++ tabulate W (f y)
  tabulate_row =
      ap (λ n. tabulate n (by_rows W f)) (rw add-one (suc-mul y W))
      ∙ tabulate_part (by_rows W f) (y * W) W
      ∙ ap (λ l. tabulate (y * W) (by_rows W f) ++ l) row_entries

-- ---- put from a place on
pub sets_append : {A : Type 0} (a b l : List A) (i : ℕ) → sets l i (a ++ b) ≡ sets (sets l i a) (i + length a) b
sets_append [] b l i = rw add-zero
sets_append (x ∷ a) b l i = sets_append a b (set l i x) (suc i) ∙ rw (suc-add, add-suc)

-- of the entries of f the first n are put
pub record Put {A : Type 0} (start : List A) (at : ℕ) (f : ℕ → A) (n : ℕ) (out : List A) : Type 0 where
  pub is : out ≡ sets start at (tabulate n f)

module _ {A : Type 0} {start : List A} {at : ℕ} {f : ℕ → A} where
  pub put_none : Put start at f 0 start
  unfolding tabulate
  put_none = record { is = refl }

  pub put_as : {n m : ℕ} {out : List A} → n ≡ m → Put start at f n out → Put start at f m out
  put_as {out} e p = subst (λ k. Put start at f k out) e p

  -- a list more
  put_list : {n : ℕ} {out after : List A} (m : ℕ) (l : List A) → Put start at f n out → after ≡ sets out (at + n) l
      → tabulate m f ≡ tabulate n f ++ l → Put start at f m after
  put_list {n} m l p e h =
      let long = ap (λ k. at + k) (length-tabulate n f) in
      record {
        is =
            e
            ∙ ap₂ (λ o i. sets o i l) p.is (sym long)
            ∙ sym (sets_append (tabulate n f) l start at)
            ∙ ap (sets start at) (sym h);
      }

  pub put_next : {n : ℕ} {out : List A} {v : A} → Put start at f n out → v ≡ f n
      → Put start at f (n + 1) (set out (at + n) v)
  unfolding tabulate
  put_next {n} {v} p e =
      put_list (n + 1) (v ∷ []) p refl
      (ap (λ k. tabulate k f) (add-one n) ∙ ap (λ x. tabulate n f ++ (x ∷ [])) (sym e))

  pub put_part : {n : ℕ} {out after : List A} (m : ℕ) {g : ℕ → A} → Put start at f n out
      → after ≡ sets out (at + n) (tabulate m g) → ((i : ℕ) → i < m → g i ≡ f (n + i)) → Put start at f (n + m) after
  put_part {n} m {g} p e h =
      put_list (n + m) (tabulate m g) p e (tabulate_part f n m ∙ ap (λ l. tabulate n f ++ l) (sym (tabulate-cong m h)))

pub put_row : {A : Type 0} {start : List A} {at : ℕ} (W : ℕ) (f : ℕ → ℕ → A) (y : ℕ) {out after : List A}
    → Put start at (by_rows W f) (y * W) out → after ≡ sets out (at + y * W) (tabulate W (f y))
    → Put start at (by_rows W f) ((y + 1) * W) after
put_row W f y p e = put_list ((y + 1) * W) (tabulate W (f y)) p e (tabulate_row W f y)

-- ---- totals
pub total_append : (k l : List ℕ) → total (k ++ l) ≡ total k + total l
unfolding total
total_append [] l = omega arith
total_append (x ∷ k) l = omega (arith, total_append k l)

pub total_tabulate : (n : ℕ) (f : ℕ → ℕ) → total (tabulate (suc n) f) ≡ total (tabulate n f) + f n
unfolding tabulate total
total_tabulate n f = total_append (tabulate n f) (f n ∷ []) ∙ omega arith
