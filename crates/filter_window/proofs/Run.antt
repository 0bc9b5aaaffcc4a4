-- The run added entry by entry: before the first turn of the loop (`run_start`), and after one turn more (`run_next`).
use mathlib.Core.Path.{◌≡◌, refl, ◌∙◌}
use mathlib.Core.List.{List}
use Prim.Native.Nat.{ℕ, ◌+◌, ◌<◌}
use native.Mathlib.Omega.{arith}
use borrow.Author.Count.{below_none, below_more}
use lib.IntN.{ℤ, pos, ◌+ℤ◌, ◌*ℤ◌}
use lib.ListN.{length, get_or, set, length-set}
use lib.Seq.{get_or-set_same, get_or-set_other}
use Rattle.filter_window.specs.Run.{Ran}

pub run_start : {at from : ℕ} {c t : List ℤ} {amount : ℤ} → Ran at c from amount 0 t t
run_start = record { long = refl; below = λ q h. refl; within = below_none _; beyond = λ q h. refl }

pub run_next : {at from k : ℕ} {c t₀ t : List ℤ} {amount : ℤ} → Ran at c from amount k t₀ t → (v : ℤ)
    → v ≡ get_or t₀ (at + k) (pos 0) +ℤ amount *ℤ get_or c (from + k) (pos 0) → at + k < length t
    → Ran at c from amount (k + 1) t₀ (set t (at + k) v)
run_next {at} {k} {t} r v e h = record {
  long = length-set t (at + k) v ∙ r.long;
  below = λ q p. other q (omega arith) ∙ r.below q p;
  within = below_more _ k
      (λ j p. other (at + j) (omega arith) ∙ r.within j p)
      (get_or-set_same t (at + k) v (pos 0) h ∙ e);
  beyond = λ q p. other q (omega arith) ∙ r.beyond q (omega arith);
}
  where
    other : (q : ℕ) → (q ≡ at + k → ⊥) → get_or (set t (at + k) v) q (pos 0) ≡ get_or t q (pos 0)
    other q = get_or-set_other t (at + k) q v (pos 0)
