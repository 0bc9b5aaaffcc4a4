-- The fronts of buffers.
--   part_long  a front that has its whole length, under another name for it
--   put_front  new entries before those that remain
use mathlib.Core.List.{List, ◌++◌}
use mathlib.Core.Path.{◌≡◌, sym, ◌∙◌, subst}
use Prim.Native.Nat.{ℕ, ◌+◌, ◌≤◌}
use native.Mathlib.Omega.{arith}
use lib.ListN.{length, take, drop}
use lib.Seq.{sets, sets-eq}

pub part_long : {A : Type 0} (l : List A) {k n : ℕ} → k ≡ n → length (take n l) ≡ n → k ≡ length (take k l)
part_long l e h = subst (λ k. k ≡ length (take k l)) (sym e) (sym h)

pub put_front : {A : Type 0} (l : List A) {vs us : List A} {k n : ℕ} → k ≡ n → us ≡ vs → length vs ≡ n → n ≤ length l
    → us ++ drop k l ≡ sets l 0 vs
put_front l {vs} {us} {k} {n} e f h q =
    let long : k ≡ 0 + length vs = omega (arith, e, h) in
    (λ i. f i ++ drop (long i) l) ∙ sym (sets-eq vs l 0 (omega (arith, h)))
