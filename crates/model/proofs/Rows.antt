-- The text of a grid: its values one after the other, each with the byte that ends it.
--   text_grid    it is that of its parts
--   grid_length_lem  how long it is
--   rows_grid    it is its rows
use mathlib.Core.Path.{◌≡◌, refl, ◌∙◌, ap, sym}
use mathlib.Core.List.{List, [], ◌∷◌, ◌++◌, append_assoc}
use Prim.Native.Nat.{ℕ, zero, suc, ◌+◌, ◌*◌, ◌%◌, ◌≤◌, ◌<◌}
use native.Mathlib.Nat.{add_assoc, mod_self, mod-eq_of_lt, mul-add-mod_self_right, suc-mul}
use native.Mathlib.Omega.{arith}
use borrow.Author.Tests.{eq-eqb, ne_eqb}
use lib.ListN.{length, take, drop, length-append, length-drop, take-append-drop}
use lib.Seq.{length-take-le}
use Rattle.model.specs.Text.{space, line_end, digits}
use Rattle.model.specs.Sheet.{row, rows, end_of, grid_text, grid_length}
use Rattle.model.specs.Format.{grid, text_of}

-- the text of the parts of a grid
pub text_grid : (w hi i : ℕ) (vs : List ℕ) → text_of (grid w hi i (length vs)) vs ≡ grid_text w i vs
text_grid w hi i [] = refl
text_grid w hi i (v ∷ vs) = ap (λ l. digits v ++ (end_of w i ∷ l)) (text_grid w hi (i + 1) vs)

pub grid_length_lem : (w i : ℕ) (vs : List ℕ) → length (grid_text w i vs) ≡ grid_length vs
grid_length_lem w i [] = refl
grid_length_lem w i (v ∷ vs) =
    let h = grid_length_lem w (i + 1) vs in
    let l = length-append (digits v) (end_of w i ∷ grid_text w (i + 1) vs) in
    omega arith

-- ---- by rows: value k of row r
end_last : (w r k : ℕ) → k + 1 ≡ w → end_of w (r * w + k) ≡ line_end
end_last w r k h =
    let e : (r * w + k + 1) % w ≡ 0 = rw add_assoc (mul-add-mod_self_right r w (k + 1) ∙ rw h (mod_self w)) in
    rw (eq-eqb ((r * w + k + 1) % w) 0 e)

end_inner : (w r k : ℕ) → k + 1 < w → end_of w (r * w + k) ≡ space
end_inner w r k h =
    let e : (r * w + k + 1) % w ≡ k + 1 = rw add_assoc (mul-add-mod_self_right r w (k + 1) ∙ mod-eq_of_lt h) in
    rw (ne_eqb ((r * w + k + 1) % w) 0 (λ z. omega arith))

row_from : (w r : ℕ) (t : List ℕ) (k v : ℕ) (rest : List ℕ) → k + suc (length t) ≡ w
    → grid_text w (r * w + k) ((v ∷ t) ++ rest) ≡ row (v ∷ t) ++ grid_text w (r * w + w) rest
row_from w r [] k v rest h =
    let e : r * w + k + 1 ≡ r * w + w = omega arith in
    rw (end_last w r k (omega arith), e) (sym (append_assoc (digits v) (line_end ∷ []) (grid_text w (r * w + w) rest)))
row_from w r (u ∷ t) k v rest h =
    let e : r * w + k + 1 ≡ r * w + (k + 1) = omega arith in
    rw (end_inner w r k (omega arith))
    (ap (λ i. digits v ++ (space ∷ grid_text w i ((u ∷ t) ++ rest))) e
    ∙ ap (λ l. digits v ++ (space ∷ l)) (row_from w r t (k + 1) u rest (omega arith))
    ∙ sym (append_assoc (digits v) (space ∷ row (u ∷ t)) (grid_text w (r * w + w) rest)))

row_at : (w r : ℕ) (t rest : List ℕ) → 1 ≤ w → length t ≡ w
    → grid_text w (r * w) (t ++ rest) ≡ row t ++ grid_text w (r * w + w) rest
row_at w r [] rest h e = absurd (omega arith)
row_at w r (v ∷ t) rest h e =
    let z : r * w ≡ r * w + 0 = omega arith in
    ap (λ i. grid_text w i ((v ∷ t) ++ rest)) z ∙ row_from w r t 0 v rest (omega arith)

rows_from : (w : ℕ) → 1 ≤ w → (h r : ℕ) (vs : List ℕ) → length vs ≡ h * w → grid_text w (r * w) vs ≡ rows w h vs
rows_from w p zero r [] e = refl
rows_from w p zero r (x ∷ xs) e = absurd (omega arith)
rows_from w p (suc h) r vs e =
    let m = suc-mul h w in
    let t : length (take w vs) ≡ w = length-take-le w vs (omega arith) in
    let d : length (drop w vs) ≡ h * w = length-drop w vs ∙ omega arith in
    ap (grid_text w (r * w)) (sym (take-append-drop w vs))
    ∙ row_at w r (take w vs) (drop w vs) p t
    ∙ ap (λ l. row (take w vs) ++ l)
    (ap (λ i. grid_text w i (drop w vs)) (sym (suc-mul r w)) ∙ rows_from w p h (suc r) (drop w vs) d)

-- the text of h rows of w values is its rows
pub rows_grid : (w h : ℕ) (vs : List ℕ) → 1 ≤ w → length vs ≡ h * w → grid_text w 0 vs ≡ rows w h vs
rows_grid w h vs p e =
    let z : 0 ≡ 0 * w = omega arith in
    ap (λ i. grid_text w i vs) z ∙ rows_from w p h 0 vs e
