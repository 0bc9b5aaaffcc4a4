-- The refusal that decides (`Leftmost`, specs/SheetRefusal.antt), for texts of any kind and a reader of them.
--   Beginnings                          texts, and the bytes that can begin one
--   stops_no_text, stops_right          where no text goes on: it is none, and what begins one ends there or before
--   stops_no_number                     and no number of a text stands there
--   reader_stops                        no text goes on where a reader refuses with 10, whatever follows
--   Decides                             a reader's refusal, and all that is drawn
--   nothing_drawn                       where nothing is refused nothing is drawn
--   decides_leftmost, leftmost_decides  a reader's refusal is the leftmost that is drawn, and the other way
use mathlib.Core.Path.{◌≡◌, refl, ◌∙◌, ap, sym, subst}
use mathlib.Core.Logic.{◌⊎◌, inl, inr, ⊎_elim}
use mathlib.Core.List.{List, [], ◌∷◌, ◌++◌, append_assoc}
use Prim.Native.Nat.{ℕ, zero, suc, ◌+◌, ◌≤◌, ◌<◌}
use native.Mathlib.Decide.{ℕ_discrete, dec_lt}
use native.Mathlib.Omega.{arith}
use lib.ListN.{length, take, drop, length-append, take-append-drop}
use lib.Seq.{take_at, length-take-le}
use Rattle.model.specs.Text.{digits}
use Rattle.model.specs.SheetRefusal.{Leftmost}
use Rattle.model.proofs.Text.{digits_some}

-- ---- the beginnings of texts
pub record Beginnings (IsText Begins : List ℕ → Type 0) : Type 0 where
  pub goes_on : (q : List ℕ) → Begins q → (rest : List ℕ) × IsText (q ++ rest)
  pub begins : (q rest : List ℕ) → IsText (q ++ rest) → Begins q

-- a byte that no text could have there, or the end where it comes too early
abbrev pub StopsHere : (IsText Begins : List ℕ → Type 0) (b : List ℕ) (at : ℕ) → Type 0
StopsHere IsText Begins b at =
    ((at < length b) × (Begins (take (at + 1) b) → ⊥)) ⊎ ((at ≡ length b) × (IsText b → ⊥))

take_less : (k n : ℕ) (b : List ℕ) → k ≤ n → (r : List ℕ) × (take n b ≡ take k b ++ r)
take_less zero n b h = (take n b, refl)
take_less (suc k) zero b h = absurd (omega arith)
take_less (suc k) (suc n) [] h = ([], refl)
take_less (suc k) (suc n) (x ∷ b) h =
    let (r, e) = take_less k n b (omega arith) in (r, ap (λ l. x ∷ l) e)

module _ {IsText Begins : List ℕ → Type 0} (w : Beginnings IsText Begins) (b : List ℕ) where
  begins_before : (k n : ℕ) → k ≤ n → Begins (take n b) → Begins (take k b)
  begins_before k n h f =
      let (r, e) = take_less k n b h in
      let (rest, t) = w.goes_on (take n b) f in
      w.begins (take k b) (r ++ rest)
      (subst IsText (ap (λ l. l ++ rest) e ∙ append_assoc (take k b) r rest) t)

  -- it is no text
  pub stops_no_text : {o : ℕ} → StopsHere IsText Begins b o → IsText b → ⊥
  stops_no_text {o} (inl h) t =
      h.1 (w.begins (take (o + 1) b) (drop (o + 1) b) (subst IsText (sym (take-append-drop (o + 1) b)) t))
  stops_no_text {o} (inr h) t = h.1 t

  -- what begins one ends there or before
  pub stops_right : {o : ℕ} (k : ℕ) → k ≤ length b → Begins (take k b) → StopsHere IsText Begins b o → k ≤ o
  stops_right {o} k l f (inl h) = go (dec_lt o k)
    where
      go : Dec (o < k) → k ≤ o
      go (yes j) = absurd (h.1 (begins_before (o + 1) k (omega arith) f))
      go (no j) = omega arith
  stops_right {o} k l f (inr h) = omega arith

  -- where a number of a text stands, that text goes on
  pub stops_no_number : {o : ℕ} (before : List ℕ) (v : ℕ) (rest : List ℕ) → b ≡ before ++ (digits v ++ rest)
      → o ≡ length before → Begins (before ++ digits v) → StopsHere IsText Begins b o → ⊥
  stops_no_number {o} before v rest e p f =
      let q = before ++ digits v in
      let some = digits_some v in
      let l : length q ≡ length before + length (digits v) = length-append before (digits v) in
      let e' : b ≡ q ++ rest = e ∙ sym (append_assoc before (digits v) rest) in
      let t : take (length q) b ≡ q = ap (take (length q)) e' ∙ take_at q rest (length q) refl in
      ⊎_elim (λ h. h.1 (begins_before (o + 1) (length q) (omega arith) (subst Begins (sym t) f)))
      (λ h. omega (arith, h.0, ap length e', length-append q rest))

  -- a reader refuses alike whatever it has not seen, unless with 11, and refuses no text with 10
  pub reader_stops : {A : Type 0} (read : List ℕ → A) (refusal at : A → ℕ)
      → ((q t t' : List ℕ) → (refusal (read (q ++ t)) ≡ 11 → ⊥) → at (read (q ++ t)) < length q
      → read (q ++ t) ≡ read (q ++ t'))
      → ((t : List ℕ) → IsText t → refusal (read t) ≡ 10 → ⊥)
      → at (read b) ≤ length b → refusal (read b) ≡ 10 → StopsHere IsText Begins b (at (read b))
  reader_stops {A} read refusal at local never l z = go (dec_lt o (length b))
    where
      o : ℕ
      o = at (read b)

      go : Dec (at (read b) < length b) → StopsHere IsText Begins b (at (read b))
      go (yes h) = inl (h, λ f. stopped (w.goes_on q f))
        where
          q : List ℕ
          q = take (o + 1) b

          t : List ℕ
          t = drop (o + 1) b

          long : length q ≡ o + 1
          long = length-take-le (o + 1) b (omega arith)

          same : read (q ++ t) ≡ read b
          same = ap read (take-append-drop (o + 1) b)

          stopped : (rest : List ℕ) × IsText (q ++ rest) → ⊥
          stopped (rest, x) =
              let i : at (read (q ++ t)) ≡ o = ap at same in
              let n : refusal (read (q ++ t)) ≡ 10 = ap refusal same ∙ z in
              never (q ++ rest) x
              (sym (ap refusal (local q t rest (λ y. omega arith) (omega (arith, long)))) ∙ n)
      go (no h) = inr (omega arith, λ x. never b x z)

-- ---- the leftmost refusal
-- 10, 11 and 12 are drawn at places; a reader's refusal is drawn at its place, and nothing to the left of it
pub record Decides (Stops Outside Short : ℕ → Type 0) (refusal at : ℕ) : Type 0 where
  pub draws : (refusal ≡ 0 → ⊥)
      → ((refusal ≡ 10) × Stops at) ⊎ ((refusal ≡ 11) × Outside at) ⊎ ((refusal ≡ 12) × Short at)
  pub on_stops : (o : ℕ) → Stops o → (refusal ≡ 0 → ⊥) × (at ≤ o)
  pub on_outside : (o : ℕ) → Outside o → ((refusal ≡ 11) ⊎ (refusal ≡ 12)) × (at ≤ o)
  pub on_short : (o : ℕ) → Short o → ((refusal ≡ 12) × (at ≡ o)) ⊎ ((refusal ≡ 11) × (at < o))
  pub never_both : (o : ℕ) → Stops o → Outside o → ⊥

module _ {Stops Outside Short : ℕ → Type 0} {r p : ℕ} (d : Decides Stops Outside Short r p) where
  abbrev DrawnAt : (refusal at : ℕ) → Type 0
  DrawnAt n o = ((n ≡ 10) × Stops o) ⊎ ((n ≡ 11) × Outside o) ⊎ ((n ≡ 12) × Short o)

  drawn_right : {n o : ℕ} → DrawnAt n o → p ≤ o
  drawn_right {n} {o} (inl (_, z)) = (d.on_stops o z).1
  drawn_right {n} {o} (inr (inl (_, z))) = (d.on_outside o z).1
  drawn_right {n} {o} (inr (inr (_, z))) =
      ⊎_elim (λ s. omega (arith, s.1)) (λ s. omega (arith, s.1)) (d.on_short o z)

  pub nothing_drawn : r ≡ 0 → (n o : ℕ) → DrawnAt n o → ⊥
  nothing_drawn y n o (inl (_, z)) = (d.on_stops o z).0 y
  nothing_drawn y n o (inr (inl (_, z))) = ⊎_elim (λ e. omega arith) (λ e. omega arith) (d.on_outside o z).0
  nothing_drawn y n o (inr (inr (_, z))) =
      ⊎_elim (λ e. omega (arith, e.0)) (λ e. omega (arith, e.0)) (d.on_short o z)

  -- 12 comes first at the reader's place
  room_first : DrawnAt 12 p → r ≡ 12
  room_first (inl (e, z)) = absurd (omega arith)
  room_first (inr (inl (e, z))) = absurd (omega arith)
  room_first (inr (inr (e, z))) = ⊎_elim (λ s. s.0) (λ s. absurd (omega (arith, s.1))) (d.on_short p z)

  pub decides_leftmost : (n o : ℕ) → (r ≡ n) × (n ≡ 0 → ⊥) × (p ≡ o) → Leftmost DrawnAt n o
  decides_leftmost n o (e, z, q) =
      subst (λ n. Leftmost DrawnAt n o) e (subst (Leftmost DrawnAt r) q (record {
        drawn = d.draws (λ y. z (sym e ∙ y));
        leftmost = λ n o. drawn_right;
        twelve_first = room_first;
      }))

  pub leftmost_decides : (n o : ℕ) → Leftmost DrawnAt n o → (r ≡ n) × (n ≡ 0 → ⊥) × (p ≡ o)
  leftmost_decides n o l = go (ℕ_discrete r 0)
    where
      some : DrawnAt n o → n ≡ 0 → ⊥
      some (inl (e, _)) y = omega arith
      some (inr (inl (e, _))) y = omega arith
      some (inr (inr (e, _))) y = omega arith

      -- two that are drawn at one place, both the leftmost
      same : {k : ℕ} → DrawnAt k o → (DrawnAt 12 o → k ≡ 12) → DrawnAt n o → k ≡ n
      same (inr (inr (e, z))) h x = e ∙ sym (l.twelve_first (inr (inr (refl, z))))
      same (inl (e, z)) h (inl (f, x)) = e ∙ sym f
      same (inl (e, z)) h (inr (inl (f, x))) = absurd (d.never_both o z x)
      same (inl (e, z)) h (inr (inr (f, x))) = h (inr (inr (refl, x))) ∙ sym f
      same (inr (inl (e, z))) h (inl (f, x)) = absurd (d.never_both o x z)
      same (inr (inl (e, z))) h (inr (inl (f, x))) = e ∙ sym f
      same (inr (inl (e, z))) h (inr (inr (f, x))) = h (inr (inr (refl, x))) ∙ sym f

      go : Dec (r ≡ 0) → (r ≡ n) × (n ≡ 0 → ⊥) × (p ≡ o)
      go (yes y) = absurd (nothing_drawn y n o l.drawn)
      go (no y) =
          let w = d.draws y in
          let q : p ≡ o = omega (arith, l.leftmost _ _ w, drawn_right l.drawn) in
          let h = subst (λ x. DrawnAt 12 x → r ≡ 12) q room_first in
          (same (subst (DrawnAt r) q w) h l.drawn, some l.drawn, q)
