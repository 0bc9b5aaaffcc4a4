-- What the reader has not seen does not matter (`parse_local`): texts with the same bytes up to and with the place
-- where it stops are read alike, unless with refusal 11, which may rest on digits further on.
use mathlib.Core.Path.{◌≡◌, refl, ◌∙◌, ap, sym}
use mathlib.Core.Bool.{Bool, true, false, ◌&&◌}
use mathlib.Core.Logic.{◌⊎◌, inl, inr}
use mathlib.Core.List.{List, [], ◌∷◌, ◌++◌}
use Prim.Native.Nat.{ℕ, suc, ◌+◌, ◌≤◌, ◌<◌}
use native.Mathlib.Omega.{arith}
use borrow.Author.Tests.{lt-ltb}
use lib.Dec.{leb, ltb, eqb}
use lib.ListN.{length, get_or, drop, length-append, length-drop, get_or-append}
use lib.Seq.{drop-append-le}
use Rattle.model.specs.Format.{Field}
use Rattle.model.specs.declared.Item.{Item}
use Rattle.model.specs.declared.Item.TheVariants.{Word, Number, LineEnd, Other}
use Rattle.model.specs.Format.{Place}
use Rattle.model.specs.Text.{Run}
use Rattle.model.specs.declared.Step.{Step}
use Rattle.model.specs.Basic.{pick}
use Rattle.model.specs.Text.{is_letter, is_digit, grow_to, run_to, number_step, item_to}
use Rattle.model.specs.Format.{Part, fixed, number, is_at, fixed_at, field, field_by, limit_of, field_at, Parsed}
use Rattle.model.specs.Format.{parsed, parse}
use Rattle.model.proofs.Basic.{zero_cases, pick_cong}
use Rattle.model.proofs.Text.{run_end}
use Rattle.model.proofs.Format.{Good}
use Rattle.model.proofs.Agrees.{fixed_agrees, field_agrees, parse_rises}

-- two texts that begin with q
module _ (q t t' : List ℕ) where
  -- a byte, and fixed bytes
  byte_local : (b k : ℕ) → k < length q → is_at b (q ++ t) k ≡ is_at b (q ++ t') k
  byte_local b k h = side t ∙ sym (side t')
    where
      side : (r : List ℕ) → is_at b (q ++ r) k ≡ eqb (get_or q k 0) b
      side r =
          let l : k < length (q ++ r) = rw (length-append q r) (omega arith) in
          rw (lt-ltb k (length (q ++ r)) l, get_or-append q r 0 k h)

  fixed_local : (bs : List ℕ) (at : ℕ) → (fixed_at bs (q ++ t) at).at < length q
      → fixed_at bs (q ++ t) at ≡ fixed_at bs (q ++ t') at
  fixed_local [] at h = refl
  fixed_local (b ∷ bs) at h = go (is_at b (q ++ t) at) refl (fixed_local bs (at + 1))
    where
      same : is_at b (q ++ t) at ≡ is_at b (q ++ t') at
      same = byte_local b at (omega (arith, (fixed_agrees (b ∷ bs) (q ++ t) at).rises))

      go : (a : Bool) → is_at b (q ++ t) at ≡ a
          → ((fixed_at bs (q ++ t) (at + 1)).at < length q → fixed_at bs (q ++ t) (at + 1) ≡ fixed_at bs (q ++ t') (at + 1))
          → fixed_at (b ∷ bs) (q ++ t) at ≡ fixed_at (b ∷ bs) (q ++ t') at
      go true e ih = rw (← same, e) (ih (rw e at h))
      go false e ih = rw (← same, e)

  -- a run of digits: the same in both, or in both up to n at least
  abbrev Runs : ℕ → Run → Run → Type 0
  Runs n r r' = (r ≡ r') ⊎ ((n ≤ r.end) × (n ≤ r'.end))

  run_local : (limit : ℕ) (u : List ℕ) (v i : ℕ)
      → Runs (i + length u) (run_to limit v i (u ++ t)) (run_to limit v i (u ++ t'))
  run_local limit [] v i = inr (omega (arith, run_end limit t v i), omega (arith, run_end limit t' v i))
  run_local limit (x ∷ u) v i = go (is_digit x) refl (run_local limit u (grow_to limit v x) (i + 1))
    where
      l : i + 1 + length u ≡ i + suc (length u)
      l = omega arith

      w : ℕ
      w = grow_to limit v x

      go : (b : Bool) → is_digit x ≡ b
          → Runs (i + 1 + length u) (run_to limit w (i + 1) (u ++ t)) (run_to limit w (i + 1) (u ++ t'))
          → Runs (i + length (x ∷ u)) (run_to limit v i (x ∷ u ++ t)) (run_to limit v i (x ∷ u ++ t'))
      go true e ih = rw (e, ← l) ih
      go false e ih = rw e (inl refl)

  module _ (lo hi end : ℕ) where
    -- what its digits are read under
    abbrev limit : ℕ
    limit = limit_of hi

    -- the number of a field, by an item
    abbrev field_of : List ℕ → Step → Field
    field_of s st = field_by lo hi end s st.item st.at st.next

    -- all that decides stands within q
    abbrev Saw : Field → Type 0
    Saw f = (f.refusal ≡ 11 → ⊥) × (f.at < length q)

    -- and so does the end of a number
    number_saw : (v o e : ℕ) → Saw (field_by lo hi end (q ++ t) (Number v) o e) → e < length q
    number_saw v o e = go (leb lo v && leb v hi) (is_at end (q ++ t) e)
      where
        go : (a b : Bool) → Saw (pick a (pick b (field 0 (e + 1) v) (field 10 e 0)) (field 11 o 0)) → e < length q
        go true true (n, h) = omega arith
        go true false (n, h) = h
        go false b (n, h) = absurd (n refl)

    item_local : (i : Item) (o e : ℕ) → Saw (field_by lo hi end (q ++ t) i o e)
        → field_by lo hi end (q ++ t) i o e ≡ field_by lo hi end (q ++ t') i o e
    item_local Word o e h = refl
    item_local LineEnd o e h = refl
    item_local Other o e h = refl
    item_local (Number v) o e h = rw (byte_local end e (number_saw v o e h))

    -- a number, by its two runs
    number_local : (at x : ℕ) (r r' : Run) → Runs (length q) r r'
        → Saw (field_of (q ++ t) (number_step at x r))
        → field_of (q ++ t) (number_step at x r) ≡ field_of (q ++ t') (number_step at x r')
    number_local at x r r' (inl e) h =
        let n = number_step at x r in
        item_local n.item n.at n.next h ∙ ap (λ (k : Run). field_of (q ++ t') (number_step at x k)) e
    number_local at x r r' (inr (l, l')) h = go (eqb x 48) refl (ltb (at + 1) r.end) refl
      where
        go : (a : Bool) → eqb x 48 ≡ a → (b : Bool) → ltb (at + 1) r.end ≡ b
            → field_of (q ++ t) (number_step at x r) ≡ field_of (q ++ t') (number_step at x r')
        go true e true f =
            let s : at + 1 < length q = rw (e, f) at h.1 in
            rw (e, f, lt-ltb (at + 1) r'.end (omega arith))
        go true e false f = absurd (omega (arith, number_saw r.value at r.end (rw (e, f) at h)))
        go false e b f = absurd (omega (arith, number_saw r.value at r.end (rw e at h)))

    -- any item
    digit_item : (at x : ℕ) (xs : List ℕ) → is_letter x ≡ false → is_digit x ≡ true
        → item_to limit at (x ∷ xs) ≡ number_step at x (run_to limit 0 at (x ∷ xs))
    digit_item at x xs a b = rw (a, b)

    from_local : (at : ℕ) (u : List ℕ) → at + length u ≡ length q → at < length q
        → Saw (field_of (q ++ t) (item_to limit at (u ++ t)))
        → field_of (q ++ t) (item_to limit at (u ++ t)) ≡ field_of (q ++ t') (item_to limit at (u ++ t'))
    from_local at [] l h k = absurd (omega arith)
    from_local at (x ∷ u) l h k = go (is_letter x) refl (is_digit x) refl (eqb x 10) refl
      where
        go : (a : Bool) → is_letter x ≡ a → (b : Bool) → is_digit x ≡ b → (d : Bool) → eqb x 10 ≡ d
            → field_of (q ++ t) (item_to limit at (x ∷ u ++ t)) ≡ field_of (q ++ t') (item_to limit at (x ∷ u ++ t'))
        go true e b f d g = rw e
        go false e true f d g =
            let s = digit_item at x (u ++ t) e f in
            let s' = digit_item at x (u ++ t') e f in
            rw (s, s') (number_local at x _ _ (rw l at (run_local limit (x ∷ u) 0 at)) (rw s at k))
        go false e false f true g = rw (e, f, g)
        go false e false f false g = rw (e, f, g)

    field_local : (at : ℕ) → Saw (field_at lo hi end (q ++ t) at)
        → field_at lo hi end (q ++ t) at ≡ field_at lo hi end (q ++ t') at
    unfolding field_at
    field_local at h =
        let (v, r, _, _) = field_agrees lo hi end (q ++ t) at in
        let a : at < length q = omega (arith, r.rises, h.1) in
        let s = drop-append-le at q t (omega arith) in
        let s' = drop-append-le at q t' (omega arith) in
        let l : at + length (drop at q) ≡ length q = rw (length-drop at q) (omega arith) in
        rw (s, s') (from_local at (drop at q) l a (rw s at h))

  -- parts
  pub parse_local : (ps : List Part) → Good ps → (at : ℕ) → ((parse ps (q ++ t) at).refusal ≡ 11 → ⊥)
      → (parse ps (q ++ t) at).at < length q → parse ps (q ++ t) at ≡ parse ps (q ++ t') at
  parse_local [] g at n h = refl
  parse_local (fixed bs ∷ ps) g at n h =
      rw (← fixed_local bs at before)
      (pick_cong (eqb p.refusal 0) (λ e. parse_local ps g p.at (rw e at n) (rw e at h)) (λ e. refl))
    where
      p : Place
      p = fixed_at bs (q ++ t) at

      before : p.at < length q
      before =
          zero_cases (λ (r : Parsed). r.at < length q → p.at < length q) p.refusal
          (λ z k. omega (arith, parse_rises ps g (q ++ t) p.at)) (λ z k. k) h
  parse_local (number lo hi end ∷ ps) g at n h =
      rw (← field_local lo hi end at saw)
      (pick_cong (eqb f.refusal 0) (λ e.
      ap (λ (r : Parsed). parsed r.refusal r.at (f.value ∷ r.values))
      (parse_local ps g.1 f.at (rw e at n) (rw e at h))) (λ e. refl))
    where
      f : Field
      f = field_at lo hi end (q ++ t) at

      saw : Saw lo hi end f
      saw =
          zero_cases (λ (r : Parsed). (r.refusal ≡ 11 → ⊥) → r.at < length q → Saw lo hi end f) f.refusal
          (λ z m k. (λ y. omega arith, omega (arith, parse_rises ps g.1 (q ++ t) f.at))) (λ z m k. (m, k)) n h
