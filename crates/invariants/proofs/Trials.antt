-- The trials of a swap scan at one cell: the partners that it does not take are passed over, and the first that it
-- takes ends them.
--   all_failed               where every trial before k failed, those from k on are left
--   failed_still             where every one failed, the cell stays as it was
--   swap_taken               what the scan makes of the first that is taken
--   failed_all, failed_next  the trials that failed, all of them and one more
--   quiet_none, quiet_ahead  cells that take none, and k more
--   failed_weighs            and all of its swaps are weighed
--   takes_weighs             else those before the one that is taken, and that one
use mathlib.Core.Bool.{Bool, true, false, ◌&&◌, and-eq-true_iff}
use mathlib.Core.List.{List, [], ◌∷◌, ◌++◌}
use mathlib.Core.Path.{◌≡◌, refl, sym, ◌∙◌, ap, subst}
use Prim.Native.Nat.{ℕ, zero, suc, ◌+◌, ◌-◌, ◌≤◌, ◌<◌}
use native.Mathlib.Decide.{ℕ_discrete, dec_lt}
use native.Mathlib.Nat.{le_refl, le_of_lt}
use native.Mathlib.Omega.{arith}
use lib.IntN.{pos}
use lib.ListN.{length, get_or, take, drop, length-append}
use lib.Seq.{split_at, get_or-take, length-take-le}
use Rattle.model.specs.declared.Progress.{Progress}
use Rattle.model.specs.Basic.{pick, All}
use Rattle.model.specs.Change.{Move, swap, lowers, look}
use Rattle.model.specs.Error.{Target}
use Rattle.model.specs.Partners.{Offset, offsets, partner}
use Rattle.invariants.specs.Partners.{offset_of, itself, HoldsOffsets}
use Rattle.model.specs.Scan.{Sweep, suits, swaps, swaps_by}
use Rattle.invariants.specs.Trials.{swaps_after, sweep_of, visit, lowers_at, Failed, Takes, Quiet}
use Rattle.invariants.proofs.Loop.{left_none, pass_unsuited, pass_declined, taken}
use Rattle.model.proofs.Scan.{more}
use Rattle.model.proofs.Trials.{Declined, weighed_all, weighed_until}

-- ---- what a scan that has come to r makes of cell m from the k-th offset on
module _ (t : Target) (reach : ℕ) (dots : List ℕ) (r : Progress) (m : ℕ) where
  abbrev left : ℕ → Sweep
  left k = visit t (swaps_after t reach k) dots r m

  abbrev offset : ℕ → Offset
  offset k = get_or (offsets reach) k (offset_of itself)

  -- the partner there is not taken
  passed : (k : ℕ) → k < length (offsets reach) → lowers_at t dots m (offset k) ≡ false → left k ≡ left (suc k)
  passed k h = go (suits t dots m (offset k)) refl
    where
      go : (b : Bool) → suits t dots m (offset k) ≡ b
          → b && lowers t dots (swap dots m (partner t.width m (offset k))) ≡ false
          → left k ≡ left (suc k)
      go false s d = pass_unsuited t reach (sweep_of dots r) m k h s
      go true s d = pass_declined t reach (sweep_of dots r) m k h s d

  -- none before it is taken: what is left is all
  pub all_failed : (k : ℕ) → k ≤ length (offsets reach) → Failed t reach dots m k
      → visit t (swaps_after t reach k) dots r m ≡ visit t (swaps t reach) dots r m
  all_failed zero h f = refl
  all_failed (suc k) h f =
      sym (passed k h (f.each k (le_refl _)))
      ∙ all_failed k (omega arith) (record { each = λ j l. f.each j (omega arith) })

  -- none at all is taken: the scan stays as it is
  pub failed_still : Failed t reach dots m (length (offsets reach)) → visit t (swaps t reach) dots r m ≡ sweep_of dots r
  failed_still f =
      sym (all_failed (length (offsets reach)) (le_refl _) f)
      ∙ left_none t reach (sweep_of dots r) m (length (offsets reach)) (le_refl _)

  -- the partner at cell n is taken
  pub swap_taken : (k : ℕ) → k < length (offsets reach) → {o : Offset} → offset k ≡ o → lowers_at t dots m o ≡ true
      → {n : ℕ} → partner t.width m o ≡ n
      → visit t (swaps_after t reach k) dots r m ≡ more (sweep_of dots r) (swap dots m n)
  swap_taken k h e l there =
      let (suited, lower) = (and-eq-true_iff _ _).0 (subst (λ o. lowers_at t dots m o ≡ true) (sym e) l) in
      taken t reach (sweep_of dots r) m k h suited lower
      ∙ ap (λ i. more (sweep_of dots r) (swap dots m i)) (ap (partner t.width m) e ∙ there)

-- ---- with the offsets as the code holds them
module _ (t : Target) {reach : ℕ} {codes : List ℕ} (held : HoldsOffsets reach codes) (dots : List ℕ) (m : ℕ) where
  -- what a trial that fails shows
  abbrev Fails : ℕ → Type 0
  Fails k = lowers_at t dots m (offset_of (get_or codes k 0)) ≡ false

  known : (k : ℕ) → k < length codes → Fails k → lowers_at t dots m (get_or (offsets reach) k (offset_of itself)) ≡ false
  known k h = subst (λ o. lowers_at t dots m o ≡ false) (sym (held.at k h))

  pub failed_all : ((k : ℕ) → k < length codes → Fails k) → Failed t reach dots m (length codes)
  failed_all fails = record { each = λ k h. known k h (fails k h) }

  -- one more
  pub failed_next : (k : ℕ) → k < length codes → Fails k → Failed t reach dots m k → Failed t reach dots m (k + 1)
  failed_next k h e f = record { each = λ j l. go j (ℕ_discrete j k) l }
    where
      go : (j : ℕ) → Dec (j ≡ k) → j < k + 1 → lowers_at t dots m (get_or (offsets reach) j (offset_of itself)) ≡ false
      go j (yes s) l = rw s (known k h e)
      go j (no s) l = f.each j (omega arith)

-- ---- cells that take none, one after the other
module _ (t : Target) (reach : ℕ) (dots : List ℕ) where
  pub quiet_none : (n : ℕ) → Quiet t reach dots n n
  quiet_none n = record { forward = le_refl n; each = λ m low high. absurd (omega arith) }

  -- k more
  pub quiet_ahead : {from n to k : ℕ} → Quiet t reach dots from n → to ≡ n + k
      → ((j : ℕ) → j < k → Failed t reach dots (n + j) (length (offsets reach)))
      → Quiet t reach dots from to
  quiet_ahead {from} {n} {to} {k} q e fails =
      record { forward = omega (arith, q.forward); each = λ m low high. go m (dec_lt m n) low high }
    where
      go : (m : ℕ) → Dec (m < n) → from ≤ m → m < to → Failed t reach dots m (length (offsets reach))
      go m (yes before) low high = q.each m low before
      go m (no after) low high =
          let there : n + (m - n) ≡ m = omega arith in
          subst (λ m. Failed t reach dots m (length (offsets reach))) there (fails (m - n) (omega arith))

-- ---- what is weighed there
module _ (t : Target) (dots : List ℕ) (m : ℕ) where
  declined_by : (l : List Offset)
      → ((i : ℕ) → i < length l → lowers_at t dots m (get_or l i (offset_of itself)) ≡ false)
      → All (Declined t dots) (swaps_by t l dots m)
  unfolding swaps_by
  declined_by [] f = tt
  declined_by (o ∷ l) f =
      go (suits t dots m o) (f 0 (omega arith)) (declined_by l (λ i h. f (suc i) (omega arith)))
    where
      v : Move
      v = swap dots m (partner t.width m o)

      go : (b : Bool) → b && lowers t dots v ≡ false → All (Declined t dots) (swaps_by t l dots m)
          → All (Declined t dots) (pick b (v ∷ swaps_by t l dots m) (swaps_by t l dots m))
      go true h a = (h, a)
      go false h a = a

  by_parts : (a b : List Offset) → swaps_by t (a ++ b) dots m ≡ swaps_by t a dots m ++ swaps_by t b dots m
  unfolding swaps_by
  by_parts [] b = refl
  by_parts (o ∷ a) b = go (suits t dots m o) (by_parts a b)
    where
      v : Move
      v = swap dots m (partner t.width m o)

      go : (c : Bool) → swaps_by t (a ++ b) dots m ≡ swaps_by t a dots m ++ swaps_by t b dots m
          → pick c (v ∷ swaps_by t (a ++ b) dots m) (swaps_by t (a ++ b) dots m)
          ≡ pick c (v ∷ swaps_by t a dots m) (swaps_by t a dots m) ++ swaps_by t b dots m
      go true e = ap (λ l. v ∷ l) e
      go false e = e

  module _ (reach : ℕ) where
    pub failed_weighs : Failed t reach dots m (length (offsets reach))
        → (look t dots (swaps t reach dots m)).weighed ≡ swaps t reach dots m
    failed_weighs f = weighed_all t dots (pos 0) (swaps t reach dots m) (declined_by (offsets reach) f.each)

    pub takes_weighs : {k : ℕ} → Takes t reach dots m k
        → length (look t dots (swaps t reach dots m)).weighed ≡ length (swaps_by t (take k (offsets reach)) dots m) + 1
    unfolding swaps_by
    takes_weighs {k} f =
        ap (λ l. length (look t dots l).weighed) parts
        ∙ ap length (weighed_until t dots (pos 0) before v others failed suited.1)
        ∙ length-append before (v ∷ [])
      where
        l : List Offset
        l = offsets reach

        o : Offset
        o = get_or l k (offset_of itself)

        v : Move
        v = swap dots m (partner t.width m o)

        before : List Move
        before = swaps_by t (take k l) dots m

        others : List Move
        others = swaps_by t (drop (suc k) l) dots m

        suited : (suits t dots m o ≡ true) × (lowers t dots v ≡ true)
        suited = (and-eq-true_iff _ _).0 f.takes

        parts : swaps t reach dots m ≡ before ++ (v ∷ others)
        parts =
            ap (λ l. swaps_by t l dots m) (split_at l k (offset_of itself) f.listed)
            ∙ by_parts (take k l) (o ∷ drop (suc k) l)
            ∙ ap (λ b. before ++ pick b (v ∷ others) others) suited.0

        failed : All (Declined t dots) before
        failed =
            declined_by (take k l) (λ i h.
            let short : i < k = omega (arith, length-take-le k l (le_of_lt f.listed), h) in
            subst (λ o. lowers_at t dots m o ≡ false) (sym (get_or-take k l i (offset_of itself) short))
            (f.failed.each i short))
