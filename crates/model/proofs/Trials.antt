-- Laws of the trials of a scan: what is weighed at a cell, and how many trials that makes.
--   weighed_all, weighed_until  all where none lowers E; else those up to and with the first that does
--   all_weighed, weighed_to_accepted  the same by what a change does to E
--   weighed_few                 no more than are attempted
--   trials_next                 one cell more
--   scan_trials                 a scan answers those at all cells
--   toggle_trials, toggle_counts  those of a toggle scan are the unlocked cells
--   toggle_few, swap_few        how many there are at most
use mathlib.Core.Bool.{Bool, true, false, not}
use mathlib.Core.List.{List, [], ◌∷◌, ◌++◌}
use mathlib.Core.Path.{◌≡◌, refl, sym, ◌∙◌, ap, subst}
use Prim.Native.Nat.{ℕ, suc, ◌+◌, ◌*◌, ◌-◌, ◌≤◌}
use native.Mathlib.Nat.{le_refl, le_trans, mul_comm}
use native.Mathlib.Omega.{arith}
use lib.Dec.{lit≤}
use lib.IntN.{ℤ, pos}
use lib.ListN.{length}
use lib.Signed.{◌<ℤ◌}
use Rattle.model.specs.Basic.{All, pick, one_if, tabulate}
use Rattle.model.specs.Change.{Move, toggle, change, lowers, Look, look_from, look}
use Rattle.model.specs.Error.{Target, cells}
use Rattle.model.specs.Lock.{locked}
use Rattle.model.specs.Partners.{offsets}
use Rattle.model.specs.Psf.{total}
use Rattle.model.specs.Reference.{Reference}
use Rattle.model.specs.Scan.{Rule, toggles, swaps, sweep_to, trials_at, trials_to, scan}
use Rattle.model.proofs.Basic.{pick_cases}
use Rattle.model.proofs.Scan.{Calm, all_map}
use Rattle.model.proofs.Square.{swaps_few, offsets_long}
use Rattle.model.proofs.State.{not_below, is_below}
use Rattle.model.proofs.Tables.{total_tabulate}
use Rattle.model.proofs.Totals.{total_same, total_most}

module _ (t : Target) (dots : List ℕ) where
  -- it does not lower E
  abbrev pub Declined : Move → Type 0
  Declined v = lowers t dots v ≡ false

  calm : (l : List Move) → All (Calm t dots) l → All Declined l
  calm = all_map (λ v h. not_below (change t dots v) (pos 0) h)

  -- ---- what is weighed
  module _ (z : ℤ) (v : Move) (l : List Move) where
    abbrev rest : Look
    rest = look_from t dots (change t dots v) l

    weighed_step : (look_from t dots z (v ∷ l)).weighed ≡ v ∷ pick (lowers t dots v) [] rest.weighed
    unfolding look_from
    weighed_step = pick_cases Weighs (lowers t dots v)
        (λ e. ap (λ b. v ∷ pick b [] rest.weighed) (sym e)) (λ e. ap (λ b. v ∷ pick b [] rest.weighed) (sym e))
      where
        Weighs : Look → Type 0
        Weighs k = k.weighed ≡ v ∷ pick (lowers t dots v) [] rest.weighed

  -- all of them, where none lowers E
  pub weighed_all : (z : ℤ) (l : List Move) → All Declined l → (look_from t dots z l).weighed ≡ l
  unfolding look_from
  weighed_all z [] a = refl
  weighed_all z (v ∷ l) a =
      weighed_step z v l
      ∙ ap (λ b. v ∷ pick b [] (rest z v l).weighed) a.0
      ∙ ap (λ k. v ∷ k) (weighed_all (change t dots v) l a.1)

  -- else those up to and with the first that does
  pub weighed_until : (z : ℤ) (a : List Move) (v : Move) (b : List Move) → All Declined a → lowers t dots v ≡ true
      → (look_from t dots z (a ++ (v ∷ b))).weighed ≡ a ++ (v ∷ [])
  weighed_until z [] v b n e = weighed_step z v b ∙ ap (λ c. v ∷ pick c [] (rest z v b).weighed) e
  weighed_until z (w ∷ a) v b n e =
      weighed_step z w (a ++ (v ∷ b))
      ∙ ap (λ c. w ∷ pick c [] (rest z w (a ++ (v ∷ b))).weighed) n.0
      ∙ ap (λ k. w ∷ k) (weighed_until (change t dots w) a v b n.1 e)

  -- the same by what a change does to E
  pub all_weighed : (l : List Move) → All (Calm t dots) l → (look t dots l).weighed ≡ l
  all_weighed l a = weighed_all (pos 0) l (calm l a)

  pub weighed_to_accepted : (a : List Move) (v : Move) (b : List Move) → All (Calm t dots) a → change t dots v <ℤ pos 0
      → (look t dots (a ++ (v ∷ b))).weighed ≡ a ++ (v ∷ [])
  weighed_to_accepted a v b c h = weighed_until (pos 0) a v b (calm a c) (is_below h)

  -- and never more than are attempted
  pub weighed_few : (z : ℤ) (l : List Move) → length (look_from t dots z l).weighed ≤ length l
  unfolding look_from
  weighed_few z [] = le_refl 0
  weighed_few z (v ∷ l) =
      subst (λ k. length k ≤ suc (length l)) (sym (weighed_step z v l))
      (go (lowers t dots v) (weighed_few (change t dots v) l))
    where
      go : (b : Bool) → length (rest z v l).weighed ≤ length l
          → suc (length (pick b [] (rest z v l).weighed)) ≤ suc (length l)
      go true h = omega arith
      go false h = omega arith

-- ---- how many trials that makes
module _ (t : Target) (rule : Rule) (p : Reference) where
  -- a scan answers those at all cells
  pub scan_trials : (scan t rule p).answer.trials ≡ trials_to t rule p (cells t)
  unfolding scan
  scan_trials = refl

  -- one cell more
  pub trials_next : (n : ℕ) → trials_to t rule p (suc n) ≡ trials_to t rule p n + trials_at t rule p n
  trials_next n = total_tabulate n (trials_at t rule p)

  -- at most k where at most k are attempted
  pub trials_few : (k : ℕ) → ((dots : List ℕ) (m : ℕ) → length (rule dots m) ≤ k) → (n : ℕ)
      → trials_to t rule p n ≤ n * k
  unfolding trials_at
  trials_few k h n =
      total_most n k (trials_at t rule p) (λ m l.
      let dots = (sweep_to t rule p m).after.dots in le_trans (weighed_few t dots (pos 0) (rule dots m)) (h dots m))

module _ (t : Target) (p : Reference) where
  -- a toggle scan makes one at each unlocked cell
  toggled : (dots : List ℕ) (m : ℕ) → length (look t dots (toggles t dots m)).weighed ≡ one_if (not (locked t.gray m))
  unfolding toggles look_from
  toggled dots m =
      pick_cases (λ l. length (look t dots l).weighed ≡ one_if (not (locked t.gray m))) (locked t.gray m)
      (λ e. ap (λ b. one_if (not b)) (sym e))
      (λ e.
      ap length (weighed_step t dots (pos 0) (toggle dots m) [])
      ∙ one (lowers t dots (toggle dots m))
      ∙ ap (λ b. one_if (not b)) (sym e))
    where
      one : (b : Bool) → suc (length (pick b [] (rest t dots (pos 0) (toggle dots m) []).weighed)) ≡ 1
      one true = refl
      one false = refl

  pub toggle_trials : (n : ℕ) → trials_to t (toggles t) p n ≡ total (tabulate n (λ m. one_if (not (locked t.gray m))))
  unfolding trials_at
  toggle_trials n = total_same n (λ m l. toggled (sweep_to t (toggles t) p m).after.dots m)

  pub toggle_counts : (scan t (toggles t) p).answer.trials ≡ total (tabulate (cells t) (λ m. one_if (not (locked t.gray m))))
  toggle_counts = scan_trials t (toggles t) p ∙ toggle_trials (cells t)

  -- how many there are at most
  pub toggle_few : (scan t (toggles t) p).answer.trials ≤ t.width * t.height
  unfolding toggles
  toggle_few =
      omega (arith, scan_trials t (toggles t) p, trials_few t (toggles t) p 1 few (cells t), mul_comm t.height t.width)
    where
      few : (dots : List ℕ) (m : ℕ) → length (toggles t dots m) ≤ 1
      few dots m = pick_cases (λ (l : List Move). length l ≤ 1) (locked t.gray m) (λ e. lit≤ tt) (λ e. le_refl 1)

  pub swap_few : (reach : ℕ)
      → (scan t (swaps t reach) p).answer.trials ≤ t.width * t.height * ((2 * reach + 1) * (2 * reach + 1) - 1)
  swap_few reach =
      let all : (2 * reach + 1) * (2 * reach + 1) - 1 ≡ length (offsets reach) = omega (arith, offsets_long reach) in
      rw (all, mul_comm t.width t.height, scan_trials t (swaps t reach) p)
      (trials_few t (swaps t reach) p (length (offsets reach)) (swaps_few t reach) (cells t))
