-- The ledger that a call answers can be stored: later calls accept it, so its counts are few.
--   start_storable                            that of a start
--   toggle_storable, swap_storable            of an attempt
--   toggle_scan_storable, swap_scan_storable  of a scan
--   converge_storable                         of a settling
use mathlib.Core.List.{List}
use mathlib.Core.Path.{◌≡◌, refl}
use Prim.Native.Nat.{ℕ, zero, suc}
use native.Mathlib.Omega.{arith}
use lib.IntN.{ℤ}
use lib.ListN.{length}
use Rattle.model.specs.declared.Measures.{Measures}
use Rattle.model.specs.declared.Stats.{Stats}
use Rattle.model.specs.Basic.{AtMost}
use Rattle.model.specs.Error.{Target, target_for}
use Rattle.model.specs.Refusal.{start_refusal}
use Rattle.model.specs.Screen.{start_dots}
use Rattle.model.specs.State.{LaterFits, later_refusal, toggle_refusal, swap_refusal}
use Rattle.model.specs.Reference.{Tried, accepted, declined, Performed}
use Rattle.model.specs.Calls.{result, unless, with_table, start_call, later_call}
use Rattle.model.specs.Calls.{toggle_call, swap_call, toggle_scan_call, swap_scan_call, converge_call}
use Rattle.model.specs.Lists.{Call, toggle_at, swap_at, toggle_scan, swap_scan, convergence}
use Rattle.model.specs.Lists.{Result, tried, swept, rested, Held, latest, answering, call}
use Rattle.model.specs.Ledger.{fresh_stats}
use Rattle.model.proofs.Halftone.{few_cells}
use Rattle.model.proofs.Later.{later_enters, toggle_enters, swap_enters}
use Rattle.model.proofs.Lists.{call_later}
use Rattle.model.proofs.Start.{start_later}
use Rattle.platemaker_numbers.specs.Storable.{Storable, Holds, TriedStorable}

-- a ledger that later calls accept
module _ (m : Measures) (psf gray dots : List ℕ) (table : List ℤ) (s : Stats) where
  storable : LaterFits m psf gray dots table s → Storable s
  storable f =
      let k = f.state in
      let most = few_cells f.plate.halftone in (
        omega (arith, k.dots_fit, most),
        omega (arith, k.on_few),
        omega (arith, k.off_few),
        omega (arith, k.swaps_few),
      )

-- a start's
pub start_storable : (m : Measures) (psf gray dots : List ℕ) (table : List ℤ) → AtMost 255 gray
    → Holds Storable (start_call m psf gray dots table).reply
unfolding start_call
start_storable m psf gray dots table bytes = go (start_refusal m psf gray dots (length table)) refl
  where
    t : Target
    t = target_for m psf gray

    begun : List ℕ
    begun = start_dots m gray dots

    go : (n : ℕ) → start_refusal m psf gray dots (length table) ≡ n
        → Holds Storable (unless n (record { dots = dots; table = table })
        (record { reply = result (fresh_stats t begun); left = with_table t begun })).reply
    go zero e = storable m psf gray _ _ _ (start_later m psf gray dots (length table) bytes e)
    go (suc n) e = tt

module _ (m : Measures) (psf gray dots : List ℕ) (table : List ℤ) (s : Stats) where
  abbrev h : Held
  h = record { dots = dots; table = table; stats = s }

  -- a later call's, by the ledger that is in use after it
  by_latest : {A : Type 0} (k : A → Result) (P : A → Type 0)
      → ((a : A) → Storable (latest s (result (k a))) → P a)
      → (number : ℕ) (t : Target) (done : Performed A)
      → (number ≡ 0 → Storable (latest s (answering k (later_call number t dots table done).reply)))
      → Holds P (later_call number t dots table done).reply
  unfolding later_call
  by_latest k P w zero t done e = w done.answer (e refl)
  by_latest k P w (suc n) t done e = tt

  after_call : (c : Call) → LaterFits m psf gray dots table s
      → Storable (latest s (call m psf gray h c).reply)
  after_call c f = storable m psf gray _ _ _ (call_later m psf gray h c f)

  tried_storable : (a : Tried) → Storable (latest s (result (tried a))) → TriedStorable a
  tried_storable (accepted s' d) w = w
  tried_storable (declined d) w = tt

  pub toggle_storable : (row col : ℕ) → Holds TriedStorable (toggle_call m psf gray dots table s row col).reply
  unfolding toggle_call
  toggle_storable row col =
      by_latest tried TriedStorable tried_storable (toggle_refusal m psf gray dots table s row col) _ _
      (λ z. after_call (toggle_at row col) (toggle_enters m psf gray dots table s row col z).0)

  pub swap_storable : (row col row' col' : ℕ)
      → Holds TriedStorable (swap_call m psf gray dots table s row col row' col').reply
  unfolding swap_call
  swap_storable row col row' col' =
      by_latest tried TriedStorable tried_storable (swap_refusal m psf gray dots table s row col row' col') _ _
      (λ z. after_call (swap_at row col row' col') (swap_enters m psf gray dots table s row col row' col' z).0)

  pub toggle_scan_storable : Holds (λ r. Storable r.stats) (toggle_scan_call m psf gray dots table s).reply
  unfolding toggle_scan_call
  toggle_scan_storable =
      by_latest swept _ (λ a w. w) (later_refusal m psf gray dots table s) _ _
      (λ z. after_call toggle_scan (later_enters m psf gray dots table s z))

  pub swap_scan_storable : Holds (λ r. Storable r.stats) (swap_scan_call m psf gray dots table s).reply
  unfolding swap_scan_call
  swap_scan_storable =
      by_latest swept _ (λ a w. w) (later_refusal m psf gray dots table s) _ _
      (λ z. after_call swap_scan (later_enters m psf gray dots table s z))

  pub converge_storable : Holds (λ r. Storable r.stats) (converge_call m psf gray dots table s).reply
  unfolding converge_call
  converge_storable =
      by_latest rested _ (λ a w. w) (later_refusal m psf gray dots table s) _ _
      (λ z. after_call convergence (later_enters m psf gray dots table s z))
