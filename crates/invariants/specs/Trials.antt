-- A scan at one cell, and the trials of a swap scan there: which partner is taken, and that none of the first is; the
-- cells of which none takes a partner, and how many trials are made from one that takes one to the next.
use Rattle.std.specs.Prelude.{Bool, true, false, ◌&&◌, not, List, ◌≡◌, ℕ, ◌+◌, ◌-◌, ◌^◌, ◌≤◌, ◌<◌, eqb, ltb, ℤ, pos, ◌+ℤ◌, ◌-ℤ◌, ◌*ℤ◌, length, get_or, take, drop}
use Rattle.std.specs.Int.Signed.{lt_z}
use Rattle.model.specs.declared.Progress.{Progress}
use Rattle.model.specs.Basic.{pick, tabulate}
use Rattle.model.specs.Change.{sign, swap, lowers}
use Rattle.model.specs.Error.{Target, cells}
use Rattle.model.specs.Lock.{locked}
use Rattle.model.specs.Partners.{Offset, offsets, partner}
use Rattle.model.specs.Psf.{total}
use Rattle.model.specs.Calls.{Reply, result, refused}
use Rattle.model.specs.Reference.{reference, Performed, Tried, accepted, declined}
use Rattle.model.specs.Scan.{Rule, Sweep, suits, swaps_by, swaps, try_each, progress_of}
use Rattle.invariants.specs.Partners.{offset_of, itself}

-- a trial by the table: the dots of m and n are unlike, and s(m) × (T(m) - T(n)) + worth is below 0
abbrev pub lowers_by : (dots : List ℕ) (table : List ℤ) (m n : ℕ) (worth : ℤ) → Bool
lowers_by dots table m n worth =
    not (eqb (get_or dots m 0) (get_or dots n 0))
    && lt_z (sign dots m *ℤ (get_or table m (pos 0) -ℤ get_or table n (pos 0)) +ℤ worth) (pos 0)

-- and neither of them is locked
abbrev pub takes_by : (gray dots : List ℕ) (table : List ℤ) (m n : ℕ) (worth : ℤ) → Bool
takes_by gray dots table m n worth =
    not (locked gray m) && (not (locked gray n) && lowers_by dots table m n worth)

-- what a scan has come to once an attempt has answered
abbrev pub advanced : Progress → Reply Tried → Progress
advanced r (result (accepted s d)) = record { stats = s; changes = r.changes + 1 }
advanced r (result (declined d)) = r
advanced r (refused n k) = r

-- a scan under way, with these dots and the figures of this progress
abbrev pub sweep_of : List ℕ → Progress → Sweep
sweep_of dots r = record { after = reference dots r.stats; changes = r.changes }

module _ (t : Target) where
  -- what a scan under way has done so far
  abbrev pub performed : Sweep → Performed Progress
  performed s = record { answer = progress_of t s; after = s.after }

  -- a scan at cell m, having come to that so far
  abbrev pub visit : Rule → List ℕ → Progress → ℕ → Sweep
  visit rule dots r m = try_each t (sweep_of dots r) (rule dots m)

  -- a swap scan from the k-th offset on
  abbrev pub swaps_after : (reach k : ℕ) → Rule
  swaps_after reach k = swaps_by t (drop k (offsets reach))

  -- the partner at that offset suits, and the swap with it lowers E: cell m takes it
  abbrev pub lowers_at : (dots : List ℕ) (m : ℕ) → Offset → Bool
  lowers_at dots m o = suits t dots m o && lowers t dots (swap dots m (partner t.width m o))

  -- the swaps that a scan weighs at the first n cells of these dots, where it accepts none there
  abbrev pub all_trials : (reach : ℕ) (dots : List ℕ) → ℕ → ℕ
  all_trials reach dots n = total (tabulate n (λ m. length (swaps t reach dots m)))

  -- it takes none at the first k offsets within reach
  pub record Failed (reach : ℕ) (dots : List ℕ) (m k : ℕ) : Type 0 where
    pub each : (j : ℕ) → j < k → lowers_at dots m (get_or (offsets reach) j (offset_of itself)) ≡ false

  -- it takes the partner at the k-th offset, and none before it
  pub record Takes (reach : ℕ) (dots : List ℕ) (m k : ℕ) : Type 0 where
    pub listed : k < length (offsets reach)
    pub failed : Failed reach dots m k
    pub takes : lowers_at dots m (get_or (offsets reach) k (offset_of itself)) ≡ true

  -- from cell `from` on, none before cell `to` takes any
  pub record Quiet (reach : ℕ) (dots : List ℕ) (from to : ℕ) : Type 0 where
    pub forward : from ≤ to
    pub each : (m : ℕ) → from ≤ m → m < to → Failed reach dots m (length (offsets reach))

  -- the trials from cell `from` on, which is quiet up to cell `to`, with those there, up to and with the k-th offset,
  -- where cell `to` is on the plate
  abbrev pub tallied : (reach : ℕ) (dots : List ℕ) (trials from to k : ℕ) → ℕ
  tallied reach dots trials from to k =
      trials + (all_trials reach dots to - all_trials reach dots from)
      + pick (ltb to (cells t)) (length (swaps_by t (take k (offsets reach)) dots to) + 1) 0

-- more trials than any scan makes
abbrev pub most_trials : ℕ
most_trials = 2 ^ 32
