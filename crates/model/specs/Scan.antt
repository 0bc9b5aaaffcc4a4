-- Scans and settling (here: convergence) by the rules of document 01, as the reference makes them.
use Rattle.std.specs.Prelude.{Bool, ◌&&◌, not, List, [], ◌∷◌, ℕ, zero, suc, ◌+◌, eqb, nat_abs, length, get_or}
use Rattle.model.specs.declared.Progress.{Progress}
use Rattle.model.specs.declared.ScanResult.{ScanResult}
use Rattle.model.specs.declared.ConvergeResult.{ConvergeResult}
use Rattle.model.specs.Basic.{pick, tabulate}
use Rattle.model.specs.Error.{Target, cells, squared_error}
use Rattle.model.specs.Lock.{locked}
use Rattle.model.specs.Partners.{Offset, offsets, lands, partner}
use Rattle.model.specs.Psf.{total}
use Rattle.model.specs.Reference.{Reference, Performed, accept, stats_of}
use Rattle.model.specs.Change.{Move, toggle, swap, look}

-- ---- what a scan attempts at cell m of these dots, in order, up to the first accepted
abbrev pub Rule : Type 0
Rule = List ℕ → ℕ → List Move

module _ (t : Target) where
  -- a toggle scan: a toggle; a locked cell is passed over
  unfoldable pub toggles : Rule
  toggles dots m = pick (locked t.gray m) [] (toggle dots m ∷ [])

  -- both cells are unlocked, and their dots are unlike
  abbrev pub exchangeable : List ℕ → ℕ → ℕ → Bool
  exchangeable dots m n =
      not (locked t.gray m) && (not (locked t.gray n) && not (eqb (get_or dots m 0) (get_or dots n 0)))

  -- an offset off the plate, with an equal dot, or with a locked cell at either end is passed over
  abbrev pub suits : List ℕ → ℕ → Offset → Bool
  suits dots m o = lands t.width t.height m o && exchangeable dots m (partner t.width m o)

  unfoldable pub swaps_by : List Offset → Rule
  swaps_by [] dots m = []
  swaps_by (o ∷ l) dots m =
      pick (suits dots m o) (swap dots m (partner t.width m o) ∷ swaps_by l dots m) (swaps_by l dots m)

  -- a swap scan with that reach: swaps with the partners, farthest first
  abbrev pub swaps : (reach : ℕ) → Rule
  swaps reach = swaps_by (offsets reach)

-- ---- a scan under way: the reference, and the changes that it has accepted
pub record Sweep : Type 0 where
  pub after : Reference
  pub changes : ℕ

-- once a change was taken, if one was
abbrev pub taking : Sweep → List Move → Sweep
taking s [] = s
taking s (v ∷ l) = record { after = accept s.after v; changes = suc s.changes }

-- a scan answers what it has come to, and its trials
abbrev pub result_of : Progress → (trials : ℕ) → ScanResult
result_of r n = record { stats = r.stats; changes = r.changes; trials = n }

-- a settling under way: the reference, and the scans that it has made
pub record Convergence : Type 0 where
  pub after : Reference
  pub scans : ℕ

module _ (t : Target) where
  -- attempts in order, up to the first accepted
  unfoldable pub try_each : Sweep → List Move → Sweep
  try_each s l = taking s (look t s.after.dots l).taken

  -- what it has come to: the new ledger and its accepted changes
  unfoldable pub progress_of : Sweep → Progress
  progress_of s = record { stats = stats_of t s.after; changes = s.changes }

  -- a scan of the first n cells, in raster order
  unfoldable pub sweep_to : Rule → Reference → ℕ → Sweep
  sweep_to rule p zero = record { after = p; changes = 0 }
  sweep_to rule p (suc m) = try_each (sweep_to rule p m) (rule (sweep_to rule p m).after.dots m)

  -- of all cells
  abbrev pub sweep : Rule → Reference → Sweep
  sweep rule p = sweep_to rule p (cells t)

  -- its trials at cell m: what is weighed there, up to and with the change accepted
  unfoldable pub trials_at : Rule → Reference → ℕ → ℕ
  trials_at rule p m = let dots = (sweep_to rule p m).after.dots in length (look t dots (rule dots m)).weighed

  -- at the first n cells
  abbrev pub trials_to : Rule → Reference → ℕ → ℕ
  trials_to rule p n = total (tabulate n (trials_at rule p))

  unfoldable pub scan : Rule → Reference → Performed ScanResult
  scan rule p =
      record {
        answer = result_of (progress_of (sweep rule p)) (trials_to rule p (cells t));
        after = (sweep rule p).after;
      }

  module _ (reach : ℕ) where
    -- toggle scans until one accepts nothing, then one swap scan; if that accepted something, again from the toggle
    -- scans: one turn of this, n scans being made, and what follows where something was accepted
    abbrev pub turn : (Reference → ℕ → Convergence) → Reference → ℕ → Convergence
    turn follow p n =
        let a = sweep (toggles t) p in
        let b = sweep (swaps t reach) a.after in
        let again = follow a.after (n + 1) in
        let anew = follow b.after (n + 2) in
        let end : Convergence = pick (eqb b.changes 0) (record { after = b.after; scans = n + 2 }) anew in
        pick (eqb a.changes 0) end again

    -- as many turns as the fuel allows
    unfoldable pub converge_in : (fuel : ℕ) → Reference → ℕ → Convergence
    converge_in zero p n = record { after = p; scans = n }
    converge_in (suc fuel) p n = turn (converge_in fuel) p n

    -- Each turn but the last lowers E, a whole number not below 0, so with this fuel every turn is made: that it keeps
    -- to the rule, and nothing else does, are `converge_rule` and `converge_only` of proofs/Converge.antt.
    unfoldable pub converge_from : Reference → ℕ → Convergence
    converge_from p n = converge_in (suc (nat_abs (squared_error t p.dots))) p n

    -- it answers the ledger and the number of scans
    unfoldable pub converge : Reference → Performed ConvergeResult
    converge p =
        record {
          answer = record { stats = stats_of t (converge_from p 0).after; scans = (converge_from p 0).scans };
          after = (converge_from p 0).after;
        }
