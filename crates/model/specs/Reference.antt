-- The reference (01: the plain plate), which has no table: whenever E is wanted, it takes the sum over its dots. An
-- attempt makes its change on a copy of the dots, and the copy replaces them where its E is lower.
use Rattle.std.specs.Prelude.{List, [], ◌∷◌, ℕ, ℤ}
use Rattle.model.specs.declared.Figures.{Figures}
use Rattle.model.specs.declared.Stats.{Stats}
use Rattle.model.specs.Error.{Target, squared_error}
use Rattle.model.specs.Ledger.{raised}
use Rattle.model.specs.Change.{Move, made, look}

-- ---- what it holds
pub record Reference : Type 0 where
  pub dots : List ℕ
  pub figures : Figures

-- the reference with these dots and the figures of this ledger
abbrev pub reference : List ℕ → Stats → Reference
reference dots s = record { dots = dots; figures = s.figures }

-- the copy replaces the dots, and the one matching count rises by 1
unfoldable pub accept : Reference → Move → Reference
accept p v = record { dots = made p.dots v.sets; figures = raised v.raises p.figures }

-- what a call that is not refused answers, and the reference after it
pub record Performed (A : Type 0) : Type 0 where
  pub answer : A
  pub after : Reference

-- ---- an attempt
-- its answer, where it is not refused: accepted with the new ledger and the change, or declined with the change
pub data Tried : Type 0 where
  accepted : Stats → ℤ → Tried
  declined : ℤ → Tried

module _ (t : Target) where
  -- a ledger holds the figures, E now being the sum
  unfoldable pub stats_of : Reference → Stats
  stats_of p = record { error = squared_error t p.dots; figures = p.figures }

  -- what is answered, and what it holds then, where a change was taken and where none was
  abbrev pub decided : Reference → (taken : List Move) (last : ℤ) → Performed Tried
  decided p [] d = record { answer = declined d; after = p }
  decided p (v ∷ l) d = record { answer = accepted (stats_of (accept p v)) d; after = accept p v }

  unfoldable pub attempt : Reference → Move → Performed Tried
  attempt p v = let k = look t p.dots (v ∷ []) in decided p k.taken k.last
