-- What the proofs of the fields share.
--   fixed_then, fixed_stop                           fixed bytes after those that were read, and after those that were refused
--   field_range                                     a number that was read is in its field
--   grid_more, grid_stop, grid_good, grid_past      rows as a loop takes them
use mathlib.Core.Bool.{Bool, true, false, ◌&&◌}
use mathlib.Core.List.{List, [], ◌∷◌, ◌++◌}
use mathlib.Core.Path.{◌≡◌, refl, sym, ◌∙◌, ap}
use Prim.Native.Nat.{ℕ, suc, ◌+◌, ◌-◌, ◌≤◌, ◌<◌}
use native.Mathlib.Numerals.{add-one}
use native.Mathlib.Omega.{arith}
use borrow.Author.Tests.{leb-true}
use lib.Dec.{leb}
use lib.ListN.{set}
use lib.Seq.{sets}
use Rattle.std.specs.Prelude.{Err}
use Rattle.model.specs.Format.{Field}
use Rattle.model.specs.declared.Item.{Item}
use Rattle.model.specs.declared.Item.TheVariants.{Word, Number, LineEnd, Other}
use Rattle.model.specs.Format.{Place}
use Rattle.model.specs.declared.Refused.{Refused}
use Rattle.model.specs.declared.Step.{Step}
use Rattle.model.specs.Basic.{pick}
use Rattle.model.specs.Text.{step_to}
use Rattle.model.specs.Sheet.{end_of}
use Rattle.model.specs.Format.{grid, is_at, place, fixed_at, field, field_by, limit_of, field_at}
use Rattle.model.specs.Format.{Parsed, parsed, on_field, parse}
use Rattle.model.proofs.Text.{and_true}
use Rattle.model.proofs.Format.{field_good, field_on, field_off}
use Rattle.invariants.specs.Reading.{place_in}
use Rattle.invariants.proofs.Reading.{reason_some}

-- ---- fixed bytes in two pieces
pub fixed_then : (a b s : List ℕ) (at k : ℕ) → place 0 k ≡ fixed_at a s at → fixed_at (a ++ b) s at ≡ fixed_at b s k
fixed_then [] b s at k e = sym (ap (λ (p : Place). fixed_at b s p.at) e)
fixed_then (x ∷ a) b s at k e = go (is_at x s at) e (fixed_then a b s (at + 1) k)
  where
    go : (c : Bool) → place 0 k ≡ pick c (fixed_at a s (at + 1)) (place 10 at)
        → (place 0 k ≡ fixed_at a s (at + 1) → fixed_at (a ++ b) s (at + 1) ≡ fixed_at b s k)
        → pick c (fixed_at (a ++ b) s (at + 1)) (place 10 at) ≡ fixed_at b s k
    go true e ih = ih e
    go false e ih = let z = ap (λ (p : Place). p.refusal) e in absurd (omega arith)

pub fixed_stop : (a b s : List ℕ) (at : ℕ) (r : Refused) → place_in (Err r) ≡ fixed_at a s at
    → fixed_at (a ++ b) s at ≡ place_in (Err r)
fixed_stop [] b s at r e = absurd (reason_some r.reason (ap (λ (p : Place). p.refusal) e))
fixed_stop (x ∷ a) b s at r e = go (is_at x s at) e (fixed_stop a b s (at + 1) r)
  where
    go : (c : Bool) → place_in (Err r) ≡ pick c (fixed_at a s (at + 1)) (place 10 at)
        → (place_in (Err r) ≡ fixed_at a s (at + 1) → fixed_at (a ++ b) s (at + 1) ≡ place_in (Err r))
        → pick c (fixed_at (a ++ b) s (at + 1)) (place 10 at) ≡ place_in (Err r)
    go true e ih = ih e
    go false e ih = sym e

-- ---- numbers
-- a number that was read is in its field
pub field_range : (lo hi end : ℕ) (s : List ℕ) (at : ℕ) {k v : ℕ} → field 0 k v ≡ field_at lo hi end s at
    → (lo ≤ v) × (v ≤ hi)
unfolding field_at
field_range lo hi end s at {k} {v} e = go read.item e
  where
    read : Step
    read = step_to (limit_of hi) s at

    by : (u : ℕ) (c d : Bool) → leb lo u && leb u hi ≡ c
        → field 0 k v ≡ pick c (pick d (field 0 (read.next + 1) u) (field 10 read.next 0)) (field 11 read.at 0)
        → (lo ≤ v) × (v ≤ hi)
    by u true true t e =
        let (low, high) = and_true (leb lo u) (leb u hi) t in
        rw (ap (λ (f : Field). f.value) e) (leb-true lo u low, leb-true u hi high)
    by u true false t e = let z = ap (λ (f : Field). f.refusal) e in absurd (omega arith)
    by u false d t e = let z = ap (λ (f : Field). f.refusal) e in absurd (omega arith)

    go : (i : Item) → field 0 k v ≡ field_by lo hi end s i read.at read.next → (lo ≤ v) × (v ≤ hi)
    go (Number u) e = by u (leb lo u && leb u hi) (is_at end s read.next) refl e
    go Word e = let z = ap (λ (f : Field). f.refusal) e in absurd (omega arith)
    go LineEnd e = let z = ap (λ (f : Field). f.refusal) e in absurd (omega arith)
    go Other e = let z = ap (λ (f : Field). f.refusal) e in absurd (omega arith)

-- ---- rows
-- what is left of n values from value i on
abbrev pub left : (w hi : ℕ) (s : List ℕ) (n i at : ℕ) → Parsed
left w hi s n i at = parse (grid w hi i (n - i)) s at

-- the field of value i, whose end is b
module _ (w hi : ℕ) (s : List ℕ) (n i at : ℕ) (f : Field) (b : ℕ) (ends : b ≡ end_of w i)
    (e : f ≡ field_at 0 hi b s at) (h : i < n) where
  grid_step : left w hi s n i at ≡ on_field f (left w hi s n (i + 1))
  grid_step =
      let q : n - i ≡ suc (n - (i + 1)) = omega arith in
      rw (q, e, ends)

  pub grid_more : f.refusal ≡ 0
      → let r = left w hi s n (i + 1) f.at in
      left w hi s n i at ≡ parsed r.refusal r.at (f.value ∷ r.values)
  grid_more z = grid_step ∙ field_on f (left w hi s n (i + 1)) z

  pub grid_stop : (f.refusal ≡ 0 → ⊥) → left w hi s n i at ≡ parsed f.refusal f.at []
  grid_stop z = grid_step ∙ field_off f (left w hi s n (i + 1)) z

  -- rows that are good are good so far
  pub grid_good : (left w hi s n i at).refusal ≡ 0 → f.refusal ≡ 0
  grid_good z = field_good f (left w hi s n (i + 1)) (sym (ap (λ (r : Parsed). r.refusal) grid_step) ∙ z)

pub grid_past : (w hi : ℕ) (s : List ℕ) (n i at : ℕ) → n ≤ i → left w hi s n i at ≡ parsed 0 at []
grid_past w hi s n i at h =
    let q : n - i ≡ 0 = omega arith in
    rw q

pub sets_more : (l : List ℕ) (i v : ℕ) (vs : List ℕ) → sets (set l i v) (i + 1) vs ≡ sets l i (v ∷ vs)
sets_more l i v vs = rw add-one
