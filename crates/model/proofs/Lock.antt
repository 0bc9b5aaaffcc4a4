-- Laws of locked cells.
--   lock_cases, lock_exactly a cell is locked exactly where its gray is 0 or 255
--   holds_none, none_holds   no locked cell is contradicted exactly where every one holds its byte
--   contradiction_if         and else one is
--   holds_blank, holds_solid paper is blank, lettering is solid
--   locks_made               a change of unlocked cells leaves every locked one as it was
use mathlib.Core.Bool.{Bool, true, false, true≢false, ◌&&◌, not}
use mathlib.Core.List.{List, [], ◌∷◌}
use mathlib.Core.Logic.{◌⊎◌, inl, inr}
use mathlib.Core.Path.{◌≡◌, refl, sym, ◌∙◌, ap}
use Prim.Native.Nat.{ℕ, ◌<◌}
use borrow.Author.Tests.{eqb-true, eq-eqb, not-false}
use lib.Dec.{eqb}
use lib.ListN.{get_or, set}
use lib.Seq.{get_or-set_other}
use Rattle.model.specs.Basic.{Exactly, All}
use Rattle.model.specs.Error.{Target, cells, black}
use Rattle.model.specs.Lock.{locked_gray, locked, locked_byte, Free, byte_at, contradicts, contradiction, LocksHold}
use Rattle.model.specs.Change.{Setting, made}
use Rattle.model.proofs.Basic.{none_below, all_below}

-- a gray that locks its cell
cases_lock : (g : ℕ) → (g ≡ 0) ⊎ (g ≡ black) → locked_gray g ≡ true
cases_lock g (inl e) = rw e refl
cases_lock g (inr e) = rw e refl

-- and no other does
pub lock_cases : (g : ℕ) → locked_gray g ≡ true → (g ≡ 0) ⊎ (g ≡ black)
lock_cases g h = go (eqb g 0) refl h
  where
    go : (b : Bool) → eqb g 0 ≡ b → locked_gray g ≡ true → (g ≡ 0) ⊎ (g ≡ black)
    go true e h = inl (eqb-true g 0 e)
    go false e h = inr (eqb-true g black (rw e at h))

pub lock_exactly : (t : Target) (n : ℕ)
    → Exactly (locked t.gray n ≡ true) ((get_or t.gray n 0 ≡ 0) ⊎ (get_or t.gray n 0 ≡ 255))
unfolding locked
lock_exactly t n = (lock_cases (get_or t.gray n 0), cases_lock (get_or t.gray n 0))

module _ (t : Target) (dots : List ℕ) where
  -- where every locked cell holds its byte, none is contradicted
  pub holds_none : LocksHold t dots → contradiction t dots ≡ false
  holds_none f = none_below (cells t) (contradicts t dots) (λ n h. go n (locked t.gray n) (f.each n h))
    where
      go : (n : ℕ) (b : Bool) → (b ≡ true → get_or dots n 0 ≡ byte_at t n)
          → b && not (eqb (get_or dots n 0) (byte_at t n)) ≡ false
      go n true f = ap not (eq-eqb _ _ (f refl))
      go n false f = refl

  -- and back
  pub none_holds : contradiction t dots ≡ false → LocksHold t dots
  none_holds e =
      record { each = λ n h l. go n (locked t.gray n) l (all_below (cells t) (contradicts t dots) e n h) }
    where
      go : (n : ℕ) (b : Bool) → b ≡ true → b && not (eqb (get_or dots n 0) (byte_at t n)) ≡ false
          → get_or dots n 0 ≡ byte_at t n
      go n true l h = eqb-true _ _ (not-false _ h)
      go n false l h = absurd (true≢false (sym l))

  pub contradiction_if : (LocksHold t dots → ⊥) → contradiction t dots ≡ true
  contradiction_if broken = go (contradiction t dots) refl
    where
      go : (b : Bool) → contradiction t dots ≡ b → b ≡ true
      go true e = refl
      go false e = absurd (broken (none_holds e))

-- what they hold: paper a blank, lettering the highest byte
module _ (t : Target) (dots : List ℕ) (f : LocksHold t dots) (n : ℕ) (h : n < cells t) where
  pub holds_blank : get_or t.gray n 0 ≡ 0 → get_or dots n 0 ≡ 0
  unfolding locked
  holds_blank e = f.each n h (cases_lock _ (inl e)) ∙ ap (locked_byte t.top) e

  pub holds_solid : get_or t.gray n 0 ≡ 255 → get_or dots n 0 ≡ t.top
  unfolding locked
  holds_solid e = f.each n h (cases_lock _ (inr e)) ∙ ap (locked_byte t.top) e

-- a locked cell is no cell that is not locked
apart : (t : Target) (n m : ℕ) → locked t.gray n ≡ true → Free t m → n ≡ m → ⊥
apart t n m l f e = true≢false (sym l ∙ ap (locked t.gray) e ∙ f)

-- so a change of unlocked cells leaves what it holds
kept : (t : Target) (dots : List ℕ) (l : List Setting) → All (λ x. Free t x.cell) l
    → (n : ℕ) → locked t.gray n ≡ true → get_or (made dots l) n 0 ≡ get_or dots n 0
unfolding made
kept t dots [] free n h = refl
kept t dots (x ∷ l) free n h =
    kept t (set dots x.cell x.byte) l free.1 n h
    ∙ get_or-set_other dots x.cell n x.byte 0 (apart t n x.cell h free.0)

pub locks_made : (t : Target) (dots : List ℕ) (l : List Setting) → All (λ x. Free t x.cell) l
    → LocksHold t dots → LocksHold t (made dots l)
locks_made t dots l free f = record { each = λ n h k. kept t dots l free n k ∙ f.each n h k }
