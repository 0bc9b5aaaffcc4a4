-- `judge_parts::contradicts` meets its contract: by whether the gray is 0.
use mathlib.Core.Bool.{◌||◌, ◌&&◌, not, or-false}
use mathlib.Core.Path.{◌≡◌, refl}
use Prim.Native.Nat.{ℕ}
use native.Mathlib.Decide.{ℕ_discrete}
use borrow.Author.Tests.{ne_eqb}
use lib.Dec.{eqb}
use Rattle.model.specs.Lock.{locked_gray, locked_byte}
use Rattle.judge_parts.proofs.contradicts.Goals as goal

-- gray 0 has to be blank, gray 255 a dot
either-gray : (g d : ℕ)
    → (eqb g 0 && not (eqb d 0)) || (eqb g 255 && not (eqb d 1)) ≡ locked_gray g && not (eqb d (locked_byte 1 g))
either-gray g d = go (ℕ_discrete g 0)
  where
    go : Dec (g ≡ 0)
        → (eqb g 0 && not (eqb d 0)) || (eqb g 255 && not (eqb d 1)) ≡ locked_gray g && not (eqb d (locked_byte 1 g))
    go (yes e) = rw e (or-false (not (eqb d 0)))
    go (no e) = rw (ne_eqb g 0 e) refl

pub returns : goal.returns
returns c = either-gray c.args.gray c.args.dot
