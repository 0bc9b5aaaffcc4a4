-- The trials of a toggle scan, as the gray gives them.
--   unlocked_trials  its unlocked cells are the trials
use mathlib.Core.Bool.{not}
use mathlib.Core.List.{List}
use mathlib.Core.Path.{◌≡◌, sym, ◌∙◌, ap}
use Prim.Native.Nat.{ℕ}
use lib.IntN.{ℤ}
use lib.ListN.{length}
use Rattle.model.specs.declared.Measures.{Measures}
use Rattle.model.specs.declared.Stats.{Stats}
use Rattle.model.specs.Basic.{one_if, tabulate}
use Rattle.model.specs.Error.{target_for, cells}
use Rattle.model.specs.Lock.{locked}
use Rattle.model.specs.Psf.{total}
use Rattle.model.specs.Reference.{Reference}
use Rattle.model.specs.Scan.{toggles, trials_to}
use Rattle.model.specs.State.{LaterFits}
use Rattle.model.proofs.Trials.{toggle_trials}

module _ {m : Measures} {psf gray dots : List ℕ} {table : List ℤ} {s : Stats} (f : LaterFits m psf gray dots table s) where
  pub unlocked_trials : (p : Reference) {n : ℕ}
      → n ≡ total (tabulate (length gray) (λ k. one_if (not (locked gray k))))
      → (let t = target_for m psf gray in n ≡ trials_to t (toggles t) p (cells t))
  unlocked_trials p e =
      e
      ∙ ap (λ k. total (tabulate k (λ k. one_if (not (locked gray k))))) f.plate.halftone.gray_length
      ∙ sym (toggle_trials (target_for m psf gray) p (cells (target_for m psf gray)))
