-- Laws of the ledger: what an accepted change does to its figures.
--   raised_start    it leaves those of the start
--   raised_changes  it is counted once
--   raised_dots     it moves the dots that the ledger tells by what it adds to the plate
use mathlib.Core.List.{List, [], ◌∷◌}
use mathlib.Core.Path.{◌≡◌, refl}
use Prim.Native.Nat.{suc}
use native.Mathlib.Omega.{arith}
use lib.IntN.{ℤ, pos, ◌+ℤ◌}
use Rattle.algebra.proofs.Solver.{ring!, reify}
use Rattle.model.specs.declared.Figures.{Figures}
use Rattle.model.specs.Ledger.{Count, on_count, off_count, swap_count, net_of, raised, changes, ledger_dots}

pub raised_start : (k : Count) (f : Figures)
    → ((raised k f).start_error ≡ f.start_error) × ((raised k f).start_dots ≡ f.start_dots)
unfolding raised
raised_start on_count f = (refl, refl)
raised_start off_count f = (refl, refl)
raised_start swap_count f = (refl, refl)

pub raised_changes : (k : Count) (f : Figures) → changes (raised k f) ≡ suc (changes f)
unfolding raised
raised_changes on_count f = omega arith
raised_changes off_count f = omega arith
raised_changes swap_count f = omega arith

pub raised_dots : (k : Count) (f : Figures) → ledger_dots (raised k f) ≡ ledger_dots f +ℤ net_of k
unfolding raised
raised_dots k f = go k
  where
    ρ : List ℤ
    ρ = pos f.start_dots ∷ pos f.on ∷ pos f.off ∷ []

    go : (k : Count) → ledger_dots (raised k f) ≡ ledger_dots f +ℤ net_of k
    go on_count = ring! ρ (search reify depth 40) refl
    go off_count = ring! ρ (search reify depth 40) refl
    go swap_count = ring! ρ (search reify depth 40) refl
