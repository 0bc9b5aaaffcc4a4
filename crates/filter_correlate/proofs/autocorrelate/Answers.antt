-- `filter_correlate::autocorrelate` meets its contract: the local array's part holds the psf's bytes.
use Prim.Native.Nat.{ℕ, ◌+◌, ◌*◌, ◌≤◌}
use native.Mathlib.Omega.{arith}
use mathlib.Core.Path.{◌≡◌, sym, ◌∙◌, ap, subst}
use mathlib.Core.List.{List, ◌++◌, map}
use lib.IntN.{ℤ, pos}
use lib.ListN.{length, take, length-map}
use lib.Seq.{take_at}
use Rattle.invariants.specs.Window.{Small}
use Rattle.invariants.proofs.Window.{small_bytes}
use Rattle.filter_correlate.specs.Scatter.{mirrored}
use Rattle.filter_correlate.proofs.Scatter.{mirrored_is}
use Rattle.filter_correlate.proofs.autocorrelate.Goals as goal

-- the part that is lent on: the psf's numbers, as many as its bytes
lent_is : (psf : List ℕ) {out : List ℤ} (l : List ℤ) → out ≡ map pos psf → take (length psf) (out ++ l) ≡ map pos psf
lent_is psf {out} l e = take_at out l (length psf) (ap length e ∙ length-map psf pos) ∙ e

pub correlate-requires-clause-radius_bound : goal.correlate-requires-clause-radius_bound
correlate-requires-clause-radius_bound c =
    let psf = c.args.psf.now in
    let f = c.requires.0 in
    let r = c.args.radius in
    let small : Small 255 (map pos psf) = small_bytes psf (λ i. omega (arith, c.type_inv.psf i)) in
    subst (λ (p : List ℤ). (r ≤ 3) × (length p ≡ (2 * r + 1) * (2 * r + 1)) × Small 255 p)
    (sym (lent_is psf _ c.widen.ensures)) (f.near, length-map psf pos ∙ f.square, small)

pub returns : goal.returns
returns c =
    let psf = c.args.psf.now in
    let r = c.args.radius in
    c.correlate.ensures
    ∙ ap (mirrored r) (lent_is psf _ c.widen.ensures) ∙ mirrored_is r psf c.requires.0.square
