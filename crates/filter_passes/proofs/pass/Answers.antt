-- `filter_passes::pass` meets its contract: after k entries of the psf the output is what they come to.
use mathlib.Core.Path.{◌≡◌, sym, ◌∙◌, ap, ap₂}
use Prim.Native.Nat.{◌≤◌}
use native.Mathlib.Omega.{arith}
use lib.Dec.{lit≤}
use lib.IntN.{pos}
use lib.ListN.{length, get_or}
use mir.Syntax.{w32}
use Rattle.algebra.proofs.Machine.{read_back}
use Rattle.model.specs.Basic.{tabulate}
use Rattle.invariants.proofs.Window.{cleared, scaled_by, small_by}
use Rattle.filter_passes.specs.Passes.{passed_at, passed}
use Rattle.filter_passes.proofs.Passes.{pass_none, pass_next, pass_small}
use Rattle.filter_passes.proofs.pass.Goals as goal

pub loop-k-init : goal.loop-k-init
loop-k-init c =
    let a = c.args in
    cleared _ (c.fill.ensures.after (λ y e. e))
    ∙ ap (λ n. tabulate n (λ q. pos 0)) (sym c.fill.ensures.len)
    ∙ pass_none a.width a.height a.radius a.psf.now a.from a.to a.c.now _

pub add_rows-requires-clause-small : goal.add_rows-requires-clause-small
add_rows-requires-clause-small c =
    let a = c.args in
    let (wide, fits, small) = c.requires.width_nonzero in
    let is = read_back w32 c.from-amount.result c.from-amount.type_inv ∙ c.from-amount.ensures in
    let low : get_or a.psf.now c.loop-k.k 0 ≤ 255 = omega (arith, c.type_inv.psf c.loop-k.k) in (
      small_by _ _ c.loop-k.invariant (λ q.
          pass_small a.width a.height a.radius a.psf.now a.from a.to a.c.now c.loop-k.k q wide small
          fits.sum_high (omega arith)),
      rw is (scaled_by _ a.c.now low small (lit≤ tt)),
    )

pub loop-k-preserved : goal.loop-k-preserved
loop-k-preserved c =
    let a = c.args in
    pass_next a.width a.height a.radius a.psf.now a.from a.to a.c.now _ c.loop-k.k
    c.requires.width_nonzero.0 c.requires.lies.1 c.loop-k.invariant
    (read_back w32 c.from-amount.result c.from-amount.type_inv ∙ c.from-amount.ensures)
    (rw (c.corner-at.ensures, c.corner-there.ensures) at c.add_rows.ensures)

pub returns : goal.returns
unfolding passed
returns c =
    let a = c.args in
    let e : c.loop-k.k ≡ length a.psf.now = omega arith in
    c.loop-k.invariant
    ∙ ap₂ (λ n k. tabulate n (passed_at a.width a.height a.radius a.psf.now a.from a.to a.c.now k)) c.fill.ensures.len e
