-- `filter_correlate::correlate` meets its contract: after i entries the output is what their windows come to.
use Prim.Native.Nat.{◌+◌, ◌*◌, ◌-◌, ◌/◌, ◌%◌, ◌≤◌}
use native.Mathlib.Omega.{arith}
use mathlib.Core.Path.{◌≡◌, ◌∙◌, ap}
use lib.Dec.{lit<}
use lib.IntN.{pos}
use lib.ListN.{length, get_or}
use mir.Syntax.{w32}
use Rattle.algebra.proofs.Machine.{of_small}
use Rattle.model.specs.Basic.{tabulate}
use Rattle.invariants.proofs.Window.{cleared, scattered_none, small_by}
use Rattle.filter_correlate.specs.Scatter.{mirrored_at, mirrored}
use Rattle.filter_correlate.proofs.Scatter.{table_next, mirrored_small, side_small}
use Rattle.filter_correlate.proofs.correlate.Goals as goal

pub loop-i-init : goal.loop-i-init
loop-i-init c =
    let r = c.args.radius in
    let p = c.args.p.now in
    cleared _ (c.fill.ensures.after (λ y e. e))
    ∙ ap (λ n. tabulate n (λ q. pos 0)) c.requires.out_len
    ∙ scattered_none (4 * r + 1) r p (λ i. get_or p i (pos 0))
    (λ i. 3 * r - i / (2 * r + 1)) (λ i. 3 * r - i % (2 * r + 1)) _

pub add_window-requires-clause-small : goal.add_window-requires-clause-small
add_window-requires-clause-small c =
    let fits = c.requires.radius_bound in
    let few : c.loop-i.i ≤ 49 = omega (arith, side_small fits.0) in
    small_by _ _ c.loop-i.invariant (λ q. mirrored_small c.args.radius c.args.p.now c.loop-i.i q fits.2 few)

pub loop-i-preserved : goal.loop-i-preserved
loop-i-preserved c =
    let i = c.loop-i.i in
    let r = c.args.radius in
    let p = c.args.p.now in
    table_next (4 * r + 1) r p (λ i. get_or p i (pos 0))
    (λ i. 3 * r - i / (2 * r + 1)) (λ i. 3 * r - i % (2 * r + 1)) _ i
    c.loop-i.invariant
    (of_small w32 (get_or p i (pos 0)) (c.requires.radius_bound.2.each i) (lit< tt)).value
    c.add_window.ensures

pub returns : goal.returns
unfolding mirrored
returns c =
    let r = c.args.radius in
    let e : c.loop-i.i ≡ length c.args.p.now = omega arith in
    c.loop-i.invariant ∙ ap (λ n. tabulate ((4 * r + 1) * (4 * r + 1)) (mirrored_at r c.args.p.now n)) e
