-- `search_runs::any_swaps` meets its contract: as long as nothing was found, every trial so far failed.
use Rattle.std.proofs.Common.{◌≡◌, refl, sym, ◌∙◌, below_more, eq-eqb, eqb-true, arith}
use borrow.Author.Tests.{not-false}
use Prim.Native.Nat.{◌+◌}
use lib.Dec.{lit<}
use mir.Syntax.{w32}
use mir.Val.{to_z, of_z}
use Rattle.algebra.proofs.Machine.{Holds, of_small, size_of}
use Rattle.invariants.specs.Window.{most_worth}
use Rattle.search_runs.specs.Run.{Fails, SwapsClear}
use Rattle.search_runs.proofs.Run.{unlower}
use Rattle.search_runs.proofs.any_swaps.Goals as goal
use Rattle.search_runs.proofs.any_swaps.Goals.{then-sum-lt0+then-here-there, else-sum-lt0}
use Rattle.search_runs.proofs.any_swaps.Goals.{else-sum-lt0-via-then-sum-lt0+else-here-there, else-sum-lt0-via-else-sum-lt0}

pub loop-k-preserved : goal.loop-k-preserved
loop-k-preserved c =
    let a = c.args in
    let l = c.loop-k in
    let z = to_z w32 (of_z w32 a.worth) in
    let worth : Holds w32 (of_z w32 a.worth) z most_worth =
    record { value = refl; size = size_of (of_small w32 a.worth c.requires.tabled.1 (lit< tt)) } in
    let more : Fails a.dots.now a.table.now (a.from + l.k) (a.to + l.k) z → l.hits ≡ 0
    → SwapsClear a.dots.now a.table.now z a.from a.to (l.k + 1) =
    λ f e. record { each = below_more _ _ (l.invariant.0 e).each f } in
    elim c.if-sum-lt0.branch [
      | then-sum-lt0+then-here-there w ↦ (λ e. absurd (omega arith), omega arith)
      | else-sum-lt0 w ↦
          elim w.else-sum-lt0.branch [
            | else-sum-lt0-via-then-sum-lt0+else-here-there v ↦ (
              λ e. more (rw (eq-eqb _ _ v.if-here-there.false) refl) (sym w.hits-is ∙ e),
              omega arith,
            )
            | else-sum-lt0-via-else-sum-lt0 v ↦ (
              λ e. more (unlower a.dots.now a.table.now (a.from + l.k) (a.to + l.k)
                  (c.difference.ensures.value, c.difference.ensures.result_bound) worth v.if-sum-lt0.false) (sym w.hits-is ∙ e),
              omega arith,
            )
          ]
    ]

pub returns : goal.returns
returns c e =
    let done : c.loop-k.k ≡ c.args.n = omega arith in
    rw ((of_small w32 c.args.worth c.requires.tabled.1 (lit< tt)).value, done) at
    (c.loop-k.invariant.0 (eqb-true _ 0 (not-false _ e)))
