-- `search_prune::any_below` meets its contract: as long as nothing was found, no sum so far is below 0.
use Rattle.std.proofs.Common.{◌*◌, pos, ◌-ℤ◌, ◌*ℤ◌, refl, sym, ◌∙◌, true≢false, below_more}
use lib.Dec.{lit<}
use lib.ListN.{get_or}
use mir.Syntax.{w32}
use mir.Val.{to_z, of_z}
use Rattle.algebra.proofs.Machine.{Holds, of_small, size_of, add_fits, add_holds, sub_holds}
use Rattle.model.specs.Change.{sign_of}
use Rattle.model.specs.Error.{most_filtered}
use Rattle.search_change.proofs.Signs.{signed_holds}
use Rattle.search_runs.proofs.Run.{worth_held}
use Rattle.search_prune.proofs.any_below.Goals as goal
use Rattle.search_prune.proofs.any_below.Goals.{After-signed, then-signed-worths-lt0, else-signed-worths-lt0}

-- the first term of the sum
first : (c : After-signed)
    → Holds w32 (of_z w32 c.signed.result)
    (sign_of c.args.dot *ℤ (to_z w32 (of_z w32 c.args.value) -ℤ get_or c.args.others.now c.loop-k.k (pos 0))) (2 * most_filtered)
first c =
    let value : Holds w32 (of_z w32 c.args.value) (to_z w32 (of_z w32 c.args.value)) most_filtered =
    record { value = refl; size = size_of (of_small w32 c.args.value c.requires.value_bound.0 (lit< tt)) } in
    let other = of_small w32 (get_or c.args.others.now c.loop-k.k (pos 0)) (c.requires.value_bound.1.each c.loop-k.k) (lit< tt) in
    signed_holds c.signed.result (sign_of c.args.dot) (sub_holds value other (lit< tt)) (lit< tt)
    (c.signed.ensures.value, c.signed.ensures.result_value)

pub overflow_add-signed : goal.overflow_add-signed
overflow_add-signed c =
    add_fits (first (goal.at.overflow_add-signed c).After-signed) (worth_held c.requires.value_bound.2 c.loop-k.k) (lit< tt)

pub loop-k-preserved : goal.loop-k-preserved
loop-k-preserved c =
    let sum = add_holds (first (goal.at.loop-k-preserved c).After-signed) (worth_held c.requires.value_bound.2 c.loop-k.k) (lit< tt) in
    elim c.if-signed-worths-lt0.branch [
      | then-signed-worths-lt0 w ↦ λ e. absurd (true≢false (sym w.any-is ∙ e))
      | else-signed-worths-lt0 w ↦
          λ e. below_more _ _ (c.loop-k.invariant (sym w.any-is ∙ e)) (rw sum.value at w.if-signed-worths-lt0.false)
    ]
