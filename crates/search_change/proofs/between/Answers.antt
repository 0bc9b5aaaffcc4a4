-- `search_change::between` meets its contract: each early return is two sides on which the offset leaves the square.
use Rattle.std.proofs.Common.{◌≡◌, ◌⊎◌, inl, inr, ⊎_elim, pos, ◌-ℤ◌, sym, ◌∙◌, ap, arith, to_z, of_z, w32}
use Prim.Native.Nat.{◌+◌, ◌*◌, ◌-◌}
use lib.ListN.{get_or}
use borrow.Author.Rules.{rules}
use Rattle.model.specs.Basic.{square_at}
use Rattle.model.proofs.Basic.{Far, square_at_inside, square_at_outside}
use Rattle.model.proofs.Psf.{side}
use Rattle.search_change.proofs.between.Goals as goal
use Rattle.search_change.proofs.between.Goals.{Start}

outside : (s : Start) → Far (2 * s.args.radius) s.args.to.row s.args.at.row
    ⊎ Far (2 * s.args.radius) s.args.to.col s.args.at.col
    → pos 0 ≡ square_at (pos 0) (2 * s.args.radius) s.args.c.now
    (pos s.args.at.row -ℤ pos s.args.to.row) (pos s.args.at.col -ℤ pos s.args.to.col)
outside s far =
    sym (square_at_outside (pos 0) (2 * s.args.radius) s.args.c.now
    s.args.to.row s.args.to.col s.args.at.row s.args.at.col far)

pub returns-then-bottom-to : goal.returns-then-bottom-to
returns-then-bottom-to c =
    let s = (goal.at.returns-then-bottom-to c).Start in
    ⊎_elim (λ h. outside s (inl (inl h))) (λ h. outside s (inr (inl h.1))) c.then-bottom-to.either

pub returns-then-side-y : goal.returns-then-side-y
returns-then-side-y c =
    let s = (goal.at.returns-then-side-y c).Start in
    ⊎_elim (λ h. outside s (inl (inr (omega arith)))) (λ h. outside s (inr (inr (omega arith)))) c.then-side-y.either

pub returns : goal.returns
returns c =
    let a = c.args in
    let n = 4 * a.radius + 1 in
    let y = a.at.row + 2 * a.radius - a.to.row in
    let x = a.at.col + 2 * a.radius - a.to.col in
    let entry = get_or a.c.now (y * n + x) (pos 0) in
    let read : to_z w32 (of_z w32 entry) ≡ entry = search rules in
    read
    ∙ ap (λ n. get_or a.c.now (y * n + x) (pos 0)) (sym (side a.radius))
    ∙ sym (square_at_inside (pos 0) (2 * a.radius) a.c.now
    a.to.row a.to.col a.at.row a.at.col
    (omega arith) (omega arith) (omega arith) (omega arith))
