-- `balance::divide` meets its contract: in each of its three cases what it answers divides, and nothing else does.
use Rattle.std.proofs.Common.{◌≡◌, ◌+◌, ◌*◌, ◌-◌, ◌/◌, ◌%◌, ◌≤◌, ℕ, pos, ◌-ℤ◌, to_z, of_z, sym, ◌∙◌, ap, ap₂, arith}
use lib.Dec.{lit<}
use lib.IntN.{neg_ℤ, +ℤ_idl}
use mir.Syntax.{w64}
use Rattle.algebra.proofs.Machine.{of_cast, literal, sub_holds}
use Rattle.model.specs.Error.{black, most_cells}
use Rattle.balance.proofs.Division.{quotient_few, from_0, exact_below, left_below}
use Rattle.balance.proofs.divide.Goals as goal

-- a number as a signed local holds it, and what is taken from 0
held : {m n : ℕ} → m ≡ n → n ≤ black * most_cells → to_z w64 m ≡ pos n
held {n} e h = ap (to_z w64) e ∙ (of_cast w64 n h (lit< tt)).value

negated : {m n : ℕ} → m ≡ n → n ≤ black * most_cells + 1 → to_z w64 (of_z w64 (pos 0 -ℤ to_z w64 m)) ≡ neg_ℤ (pos n)
negated {n} e h =
    ap (λ k. to_z w64 (of_z w64 (pos 0 -ℤ to_z w64 k))) e
    ∙ (sub_holds (literal w64 0 tt) (of_cast w64 n h (lit< tt)) (lit< tt)).value
    ∙ +ℤ_idl (neg_ℤ (pos n))

pub returns-then-total-worth : goal.returns-then-total-worth
returns-then-total-worth c =
    let a = c.args in
    let h = c.if-total-worth.true in
    let above : c.abs_diff-distance.result ≡ a.worth - a.total = omega (arith, h, c.abs_diff-distance.ensures) in
    ap₂ (λ q r. record { quotient = q; remainder = r })
    (held (ap (λ d. d / a.cells) above) (quotient_few _ a.cells (omega (arith, c.requires.0))))
    (ap (λ d. d % a.cells) above)
    ∙ from_0 a.worth a.total a.cells c.requires.2 h

pub returns-then-rest-eq0 : goal.returns-then-rest-eq0
returns-then-rest-eq0 c =
    let a = c.args in
    let h = c.if-total-worth.false in
    let below : c.abs_diff-distance.result ≡ a.total - a.worth = omega (arith, h, c.abs_diff-distance.ensures) in
    let few : (a.total - a.worth) / a.cells ≤ black * most_cells =
    quotient_few _ a.cells (omega (arith, c.requires.1)) in
    ap (λ q. record { quotient = q; remainder = 0 }) (negated (ap (λ d. d / a.cells) below) (omega (arith, few)))
    ∙ exact_below a.worth a.total a.cells c.requires.2 h (ap (λ d. d % a.cells) (sym below) ∙ c.if-rest-eq0.true)

pub returns-else-rest-eq0 : goal.returns-else-rest-eq0
returns-else-rest-eq0 c =
    let a = c.args in
    let h = c.if-total-worth.false in
    let below : c.abs_diff-distance.result ≡ a.total - a.worth = omega (arith, h, c.abs_diff-distance.ensures) in
    let few : (a.total - a.worth) / a.cells ≤ black * most_cells =
    quotient_few _ a.cells (omega (arith, c.requires.1)) in
    ap₂ (λ q r. record { quotient = q; remainder = r })
    (negated (ap (λ d. d / a.cells + 1) below) (omega (arith, few)))
    (ap (λ d. a.cells - d % a.cells) below)
    ∙ left_below a.worth a.total a.cells c.requires.2 h (λ o. c.if-rest-eq0.false (ap (λ d. d % a.cells) below ∙ o))
