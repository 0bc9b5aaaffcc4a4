-- `picture_count::count_byte` meets its contract: the ones of the byte, or of what is left of it.
use Rattle.std.proofs.Common.{◌≡◌, ◌-◌, ◌/◌, sym, ◌∙◌, ap, min, rules, arith}
use Prim.Native.Nat.{◌^◌}
use native.Mathlib.Nat.{div-one, div-le_self}
use lib.Count.{ones, ones-le}
use Rattle.picture_count.proofs.Counts.{ones_left}
use Rattle.picture_count.proofs.count_byte.Goals as goal

pub returns-then-left-ge8 : goal.returns-then-left-ge8
returns-then-left-ge8 c =
    let a = c.args in
    let most : min a.left 8 ≡ 8 = omega arith in
    let count = ap ones (sym (div-one a.byte)) ∙ ones_left a.byte 8 (search rules) (omega arith) in
    (count ∙ rw most, ones-le 8 a.byte (search rules))

pub returns-else-left-ge8 : goal.returns-else-left-ge8
returns-else-left-ge8 c =
    let a = c.args in
    let most : min a.left 8 ≡ a.left = omega arith in
    let count = ones_left a.byte a.left (search rules) (omega arith) in
    let few = ones-le 8 (a.byte / 2 ^ (8 - a.left)) (omega (arith, div-le_self a.byte (2 ^ (8 - a.left)))) in
    (count ∙ rw most, few)
