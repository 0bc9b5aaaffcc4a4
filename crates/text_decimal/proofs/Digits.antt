-- The digits of a number: how many there are, and the last one put before the others.
--   two_digits, three_digits  the numbers from 10 to 999 have two or three
--   three_more                any other has three more than its thousands
--   puts_higher               its last digit put, the higher ones are left to put
use mathlib.Core.List.{List, [], ◌∷◌}
use mathlib.Core.Path.{◌≡◌, refl, ◌∙◌, ap, sym}
use Prim.Native.Nat.{ℕ, suc, ◌+◌, ◌-◌, ◌/◌, ◌%◌, ◌≤◌, ◌<◌}
use native.Mathlib.Omega.{arith}
use lib.ListN.{length, set}
use lib.Seq.{sets, set_comm}
use Rattle.model.specs.Text.{digits, Puts}
use Rattle.model.proofs.Tables.{sets_append}
use Rattle.model.proofs.Text.{digits_more, length_low, length_more}

pub two_digits : (n : ℕ) → 10 ≤ n → n < 100 → length (digits n) ≡ 2
two_digits n h k = length_more n h ∙ rw (length_low (n / 10) (omega arith))

pub three_digits : (n : ℕ) → 100 ≤ n → n < 1000 → length (digits n) ≡ 3
three_digits n h k = length_more n (omega arith) ∙ rw (two_digits (n / 10) (omega arith) (omega arith))

pub three_more : (n : ℕ) → 1000 ≤ n → length (digits n) ≡ length (digits (n / 1000)) + 3
three_more n h =
    let e : n / 10 / 10 / 10 ≡ n / 1000 = omega arith in
    let one = length_more n (omega arith) in
    let two = length_more (n / 10) (omega arith) in
    let three = length_more (n / 10 / 10) (omega arith) in
    omega (arith, ap (λ m. length (digits m)) e)

-- a byte past a text may be put before the text or after it
set_past : (text out : List ℕ) (at j b : ℕ) → at + length text ≤ j
    → set (sets out at text) j b ≡ sets (set out j b) at text
set_past [] out at j b h = refl
set_past (x ∷ text) out at j b h =
    set_past text (set out at x) (suc at) j b (omega arith)
    ∙ ap (λ o. sets o (suc at) text) (set_comm out at j x b (λ e. omega arith))

pub puts_higher : {out put : List ℕ} {at next : ℕ} (n : ℕ) → 10 ≤ n → Puts (digits n) out put at next
    → Puts (digits (n / 10)) (set out (next - 1) (48 + n % 10)) put at (next - 1)
puts_higher {out} {at} {next} n h p =
    let higher = digits (n / 10) in
    let last = 48 + n % 10 in
    let e : next - 1 ≡ at + length higher = omega (arith, p.end_is, length_more n h) in
    record {
      end_is = e;
      bytes_are =
          p.bytes_are
          ∙ ap (sets out at) (digits_more n h)
          ∙ sets_append higher (last ∷ []) out at
          ∙ ap (λ j. set (sets out at higher) j last) (sym e)
          ∙ set_past higher out at (next - 1) last (omega arith);
    }
