-- How a text is put into an output (`Puts`), and what is left of it to put.
--   puts_none, puts_byte                  nothing, and one byte
--   puts_then, puts_rest                  one text after another, and bytes after a text
--   front_length, puts_as                 a text at the front; the same text in other words
--   left_all, left_fits, left_next        of a text that a loop puts part by part: all of it; room for a part; after it
--   left_last, left_done                  its last part, and nothing left
use mathlib.Core.Path.{◌≡◌, refl, sym, ◌∙◌, ap, ap₂, subst}
use mathlib.Core.List.{List, [], ◌∷◌, ◌++◌}
use Prim.Native.Nat.{ℕ, ◌+◌, ◌≤◌}
use native.Mathlib.Omega.{arith}
use lib.ListN.{length, set, length-append}
use lib.Seq.{sets, length-sets}
use Rattle.model.specs.Text.{Puts}
use Rattle.model.proofs.Tables.{sets_append}

pub puts_none : {out : List ℕ} {at : ℕ} → Puts [] out out at at
puts_none = record { end_is = omega arith; bytes_are = refl }

-- at the front its length is answered
pub front_length : {text out put : List ℕ} {end : ℕ} → Puts text out put 0 end → end ≡ length text
front_length p = omega (arith, p.end_is)

pub puts_byte : {out : List ℕ} {at : ℕ} (b : ℕ) → Puts (b ∷ []) out (set out at b) at (at + 1)
puts_byte b = record { end_is = refl; bytes_are = refl }

pub puts_as : {text same out put : List ℕ} {at end : ℕ} → text ≡ same → Puts text out put at end → Puts same out put at end
puts_as {out} {put} {at} {end} e p = subst (λ t. Puts t out put at end) e p

pub puts_then : {text more out put last : List ℕ} {at next end : ℕ} → Puts text out put at next
    → Puts more put last next end → Puts (text ++ more) out last at end
puts_then {text} {more} {out} {at} p q = record {
  end_is = omega (arith, p.end_is, q.end_is, length-append text more);
  bytes_are =
      q.bytes_are
      ∙ ap₂ (λ o i. sets o i more) p.bytes_are p.end_is
      ∙ sym (sets_append text more out at);
}

-- and bytes after it
pub puts_rest : {text out put last : List ℕ} {at next : ℕ} (rest : List ℕ) → Puts text out put at next
    → last ≡ sets put next rest → last ≡ sets out at (text ++ rest)
puts_rest {put} {last} {next} rest p e =
    let q : Puts rest put last next (next + length rest) = record { end_is = refl; bytes_are = e } in
    (puts_then p q).bytes_are

-- a text whose first part is that
pub record Opens (text part more : List ℕ) : Type 0 where
  pub is : text ≡ part ++ more

-- of a text put at a place, this rest is left to put at the place that a loop has come to
pub record Left (text out₀ : List ℕ) (at : ℕ) (rest out : List ℕ) (next : ℕ) : Type 0 where
  pub long : length out ≡ length out₀
  pub place : next + length rest ≡ at + length text
  pub bytes : sets out next rest ≡ sets out₀ at text

module _ {text out₀ : List ℕ} {at : ℕ} where
  pub left_all : Left text out₀ at text out₀ at
  left_all = record { long = refl; place = refl; bytes = refl }

  module _ {rest out : List ℕ} {next : ℕ} (l : Left text out₀ at rest out next) where
    -- the next part of what is left, for which there is room
    module _ {part more : List ℕ} (e : Opens rest part more) where
      pub left_fits : at + length text ≤ length out₀ → next + length part ≤ length out
      left_fits h = omega (arith, l.long, l.place, ap length e.is, length-append part more)

      pub left_next : {put : List ℕ} {end : ℕ} → Puts part out put next end → Left text out₀ at more put end
      left_next {put} {end} p = record {
        long = ap length p.bytes_are ∙ length-sets out next part ∙ l.long;
        place = omega (arith, l.place, p.end_is, ap length e.is, length-append part more);
        bytes =
            ap₂ (λ o i. sets o i more) p.bytes_are p.end_is
            ∙ sym (sets_append part more out next)
            ∙ ap (sets out next) (sym e.is)
            ∙ l.bytes;
      }

    -- the last part of it
    pub left_last : {put : List ℕ} {end : ℕ} → Puts rest out put next end → Puts text out₀ put at end
    left_last p = record { end_is = omega (arith, l.place, p.end_is); bytes_are = p.bytes_are ∙ l.bytes }

    pub left_done : rest ≡ [] → Puts text out₀ out at next
    left_done e = left_last (rw e puts_none)
