-- The codes of the 168 offsets within 6 (`codes`): those within a smaller reach are that reach's offsets, in its order
-- (`holds`), by one computed test for each reach.
use mathlib.Core.Bool.{Bool, false, ◌||◌}
use mathlib.Core.List.{List, [], ◌∷◌, map}
use mathlib.Core.Path.{◌≡◌, refl, sym, ◌∙◌, ap}
use Prim.Native.Nat.{ℕ, zero, suc, ◌+◌, ◌*◌, ◌≤◌, ◌<◌}
use native.Mathlib.Nat.{not-suc-le-zero, le_of_suc-le-suc}
use native.Mathlib.Omega.{arith}
use lib.IntN.{pos, nat_abs, ◌+ℤ◌}
use lib.ListN.{length, get_or, length-map, get_or-map}
use Rattle.model.specs.Partners.{Offset, offsets_of, offsets_from, offsets}
use Rattle.invariants.specs.Partners.{row_of, column_of, offset_of, itself, HoldsOffsets}
use Rattle.model.specs.Refusal.{above}
use Rattle.model.specs.Basic.{some_below}
use Rattle.model.proofs.Refusal.{none_above}
use Rattle.model.proofs.Basic.{neither, all_below}
use Rattle.search_offsets.specs.Codes.{kept}

-- what holds of the seven reaches
each_reach : (P : ℕ → Type 0) → P 0 → P 1 → P 2 → P 3 → P 4 → P 5 → P 6 → (reach : ℕ) → reach ≤ 6 → P reach
each_reach P a b c d e f g zero h = a
each_reach P a b c d e f g (suc zero) h = b
each_reach P a b c d e f g (suc (suc zero)) h = c
each_reach P a b c d e f g (suc (suc (suc zero))) h = d
each_reach P a b c d e f g (suc (suc (suc (suc zero)))) h = e
each_reach P a b c d e f g (suc (suc (suc (suc (suc zero))))) h = f
each_reach P a b c d e f g (suc (suc (suc (suc (suc (suc zero)))))) h = g
each_reach P a b c d e f g (suc (suc (suc (suc (suc (suc (suc n))))))) h = absurd (omega arith)

-- the code of an offset
abbrev code_of : Offset → ℕ
code_of o = nat_abs (o.down +ℤ pos 6) * 16 + nat_abs (o.right +ℤ pos 6)

-- of the offsets within 6, in their order
unfoldable pub codes : List ℕ
codes = map code_of (offsets 6)

-- the offsets of each reach are those within it, in the same order
offsets_within : (reach : ℕ) → reach ≤ 6 → offsets reach ≡ map offset_of (kept reach codes)
unfolding codes kept offsets offsets_from offsets_of
offsets_within = each_reach (λ q. offsets q ≡ map offset_of (kept q codes)) refl refl refl refl refl refl refl

-- some row or column kept is above 12
abbrev wide : ℕ → Bool
wide q = above 12 (map row_of (kept q codes)) || above 12 (map column_of (kept q codes))

digits_small : some_below 7 wide ≡ false
unfolding codes kept offsets offsets_from offsets_of some_below above
digits_small = refl

-- an entry that is there, whatever the default
get_d_there : {A : Type 0} (l : List A) (k : ℕ) (a b : A) → k < length l → get_or l k a ≡ get_or l k b
get_d_there [] k a b h = absurd (not-suc-le-zero h)
get_d_there (x ∷ l) zero a b h = refl
get_d_there (x ∷ l) (suc k) a b h = get_d_there l k a b (le_of_suc-le-suc h)

-- what is kept of them are the offsets within reach
module _ (reach : ℕ) (most : reach ≤ 6) where
  abbrev those : List ℕ
  those = kept reach codes

  small : (above 12 (map row_of those) ≡ false) × (above 12 (map column_of those) ≡ false)
  small =
      neither (above 12 (map row_of those)) (above 12 (map column_of those))
      (all_below 7 wide digits_small reach (omega arith))

  pub holds : HoldsOffsets reach those
  holds =
      record {
        long = sym (ap length (offsets_within reach most) ∙ length-map those offset_of);
        near = λ k h. (
          rw (get_or-map row_of those k 0) at (none_above 12 (map row_of those) small.0 k),
          rw (get_or-map column_of those k 0) at (none_above 12 (map column_of those) small.1 k),
        );
        at = λ k h.
            ap (λ l. get_or l k (offset_of itself)) (offsets_within reach most)
            ∙ get_or-map offset_of those k itself
            ∙ ap offset_of (get_d_there those k itself 0 h);
      }
