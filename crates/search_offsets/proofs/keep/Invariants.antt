-- `search_offsets::keep` meets its contract: of the codes passed, those within reach have been written in their order.
use mathlib.Core.Bool.{Bool, true, false}
use mathlib.Core.List.{List, [], ◌∷◌, ◌++◌, append-nil}
use mathlib.Core.Path.{◌≡◌, refl, sym, ◌∙◌, ap}
use Prim.Native.Nat.{ℕ, ◌+◌, ◌≤◌, ◌<◌}
use native.Mathlib.Numerals.{add-one}
use native.Mathlib.Omega.{arith}
use lib.ListN.{length, get_or, take, set, length-set}
use lib.Seq.{take-suc, take-suc-set}
use Rattle.model.specs.Basic.{pick}
use Rattle.search_offsets.specs.Codes.{within, kept}
use Rattle.search_offsets.proofs.keep.Given as goal

-- ---- one code more
pub kept_more : (reach : ℕ) (l : List ℕ) (code : ℕ)
    → kept reach (l ++ (code ∷ [])) ≡ kept reach l ++ pick (within reach code) (code ∷ []) []
unfolding kept
kept_more reach [] code = refl
kept_more reach (x ∷ l) code = go (within reach x) (kept_more reach l code)
  where
    more : List ℕ
    more = pick (within reach code) (code ∷ []) []

    go : (b : Bool) → kept reach (l ++ (code ∷ [])) ≡ kept reach l ++ more
        → pick b (x ∷ kept reach (l ++ (code ∷ []))) (kept reach (l ++ (code ∷ [])))
        ≡ pick b (x ∷ kept reach l) (kept reach l) ++ more
    go true e = ap (λ m. x ∷ m) e
    go false e = e

-- after k codes: the first `count` entries are those kept of them
pub record Keeping (codes : List ℕ) (reach : ℕ) (out₀ out : List ℕ) (count k : ℕ) : Type 0 where
  pub passed : k ≤ length codes
  pub few : count ≤ k
  pub long : length out ≡ length out₀
  pub keeps : take count out ≡ kept reach (take k codes)

module _ {codes : List ℕ} {reach : ℕ} {out₀ out : List ℕ} {count k : ℕ}
    (s : Keeping codes reach out₀ out count k) (more : k < length codes) where
  abbrev pub code : ℕ
  code = get_or codes k 0

  -- the codes kept of one more, where it is known whether it is within reach
  pub next : {b : Bool} → within reach code ≡ b
      → kept reach (take k codes) ++ pick b (code ∷ []) [] ≡ kept reach (take (k + 1) codes)
  next e =
      sym (ap (kept reach) (ap (λ n. take n codes) (add-one k) ∙ take-suc codes k 0 more)
      ∙ kept_more reach (take k codes) code
      ∙ ap (λ b. kept reach (take k codes) ++ pick b (code ∷ []) []) e)

  pub kept_one : length codes ≤ length out → within reach code ≡ true
      → Keeping codes reach out₀ (set out count code) (count + 1) (k + 1)
  kept_one fits e =
      record {
        passed = omega arith;
        few = omega arith;
        long = length-set out count code ∙ s.long;
        keeps =
            ap (λ n. take n (set out count code)) (add-one count)
            ∙ take-suc-set out count code (omega arith)
            ∙ ap (λ l. l ++ (code ∷ [])) s.keeps
            ∙ next e;
      }

  pub left_out : within reach code ≡ false → Keeping codes reach out₀ out count (k + 1)
  left_out e =
      record {
        passed = omega arith;
        few = omega arith;
        long = s.long;
        keeps = s.keeps ∙ sym (append-nil (kept reach (take k codes))) ∙ next e;
      }

abbrev pub invariant-loop-code : goal.invariant-loop-code
invariant-loop-code l = Keeping l.codes l.reach l.initial.out l.out l.count l.code-index
