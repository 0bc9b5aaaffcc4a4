-- What follows line 2.
--   psf_block_lem, gray_block_lem       the blocks by their names
--   ended_good, first_good, blocks_good         where all is good, so is what stands before its end, or first in it
--   judged                                      what blocks that were judged good hold
use mathlib.Core.Bool.{Bool, true, false}
use mathlib.Core.List.{List, ◌++◌}
use mathlib.Core.Path.{◌≡◌, refl, sym, ◌∙◌, ap}
use Prim.Native.Nat.{ℕ}
use borrow.Author.Tests.{eqb-true, eqb-false}
use lib.Dec.{eqb}
use lib.ListN.{length, take, drop}
use lib.Seq.{take_at, drop_at}
use Rattle.model.specs.declared.Measures.{Measures}
use Rattle.model.specs.Format.{Place}
use Rattle.model.specs.Text.{bytes}
use Rattle.model.specs.Sheet.{side_of, entries_of, cells_of, psf_name, gray_name}
use Rattle.model.specs.Format.{Part, block, psf_block, gray_block, dots_block, body, Parsed, parse, place_of}
use Rattle.model.specs.Format.{ended, sheet_of, body_end}
use Rattle.model.proofs.Basic.{zero_cases}
use Rattle.model.proofs.Format.{parse_append, parse_refused, values_length, numbers_grid}

-- ---- the blocks by their names
module _ (m : Measures) where
  pub psf_block_lem : {w n : ℕ} → w ≡ side_of m → n ≡ entries_of m → block (bytes "psf\n") w n 255 ≡ psf_block m
  unfolding psf_name
  psf_block_lem ew en = rw (ew, en)

  pub gray_block_lem : {n : ℕ} → n ≡ cells_of m → block (bytes "gray\n") m.width n 255 ≡ gray_block m
  unfolding gray_name
  gray_block_lem en = rw en

-- ---- what was judged good
pub ended_good : (s : List ℕ) (p : Place) → (ended s p).refusal ≡ 0 → p.refusal ≡ 0
ended_good s p =
    zero_cases (λ (e : Place). e.refusal ≡ 0 → p.refusal ≡ 0) p.refusal (λ y z. y) (λ y z. z)

pub blocks_good : (m : Measures) (s : List ℕ) (at : ℕ) → (body_end m s at).refusal ≡ 0
    → (parse (body m) s at).refusal ≡ 0
unfolding body_end
blocks_good m s at = ended_good s (place_of (parse (body m) s at))

-- parts after parts
module _ (a b : List Part) (s : List ℕ) (at : ℕ) (z : (parse (a ++ b) s at).refusal ≡ 0) where
  pub first_good : (parse a s at).refusal ≡ 0
  first_good = go (eqb (parse a s at).refusal 0) refl
    where
      go : (c : Bool) → eqb (parse a s at).refusal 0 ≡ c → (parse a s at).refusal ≡ 0
      go true t = eqb-true (parse a s at).refusal 0 t
      go false t =
          let e = parse_refused a b s at (eqb-false (parse a s at).refusal 0 t) in
          sym (ap (λ (r : Parsed). r.refusal) e) ∙ z

  then_good : (parse b s (parse a s at).at).refusal ≡ 0
  then_good = sym (ap (λ (r : Parsed). r.refusal) (parse_append a b s at first_good)) ∙ z

  both_values : (parse (a ++ b) s at).values ≡ (parse a s at).values ++ (parse b s (parse a s at).at).values
  both_values = ap (λ (r : Parsed). r.values) (parse_append a b s at first_good)

-- the blocks where they stand
abbrev pub psf_at : Measures → List ℕ → ℕ → Parsed
psf_at m s at = parse (psf_block m) s at

abbrev pub gray_at : Measures → List ℕ → ℕ → Parsed
gray_at m s at = parse (gray_block m) s (psf_at m s at).at

abbrev pub dots_at : Measures → List ℕ → ℕ → Parsed
dots_at m s at = parse (dots_block m) s (gray_at m s at).at

-- are good, and hold what the sheet holds
pub record Judged (m : Measures) (s : List ℕ) (at : ℕ) : Type 0 where
  pub psf_good : (psf_at m s at).refusal ≡ 0
  pub gray_good : (gray_at m s at).refusal ≡ 0
  pub dots_good : (dots_at m s at).refusal ≡ 0
  pub psf : (psf_at m s at).values ≡ (sheet_of m (parse (body m) s at).values).psf
  pub gray : (gray_at m s at).values ≡ (sheet_of m (parse (body m) s at).values).gray
  pub dots : (dots_at m s at).values ≡ (sheet_of m (parse (body m) s at).values).dots

pub judged : (m : Measures) (s : List ℕ) (at : ℕ) → (parse (body m) s at).refusal ≡ 0 → Judged m s at
unfolding body
judged m s at good =
    let n = entries_of m in
    let k = cells_of m in
    let rest = gray_block m ++ dots_block m in
    let p = first_good (psf_block m) rest s at good in
    let others = then_good (psf_block m) rest s at good in
    let o = (psf_at m s at).at in
    let g = first_good (gray_block m) (dots_block m) s o others in
    let d = then_good (gray_block m) (dots_block m) s o others in
    let P = (psf_at m s at).values in
    let G = (gray_at m s at).values in
    let D = (dots_at m s at).values in
    let psf_length : length P ≡ n = values_length (psf_block m) s at p ∙ numbers_grid (side_of m) 255 0 n in
    let gray_length : length G ≡ k = values_length (gray_block m) s o g ∙ numbers_grid m.width 255 0 k in
    let all : (parse (body m) s at).values ≡ P ++ (G ++ D) =
    both_values (psf_block m) rest s at good
    ∙ ap (λ (l : List ℕ). P ++ l) (both_values (gray_block m) (dots_block m) s o others) in
    let after : drop n (parse (body m) s at).values ≡ G ++ D = ap (drop n) all ∙ drop_at P (G ++ D) n psf_length in
    record {
      psf_good = p;
      gray_good = g;
      dots_good = d;
      psf = sym (ap (take n) all ∙ take_at P (G ++ D) n psf_length);
      gray = sym (ap (take k) after ∙ take_at G D k gray_length);
      dots = sym (ap (drop k) after ∙ drop_at G D k gray_length);
    }
