-- `sheet_read::store_body` meets its contract: each block is stored from where the one before it ends.
use mathlib.Core.List.{List}
use mathlib.Core.Path.{◌≡◌, ◌∙◌, ap, ap₂}
use Prim.Native.Nat.{ℕ}
use lib.Seq.{sets}
use Rattle.model.specs.declared.Measures.{Measures}
use Rattle.model.specs.Text.{bytes}
use Rattle.model.specs.Sheet.{side_of, entries_of, cells_of}
use Rattle.model.specs.Format.{Part, block, dots_block, Parsed, parse}
use Rattle.model.specs.SheetCalls.{sheet_buffers}
use Rattle.sheet_read.proofs.Blocks.{psf_block_lem, gray_block_lem, psf_at, gray_at, dots_at, judged}
use Rattle.sheet_read.proofs.store_body.Goals as goal

module _ (m : Measures) (s : List ℕ) (at : ℕ) (k n : ℕ) (ke : k ≡ side_of m) (ne : n ≡ entries_of m) where
  -- the block that is stored first is that of the psf
  psf-stored : parse (block (bytes "psf\n") k n 255) s at ≡ psf_at m s at
  psf-stored = ap (λ (ps : List Part). parse ps s at) (psf_block_lem m ke ne)

  module _ (p g : ℕ) (pe : p ≡ (parse (block (bytes "psf\n") k n 255) s at).at) (ge : g ≡ cells_of m) where
    -- after it that of the gray
    gray-stored : parse (block (bytes "gray\n") m.width g 255) s p ≡ gray_at m s at
    gray-stored =
        ap₂ (λ (ps : List Part) (o : ℕ). parse ps s o) (gray_block_lem m ge)
        (pe ∙ ap (λ (r : Parsed). r.at) psf-stored)

    -- and after that the one of the dots
    dots-stored : (d : ℕ) → d ≡ (parse (block (bytes "gray\n") m.width g 255) s p).at
        → parse (dots_block m) s d ≡ dots_at m s at
    dots-stored d de = ap (parse (dots_block m) s) (de ∙ ap (λ (r : Parsed). r.at) gray-stored)

pub store_block-under_psf-requires-clause-at_value : goal.store_block-under_psf-requires-clause-at_value
store_block-under_psf-requires-clause-at_value c =
    let a = c.args in
    let m = a.m.measures in
    ap (λ (r : Parsed). r.refusal) (psf-stored m _ _ _ _ c.side.ensures.0 c.entries.ensures.0)
    ∙ (judged m a.s.now a.at c.requires.at_value).psf_good

pub store_block-under_gray-requires-clause-at_value : goal.store_block-under_gray-requires-clause-at_value
store_block-under_gray-requires-clause-at_value c =
    let a = c.args in
    let m = a.m.measures in
    let is = gray-stored m _ _ _ _ c.side.ensures.0 c.entries.ensures.0 _ _ c.store_block-under_psf.ensures.value
    c.cells.ensures.0 in
    ap (λ (r : Parsed). r.refusal) is ∙ (judged m a.s.now a.at c.requires.at_value).gray_good

pub store_dots-requires-clause-at_value : goal.store_dots-requires-clause-at_value
store_dots-requires-clause-at_value c =
    let a = c.args in
    let m = a.m.measures in
    let is = dots-stored m _ _ _ _ c.side.ensures.0 c.entries.ensures.0 _ _ c.store_block-under_psf.ensures.value
    c.cells.ensures.0 _ c.store_block-under_gray.ensures.value in
    ap (λ (r : Parsed). r.refusal) is ∙ (judged m a.s.now a.at c.requires.at_value).dots_good

pub returns : goal.returns
returns c =
    let a = c.args in
    let m = a.m.measures in
    let j = judged m a.s.now a.at c.requires.at_value in
    let psf = psf-stored m _ _ _ _ c.side.ensures.0 c.entries.ensures.0 in
    let gray = gray-stored m _ _ _ _ c.side.ensures.0 c.entries.ensures.0 _ _ c.store_block-under_psf.ensures.value
    c.cells.ensures.0 in
    let dots = dots-stored m _ _ _ _ c.side.ensures.0 c.entries.ensures.0 _ _ c.store_block-under_psf.ensures.value
    c.cells.ensures.0 _ c.store_block-under_gray.ensures.value in
    let psf-put =
    c.store_block-under_psf.ensures.out_after ∙ ap (sets a.psf.now 0) (ap (λ (r : Parsed). r.values) psf ∙ j.psf) in
    let gray-put =
    c.store_block-under_gray.ensures.out_after ∙ ap (sets a.gray.now 0) (ap (λ (r : Parsed). r.values) gray ∙ j.gray) in
    let dots-put =
    c.store_dots.ensures ∙ ap (sets a.dots.now 0) (ap (λ (r : Parsed). r.values) dots ∙ j.dots) in
    λ i. sheet_buffers (psf-put i) (gray-put i) (dots-put i)
