-- `filed_read::psf_sum` meets its contract: what is stored at the front of the scratch is the psf of the sheet.
use mathlib.Core.List.{List}
use mathlib.Core.Path.{◌≡◌, sym, ◌∙◌, ap}
use Prim.Native.Nat.{ℕ}
use lib.ListN.{length, take, replicate}
use lib.Seq.{sets}
use Rattle.model.specs.Psf.{total}
use Rattle.model.specs.Text.{bytes}
use Rattle.model.specs.Sheet.{side_of, entries_of}
use Rattle.model.specs.Format.{Part, block, psf_block, Parsed, parse}
use Rattle.model.proofs.Format.{values_length, numbers_grid}
use Rattle.model.proofs.Sheet.{front}
use Rattle.sheet_read.proofs.Blocks.{psf_block_lem, psf_at, judged}
use Rattle.filed_read.proofs.psf_sum.Goals as goal
use Rattle.filed_read.proofs.psf_sum.Goals.{After-side}

-- the block that is stored is that of the psf
psf-stored : (c : After-side)
    → let a = c.args in
    parse (block (bytes "psf\n") c.side.result c.entries-n.result 255) a.s.now a.at
    ≡ psf_at a.m.measures a.s.now a.at
psf-stored c =
    let a = c.args in
    ap (λ (ps : List Part). parse ps a.s.now a.at)
    (psf_block_lem a.m.measures c.side.ensures.0 c.entries-n.ensures.0)

pub store_block-requires-clause-at_value : goal.store_block-requires-clause-at_value
store_block-requires-clause-at_value c =
    let a = c.args in
    ap (λ (r : Parsed). r.refusal) (psf-stored (goal.at.store_block-requires-clause-at_value c).After-side)
    ∙ (judged a.m.measures a.s.now a.at c.requires).psf_good

pub returns : goal.returns
returns c =
    let k = (goal.at.returns c).After-side in
    let a = c.args in
    let m = a.m.measures in
    let j = judged m a.s.now a.at c.requires in
    let psf = (psf_at m a.s.now a.at).values in
    let long : length psf ≡ c.entries-n.result =
    values_length (psf_block m) a.s.now a.at j.psf_good
    ∙ numbers_grid (side_of m) 255 0 (entries_of m)
    ∙ sym c.entries-n.ensures.0 in
    let zeros : List ℕ = replicate 49 0 in
    let stored = c.store_block.ensures.out_after ∙ ap (λ (r : Parsed). sets zeros 0 r.values) (psf-stored k) in
    let summed = ap (take c.entries-n.result) stored ∙ front zeros psf _ long c.entries-n.ensures.1 ∙ j.psf in
    c.sum.ensures ∙ ap total summed
