-- `sheet_read::judge_blocks` meets its contract: the blocks are judged one after the other.
use mathlib.Core.List.{List, ◌++◌}
use mathlib.Core.Path.{◌≡◌, sym, ◌∙◌, ap, subst}
use Prim.Native.Nat.{ℕ}
use Rattle.std.specs.Prelude.{Result, Ok, Err, MatchResult}
use Rattle.model.specs.declared.Refused.{Refused}
use Rattle.model.specs.Format.{Part, psf_block, gray_block, dots_block, body, parse, place_of}
use Rattle.invariants.specs.Reading.{place_in}
use Rattle.invariants.proofs.Reading.{place_then, place_stop}
use Rattle.sheet_read.proofs.Blocks.{psf_block_lem, gray_block_lem}
use Rattle.sheet_read.proofs.judge_blocks.Goals as goal

module _ (s : List ℕ) where
  -- parts after what was read; what was refused stays refused
  abbrev Goes : List Part → (done result : Result ℕ Refused) → Type 0
  Goes ps done result = MatchResult done (λ at. place_in result ≡ place_of (parse ps s at)) (λ r. result ≡ Err r)

  both : (a b : List Part) (done next last : Result ℕ Refused) → Goes a done next → Goes b next last
      → Goes (a ++ b) done last
  both a b (Ok at) (Ok k) last e f = f ∙ sym (place_then a b s at e)
  both a b (Ok at) (Err r) last e f = ap place_in f ∙ sym (place_stop a b s at r e)
  both a b (Err r) next last e f = subst (λ x. Goes b x last) e f

pub returns : goal.returns
unfolding body
returns c =
    let a = c.args in
    let s = a.s.now in
    let m = a.m.measures in
    let psf = subst (λ ps. Goes s ps (Ok a.at) c.judge_block-psf.result)
    (psf_block_lem m c.side.ensures.0 c.entries.ensures.0) c.judge_block-psf.ensures in
    let gray = subst (λ ps. Goes s ps c.judge_block-psf.result c.judge_block-gray.result)
    (gray_block_lem m c.cells.ensures.0) c.judge_block-gray.ensures in
    both s (psf_block m) (gray_block m ++ dots_block m) (Ok a.at) c.judge_block-psf.result c.judge_dots.result psf
    (both s (gray_block m) (dots_block m) c.judge_block-psf.result c.judge_block-gray.result c.judge_dots.result gray
    c.judge_dots.ensures)
