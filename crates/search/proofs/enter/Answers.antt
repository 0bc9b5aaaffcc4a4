-- `search::enter` meets its contract: the refusal that the judge draws, or the kernel of a plate that is ready.
use mathlib.Core.Path.{sym}
use Rattle.model.specs.State.{LaterFits}
use Rattle.model.proofs.Later.{later_enters}
use Rattle.search.proofs.enter.Goals as goal
use Rattle.search.proofs.enter.Goals.{In_ok-judge_scan}

-- what is known once nothing is refused
fits : (c : In_ok-judge_scan) → LaterFits c.args.setting.measures c.args.setting.psf.now c.args.setting.gray.now
    c.args.dots.now c.args.table.now c.args.stats
fits c = later_enters _ _ _ _ _ _ (sym c.in_ok-judge_scan.ensures)

pub kernel-requires : goal.kernel-requires
kernel-requires c = (fits (goal.at.kernel-requires c).In_ok-judge_scan).plate.halftone.psf_fits

pub returns : goal.returns
returns c = (
  sym c.in_ok-judge_scan.ensures,
  record {
    later = fits (goal.at.returns c).In_ok-judge_scan;
    kernel = c.kernel.ensures;
    bytes = c.known_bytes.ensures;
  },
)
