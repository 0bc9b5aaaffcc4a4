-- `filed_rest::scans_clear` meets its contract: a toggle scan that accepts something, or the swap scan after one that
-- accepts nothing.
use mathlib.Core.Path.{◌≡◌, ◌∙◌}
use native.Mathlib.Omega.{arith}
use mir.Syntax.{w64}
use Rattle.algebra.proofs.Machine.{read_back}
use Rattle.model.specs.Error.{target_for}
use Rattle.model.specs.Ledger.{fresh_stats}
use Rattle.model.proofs.Halftone.{few_cells}
use Rattle.invariants.specs.Plate.{Ready}
use Rattle.filed_rest.proofs.Clear.{fresh_ready, still_ready, not_at_rest, swaps_decide}
use Rattle.filed_rest.proofs.scans_clear.Goals as goal
use Rattle.filed_rest.proofs.scans_clear.Goals.{After-fresh-stats, Start}

pub kernel-c-requires : goal.kernel-c-requires
kernel-c-requires c = c.requires.measured.plate.halftone.psf_fits

pub fresh-stats-requires : goal.fresh-stats-requires
fresh-stats-requires c =
    let f = c.requires.measured.plate.halftone in omega (arith, few_cells f, f.dots_length)

-- once the ledger is made
module _ (f : After-fresh-stats) where
  abbrev s : Start
  s = search

  made : f.fresh-stats.result
      ≡ fresh_stats (target_for s.args.setting.measures s.args.setting.psf.now s.args.setting.gray.now) s.args.dots.now
  made = f.fresh-stats.ensures _ (read_back w64 s.args.squared s.ranges.squared.sfits ∙ s.requires.measured.squared_is)

  ready : Ready s.args.setting.measures s.args.setting.psf.now s.args.setting.gray.now f.kernel-c.result s.args.dots.now
      s.args.table.now f.fresh-stats.result
  ready =
      fresh_ready _ _ _ _ made s.requires f.kernel-c.ensures
      f.known_bytes.ensures

pub toggle_all-toggled-requires : goal.toggle_all-toggled-requires
toggle_all-toggled-requires c = let f = (goal.at.toggle_all-toggled-requires c).After-fresh-stats in ready f

pub returns-then-toggled-ne0 : goal.returns-then-toggled-ne0
returns-then-toggled-ne0 c =
    let f = (goal.at.returns-then-toggled-ne0 c).After-fresh-stats in
    not_at_rest (s f).args.setting.measures _ _ _ (made f) c.toggle_all-toggled.ensures _ c.if-toggled-ne0.true

pub swap_all-swapped-requires : goal.swap_all-swapped-requires
swap_all-swapped-requires c =
    let f = (goal.at.swap_all-swapped-requires c).After-fresh-stats in
    still_ready _ _ _ _ (made f) c.toggle_all-toggled.ensures c.if-toggled-ne0.false (ready f)

pub returns : goal.returns
returns c =
    let f = (goal.at.returns c).After-fresh-stats in
    swaps_decide (s f).args.setting.measures _ _ _ (made f) c.toggle_all-toggled.ensures _ c.if-toggled-ne0.false c.swap_all-swapped.ensures
