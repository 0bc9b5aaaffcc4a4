-- `filed_judge::ledger_fits` meets its contract: the ledger as filed is judged by 21.
use mathlib.Core.Path.{◌≡◌, refl, ◌∙◌}
use Prim.Native.Nat.{◌≤◌}
use native.Mathlib.Omega.{arith}
use lib.IntN.{pos}
use lib.ListN.{length}
use lib.Signed.{◌≤ℤ◌}
use mir.Syntax.{w64}
use mir.Val.{to_z, of_z}
use Rattle.algebra.proofs.Machine.{read_back}
use Rattle.model.specs.Error.{squared_error, most_cells, most_squared}
use Rattle.model.specs.Setting.{target_in}
use Rattle.model.proofs.Halftone.{few_cells}
use Rattle.judge_ledger.proofs.Tests.{plate_asked}
use Rattle.filed_judge.proofs.Verdicts.{ledger_by, ok_none}
use Rattle.filed_judge.proofs.ledger_fits.Goals as goal
use Rattle.filed_judge.proofs.ledger_fits.Goals.{After-sum-count, Start}

pub sum-count-requires : goal.sum-count-requires
sum-count-requires c =
    let f = c.requires.0.plate.halftone in omega (arith, few_cells f, f.dots_length)

-- once the dots are counted
module _ (c : After-sum-count) where
  abbrev s : Start
  s = search

  -- the squared error as its local holds it
  squared_is : to_z w64 (of_z w64 s.args.squared)
      ≡ squared_error (target_in s.args.setting) s.args.dots.now
  squared_is = read_back w64 s.args.squared s.ranges.squared.sfits ∙ s.requires.0.squared_is

  asked : (length s.args.table.now ≤ most_cells) × (c.sum-count.result ≤ most_cells)
      × (pos 0 ≤ℤ to_z w64 (of_z w64 s.args.squared)) × (to_z w64 (of_z w64 s.args.squared) ≤ℤ pos most_squared)
  asked =
      plate_asked s.requires.0.plate.halftone refl
      c.known_bytes.ensures c.sum-count.ensures squared_is

pub filed_stats-stats-requires : goal.filed_stats-stats-requires
filed_stats-stats-requires c = (c.sum-count.ensures, (asked c).1, (s c).requires.1)

pub judge_ledger-requires : goal.judge_ledger-requires
judge_ledger-requires c = let k = (goal.at.judge_ledger-requires c).After-sum-count in asked k

pub returns : goal.returns
returns c =
    let k = (goal.at.returns c).After-sum-count in
    c.is_ok.ensures.value ∙ ok_none _ ∙ ledger_by _ _ _ c.judge_ledger.ensures (s k).requires.0.plate.halftone.table_length (squared_is k)
    k.sum-count.ensures c.filed_stats-stats.ensures
