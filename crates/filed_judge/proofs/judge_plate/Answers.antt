-- `filed_judge::judge_plate` meets its contract: each verdict by its function, and the table by its filter.
use mathlib.Core.List.{List}
use mathlib.Core.Path.{◌≡◌, ◌∙◌}
use native.Mathlib.Omega.{arith}
use lib.Dec.{lit<}
use lib.IntN.{ℤ, pos}
use mir.Syntax.{w64}
use mir.Val.{to_z, of_z}
use Rattle.algebra.proofs.Machine.{read_back, of_cast}
use Rattle.model.specs.FiledCalls.{verdict_of}
use Rattle.filed_rest.specs.Measured.{Measured}
use Rattle.filed_judge.proofs.Verdicts.{measured_by, figure_by}
use Rattle.filed_judge.proofs.judge_plate.Goals as goal
use Rattle.filed_judge.proofs.judge_plate.Goals.{After-filter_and_square-squared, Start}

pub filter_and_square-squared-requires : goal.filter_and_square-squared-requires
filter_and_square-squared-requires c = c.requires.plate_fits.halftone

-- once the table is filled
module _ (k : After-filter_and_square-squared) where
  abbrev s : Start
  s = search

  -- the squared error as its local holds it
  abbrev squared : ℤ
  squared = to_z w64 (of_z w64 k.filter_and_square-squared.result)

  abbrev left : List ℤ
  left = k.filter_and_square-squared.new.table

  read : squared ≡ k.filter_and_square-squared.result
  read = read_back w64 k.filter_and_square-squared.result k.filter_and_square-squared.type_inv

  measured : Measured s.args.setting.measures s.args.setting.psf.now s.args.setting.gray.now s.args.dots.now left squared
  measured = measured_by s.requires.plate_fits k.filter_and_square-squared.ensures.0 (read ∙ k.filter_and_square-squared.ensures.1)

  filed-is : to_z w64 s.args.f.after ≡ pos s.args.f.after
  filed-is = (of_cast w64 s.args.f.after (s.requires.at_most.0.each 1) (lit< tt)).value

pub ledger_fits-requires : goal.ledger_fits-requires
ledger_fits-requires c = let k = (goal.at.ledger_fits-requires c).After-filter_and_square-squared in (measured k, (s k).requires.at_most.0)

pub resting-requires : goal.resting-requires
resting-requires c = let k = (goal.at.resting-requires c).After-filter_and_square-squared in (measured k, (s k).requires.at_most.1)

pub returns : goal.returns
unfolding verdict_of
returns c =
    let k = (goal.at.returns c).After-filter_and_square-squared in
    let a = (s k).args in
    let figure = figure_by a.f.after _ (filed-is k) (read k) k.filter_and_square-squared.ensures.1 in record {
      value = λ i. record {
        measures = a.setting.measures;
        filed = filed-is k i;
        squared = (measured k).squared_is i;
        figure = figure i;
        ledger = c.ledger_fits.ensures i;
        rest = c.resting.ensures i;
      };
      table_after = k.filter_and_square-squared.ensures.0;
    }

pub overflow_cast-filed : goal.overflow_cast-filed
overflow_cast-filed c = record { sfits = omega (arith, c.requires.at_most.0.each 1) }
