-- `filed_judge::resting` meets its contract: the reason for which a start is refused, else rest or not.
use Rattle.std.proofs.Common.{ℕ, length}
use mathlib.Core.Path.{◌≡◌, refl, sym, ◌∙◌, ap, subst}
use mir.Syntax.{w64}
use Rattle.std.proofs.lemmas.Result.{err_from_is_err_and}
use Rattle.algebra.proofs.Machine.{read_back}
use Rattle.model.specs.FiledCalls.{Unstarted, resting_in}
use Rattle.model.specs.Reason.{number_of}
use Rattle.model.specs.Refusal.{start_refusal}
use Rattle.model.specs.Sheet.{cells_of}
use Rattle.judge_parts.proofs.Drawn.{some_number}
use Rattle.filed_rest.specs.Measured.{Startable}
use Rattle.filed_judge.proofs.Verdicts.{unstarted, started, startable_by}
use Rattle.filed_judge.proofs.resting.Goals as goal
use Rattle.filed_judge.proofs.resting.Goals.{Start}

-- the number of a start whose table has an entry for each cell
number_is : (s : Start) {x : ℕ}
    → x ≡ start_refusal s.args.setting.measures s.args.setting.psf.now s.args.setting.gray.now s.args.dots.now (length s.args.table.now)
    → x ≡ start_refusal s.args.setting.measures s.args.setting.psf.now s.args.setting.gray.now s.args.dots.now (cells_of s.args.setting.measures)
number_is s is =
    is
    ∙ ap (start_refusal s.args.setting.measures s.args.setting.psf.now s.args.setting.gray.now s.args.dots.now)
    s.requires.0.plate.halftone.table_length

pub returns-in_err-judge_start : goal.returns-in_err-judge_start
returns-in_err-judge_start c =
    let (r, is, same) = err_from_is_err_and c.from_residual.result c.from_residual.ensures.1 in
    ap resting_in is ∙ ap (λ e. Unstarted (number_of e)) same
    ∙ unstarted _ _ (number_is (search) c.in_err-judge_start.ensures) (some_number _)

pub at_rest-requires : goal.at_rest-requires
at_rest-requires c =
    let back = read_back w64 c.args.squared c.ranges.squared.sfits in
    subst (Startable c.args.setting.measures c.args.setting.psf.now c.args.setting.gray.now c.args.dots.now c.args.table.now) (sym back)
    (startable_by _ _ _ _ (cells_of c.args.setting.measures) c.requires.0 c.requires.1
    (number_is (search) c.in_ok-judge_start.ensures) refl)

pub returns : goal.returns
returns c = started _ (number_is (search) c.in_ok-judge_start.ensures) refl c.at_rest.ensures
