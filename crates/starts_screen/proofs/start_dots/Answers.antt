-- `starts_screen::start_dots` meets its contract: each kind has its own function, and kind 2 leaves the dots as they
-- are. That the table of 256 thresholds follows the bit rule is one computed test of the whole table: `refl` in `order-
-- requires`, where it is lent.
use mathlib.Core.Path.{refl, sym, ◌∙◌, ap}
use native.Mathlib.Omega.{arith}
use Rattle.model.specs.Basic.{tabulate}
use Rattle.model.specs.Psf.{total}
use Rattle.model.specs.Screen.{bayer, thresholds, blank, ordered}
use Rattle.model.proofs.Screen.{is_blank, is_ordered, is_given}
use Rattle.starts_screen.proofs.start_dots.Goals as goal

pub blank_dots-requires : goal.blank_dots-requires
blank_dots-requires c = let (gray, dots) = c.requires.gray_len in dots ∙ sym gray

pub order-requires : goal.order-requires
unfolding thresholds tabulate total bayer
order-requires c =
    record {
      array_value = refl;
      width_nonzero = (c.requires.width_nonzero, c.requires.gray_len.1 ∙ sym c.requires.gray_len.0);
    }

pub returns-in-0 : goal.returns-in-0
returns-in-0 c =
    c.blank_dots.ensures
    ∙ ap (λ k. tabulate k (blank c.args.setting.gray.now)) c.requires.gray_len.0
    ∙ sym (is_blank _ _ _ c.in-0.is)

pub returns-in-1 : goal.returns-in-1
returns-in-1 c =
    c.order.ensures
    ∙ ap (λ k. tabulate k (ordered c.args.setting.measures.width c.args.setting.gray.now)) c.requires.gray_len.0
    ∙ sym (is_ordered _ _ _ c.in-1.is)

pub returns-in_default : goal.returns-in_default
returns-in_default c =
    sym (is_given c.args.setting.measures c.args.setting.gray.now c.args.dots.now (λ e. omega arith) (λ e. omega arith))
