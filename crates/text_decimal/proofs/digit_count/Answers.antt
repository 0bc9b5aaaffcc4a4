-- `text_decimal::digit_count` meets its contract: each return is read off its tests.
use mathlib.Core.Path.{sym}
use native.Mathlib.Omega.{arith}
use Rattle.model.proofs.Text.{length_low}
use Rattle.text_decimal.proofs.Digits.{two_digits, three_digits}
use Rattle.text_decimal.proofs.digit_count.Goals as goal

pub returns-in-0-to-9 : goal.returns-in-0-to-9
returns-in-0-to-9 c = (sym (length_low c.args.n (omega arith)), omega arith)

pub returns-in-10-to-99 : goal.returns-in-10-to-99
returns-in-10-to-99 c = (sym (two_digits c.args.n (omega arith) (omega arith)), omega arith)

pub returns-in_default : goal.returns-in_default
returns-in_default c = (sym (three_digits c.args.n (omega arith) (omega arith)), omega arith)
