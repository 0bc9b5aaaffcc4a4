-- `settle_report::put_refused` meets its contract: its parts are put one after the other.
use native.Mathlib.Omega.{arith}
use Rattle.model.specs.Program.{refused_text}
use Rattle.model.proofs.Puts.{puts_then}
use Rattle.settle_report.proofs.Lengths.{digits_most, refused_length}
use Rattle.settle_report.proofs.put_refused.Goals as goal

pub returns : goal.returns
unfolding refused_text
returns c =
    let number = c.args.number in
    let at = c.args.at in
    let put =
    puts_then c.put_bytes-word.ensures
    (puts_then c.put_number-numbered.ensures (puts_then c.put_bytes-placed.ensures c.put_field.ensures)) in record {
      put = put;
      most =
          omega (
            arith,
            put.end_is,
            digits_most number (omega arith),
            digits_most at (omega arith),
            refused_length number at,
          );
    }
