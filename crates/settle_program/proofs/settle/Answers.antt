-- `settle_program::settle` meets its contract: what is put is by how long the input is, and by what reading it answered.
use mathlib.Core.Path.{refl}
use native.Mathlib.Omega.{arith}
use Rattle.std.proofs.lemmas.Result.{err_from_is_err_and}
use Rattle.model.proofs.Program.{output_long}
use Rattle.settle_program.proofs.Texts.{read_refused, read_done}
use Rattle.settle_program.proofs.settle.Goals as goal

pub returns-then-input-gt-MOST_INPUT : goal.returns-then-input-gt-MOST_INPUT
returns-then-input-gt-MOST_INPUT c = rw c.into.ensures (output_long _ (omega arith), refl)

pub returns-in_err-measures : goal.returns-in_err-measures
returns-in_err-measures c =
    let (r, is, same) = err_from_is_err_and c.from_residual.result c.from_residual.ensures.1 in
    rw (is, same) (read_refused _ (omega arith) _ _ c.in_err-measures.ensures, refl)

pub process-requires : goal.process-requires
process-requires c =
    let h = read_done _ (omega arith) c.in_ok-measures.measures c.in_ok-measures.ensures in
    let l = c.read_sheet.auto in
    record {
      in_range = (h.1, h.3, c.requires);
      m_in_bounds = (omega (arith, h, l.psf), omega (arith, h, l.gray), omega (arith, h, l.dots));
    }

pub returns : goal.returns
returns c =
    let h = read_done _ (omega arith) c.in_ok-measures.measures c.in_ok-measures.ensures in
    rw h.0 c.process.ensures
