-- `settle_program::process` meets its contract: the fronts of the buffers are what is started.
use mathlib.Core.Path.{refl, sym, ◌∙◌}
use lib.Seq.{length-take-le}
use Rattle.std.proofs.lemmas.Result.{err_from_is_err_and}
use Rattle.settle_program.proofs.Texts.{prints_as, front_bytes, of_blank}
use Rattle.settle_program.proofs.process.Goals as goal

pub put_result-requires : goal.put_result-requires
put_result-requires c =
    let (ranged, few, room) = c.requires.in_range in
    let held = c.requires.m_in_bounds in
    record {
      in_range = ranged;
      shaped =
          record {
            psf_length = length-take-le _ _ held.0;
            gray_length = length-take-le _ _ held.1;
            dots_length = c.come_to_rest.auto.dots ∙ length-take-le _ _ held.2;
          };
      psf_most = front_bytes _ _ c.type_inv.psf;
      gray_most = front_bytes _ _ c.type_inv.gray;
      few = few;
      room = room;
    }

pub returns-in_err-done : goal.returns-in_err-done
returns-in_err-done c =
    let (r, is, gives) = err_from_is_err_and c.from_residual.result c.from_residual.ensures.1 in
    rw (is, gives) (of_blank c.args.measures _ _ _ c.requires.in_range.1 c.in_err-done.ensures, refl)

pub returns : goal.returns
returns c =
    prints_as (sym (of_blank c.args.measures _ _ _ c.requires.in_range.1 c.in_ok-done.ensures)) c.put_result.ensures
