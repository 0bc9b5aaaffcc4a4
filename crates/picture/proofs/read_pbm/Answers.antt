-- `picture::read_pbm` meets its contract.
use Rattle.std.proofs.Common.{sym, ◌∙◌, length, refl, arith}
use Rattle.std.proofs.lemmas.Slice.{between_to_end}
use Rattle.model.specs.PictureCalls.{read_pbm_call}
use Rattle.model.proofs.Calls.{ends_done}
use Rattle.picture.proofs.Outcomes.{told_is, header_is, pbm_drawn, ends_err}
use Rattle.picture.proofs.read_pbm.Goals as goal

pub returns-in_err-header : goal.returns-in_err-header
unfolding read_pbm_call
returns-in_err-header c =
    ends_err _ _ _ _ _ c.from_residual.ensures.1
    (c.in_err-header.ensures ∙ pbm_drawn _ _ (told_is _ c.ok.ensures.value c.pbm_header.ensures.value) _ _)

pub returns : goal.returns
unfolding read_pbm_call
returns c =
    let s = c.args.file.now in
    let (none, some) = c.in_ok-header.ensures in
    rw (header_is _ _ (sym (told_is _ c.ok.ensures.value c.pbm_header.ensures.value) ∙ some))
    (ends_done _ _ _ (rw some at none)
    (record {
      reply_is = refl;
      left_is = rw (between_to_end s c.in_ok-header.header.at (length s) (omega arith)) at c.unpack_rows.ensures;
    }))
