-- `picture::write_pgm` meets its contract: 1 and 5 are judged first, then 12; then the file is put.
use Rattle.std.proofs.Common.{◌≡◌, List, length, refl, sym, ◌∙◌, ap, arith}
use Rattle.model.specs.Refusal.{Refusal}
use Rattle.model.specs.Netpbm.{cells_in, negated, pgm_file}
use Rattle.model.specs.Calls.{result}
use Rattle.model.specs.PictureCalls.{write_pgm_refusals, write_pgm_call}
use Rattle.model.proofs.Calls.{ends_done}
use Rattle.model.proofs.Pictures.{picture_fits, pgm_length}
use Rattle.model.proofs.Raster.{negated_length}
use Rattle.judge_parts.proofs.Drawn.{drawn_next}
use Rattle.picture.proofs.Outcomes.{ends_err, has_room, file_put}
use Rattle.picture.proofs.write_pgm.Goals as goal
use Rattle.picture.proofs.write_pgm.Goals.{In_ok-judge_picture, After-pgm_length-length}

-- the list, how much gray there is, and how long the file is
abbrev list : In_ok-judge_picture → List Refusal
list c = write_pgm_refusals c.args.size c.args.gray.now (length c.args.out.now)

exact : (c : In_ok-judge_picture) → length c.args.gray.now ≡ cells_in c.args.size
exact c = (picture_fits c.args.size (length c.args.gray.now) c.in_ok-judge_picture.ensures refl).1

long : (c : After-pgm_length-length) → c.pgm_length-length.result ≡ length (pgm_file c.args.size c.args.gray.now)
long c =
    c.pgm_length-length.ensures
    ∙ sym (pgm_length c.args.size c.args.gray.now (exact (goal.at.After-pgm_length-length c).In_ok-judge_picture))

pub returns-in_err-judge_room : goal.returns-in_err-judge_room
unfolding write_pgm_call
returns-in_err-judge_room c =
    let at = goal.at.returns-in_err-judge_room c in
    ends_err _ _ _ _ _ c.from_residual-in_err-judge_room.ensures.1
    (drawn_next 2 (list at.In_ok-judge_picture) tt c.in_ok-judge_picture.ensures
    (rw (long at.After-pgm_length-length) at c.in_err-judge_room.ensures))

pub returns : goal.returns
unfolding write_pgm_call pgm_file
returns c =
    let at = goal.at.returns c in
    let gray = c.args.gray.now in
    let same = long at.After-pgm_length-length in
    let room = has_room c.pgm_length-length.result (length c.args.out.now) c.in_ok-judge_room.ensures in
    ends_done _ _ _
    (sym (drawn_next 2 (list at.In_ok-judge_picture) tt c.in_ok-judge_picture.ensures (rw same at c.in_ok-judge_room.ensures)))
    (record {
      reply_is = ap result same;
      left_is =
          file_put (negated gray) c.put_pgm_head-raster.ensures
          (omega (arith, room, negated_length gray, exact at.In_ok-judge_picture)) c.negate.ensures;
    })
