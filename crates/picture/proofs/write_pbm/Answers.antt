-- `picture::write_pbm` meets its contract: 1, 5 and 7 are judged first, then 12; then the file is put.
use Rattle.std.proofs.Common.{◌≡◌, List, length, refl, sym, ◌∙◌, ap, arith}
use Rattle.std.proofs.lemmas.Grind.{common_steps}
use Rattle.model.specs.Refusal.{Refusal}
use Rattle.model.specs.Netpbm.{packed, pbm_file}
use Rattle.model.specs.Calls.{result}
use Rattle.model.specs.PictureCalls.{write_pbm_refusals, write_pbm_call}
use Rattle.model.proofs.Calls.{ends_done}
use Rattle.model.proofs.Pictures.{bits_fit, pbm_length}
use Rattle.model.proofs.Raster.{packed_length}
use Rattle.judge_parts.proofs.Drawn.{drawn_next}
use Rattle.picture.proofs.Outcomes.{ends_err, has_room, file_put}
use Rattle.picture.proofs.write_pbm.Goals as goal
use Rattle.picture.proofs.write_pbm.Goals.{In_ok-judge_bits, After-pbm_length-length}

-- the list, and how long the file is
abbrev list : In_ok-judge_bits → List Refusal
list c = write_pbm_refusals c.args.size c.args.dots.now (length c.args.out.now)

long : (c : After-pbm_length-length) → c.pbm_length-length.result ≡ length (pbm_file c.args.size c.args.dots.now)
long c = c.pbm_length-length.ensures ∙ sym (pbm_length c.args.size c.args.dots.now)

pub returns-in_err-judge_bits : goal.returns-in_err-judge_bits
unfolding write_pbm_call
returns-in_err-judge_bits c = grind (arith, common_steps)

pub returns-in_err-judge_room : goal.returns-in_err-judge_room
unfolding write_pbm_call
returns-in_err-judge_room c =
    let at = goal.at.returns-in_err-judge_room c in
    ends_err _ _ _ _ _ c.from_residual-in_err-judge_room.ensures.1
    (drawn_next 3 (list at.In_ok-judge_bits) tt c.in_ok-judge_bits.ensures
    (rw (long at.After-pbm_length-length) at c.in_err-judge_room.ensures))

pub pack_rows-requires-clause-dots_len : goal.pack_rows-requires-clause-dots_len
pack_rows-requires-clause-dots_len c =
    let (_, exact, bits) = bits_fit c.args.size c.args.dots.now c.in_ok-judge_bits.ensures refl in
    (exact, bits)

pub returns : goal.returns
unfolding write_pbm_call pbm_file
returns c =
    let at = goal.at.returns c in
    let dots = c.args.dots.now in
    let same = long at.After-pbm_length-length in
    let room = has_room c.pbm_length-length.result (length c.args.out.now) c.in_ok-judge_room.ensures in
    ends_done _ _ _
    (sym (drawn_next 3 (list at.In_ok-judge_bits) tt c.in_ok-judge_bits.ensures (rw same at c.in_ok-judge_room.ensures)))
    (record {
      reply_is = ap result same;
      left_is =
          file_put (packed c.args.size dots) c.put_pbm_head-raster.ensures
          (omega (arith, room, packed_length c.args.size dots)) c.pack_rows.ensures;
    })
