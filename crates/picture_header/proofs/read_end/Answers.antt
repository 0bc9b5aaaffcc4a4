-- `picture_header::read_end` meets its contract.
use Rattle.model.specs.PictureHeader.{end_next}
use Rattle.picture_header.proofs.read_end.Goals as goal

pub returns-in_default : goal.returns-in_default
unfolding end_next
returns-in_default c = rw c.in_default.ensures

pub returns : goal.returns
unfolding end_next
returns c = rw (c.tell.ensures, c.in-Some.ensures.shows, c.is_space.ensures)
