-- `filed::judge_front` meets its contract: the parts that are lent on are the sheet's.
use Rattle.model.proofs.Error.{filtered_long}
use Rattle.filed.proofs.Fronts.{put_front}
use Rattle.filed.proofs.judge_front.Goals as goal

pub returns-clause-table_after : goal.returns-clause-table_after
returns-clause-table_after c =
    put_front c.args.table.now c.cells-n.ensures.0
    (rw (← c.entries-k.ensures.0, ← c.cells-n.ensures.0) c.judge_plate.ensures.table_after)
    (filtered_long _ _) c.requires.given.1
