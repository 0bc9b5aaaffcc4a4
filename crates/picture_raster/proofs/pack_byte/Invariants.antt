-- The loop's invariant: the byte is the word of the cells passed.
use Rattle.std.proofs.Common.{◌≡◌}
use Rattle.model.specs.Basic.{tabulate}
use Rattle.model.specs.Netpbm.{word_from}
use Rattle.picture_raster.proofs.Bytes.{cell_or_spare}
use Rattle.picture_raster.proofs.pack_byte.Given as goal

abbrev pub invariant-loop-i : goal.invariant-loop-i
invariant-loop-i l = l.byte ≡ word_from 0 (tabulate l.i (cell_or_spare l.dots l.first l.left))
