-- `starts::begin_plate` meets its contract: table and squared error are those of the filter.
use mathlib.Core.Path.{◌∙◌}
use native.Mathlib.Omega.{arith}
use mir.Syntax.{w64}
use Rattle.algebra.proofs.Machine.{read_back}
use Rattle.model.proofs.Halftone.{few_cells}
use Rattle.starts.proofs.begin_plate.Goals as goal

pub fresh-requires : goal.fresh-requires
fresh-requires c = omega (arith, few_cells c.requires, c.requires.dots_length)

pub returns : goal.returns
returns c =
    let is = c.filter_and_square-squared.ensures in
    let back = read_back w64 c.filter_and_square-squared.result c.filter_and_square-squared.type_inv in
    (is.0, c.fresh.ensures _ (back ∙ is.1))
