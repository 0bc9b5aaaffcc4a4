-- `filter_sums::filter_and_square` meets its contract: what `filter` left is the table, which is then weighed.
use native.Mathlib.Omega.{arith}
use mathlib.Core.Path.{sym, ◌∙◌, ap}
use lib.ListN.{length}
use mir.Syntax.{w64}
use Rattle.algebra.proofs.Machine.{read_back}
use Rattle.model.specs.Error.{target_of, filtered_errors}
use Rattle.model.proofs.Error.{filtered_long, weighed_is}
use Rattle.model.proofs.Halftone.{few_cells}
use Rattle.invariants.proofs.Window.{table_small}
use Rattle.filter_sums.specs.Sums.{weighed}
use Rattle.filter_sums.proofs.filter_and_square.Goals as goal

pub weigh-requires : goal.weigh-requires
weigh-requires c =
    let a = c.args in
    let t = target_of a.width a.height a.radius a.psf.now a.gray.now in
    let f = c.requires in
    let is = c.filter.ensures in (
      record {
        dots_long = f.dots_length ∙ sym f.gray_length;
        long =
            ap length {y = filtered_errors t a.dots.now} is ∙ filtered_long t a.dots.now ∙ sym f.gray_length;
        few = omega (arith, few_cells f, f.gray_length);
        bits = f.bits;
      },
      table_small f (record { each = λ i. omega (arith, c.type_inv.gray i) }) is,
    )

pub returns : goal.returns
returns c =
    let a = c.args in
    let t = target_of a.width a.height a.radius a.psf.now a.gray.now in
    let is = c.filter.ensures in (
      is,
      read_back w64 c.weigh.result c.weigh.type_inv
          ∙ c.weigh.ensures
          ∙ ap (weighed a.gray.now a.dots.now) {y = filtered_errors t a.dots.now} is
          ∙ weighed_is t a.dots.now c.requires.gray_length,
    )
