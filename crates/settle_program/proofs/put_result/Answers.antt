-- `settle_program::put_result` meets its contract: the sheet is put, and after it the figures.
use Prim.Native.Nat.{◌≤◌}
use native.Mathlib.Omega.{arith}
use lib.ListN.{length}
use Rattle.model.specs.Sheet.{sheet_text}
use Rattle.model.specs.SheetCalls.{written_sheet}
use Rattle.model.proofs.Puts.{puts_then, front_length}
use Rattle.settle_program.proofs.Texts.{sheet_most}
use Rattle.settle_program.proofs.put_result.Goals as goal

pub put_sheet-end-requires-clause-dots_in_bounds : goal.put_sheet-end-requires-clause-dots_in_bounds
put_sheet-end-requires-clause-dots_in_bounds c =
    omega (arith, sheet_most c.args.setting _ _ c.requires c.type_inv.dots, c.requires.room)

pub put_stats-requires : goal.put_stats-requires
put_stats-requires c =
    omega (
      arith,
      sheet_most c.args.setting _ _ c.requires c.type_inv.dots,
      front_length c.put_sheet-end.ensures,
      c.put_sheet-end.auto.out,
      c.requires.room,
    )

pub returns : goal.returns
returns c =
    let (figures, few) = c.put_stats.ensures in
    record {
      put = puts_then c.put_sheet-end.ensures figures;
      most = omega (
        arith,
        sheet_most c.args.setting _ _ c.requires c.type_inv.dots,
        front_length c.put_sheet-end.ensures,
        few,
      );
    }
