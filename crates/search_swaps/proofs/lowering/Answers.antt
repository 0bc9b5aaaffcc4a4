-- `search_swaps::lowering` meets its contract: off the plate no swap suits, and on it the test by the table and by the
-- locks is that of the reference.
use mathlib.Core.Path.{sym, ◌∙◌, ap, subst}
use Prim.Native.Nat.{◌≤◌, ◌<◌}
use native.Mathlib.Omega.{arith}
use lib.Dec.{lit<}
use lib.IntN.{ℤ, nat_abs}
use lib.ListN.{length}
use mir.Syntax.{w32}
use mir.Val.{to_z, of_z}
use Rattle.algebra.proofs.Machine.{Holds, of_small, size_of}
use Rattle.model.proofs.Partners.{lands_on}
use Rattle.invariants.specs.Partners.{row_of, column_of, offset_of}
use Rattle.invariants.specs.Plate.{JudgedIn, OnPlate}
use Rattle.invariants.specs.Trials.{takes_by}
use Rattle.invariants.specs.Window.{most_worth}
use Rattle.invariants.proofs.Partners.{worth_small}
use Rattle.invariants.proofs.Plate.{place_fits, on_dots, judged_small}
use Rattle.search_swaps.proofs.Partner.{trial_is}
use Rattle.search_swaps.proofs.lowering.Goals as goal
use Rattle.search_swaps.proofs.lowering.Goals.{Start}

-- what is known from the start
module _ (s : Start) where
  abbrev judged : JudgedIn s.args.setting s.args.c.now
      s.args.dots.now s.args.table.now
  judged = s.requires.judged.0

  abbrev on : OnPlate s.args.setting.measures s.args.at
  on = s.requires.judged.1

  -- what the offset is worth, as its local holds it
  worth_held : Holds w32 (of_z w32 s.args.worth) s.args.worth most_worth
  worth_held =
      of_small w32 s.args.worth
      (subst (λ (z : ℤ). nat_abs z ≤ most_worth) (sym s.requires.worth_value)
      (worth_small _ judged.kernel.small (row_of s.args.code) (column_of s.args.code)))
      (lit< tt)

pub index-m-requires : goal.index-m-requires
index-m-requires c = let s : Start = search in place_fits (judged s) (on s)

pub partner_cell-requires : goal.partner_cell-requires
partner_cell-requires c =
    let s : Start = search in
    let f = (judged s).plate.halftone in
    ((on s).row_below, (on s).col_below, f.wide.1, f.high.1)

pub takes_swap-requires : goal.takes_swap-requires
takes_swap-requires c =
    let s : Start = search in
    let f = (judged s).plate.halftone in record {
      m_in_bounds = (
        subst (λ k. k < length s.args.dots.now) (sym c.index-m.ensures) (on_dots (judged s) (on s)),
        omega (
          arith,
          lands_on _ _ _ (offset_of s.args.code) c.in-Some.ensures.0,
          c.in-Some.ensures.1,
          f.dots_length,
          f.table_length,
        ),
        f.table_length ∙ sym f.dots_length,
      );
      gray_len = (f.gray_length ∙ sym f.dots_length, judged_small (judged s), size_of (worth_held s));
    }

pub returns : goal.returns
returns c =
    let s : Start = search in
    let (lands, is_there) = c.in-Some.ensures in
    trial_is (judged s) (on s) (row_of s.args.code) (column_of s.args.code) lands is_there
    ((worth_held s).value ∙ s.requires.worth_value)
    (c.takes_swap.ensures
    ∙ ap (λ k. takes_by s.args.setting.gray.now s.args.dots.now s.args.table.now k c.in-Some.n
    (to_z w32 (of_z w32 s.args.worth))) c.index-m.ensures)
