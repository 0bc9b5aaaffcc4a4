-- `search_make::store` meets its contract: the byte is set, and the window is added with 255 times what it adds.
use mathlib.Core.Path.{sym, ◌∙◌, ap, subst}
use Prim.Native.Nat.{ℕ, ◌*◌, ◌≤◌, ◌<◌}
use native.Mathlib.Omega.{arith}
use lib.Dec.{lit<, lit≤}
use lib.IntN.{pos, ◌-ℤ◌, ◌*ℤ◌}
use lib.ListN.{length, get_or, set}
use mir.Syntax.{w32}
use mir.Val.{to_z, of_z}
use Rattle.algebra.proofs.Machine.{Holds, literal, read_back, size_of, sub_fits, sub_holds, mul_fits, mul_holds}
use Rattle.model.specs.Error.{filtered_errors}
use Rattle.model.specs.Setting.{target_in}
use Rattle.model.proofs.Error.{apart}
use Rattle.model.proofs.Psf.{side}
use Rattle.invariants.specs.Window.{add_window}
use Rattle.invariants.proofs.Plate.{place_fits, on_dots, judged_small, store_window}
use Rattle.invariants.proofs.Window.{scaled_by}
use Rattle.search_make.proofs.store.Goals as goal
use Rattle.search_make.proofs.store.Goals.{After-index-m, After-from-2}

pub index-m-requires : goal.index-m-requires
index-m-requires c = place_fits c.requires.judged c.requires.on_plate.0

-- the bytes, and what the new one adds, as the locals hold them
module _ (i : After-from-2) where
  abbrev dot : ℕ
  dot = get_or i.args.dots.now i.index-m.result 0

  low : dot ≤ 1
  low = i.requires.judged.plate.halftone.bits.each i.index-m.result

  new : Holds w32 (of_z w32 i.from.result) (pos i.args.byte) 1
  new = record { value = read_back w32 _ i.from.type_inv ∙ i.from.ensures; size = i.requires.on_plate.1 }

  old : Holds w32 (of_z w32 i.from-2.result) (pos dot) 1
  old = record { value = read_back w32 _ i.from-2.type_inv ∙ i.from-2.ensures; size = low }

  abbrev gain : ℕ
  gain = of_z w32 (to_z w32 (of_z w32 i.from.result) -ℤ to_z w32 (of_z w32 i.from-2.result))

  adds : Holds w32 gain (pos i.args.byte -ℤ pos dot) 1
  adds = record { value = (sub_holds new old (lit< tt)).value; size = apart i.args.byte dot i.requires.on_plate.1 low }

  amount : Holds w32 (of_z w32 (pos 255 *ℤ to_z w32 gain)) (pos 255 *ℤ (pos i.args.byte -ℤ pos dot)) 255
  amount = mul_holds (literal w32 255 tt) adds (lit< tt)

here : (i : After-index-m) → i.index-m.result < length i.args.dots.now
here i = subst (λ k. k < length i.args.dots.now) (sym i.index-m.ensures) (on_dots i.requires.judged i.requires.on_plate.0)

pub bounds-dots-m : goal.bounds-dots-m
bounds-dots-m c = here (goal.at.bounds-dots-m c).After-index-m

pub overflow_sub-amount : goal.overflow_sub-amount
overflow_sub-amount c = sub_fits (new c) (old c) (lit< tt)

pub overflow_mul-amount : goal.overflow_mul-amount
overflow_mul-amount c = mul_fits (literal w32 255 tt) (adds c) (lit< tt)

pub bounds-dots-m-2 : goal.bounds-dots-m-2
bounds-dots-m-2 c = here (goal.at.bounds-dots-m-2 c).After-index-m

pub overflow_mul-reach : goal.overflow_mul-reach
overflow_mul-reach c = record { fits = omega (arith, c.requires.judged.plate.halftone.psf_fits.near) }

pub returns : goal.returns
returns c =
    let m = c.args.setting.measures in
    let byte = c.args.byte in
    let dots = c.args.dots.now in record {
      dots_after = ap (λ k. set dots k byte) c.index-m.ensures;
      table_after = c.add_window.ensures
          ∙ ap (λ z. add_window m.width (2 * m.radius) c.args.c.now z c.args.at.row c.args.at.col c.args.table.now)
          ((amount search).value ∙ ap (λ k. pos 255 *ℤ (pos byte -ℤ pos (get_or dots k 0))) c.index-m.ensures)
          ∙ store_window c.requires.judged c.requires.on_plate.0 byte
          ∙ ap (λ k. filtered_errors (target_in c.args.setting) (set dots k byte)) (sym c.index-m.ensures);
    }

pub add_window-requires : goal.add_window-requires
add_window-requires c =
    let on = c.requires.on_plate.0 in
    let f = c.requires.judged.plate.halftone in
    let k = c.requires.judged.kernel in record {
      row_lt_height = (on.row_below, on.col_below, f.wide.1, f.high.1, omega (arith, f.psf_fits.near));
      table_len = (
        f.table_length,
        subst (λ n. n * n ≤ length c.args.c.now) (sym (side c.args.setting.measures.radius)) k.long,
      );
      small = judged_small c.requires.judged;
      scaled = scaled_by _ c.args.c.now (size_of (amount search)) k.small (lit≤ tt);
    }
