-- `filed_rest::at_rest` meets its contract: the fronts of the two local arrays hold copies of the dots and the table.
use mathlib.Core.List.{List, ◌++◌}
use mathlib.Core.Path.{◌≡◌, sym, ◌∙◌, ap, subst}
use Prim.Native.Nat.{ℕ, ◌≤◌}
use native.Mathlib.Omega.{arith}
use lib.IntN.{ℤ, pos}
use lib.ListN.{length, take, drop, replicate}
use mir.Syntax.{w64}
use Rattle.algebra.proofs.Machine.{read_back}
use Rattle.model.specs.Error.{target_for, most_cells}
use Rattle.model.specs.FiledCalls.{rests}
use Rattle.model.proofs.Basic.{part_whole}
use Rattle.model.proofs.Halftone.{few_cells}
use Rattle.slices.proofs.Fronts.{again_fits, again_whole, again_is}
use Rattle.filed_rest.specs.Measured.{Startable}
use Rattle.filed_rest.proofs.at_rest.Goals as goal
use Rattle.filed_rest.proofs.at_rest.Goals.{Start}

-- the cells of a plate fit into each of the arrays
few : (s : Start) → length s.args.dots.now ≤ most_cells
few s = let f = s.requires.measured.plate.halftone in omega (arith, few_cells f, f.dots_length)

pub slice_bounds-some_dots-end : goal.slice_bounds-some_dots-end
slice_bounds-some_dots-end c = few search

pub slice_bounds-copy_from_slice-end : goal.slice_bounds-copy_from_slice-end
slice_bounds-copy_from_slice-end c = part_whole _ _ (few search)

pub copy_from_slice-requires : goal.copy_from_slice-requires
copy_from_slice-requires c = sym (part_whole _ _ (few search))

pub slice_bounds-some_table-end : goal.slice_bounds-some_table-end
slice_bounds-some_table-end c = few search

pub slice_bounds-copy_from_slice-end-2 : goal.slice_bounds-copy_from_slice-end-2
slice_bounds-copy_from_slice-end-2 c = part_whole _ _ (few search)

pub copy_from_slice-requires-2 : goal.copy_from_slice-requires-2
copy_from_slice-requires-2 c =
    let s : Start = search in
    let f = s.requires.measured.plate.halftone in
    sym (part_whole _ _ (few s)) ∙ f.dots_length ∙ sym f.table_length

-- the arrays at first
abbrev zero-dots : List ℕ
zero-dots = replicate most_cells 0

abbrev zero-table : List ℤ
zero-table = replicate most_cells (pos 0)

-- their fronts, lent again
abbrev n : Start → ℕ
n s = length s.args.dots.now

dots_are : (s : Start) (dots : List ℕ) → length dots ≡ length (take (n s) zero-dots) → dots ≡ s.args.dots.now
    → take (n s) (dots ++ drop (n s) zero-dots) ≡ s.args.dots.now
dots_are s dots long is = again_is (n s) zero-dots dots (few s) long ∙ is

table_is : (s : Start) (table : List ℤ) → length table ≡ length (take (n s) zero-table) → table ≡ s.args.table.now
    → take (n s) (table ++ drop (n s) zero-table) ≡ s.args.table.now
table_is s table long is = again_is (n s) zero-table table (few s) long ∙ is

pub slice_bounds-some_dots-end-2 : goal.slice_bounds-some_dots-end-2
slice_bounds-some_dots-end-2 c =
    let s : Start = search in again_fits (n s) zero-dots _ (few s) c.copy_from_slice.auto.self

pub slice_bounds-scans_clear-end : goal.slice_bounds-scans_clear-end
slice_bounds-scans_clear-end c =
    let s : Start = search in again_whole (n s) zero-dots _ (few s) c.copy_from_slice.auto.self

pub slice_bounds-some_table-end-2 : goal.slice_bounds-some_table-end-2
slice_bounds-some_table-end-2 c =
    let s : Start = search in again_fits (n s) zero-table _ (few s) c.copy_from_slice-2.auto.self

pub slice_bounds-scans_clear-end-2 : goal.slice_bounds-scans_clear-end-2
slice_bounds-scans_clear-end-2 c =
    let s : Start = search in again_whole (n s) zero-table _ (few s) c.copy_from_slice-2.auto.self

pub scans_clear-requires : goal.scans_clear-requires
scans_clear-requires c =
    let s : Start = search in
    let a = s.args in
    let back = read_back w64 a.squared s.ranges.squared.sfits in
    let d = dots_are s _ c.copy_from_slice.auto.self c.copy_from_slice.ensures.after in
    let t = table_is s _ c.copy_from_slice-2.auto.self c.copy_from_slice-2.ensures.after in
    subst (λ (X : Type 0). X)
    (λ i. Startable a.setting.measures a.setting.psf.now a.setting.gray.now (sym d i) (sym t i) (sym back i))
    s.requires

pub returns : goal.returns
returns c =
    let s : Start = search in
    let a = s.args in
    c.scans_clear.ensures
    ∙ ap (rests (target_for a.setting.measures a.setting.psf.now a.setting.gray.now) a.setting.measures.reach) (dots_are s _ c.copy_from_slice.auto.self c.copy_from_slice.ensures.after)
