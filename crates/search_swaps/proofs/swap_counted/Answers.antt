-- `search_swaps::swap_counted` meets its contract: the fronts of the local arrays hold the offsets within reach and what they
-- are worth, in their order and in rows.
use mathlib.Core.List.{List}
use mathlib.Core.Path.{◌≡◌, sym, ◌∙◌, subst}
use Prim.Native.Nat.{ℕ, ◌≤◌}
use native.Mathlib.Omega.{arith}
use lib.Dec.{lit≤}
use lib.IntN.{ℤ, pos}
use lib.ListN.{length, take, replicate}
use Rattle.model.proofs.Basic.{part_whole}
use Rattle.invariants.specs.Partners.{HoldsWorths}
use Rattle.invariants.proofs.Plate.{ready_judged, kernel_square}
use Rattle.slices.proofs.Fronts.{again_fits, again_whole, again_is}
use Rattle.search_prune.specs.Grid.{GridFits}
use Rattle.search_swaps.proofs.swap_counted.Goals as goal
use Rattle.search_swaps.proofs.swap_counted.Goals.{After-lay_worths, After-weigh_offsets}

pub within_reach-count-requires : goal.within_reach-count-requires
within_reach-count-requires c = (c.requires.later.plate.reach_near, lit≤ tt)

pub slice_bounds-weigh_offsets-end-2 : goal.slice_bounds-weigh_offsets-end-2
slice_bounds-weigh_offsets-end-2 c = part_whole _ _ (omega arith)

pub weigh_offsets-requires : goal.weigh_offsets-requires
weigh_offsets-requires c =
    (kernel_square (ready_judged c.requires), sym (part_whole _ _ (omega arith)) ∙ c.within_reach-count.ensures.upper_bound.1)

pub grid_size-n-requires : goal.grid_size-n-requires
grid_size-n-requires c = c.requires.later.plate.reach_near

pub slice_bounds-lay_worths-end : goal.slice_bounds-lay_worths-end
slice_bounds-lay_worths-end c = part_whole _ _ (omega arith)

pub lay_worths-requires : goal.lay_worths-requires
lay_worths-requires c = (
  kernel_square (ready_judged c.requires),
  c.requires.later.plate.reach_near,
  sym (part_whole _ _ c.grid_size-n.ensures.1) ∙ c.grid_size-n.ensures.0,
)

-- the worths and the rows of worths, lent again
module _ (w : After-weigh_offsets) where
  abbrev count : ℕ
  count = w.within_reach-count.result

  abbrev filled : List ℤ
  filled = w.weigh_offsets.new.worths

  few : count ≤ length (replicate 168 (pos 0))
  few = omega arith

  worths-long : length filled ≡ length (take count (replicate 168 (pos 0)))
  worths-long = w.weigh_offsets.auto.worths

module _ (g : After-lay_worths) where
  abbrev n : ℕ
  n = g.grid_size-n.result

  abbrev rows : List ℤ
  rows = g.lay_worths.new.grid

  rows_few : n ≤ length (replicate 208 (pos 0))
  rows_few = g.grid_size-n.ensures.1

  rows_long : length rows ≡ length (take n (replicate 208 (pos 0)))
  rows_long = g.lay_worths.auto.grid

pub slice_bounds-worths-end-2 : goal.slice_bounds-worths-end-2
slice_bounds-worths-end-2 c =
    let w = (goal.at.slice_bounds-worths-end-2 c).After-weigh_offsets in
    again_fits (count w) (replicate 168 (pos 0)) (filled w) (few w) (worths-long w)

pub slice_bounds-offers-end-2 : goal.slice_bounds-offers-end-2
slice_bounds-offers-end-2 c =
    let w = (goal.at.slice_bounds-offers-end-2 c).After-weigh_offsets in
    again_whole (count w) (replicate 168 (pos 0)) (filled w) (few w) (worths-long w)

pub slice_bounds-grid-end-2 : goal.slice_bounds-grid-end-2
slice_bounds-grid-end-2 c =
    let g = (goal.at.slice_bounds-grid-end-2 c).After-lay_worths in
    again_fits (n g) (replicate 208 (pos 0)) (rows g) (rows_few g) (rows_long g)

pub slice_bounds-offers-end-3 : goal.slice_bounds-offers-end-3
slice_bounds-offers-end-3 c =
    let g = (goal.at.slice_bounds-offers-end-3 c).After-lay_worths in
    again_whole (n g) (replicate 208 (pos 0)) (rows g) (rows_few g) (rows_long g)

pub swap_by-requires : goal.swap_by-requires
swap_by-requires c =
    let g = (goal.at.swap_by-requires c).After-lay_worths in
    let w = (goal.at.swap_by-requires c).After-weigh_offsets in
    let m = c.args.setting.measures in record {
      ready = c.requires;
      holds_offers = record {
        codes = w.within_reach-count.ensures.holds_offsets;
        worths = subst (HoldsWorths m.radius c.args.c.now (take (count w) w.within_reach-count.new.out))
            (sym (again_is (count w) (replicate 168 (pos 0)) (filled w) (few w) (worths-long w)))
            w.weigh_offsets.ensures;
        grid = subst (GridFits m.radius c.args.c.now m.reach)
            (sym (again_is (n g) (replicate 208 (pos 0)) (rows g) (rows_few g) (rows_long g)))
            g.lay_worths.ensures;
      };
    }
