-- `search_swaps::next_taker` meets its contract: at each cell the partners are tried in order, and where one is taken the
-- cell is the first that takes one.
use mathlib.Core.Bool.{true}
use mathlib.Core.Path.{◌≡◌, sym, ◌∙◌, subst}
use Prim.Native.Nat.{ℕ, ◌+◌, ◌*◌, ◌^◌, ◌≤◌, ◌<◌}
use native.Mathlib.Omega.{arith}
use lib.Dec.{lit<}
use lib.IntN.{pos}
use lib.ListN.{length, get_or}
use mir.Syntax.{w32}
use mir.Val.{to_z, of_z}
use Rattle.algebra.proofs.Machine.{of_small}
use Rattle.algebra.proofs.Grid.{cell<}
use Rattle.model.specs.declared.Cell.{Cell}
use Rattle.model.specs.Setting.{target_in}
use Rattle.model.specs.Error.{Target}
use Rattle.model.specs.Partners.{offsets}
use Rattle.invariants.specs.Partners.{row_of, column_of, offset_of, worth_at, HoldsOffsets, HoldsWorths}
use Rattle.invariants.specs.Plate.{JudgedIn, OnPlate, OnWay, cell_of}
use Rattle.invariants.specs.Trials.{lowers_at, Failed}
use Rattle.invariants.proofs.Partners.{worths_small}
use Rattle.invariants.proofs.Plate.{place_fits, way_on, way_next, way_ahead}
use Rattle.invariants.proofs.Trials.{failed_next, quiet_none, quiet_ahead}
use Rattle.search_swaps.proofs.next_taker.Goals as goal
use Rattle.search_swaps.proofs.next_taker.Goals.{Start, then-offers-k, else-offers-k+then-lowering}

pub loop-at-init : goal.loop-at-init
loop-at-init c = let s : Start = search in (s.requires.judged.1, quiet_none _ _ _ _)

-- before a cell
module _ (s : Start) (at : Cell) where
  abbrev t : Target
  t = target_in s.args.setting

  abbrev m : ℕ
  m = cell_of s.args.setting.measures.width at

  abbrev held : HoldsOffsets s.args.setting.measures.reach s.args.offers.codes.now
  held = s.requires.holds_offers.codes

  abbrev worths : HoldsWorths s.args.setting.measures.radius s.args.c.now s.args.offers.codes.now s.args.offers.worths.now
  worths = s.requires.holds_offers.worths

  -- every partner of a cell failed
  abbrev AllFailed : ℕ → Type 0
  AllFailed n = Failed t s.args.setting.measures.reach s.args.dots.now n (length (offsets s.args.setting.measures.reach))

  all_failed : {n : ℕ} → Failed t s.args.setting.measures.reach s.args.dots.now n (length s.args.offers.codes.now)
      → AllFailed n
  all_failed {n} = subst (Failed t s.args.setting.measures.reach s.args.dots.now n) held.long

  -- a cell on the plate
  module _ (way : OnWay s.args.setting.measures at) (above : at.row < s.args.setting.measures.height) where
    here : OnPlate s.args.setting.measures at
    here = way_on way above

    is-a-cell : m < s.args.setting.measures.height * s.args.setting.measures.width
    is-a-cell = cell< here.row_below here.col_below

    judged : JudgedIn s.args.setting s.args.c.now
        s.args.dots.now s.args.table.now × OnPlate s.args.setting.measures at
    judged = (s.requires.judged.0, here)

pub clear_swaps-n-requires : goal.clear_swaps-n-requires
clear_swaps-n-requires c =
    let s : Start = search in
    let at = c.loop-at.at in record {
      judged = judged s at c.loop-at.invariant.0 c.loop-at-test.true;
      holds_offers = s.requires.holds_offers;
    }

pub ahead-at-requires : goal.ahead-at-requires
ahead-at-requires c =
    let s : Start = search in
    let (judged, here) = judged s c.loop-at.at c.loop-at.invariant.0 c.loop-at-test.true in
    let (row, col, wide) = place_fits judged here in
    (row, col, wide, c.clear_swaps-n.ensures.0)

pub loop-at-smaller-then-n-gt0 : goal.loop-at-smaller-then-n-gt0
loop-at-smaller-then-n-gt0 c =
    let s : Start = search in
    omega (
      arith,
      c.ahead-at.ensures.0,
      c.if-n-gt0.true,
      is-a-cell s c.loop-at.at c.loop-at.invariant.0 c.loop-at-test.true,
    )

pub loop-at-preserved-then-n-gt0 : goal.loop-at-preserved-then-n-gt0
loop-at-preserved-then-n-gt0 c =
    let s : Start = search in
    let at = c.loop-at.at in (
      way_ahead (here s at c.loop-at.invariant.0 c.loop-at-test.true) c.ahead-at.ensures.1 _ c.ahead-at.ensures.0
          c.clear_swaps-n.ensures.0,
      quiet_ahead (t s at) s.args.setting.measures.reach s.args.dots.now c.loop-at.invariant.1
          c.ahead-at.ensures.0 (λ j h. all_failed s at (c.clear_swaps-n.ensures.1 j h)),
    )

pub run_end-tested-requires : goal.run_end-tested-requires
run_end-tested-requires c =
    let s : Start = search in
    let (judged, here) = judged s c.loop-at.at c.loop-at.invariant.0 c.loop-at-test.true in place_fits judged here

pub first_trial-k-requires : goal.first_trial-k-requires
first_trial-k-requires c =
    let s : Start = search in
    let at = c.loop-at.at in record {
      judged = judged s at c.loop-at.invariant.0 c.loop-at-test.true;
      holds_offers = s.requires.holds_offers;
    }

pub partners-init : goal.partners-init
partners-init c = c.first_trial-k.ensures

-- before a trial
module _ (s : Start) (at : Cell) (k : ℕ) (short : k < length s.args.offers.codes.now) where
  abbrev code : ℕ
  code = get_or s.args.offers.codes.now k 0

  -- what the offset is worth, as its local holds it
  worth_is : to_z w32 (of_z w32 (get_or s.args.offers.worths.now k (pos 0)))
      ≡ worth_at s.args.setting.measures.radius s.args.c.now (row_of code) (column_of code)
  worth_is =
      (of_small w32 (get_or s.args.offers.worths.now k (pos 0))
      ((worths_small _ s.requires.judged.0.kernel.small (worths s at)).each k) (lit< tt)).value
      ∙ (worths s at).at k short

-- the offsets are few, since the slice of their worths is one
room : (s : Start) → length s.args.offers.codes.now * 4 < 2 ^ 64
room s = omega (arith, s.requires.holds_offers.worths.long)

pub bounds-offers-k : goal.bounds-offers-k
bounds-offers-k c = omega arith

pub offset_bounds-offers-k : goal.offset_bounds-offers-k
offset_bounds-offers-k c = let s : Start = search in omega (arith, room s)

pub bounds-offers-k-in-partners : goal.bounds-offers-k-in-partners
bounds-offers-k-in-partners c = let s : Start = search in omega (arith, s.requires.holds_offers.worths.long)

pub lowering-requires : goal.lowering-requires
lowering-requires c =
    let s : Start = search in
    let at = c.loop-at.at in record {
      judged = judged s at c.loop-at.invariant.0 c.loop-at-test.true;
      worth_value = worth_is s at c.partners.k c.if-offers-k.false;
    }

pub overflow_add-k : goal.overflow_add-k
overflow_add-k c = let s : Start = search in omega (arith, room s)

pub partners-smaller : goal.partners-smaller
partners-smaller c = omega arith

pub partners-preserved : goal.partners-preserved
partners-preserved c =
    let s : Start = search in
    let at = c.loop-at.at in (
      omega arith,
      failed_next (t s at) (held s at) s.args.dots.now (m s at) c.partners.k c.if-offers-k.false
          (sym c.lowering.ensures ∙ c.if-lowering.false) c.partners.invariant.1,
    )

-- the partner found, if one was: no partner before it is taken
module _ (s : Start) (at : Cell) {k found : ℕ} (ends : found ≡ k) (few : k ≤ length s.args.offers.codes.now)
    (tried : Failed (t s at) s.args.setting.measures.reach s.args.dots.now (m s at) k) where
  none_before : Failed (t s at) s.args.setting.measures.reach s.args.dots.now (m s at) found
  none_before = subst (Failed (t s at) s.args.setting.measures.reach s.args.dots.now (m s at)) (sym ends) tried

  -- where it is past the last, every partner failed
  failed-here : length s.args.offers.codes.now ≤ found → (i : ℕ) → i < 1 → AllFailed s at (m s at + i)
  failed-here past i h =
      let last : found ≡ length s.args.offers.codes.now = omega arith in
      let same : m s at + i ≡ m s at = omega arith in
      subst (AllFailed s at) (sym same)
      (all_failed s at (subst (Failed (t s at) s.args.setting.measures.reach s.args.dots.now (m s at)) last none_before))

pub returns-then-found-offers : goal.returns-then-found-offers
returns-then-found-offers c =
    let s : Start = search in
    let at = c.loop-at.at in
    let short = c.if-found-offers.true in
    let ends : c.if-offers-k.found ≡ c.partners.k =
    elim c.if-offers-k.branch [ then-offers-k w ↦ w.found-is | else-offers-k+then-lowering w ↦ w.found-is ] in
    let lowers
    : lowers_at (t s at) s.args.dots.now (m s at) (offset_of (get_or s.args.offers.codes.now c.if-offers-k.found 0)) ≡ true =
    elim c.if-offers-k.branch [
      | then-offers-k w ↦ absurd (omega (arith, w.if-offers-k.true, w.found-is, short))
      | else-offers-k+then-lowering w ↦
          rw w.found-is (sym w.lowering.ensures ∙ w.if-lowering.true)
    ] in record {
      on_way = c.loop-at.invariant;
      takes = λ h. record {
        listed = omega (arith, short, (held s at).long);
        failed = none_before s at ends c.partners.invariant.0 c.partners.invariant.1;
        takes = subst (λ o. lowers_at (t s at) s.args.dots.now (m s at) o ≡ true) (sym ((held s at).at _ short)) lowers;
      };
    }

pub next-at-requires : goal.next-at-requires
next-at-requires c =
    let s : Start = search in
    let (judged, here) = judged s c.loop-at.at c.loop-at.invariant.0 c.loop-at-test.true in place_fits judged here

pub loop-at-smaller : goal.loop-at-smaller
loop-at-smaller c =
    let s : Start = search in
    omega (arith, c.next-at.ensures.0, is-a-cell s c.loop-at.at c.loop-at.invariant.0 c.loop-at-test.true)

pub loop-at-preserved : goal.loop-at-preserved
loop-at-preserved c =
    let s : Start = search in
    let at = c.loop-at.at in
    let ends : c.if-offers-k.found ≡ c.partners.k =
    elim c.if-offers-k.branch [ then-offers-k w ↦ w.found-is | else-offers-k+then-lowering w ↦ w.found-is ] in (
      way_next (here s at c.loop-at.invariant.0 c.loop-at-test.true) c.next-at.ensures.1 c.next-at.ensures.0,
      quiet_ahead (t s at) s.args.setting.measures.reach s.args.dots.now {k = 1} c.loop-at.invariant.1
          (omega (arith, c.next-at.ensures.0))
          (failed-here s at ends c.partners.invariant.0 c.partners.invariant.1 c.if-found-offers.false),
    )

pub returns : goal.returns
returns c = record {
  on_way = c.loop-at.invariant;
  takes = λ h. absurd (omega (arith, h, c.loop-at-test.false));
}
