-- `filter_sums::filter` meets its contract: the errors, spread by the first pass and gathered by the second, come to
-- the table.
use mathlib.Core.Path.{◌≡◌, sym, ◌∙◌, ap, subst}
use mathlib.Core.List.{List}
use Prim.Native.Nat.{ℕ, ◌+◌, ◌*◌, ◌≤◌}
use native.Mathlib.Nat.{mul-le-mul}
use native.Mathlib.Omega.{arith}
use lib.IntN.{ℤ, pos}
use lib.ListN.{length, take, replicate}
use Rattle.model.specs.Basic.{tabulate, AtMost}
use Rattle.model.specs.Error.{error_of}
use Rattle.model.proofs.Basic.{table_long, part_whole}
use Rattle.invariants.specs.Window.{Small}
use Rattle.invariants.proofs.Plate.{slice_bytes}
use Rattle.filter_passes.specs.Passes.{spread, most_spread, plate, widened}
use Rattle.filter_passes.proofs.Passes.{errors_small, passed_long, passed_small, gathered_is}
use Rattle.filter_sums.specs.Sums.{most_widened, errors_of}
use Rattle.filter_sums.proofs.filter.Goals as goal
use Rattle.filter_sums.proofs.filter.Goals.{Start}

module _ (s : Start) where
  -- the widened plate
  abbrev n : ℕ
  n = (s.args.height + 2 * s.args.radius) * (s.args.width + 2 * s.args.radius)

  few : n ≤ most_widened
  few =
      let f = s.requires in
      mul-le-mul {n₂ = 262} {m₂ = 262}
      (omega (arith, f.high.1, f.psf_fits.near)) (omega (arith, f.wide.1, f.psf_fits.near))

  lent-long : n ≡ length (take n (replicate most_widened (pos 0)))
  lent-long = part_whole n (replicate most_widened (pos 0)) few

  -- the errors, and those errors spread
  abbrev e : List ℤ
  e = tabulate (s.args.height * s.args.width) (error_of 255 s.args.gray.now s.args.dots.now)

  abbrev around : List ℤ
  around = spread s.args.width s.args.height s.args.radius s.args.psf.now e

  around-long : length around ≡ n
  around-long =
      passed_long s.args.width s.args.height s.args.radius s.args.psf.now
      (plate s.args.width) (widened s.args.width s.args.radius) e n

  -- what `errors` left, and then `spread`
  module _ {errors : List ℤ} (left : errors ≡ errors_of s.args.gray.now s.args.dots.now) where
    errors-are : errors ≡ e
    errors-are = left ∙ ap (λ n. tabulate n (error_of 255 s.args.gray.now s.args.dots.now)) s.requires.gray_length

    spread-is : {out : List ℤ} → out ≡ spread s.args.width s.args.height s.args.radius s.args.psf.now errors
        → out ≡ around
    spread-is ran = rw errors-are at ran

  small : AtMost 255 s.args.gray.now → Small 255 e
  small bytes =
      let a = s.args in
      errors_small a.width a.height a.radius a.psf.now a.gray.now a.dots.now s.requires bytes

pub slice_bounds-around-end : goal.slice_bounds-around-end
slice_bounds-around-end c = lent-long search

pub spread-requires-clause-width_nonzero : goal.spread-requires-clause-width_nonzero
spread-requires-clause-width_nonzero c =
    let s : Start = search in
    let f = c.requires in
    let are = errors-are s c.errors.ensures in
    (f.wide.0, f.wide.1, f.psf_fits, subst (Small 255) (sym are) (small s (slice_bytes c.type_inv.gray)))

pub spread-requires-clause-e_len : goal.spread-requires-clause-e_len
spread-requires-clause-e_len c =
    let s : Start = search in
    (table_long _ _ (errors-are s c.errors.ensures), sym (lent-long s))

pub gather-requires-clause-width_nonzero : goal.gather-requires-clause-width_nonzero
gather-requires-clause-width_nonzero c =
    let s : Start = search in
    let a = c.args in
    let f = c.requires in
    let is = spread-is s c.errors.ensures c.spread.ensures in
    let all_small =
    passed_small a.width a.height a.radius a.psf.now
    (plate a.width) (widened a.width a.radius) (e s) _ f.wide.0
    (small s (slice_bytes c.type_inv.gray)) f.psf_fits.sum_high in
    (f.wide.0, f.wide.1, f.psf_fits, subst (Small most_spread) (sym is) all_small)

pub gather-requires-clause-g_len : goal.gather-requires-clause-g_len
gather-requires-clause-g_len c =
    let s : Start = search in (
      ap length (spread-is s c.errors.ensures c.spread.ensures) ∙ around-long s,
      table_long _ _ (errors-are s c.errors.ensures),
    )

pub returns : goal.returns
returns c =
    let s : Start = search in
    let a = c.args in
    let is =
    gathered_is a.width a.height a.radius a.psf.now a.gray.now a.dots.now c.requires.wide.0
    c.requires.psf_fits.square in
    rw (spread-is s c.errors.ensures c.spread.ensures, is) at c.gather.ensures
