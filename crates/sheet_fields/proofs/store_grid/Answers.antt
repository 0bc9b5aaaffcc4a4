-- `sheet_fields::store_grid` meets its contract. The loop's invariant: what is left from `next` on is good, ends where all of
-- it ends, and fills the rest of what all of it fills.
use mathlib.Core.List.{◌∷◌}
use mathlib.Core.Path.{◌≡◌, refl, sym, ◌∙◌, ap}
use Prim.Native.Nat.{◌+◌}
use borrow.Author.Rules.{rules}
use lib.ListN.{length-set}
use lib.Seq.{sets}
use Rattle.std.specs.Prelude.{Ok}
use Rattle.model.specs.Format.{Parsed, parsed, field_at}
use Rattle.invariants.specs.Reading.{field_in}
use Rattle.sheet_fields.proofs.Parts.{left, grid_more, field_range, sets_more}
use Rattle.sheet_fields.proofs.store_grid.Goals as goal
use Rattle.sheet_fields.proofs.store_grid.Goals.{After-unwrap-field}

-- the field that was read is that of value i
read : (c : After-unwrap-field)
    → field_in (Ok c.unwrap-field.result) ≡ field_at 0 c.args.hi c.end_of.result c.args.s.now c.loop-i.next
read c = sym (ap field_in c.unwrap-field.ensures) ∙ c.read_field.ensures

-- what is left after it
abbrev after : After-unwrap-field → Parsed
after c = left c.args.w c.args.hi c.args.s.now c.args.n (c.loop-i.i + 1) c.unwrap-field.result.at

more : (c : After-unwrap-field)
    → left c.args.w c.args.hi c.args.s.now c.args.n c.loop-i.i c.loop-i.next
    ≡ parsed (after c).refusal (after c).at (c.unwrap-field.result.value ∷ (after c).values)
more c =
    let a = c.args in
    grid_more a.w a.hi a.s.now a.n c.loop-i.i c.loop-i.next (field_in (Ok c.unwrap-field.result)) _ c.end_of.ensures
    (read c) (search rules) refl

pub overflow_cast-out : goal.overflow_cast-out
overflow_cast-out c =
    let a = c.args in
    let within = field_range 0 a.hi c.end_of.result a.s.now c.loop-i.next
    (read (goal.at.overflow_cast-out c).After-unwrap-field) in
    search rules

pub loop-i-preserved : goal.loop-i-preserved
loop-i-preserved c =
    let l = c.loop-i in
    let here = (goal.at.loop-i-preserved c).After-unwrap-field in
    let e = more here in (
      simp length-set l.invariant.0,
      sym (ap (λ (r : Parsed). r.refusal) e) ∙ l.invariant.1,
      sym (ap (λ (r : Parsed). r.at) e) ∙ l.invariant.2,
      sets_more l.out l.i c.unwrap-field.result.value (after here).values
          ∙ sym (ap (λ (r : Parsed). sets l.out l.i r.values) e)
          ∙ l.invariant.3,
    )
