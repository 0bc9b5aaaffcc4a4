-- `filed::check_filed` meets its contract: the outcome is the call's, whatever was read.
use mathlib.Core.Bool.{true}
use mathlib.Core.List.{List}
use mathlib.Core.Logic.{inl, inr}
use mathlib.Core.Path.{◌≡◌, refl, sym, ◌∙◌, ap, subst}
use Prim.Native.Nat.{ℕ, ◌≤◌}
use native.Mathlib.Omega.{arith}
use lib.IntN.{ℤ}
use lib.ListN.{length}
use lib.Seq.{sets}
use Rattle.model.specs.declared.FiledFigures.{FiledFigures}
use Rattle.model.specs.declared.Measures.{Measures}
use Rattle.model.specs.Psf.{total}
use Rattle.model.specs.Error.{filtered_errors}
use Rattle.model.specs.Refusal.{PlateFits}
use Rattle.model.specs.Calls.{result}
use Rattle.model.specs.Sheet.{Sheet, cells_of}
use Rattle.model.specs.Program.{sheet_target}
use Rattle.model.specs.Format.{Head, head_from, head_by, body, parse, sheet_of}
use Rattle.model.specs.Filed.{filed_room}
use Rattle.model.specs.FiledCalls.{verdict_of, check_buffers}
use Rattle.model.proofs.Calls.{ends_as}
use Rattle.invariants.specs.Reading.{FiledEnd, filed_end}
use Rattle.invariants.proofs.Reading.{err_same}
use Rattle.judge_parts.proofs.Drawn.{some_number}
use Rattle.filed.specs.Front.{front_of}
use Rattle.filed.proofs.Reading.{head_refused, no_room, below_refused}
use Rattle.filed.proofs.Whole.{Whole, roomy, table_long, blocks_good, is_given, figures_few, sum_refused}
use Rattle.filed.proofs.Whole.{plate, in_fronts, checked}
use Rattle.filed.proofs.check_filed.Goals as goal
use Rattle.filed.proofs.check_filed.Goals.{then-sum-eq0-via-then-sum-eq0, then-sum-eq0-via-else-sum-eq0+then-sum-gt1024}

-- lines 1 and 2 that were read, up to a place
abbrev head : Measures → ℕ → Head
head m at = record { refusal = 0; at = at; measures = m }

-- what follows, with its figures
abbrev end : FiledFigures → ℕ → FiledEnd
end f at = record { refusal = 0; at = at; figures = f }

-- nothing that was read is refused
whole : (bytes psf gray dots : List ℕ) (table : List ℤ) (m : Measures) (from : ℕ) (f : FiledFigures) (at : ℕ)
    → head m from ≡ head_by (head_from 2) bytes
    → filed_room (length psf) (length gray) (length dots) (length table) m ≡ true
    → end f at ≡ filed_end m bytes from
    → Whole bytes psf gray dots table (head m from) (end f at)
whole bytes psf gray dots table m from f at h room e = record {
  head_is = h;
  head_good = refl;
  has_room = room;
  end_is = e;
  end_good = refl;
}

-- the sheet that was read
abbrev sheet : List ℕ → Measures → ℕ → Sheet
sheet bytes m at = sheet_of m (parse (body m) bytes at).values

pub returns-in_err-head : goal.returns-in_err-head
returns-in_err-head c =
    rw (err_same c.from_residual.result c.from_residual.ensures.1)
    (ends_as (head_refused _ _ _ _ _ _ c.in_err-head.ensures (some_number _)))

pub returns-then-not-has_filed_room : goal.returns-then-not-has_filed_room
returns-then-not-has_filed_room c =
    ends_as
    (no_room _ _ _ _ _ _ c.in_ok-head.ensures refl (sym c.has_filed_room.ensures ∙ c.if-not-has_filed_room.true))

pub returns-in_err-figures : goal.returns-in_err-figures
returns-in_err-figures c =
    rw (err_same c.from_residual-in_err-figures.result c.from_residual-in_err-figures.ensures.1)
    (ends_as
    (below_refused _ _ _ _ _ _ c.in_ok-head.ensures refl
    (sym c.has_filed_room.ensures ∙ c.if-not-has_filed_room.false) _ c.in_err-figures.ensures (some_number _)))

pub psf_sum-sum-requires : goal.psf_sum-sum-requires
psf_sum-sum-requires c =
    blocks_good
    (whole c.args.bytes.now c.args.psf.now c.args.gray.now c.args.dots.now c.args.table.now _ _ _ _
    c.in_ok-head.ensures (sym c.has_filed_room.ensures ∙ c.if-not-has_filed_room.false) c.in_ok-figures.ensures)

pub returns-then-sum-eq0 : goal.returns-then-sum-eq0
returns-then-sum-eq0 c =
    let good = whole c.args.bytes.now c.args.psf.now c.args.gray.now c.args.dots.now c.args.table.now _ _ _ _
    c.in_ok-head.ensures (sym c.has_filed_room.ensures ∙ c.if-not-has_filed_room.false) c.in_ok-figures.ensures in
    elim c.then-sum-eq0.branch [
      | then-sum-eq0-via-then-sum-eq0 w ↦ ends_as (sum_refused good (inl (sym c.psf_sum-sum.ensures ∙ w.if-sum-eq0.true)))
      | then-sum-eq0-via-else-sum-eq0+then-sum-gt1024 w ↦
          ends_as (sum_refused good (inr (omega (arith, w.if-sum-gt1024.true, c.psf_sum-sum.ensures))))
    ]

pub store_body-requires : goal.store_body-requires
store_body-requires c =
    let good = whole c.args.bytes.now c.args.psf.now c.args.gray.now c.args.dots.now c.args.table.now _ _ _ _
    c.in_ok-head.ensures (sym c.has_filed_room.ensures ∙ c.if-not-has_filed_room.false) c.in_ok-figures.ensures in
    record { at_value = blocks_good good; dots_value = roomy good }

pub judge_front-requires : goal.judge_front-requires
judge_front-requires c =
    let m = c.in_ok-head.head.value.measures in
    let good = whole c.args.bytes.now c.args.psf.now c.args.gray.now c.args.dots.now c.args.table.now _ _ _ _
    c.in_ok-head.ensures (sym c.has_filed_room.ensures ∙ c.if-not-has_filed_room.false) c.in_ok-figures.ensures in
    let low : 1 ≤ total (sheet c.args.bytes.now m c.in_ok-head.head.at).psf = omega (arith, c.psf_sum-sum.ensures) in
    let high : total (sheet c.args.bytes.now m c.in_ok-head.head.at).psf ≤ 1024 = omega (arith, c.psf_sum-sum.ensures) in
    let put = c.store_body.ensures in
    let stands : front_of m c.store_body.new.psf c.store_body.new.gray c.store_body.new.dots
    ≡ sheet c.args.bytes.now m c.in_ok-head.head.at =
    (λ i. front_of m (put i).psf (put i).gray (put i).dots) ∙ in_fronts good low high in
    record {
      given = (is_given good, table_long good, figures_few good);
      fits = subst (λ x. PlateFits m x.psf x.gray x.dots (cells_of m)) (sym stands) (plate good low high);
    }

pub returns : goal.returns
returns c =
    let m = c.in_ok-head.head.value.measures in
    let good = whole c.args.bytes.now c.args.psf.now c.args.gray.now c.args.dots.now c.args.table.now _ _ _ _
    c.in_ok-head.ensures (sym c.has_filed_room.ensures ∙ c.if-not-has_filed_room.false) c.in_ok-figures.ensures in
    let low : 1 ≤ total (sheet c.args.bytes.now m c.in_ok-head.head.at).psf = omega (arith, c.psf_sum-sum.ensures) in
    let high : total (sheet c.args.bytes.now m c.in_ok-head.head.at).psf ≤ 1024 = omega (arith, c.psf_sum-sum.ensures) in
    let put = c.store_body.ensures in
    let stands : front_of m c.store_body.new.psf c.store_body.new.gray c.store_body.new.dots
    ≡ sheet c.args.bytes.now m c.in_ok-head.head.at =
    (λ i. front_of m (put i).psf (put i).gray (put i).dots) ∙ in_fronts good low high in
    let done = ends_as (checked good low high) in
    let verdict = c.judge_front.ensures.value ∙ ap (λ x. verdict_of x c.in_ok-figures.figures.value) stands in
    let filled = c.judge_front.ensures.table_after
    ∙ ap (λ x. sets c.args.table.now 0 (filtered_errors (sheet_target x) x.dots)) stands in
    record {
      reply_is = ap result verdict ∙ done.reply_is;
      left_is = (λ i. check_buffers (put i).psf (put i).gray (put i).dots (filled i)) ∙ done.left_is;
    }
