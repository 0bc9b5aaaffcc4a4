-- `sheet_read::read_names` meets its contract: the names one after the other are line 1.
use mathlib.Core.List.{List, ◌++◌}
use mathlib.Core.Path.{◌≡◌, refl, sym, ◌∙◌, ap}
use Prim.Native.Nat.{ℕ}
use Rattle.model.specs.Text.{bytes}
use Rattle.model.specs.Sheet.{names}
use Rattle.model.specs.Format.{place, fixed_at}
use Rattle.invariants.proofs.Reading.{err_same}
use Rattle.sheet_fields.proofs.Parts.{fixed_then, fixed_stop}
use Rattle.sheet_read.proofs.read_names.Goals as goal

-- line 1 from each name on
abbrev from_start : List ℕ
from_start = bytes "start\n"

abbrev from_reach : List ℕ
from_reach = bytes "reach " ++ from_start

abbrev from_radius : List ℕ
from_radius = bytes "radius " ++ from_reach

abbrev from_height : List ℕ
from_height = bytes "height " ++ from_radius

names_are : bytes "width " ++ from_height ≡ names
unfolding names
names_are = refl

-- and after each name
module _ (s : List ℕ) {h : ℕ} (eh : place 0 h ≡ fixed_at (bytes "width ") s 0) where
  after_width : fixed_at names s 0 ≡ fixed_at from_height s h
  after_width = ap (λ (l : List ℕ). fixed_at l s 0) (sym names_are) ∙ fixed_then (bytes "width ") from_height s 0 h eh

  module _ {r : ℕ} (er : place 0 r ≡ fixed_at (bytes "height ") s h) where
    after_height : fixed_at names s 0 ≡ fixed_at from_radius s r
    after_height = after_width ∙ fixed_then (bytes "height ") from_radius s h r er

    module _ {q : ℕ} (eq : place 0 q ≡ fixed_at (bytes "radius ") s r) where
      after_radius : fixed_at names s 0 ≡ fixed_at from_reach s q
      after_radius = after_height ∙ fixed_then (bytes "radius ") from_reach s r q eq

      module _ {t : ℕ} (et : place 0 t ≡ fixed_at (bytes "reach ") s q) where
        after_reach : fixed_at names s 0 ≡ fixed_at from_start s t
        after_reach = after_radius ∙ fixed_then (bytes "reach ") from_start s q t et

pub returns-in_err-height : goal.returns-in_err-height
returns-in_err-height c =
    let s = c.args.s.now in
    rw (err_same c.from_residual.result c.from_residual.ensures.1)
    (sym
    (ap (λ (l : List ℕ). fixed_at l s 0) (sym names_are)
    ∙ fixed_stop (bytes "width ") from_height s 0 c.in_err-height.field-0.0 c.in_err-height.ensures))

pub returns-in_err-radius : goal.returns-in_err-radius
returns-in_err-radius c =
    let s = c.args.s.now in
    rw (err_same c.from_residual-in_err-radius.result c.from_residual-in_err-radius.ensures.1)
    (sym
    (after_width s c.in_ok-height.ensures
    ∙ fixed_stop (bytes "height ") from_radius s c.in_ok-height.height c.in_err-radius.field-0.0 c.in_err-radius.ensures))

pub returns-in_err-reach : goal.returns-in_err-reach
returns-in_err-reach c =
    let s = c.args.s.now in
    rw (err_same c.from_residual-in_err-reach.result c.from_residual-in_err-reach.ensures.1)
    (sym
    (after_height s c.in_ok-height.ensures c.in_ok-radius.ensures
    ∙ fixed_stop (bytes "radius ") from_reach s c.in_ok-radius.radius c.in_err-reach.field-0.0 c.in_err-reach.ensures))

pub returns-in_err-start : goal.returns-in_err-start
returns-in_err-start c =
    let s = c.args.s.now in
    rw (err_same c.from_residual-in_err-start.result c.from_residual-in_err-start.ensures.1)
    (sym
    (after_radius s c.in_ok-height.ensures c.in_ok-radius.ensures c.in_ok-reach.ensures
    ∙ fixed_stop (bytes "reach ") from_start s c.in_ok-reach.reach c.in_err-start.field-0.0 c.in_err-start.ensures))

pub returns : goal.returns
returns c =
    c.read_name-5.ensures
    ∙ sym (after_reach c.args.s.now c.in_ok-height.ensures c.in_ok-radius.ensures c.in_ok-reach.ensures c.in_ok-start.ensures)
