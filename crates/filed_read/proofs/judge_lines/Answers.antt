-- `filed_read::judge_lines` meets its contract: the blocks are refused, or the two lines follow them.
use mathlib.Core.Path.{refl}
use Rattle.std.specs.Prelude.{Ok, Err}
use Rattle.invariants.specs.Reading.{place_in}
use Rattle.invariants.proofs.Reading.{err_same, reason_some}
use Rattle.filed_read.proofs.Figures.{filed_refused, filed_read_lem}
use Rattle.filed_read.proofs.judge_lines.Goals as goal

pub returns-in_err-lines : goal.returns-in_err-lines
returns-in_err-lines c =
    let a = c.args in
    let r = c.in_err-lines.field-0.0 in
    rw (err_same c.from_residual.result c.from_residual.ensures.1, c.requires)
    (filed_refused a.m.measures a.s.now a.at (place_in (Err r)) c.in_err-lines.ensures (reason_some r.reason))

pub returns : goal.returns
returns c =
    let a = c.args in
    let f = c.read_figures-end in
    let p = place_in f.result in
    filed_read_lem a.m.measures a.s.now a.at (place_in (Ok c.in_ok-lines.lines)) c.in_ok-lines.ensures refl
    {l = record { refusal = p.refusal; at = p.at; figures = f.new.f }}
    (λ i. record { refusal = (f.ensures.at i).refusal; at = (f.ensures.at i).at; figures = f.ensures.read i })
    c.judge_end.ensures
