-- `picture_header::next_byte` meets its contract.
use Rattle.std.proofs.Common.{sym, ◌∙◌, eq-eqb, arith}
use borrow.Author.Tests.{ne_eqb}
use Rattle.picture_header.proofs.Glyphs.{hidden, opened, shown, past}
use Rattle.picture_header.proofs.next_byte.Goals as goal
use Rattle.picture_header.proofs.next_byte.Goals.{then-comment, else-comment+then-value-eq35}

pub returns-else-value-eq35 : goal.returns-else-value-eq35
returns-else-value-eq35 c =
    let outside = ne_eqb _ 35 c.if-value-eq35.false in
    record {
      later = omega arith;
      within = omega arith;
      shows = sym (rw c.if-comment.false at c.loop-i.invariant) ∙ shown _ _ c.loop-i-test.true outside;
    }

pub loop-i-preserved : goal.loop-i-preserved
loop-i-preserved c =
    elim c.if-comment.branch [
      | then-comment w ↦
          rw (w.comment-is, w.ends_comment-comment.ensures)
          (sym (hidden _ _ c.loop-i-test.true) ∙ rw w.if-comment.true at c.loop-i.invariant)
      | else-comment+then-value-eq35 w ↦
          rw w.comment-is
          (sym (opened _ _ c.loop-i-test.true (eq-eqb _ 35 w.if-value-eq35.true))
          ∙ rw w.if-comment.false at c.loop-i.invariant)
    ]

pub returns : goal.returns
returns c =
    let none = past _ c.loop-i.i (omega (arith, c.loop-i-test.false)) in
    sym c.loop-i.invariant ∙ none c.loop-i.comment
