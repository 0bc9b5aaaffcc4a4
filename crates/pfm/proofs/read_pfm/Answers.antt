-- `pfm::read_pfm` meets its contract: lines that were found are of a size as in 1.
use Rattle.std.proofs.Common.{◌≡◌, ℕ, List, Some, None, sym, ap, subst, arith}
use Rattle.std.specs.Prelude.{Option, IfSome}
use Rattle.model.specs.declared.After.{After}
use Rattle.model.specs.declared.PfmHeader.{PfmHeader}
use Rattle.model.specs.Netpbm.{InSize}
use Rattle.model.specs.Pfm.{size_in}
use Rattle.model.specs.PfmCalls.{pfm_lines}
use Rattle.model.proofs.PfmHeaders.{lines_stand}
use Rattle.invariants.specs.Reading.{lines_in}
use Rattle.pfm.proofs.read_pfm.Goals as goal

sized : (o : Option (After PfmHeader)) (s : List ℕ) → lines_in o ≡ pfm_lines s → IfSome o (λ l. InSize (size_in l.value))
sized None s e = tt
sized (Some l) s e =
    subst (λ k. InSize (size_in k.header)) (sym e) (lines_stand s (ap (λ k. k.good) (sym e))).in_size

pub judge_lines-requires : goal.judge_lines-requires
judge_lines-requires c = sized _ _ c.read_lines.ensures

pub read_samples-requires-clause-in_size : goal.read_samples-requires-clause-in_size
read_samples-requires-clause-in_size c =
    let some : c.read_lines.result ≡ Some c.in_ok-lines.lines = grind arith in
    rw some at (sized _ _ c.read_lines.ensures)
