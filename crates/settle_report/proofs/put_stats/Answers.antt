-- `settle_report::put_stats` meets its contract: the names are put, then the row of the figures.
use mathlib.Core.List.{[], ◌∷◌}
use mathlib.Core.Path.{◌≡◌, ap₂}
use Prim.Native.Nat.{◌≤◌}
use native.Mathlib.Omega.{arith}
use borrow.Author.Rules.{rules}
use lib.ListN.{length}
use Rattle.model.specs.Sheet.{row}
use Rattle.model.specs.Program.{whole, figures_text}
use Rattle.model.proofs.Puts.{puts_then, puts_as}
use Rattle.settle_report.proofs.Lengths.{row_most}
use Rattle.settle_report.proofs.put_stats.Goals as goal
use Rattle.settle_report.proofs.put_stats.Goals.{After-put_bytes-names}

most : (c : After-put_bytes-names) → let r = c.args.res in
    let f = r.stats.figures in
    length (row (c.unwrap_or-before.result ∷ c.unwrap_or-after.result ∷ f.on ∷ f.off ∷ f.swaps ∷ r.scans ∷ [])) ≤ 127
most c =
    let r = c.args.res in
    let f = r.stats.figures in
    row_most (c.unwrap_or-before.result ∷ c.unwrap_or-after.result ∷ f.on ∷ f.off ∷ f.swaps ∷ r.scans ∷ [])
    (omega arith, (omega arith, (omega arith, (omega arith, (omega arith, (omega arith, tt))))))

pub put_row-requires : goal.put_row-requires
put_row-requires c = (omega arith, omega (arith, most (goal.at.put_row-requires c).After-put_bytes-names))

pub returns : goal.returns
unfolding figures_text
returns c =
    let r = c.args.res in
    let f = r.stats.figures in
    let before : c.unwrap_or-before.result ≡ whole f.start_error = search rules in
    let after : c.unwrap_or-after.result ≡ whole r.stats.error = search rules in
    let text = ap₂ (λ b a. figures_text b a f.on f.off f.swaps r.scans) before after in (
      puts_as text (puts_then c.put_bytes-names.ensures c.put_row.ensures),
      omega (arith, most (goal.at.returns c).After-put_bytes-names),
    )
