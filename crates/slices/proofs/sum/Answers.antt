use Rattle.std.proofs.Common.{◌≡◌, ◌∙◌, sym, rules}
use Rattle.std.specs.List.{sum}
use Rattle.slices.proofs.Bytes.{total_sum}
use Rattle.slices.proofs.sum.Goals as goal

pub returns : goal.returns
returns c =
    let e : c.sum.result ≡ sum c.args.bytes.now = search rules in
    e ∙ sym (total_sum c.args.bytes.now)
