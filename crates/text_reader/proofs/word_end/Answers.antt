-- `text_reader::word_end` meets its contract: the chain counts the letters that the definition passes.
use mathlib.Core.List.{List}
use mathlib.Core.Path.{◌≡◌}
use native.Mathlib.Omega.{arith}
use Prim.Native.Nat.{ℕ}
use borrow.Author.Rules.{rules}
use borrow.Author.Tests.{tests}
use lib.ListN.{length, take, drop}
use Rattle.std.specs.List.{prefix_len}
use Rattle.std.proofs.lemmas.Iterator.{YieldsList-from_slice}
use Rattle.std.proofs.lemmas.Iterator.Consumers.{count_from_yields_List}
use Rattle.std.proofs.lemmas.Iterator.Search.{YieldsList-from_take_while}
use Rattle.std.proofs.lemmas.List.{take_rest}
use Rattle.std.proofs.lemmas.List.Folds.{length-prefix_len}
use Rattle.model.specs.Text.{is_letter}
use Rattle.text_reader.proofs.Items.{word_length}
use Rattle.text_reader.proofs.word_end.Goals as goal

pub returns : goal.returns
returns c =
    let xs : List ℕ = drop c.args.at c.args.s.now in
    let few : c.count.result ≡ length (take (prefix_len is_letter xs) xs) =
    count_from_yields_List _ _ c.count.ensures.ran
    (YieldsList-from_take_while _ is_letter (YieldsList-from_slice xs (search (rules, take_rest))) c.take_while.ensures.closure
    c.take_while.ensures.done (λ x b q k. search (rules, tests))) in
    omega (arith, length-prefix_len is_letter xs, word_length c.args.at xs)
