use Rattle.std.proofs.Common.{rules, tests}
use Rattle.std.proofs.lemmas.Iterator.{YieldsList-from_slice}
use Rattle.std.proofs.lemmas.Iterator.Search.{all_from_yields_List}
use Rattle.rows.specs.Table.{within}
use Rattle.rows.proofs.checks.are_within.Goals as goal

pub returns : goal.returns
returns c =
    all_from_yields_List (within c.args.low c.args.high) _ _ c.all.result c.all.ensures.ran
    (YieldsList-from_slice c.args.numbers.now cc)
    (λ x b q k. search (rules, tests))
