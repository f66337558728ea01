use Rattle.std.proofs.Common.{not, rules, tests, sym, ◌∙◌}
use Rattle.std.proofs.lemmas.List.Folds.{list_all-map}
use Rattle.std.proofs.lemmas.Iterator.{YieldsList-from_slice}
use Rattle.std.proofs.lemmas.Iterator.Search.{all_from_yields_List}
use Rattle.rows.specs.Table.{names}
use Rattle.rows.specs.Values.{channel_row}
use Rattle.table.proofs.edits.is_unused.Goals as goal

pub returns : goal.returns
returns c =
    all_from_yields_List (λ x. not (names c.args.actor (channel_row x))) _ _ c.all.result c.all.ensures.ran
    (YieldsList-from_slice c.args.channels.now cc)
    (λ x b q k. search (rules, tests))
    ∙ sym (list_all-map (λ r. not (names c.args.actor r)) channel_row c.args.channels.now)
