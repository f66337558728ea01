use Rattle.std.proofs.Common.{suc, ◌-◌, ap, ◌∙◌, subst, arith}
use Rattle.rows.specs.Steps.{Does}
use Rattle.rows.specs.Table.{add_actor}
use Rattle.table.specs.Tables.{table_of}
use Rattle.words.specs.Records.{head_content, given}
use Rattle.words.proofs.Decoded.{list_read, actor_made}
use Rattle.words.proofs.load.add_actor.Goals as goal

pub returns : goal.returns
returns c =
    let part = c.args.part.now in
    let n = head_content part in
    let count = c.content_of-count.ensures in
    let long = c.requires.1 in
    let times = list_read part c.contents-times.result 1 n _ _ (suc n - 1) (omega arith) (omega arith) (omega arith) (omega arith) c.contents-times.ensures in
    let pin = c.given-pin.ensures ∙ ap (λ ws. given ws c.past.result.index 5) c.past.ensures.same ∙ ap (λ i. given part i 5) c.past.ensures.value in
    subst (λ a. Does (add_actor a) (table_of c.args.rows.now) (table_of c.edit.new.self) c.edit.result)
    (actor_made part c.content_of-count.result _ _ c.given-pin.result _ count times c.given-not_before.ensures pin c.from.ensures)
    c.edit.ensures.made
