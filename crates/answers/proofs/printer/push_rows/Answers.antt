use Rattle.rows.specs.Values.{actor_row}
use Rattle.answers.specs.Texts.{actor_text}
use Rattle.answers.proofs.Printed.{rows_more}
use Rattle.answers.proofs.printer.push_rows.Goals as goal

pub loop-actor-preserved : goal.loop-actor-preserved
loop-actor-preserved c =
    rows_more actor_text _ _ _ actor_row c.actors-actor-items.result.now c.loop-actor.actor-index c.actor-item.result c.loop-actor-test.true c.actor-item.is
    c.loop-actor.invariant c.in_ok-write.ensures.bytes
