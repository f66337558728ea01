use Rattle.std.proofs.Common.{◌≡◌, None, vec_items, ◌∙◌, arith}
use Rattle.rows.specs.declared.fault.Fault.TheVariants.{TableFull}
use Rattle.rows.specs.Table.{actor_fault, add_actor}
use Rattle.rows.specs.Values.{actor_row, new_actor_row}
use Rattle.rows.proofs.Parts.{check_from}
use Rattle.table.specs.Tables.{table_of}
use Rattle.table.proofs.Tables.{fewer, actor_added_lawful}
use Rattle.table.proofs.edits.NewActorEdit.make.Goals as goal

pub invariant_of-rows : goal.invariant_of-rows
invariant_of-rows c =
    let rows = c.args.rows.now in
    let row = new_actor_row c.args.self in
    let len = c.len-number.ensures ∙ rows.actors.ok.0 in
    let made = c.in_ok-actor.ensures in
    let none : (add_actor row).fault (table_of rows) ≡ None =
    check_from _ TableFull (actor_fault row) (fewer actor_row (vec_items rows.actors) c.len-number.result len 64 c.if-number-ge-MOST_ACTORS.false) made.0 in
    let cap = c.push_reserved.ensures.capacity in
    let room = rows.actor_room in
    record { actor_room = omega arith; channel_room = rows.channel_room; accepted = actor_added_lawful (vec_items rows.actors) (vec_items rows.channels) rows.accepted row c.in_ok-actor.actor _ made.1 c.push_reserved.ensures.items none }
