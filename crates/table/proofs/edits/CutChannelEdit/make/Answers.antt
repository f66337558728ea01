use Rattle.std.proofs.Common.{None, vec_items, sym, refl, ◌∙◌, arith}
use Rattle.rows.specs.declared.fault.Fault.TheVariants.{NoChannel}
use Rattle.rows.specs.Table.{cut_channel}
use Rattle.rows.specs.Values.{channel_row}
use Rattle.rows.proofs.Parts.{check_from, check_failed}
use Rattle.rows.proofs.Steps.{granted, refused}
use Rattle.table.specs.Tables.{table_of}
use Rattle.table.proofs.Tables.{there, not_there, channel_cut_lem, channel_cut_lawful}
use Rattle.table.proofs.edits.CutChannelEdit.make.Goals as goal

pub returns-then-number-len : goal.returns-then-number-len
returns-then-number-len c =
    let rows = c.args.rows.now in
    let len = c.len.ensures ∙ rows.channels.ok.0 in
    refused (cut_channel c.args.self.0) (table_of rows) (table_of rows) NoChannel
    (sym (check_failed _ NoChannel None (not_there channel_row (vec_items rows.channels) c.len.result len c.args.self.0 c.if-number-len.true))) refl

pub invariant_of-rows : goal.invariant_of-rows
invariant_of-rows c =
    let rows = c.args.rows.now in
    let len = c.len.ensures ∙ rows.channels.ok.0 in
    let cap = c.remove.ensures.capacity in
    let room = rows.channel_room in
    record { actor_room = rows.actor_room; channel_room = omega arith; accepted = channel_cut_lawful (vec_items rows.actors) (vec_items rows.channels) rows.accepted c.args.self.0 _ c.remove.ensures.items (check_from _ NoChannel None (there channel_row (vec_items rows.channels) c.len.result len c.args.self.0 c.if-number-len.false) refl) }

pub returns : goal.returns
returns c =
    let rows = c.args.rows.now in
    let len = c.len.ensures ∙ rows.channels.ok.0 in
    granted (cut_channel c.args.self.0) (table_of rows) _ _
    (check_from _ NoChannel None (there channel_row (vec_items rows.channels) c.len.result len c.args.self.0 c.if-number-len.false) refl) refl
    (channel_cut_lem (vec_items rows.actors) (vec_items rows.channels) rows.accepted c.args.self.0 _ c.remove.ensures.items)
