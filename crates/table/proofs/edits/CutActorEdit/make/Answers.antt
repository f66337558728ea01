use Rattle.std.proofs.Common.{◌≡◌, not, List, map, None, vec_items, sym, refl, ap, ◌∙◌, arith}
use Rattle.std.specs.List.{list_all}
use Rattle.rows.specs.declared.fault.Fault.TheVariants.{NoActor, ActorInUse}
use Rattle.rows.specs.declared.row.Channel.{Channel}
use Rattle.rows.specs.Table.{names, cut_actor}
use Rattle.rows.specs.Values.{actor_row, channel_row}
use Rattle.rows.proofs.Parts.{check_from, check_passed, check_failed}
use Rattle.rows.proofs.Steps.{granted, refused}
use Rattle.table.specs.Tables.{table_of}
use Rattle.table.proofs.Tables.{there, not_there, actor_cut_lem, actor_cut_lawful}
use Rattle.table.proofs.edits.CutActorEdit.make.Goals as goal

pub returns-then-number-len : goal.returns-then-number-len
returns-then-number-len c =
    let rows = c.args.rows.now in
    let len = c.len.ensures ∙ rows.actors.ok.0 in
    refused (cut_actor c.args.self.0) (table_of rows) (table_of rows) NoActor
    (sym (check_failed _ NoActor _ (not_there actor_row (vec_items rows.actors) c.len.result len c.args.self.0 c.if-number-len.true))) refl

pub returns-then-not-is_unused : goal.returns-then-not-is_unused
returns-then-not-is_unused c =
    let rows = c.args.rows.now in
    let len = c.len.ensures ∙ rows.actors.ok.0 in
    let used = ap (λ (l : List Channel). list_all (λ r. not (names c.args.self.0 r)) (map channel_row l)) (sym c.deref.ensures.value) ∙ sym c.if-not-is_unused.ensures in
    refused (cut_actor c.args.self.0) (table_of rows) (table_of rows) ActorInUse
    (sym
    (check_passed _ NoActor _ _ (there actor_row (vec_items rows.actors) c.len.result len c.args.self.0 c.if-number-len.false)
    (check_failed _ ActorInUse None used))) refl

pub invariant_of-rows : goal.invariant_of-rows
invariant_of-rows c =
    let rows = c.args.rows.now in
    let len = c.len.ensures ∙ rows.actors.ok.0 in
    let unused = ap (λ (l : List Channel). list_all (λ r. not (names c.args.self.0 r)) (map channel_row l)) (sym c.deref.ensures.value) ∙ sym c.if-not-is_unused.ensures in
    let none : (cut_actor c.args.self.0).fault (table_of rows) ≡ None =
    check_from _ NoActor _ (there actor_row (vec_items rows.actors) c.len.result len c.args.self.0 c.if-number-len.false) (check_from _ ActorInUse None unused refl) in
    let cap = c.remove.ensures.capacity in
    let cap_2 = c.renumber.ensures.capacity in
    let room = rows.actor_room in
    let room_2 = rows.channel_room in
    record { actor_room = omega arith; channel_room = omega arith; accepted = actor_cut_lawful (vec_items rows.actors) (vec_items rows.channels) rows.accepted c.args.self.0 _ _ c.remove.ensures.items c.renumber.ensures.rows none }

pub returns : goal.returns
returns c =
    let rows = c.args.rows.now in
    let len = c.len.ensures ∙ rows.actors.ok.0 in
    let unused = ap (λ (l : List Channel). list_all (λ r. not (names c.args.self.0 r)) (map channel_row l)) (sym c.deref.ensures.value) ∙ sym c.if-not-is_unused.ensures in
    granted (cut_actor c.args.self.0) (table_of rows) _ _
    (check_from _ NoActor _ (there actor_row (vec_items rows.actors) c.len.result len c.args.self.0 c.if-number-len.false) (check_from _ ActorInUse None unused refl)) refl
    (actor_cut_lem (vec_items rows.actors) (vec_items rows.channels) rows.accepted c.args.self.0 _ _ c.remove.ensures.items
    c.renumber.ensures.rows)
