use Rattle.std.proofs.Common.{vec_items, arith}
use Rattle.table.proofs.Tables.{few_actors, few_channels}
use Rattle.table.proofs.storage.Rows.copy_from.Goals as goal

pub refill-requires : goal.refill-requires
refill-requires c =
    let other = c.args.other.now in
    let few = few_actors (vec_items other.actors) (vec_items other.channels) other.accepted in
    let len = other.actors.ok.0 in
    let slice = c.deref.ensures.len in
    let room = c.args.self.now.actor_room in
    omega arith

pub refill-requires-2 : goal.refill-requires-2
refill-requires-2 c =
    let other = c.args.other.now in
    let few = few_channels (vec_items other.actors) (vec_items other.channels) other.accepted in
    let len = other.channels.ok.0 in
    let slice = c.deref-2.ensures.len in
    let room = c.args.self.now.channel_room in
    omega arith
