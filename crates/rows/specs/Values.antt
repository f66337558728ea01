-- What the program's rows stand for.
use Rattle.std.specs.Prelude.{ℕ, List, map, take}
use Rattle.rows.specs.declared.row.Phases.{Phases}
use Rattle.rows.specs.declared.row.Actor.{Actor}
use Rattle.rows.specs.declared.row.Channel.{Channel}
use Rattle.rows.specs.declared.row.NewActor.{NewActor}
use Rattle.rows.specs.declared.row.NewChannel.{NewChannel}
use Rattle.rows.specs.Table.{ActorRow, ChannelRow, Table, actor_with, channel_with}

abbrev pub listed : Phases → List ℕ
listed p = take p.count p.values

abbrev pub actor_row : Actor → ActorRow
actor_row a = record { times = listed a.times; not_before = a.not_before; placement = a.placement }

abbrev pub channel_row : Channel → ChannelRow
channel_row c =
    record { writer = c.writer; reader = c.reader; writes = listed c.writes; reads = listed c.reads; ceiling = c.ceiling }

-- the rows of values that are to be made
abbrev pub new_actor_row : NewActor → ActorRow
new_actor_row a = actor_with a.times.now a.not_before a.placement

abbrev pub new_channel_row : NewChannel → ChannelRow
new_channel_row c = channel_with c.writer c.reader c.writes.now c.reads.now c.ceiling

abbrev pub table_from : List Actor → List Channel → Table
table_from rows cs = record { actors = map actor_row rows; channels = map channel_row cs }
