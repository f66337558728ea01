-- The script that adds each row of a table.
use Rattle.std.specs.Prelude.{◌++◌, map}
use Rattle.rows.specs.Table.{ActorRow, ChannelRow, Table}
use Rattle.script.specs.Plain.{PlainCall, actor_added, channel_added, edited}
use Rattle.script.specs.Scripts.{PlainScript}

abbrev pub adds_actor : ActorRow → PlainCall
adds_actor a = edited 0 (actor_added a)

abbrev pub adds_channel : ChannelRow → PlainCall
adds_channel c = edited 0 (channel_added c)

-- the calls show tickets of mark 0, which is the mark of a script that gives none
abbrev pub adds_rows : Table → PlainScript
adds_rows t = record { mark = 0; calls = map adds_actor t.actors ++ map adds_channel t.channels }
