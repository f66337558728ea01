use Rattle.std.proofs.Common.{◌≡◌, ◌++◌, map, take, string_bytes}
use Rattle.std.specs.List.{flat_map}
use Rattle.rows.specs.Values.{actor_row, channel_row}
use Rattle.answers.specs.Texts.{actor_text, channel_text}
use Rattle.answers.proofs.printer.push_rows.Given as goal

abbrev pub invariant-loop-actor : goal.invariant-loop-actor
invariant-loop-actor l =
    string_bytes l.out ≡ string_bytes l.initial.out ++ flat_map actor_text (map actor_row (take l.actor-index l.actor-items))

abbrev pub invariant-loop-channel : goal.invariant-loop-channel
invariant-loop-channel l =
    string_bytes l.out ≡ string_bytes l.initial.out ++ flat_map channel_text (map channel_row (take l.channel-index l.channel-items))
