use Rattle.std.proofs.Common.{◌≡◌, ◌++◌, map, take, drop}
use Rattle.rows.specs.Table.{renumbered_ends}
use Rattle.rows.specs.Values.{channel_row}
use Rattle.table.proofs.edits.renumber.Given as goal

abbrev pub invariant-loop-channel : goal.invariant-loop-channel
invariant-loop-channel l =
    map channel_row l.channel-items
    ≡ map (renumbered_ends l.gone) (take l.channel-index (map channel_row l.initial.channel-items))
    ++ drop l.channel-index (map channel_row l.initial.channel-items)
