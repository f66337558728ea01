use Rattle.rows.specs.Values.{new_channel_row}
use Rattle.rows.proofs.Steps.{none_if_ok}
use Rattle.rows.proofs.Parts.{few_writes, few_reads}
use Rattle.rows.proofs.row.Channel.new.Goals as goal

pub new-requires : goal.new-requires
new-requires c = few_writes c.args.actors.now (new_channel_row c.args.channel) (none_if_ok _ _ _ c.in_ok-check_channel.ensures)

pub new-requires-2 : goal.new-requires-2
new-requires-2 c = few_reads c.args.actors.now (new_channel_row c.args.channel) (none_if_ok _ _ _ c.in_ok-check_channel.ensures)
