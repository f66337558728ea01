use Rattle.rows.specs.declared.fault.Fault.TheVariants.{NoChannel}
use Rattle.rows.specs.Values.{channel_row}
use Rattle.table.proofs.Tables.{row_read}
use Rattle.table.proofs.storage.Rows.channel.Goals as goal

pub returns : goal.returns
returns c =
    let found = c.get.ensures.lookup in
    rw (c.ok_or.ensures.value, c.copied.ensures)
    (rw c.deref.ensures.value at (row_read channel_row c.deref.result.now c.args.number NoChannel c.get.result found.0 found.1))
