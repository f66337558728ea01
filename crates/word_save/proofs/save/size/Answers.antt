use Rattle.std.proofs.Common.{length, ap, arith}
use Rattle.table.specs.Tables.{table_of}
use Rattle.word_save.proofs.Encoded.{actors_encoded, sizes_few, sizes}
use Rattle.word_save.proofs.save.size.Goals as goal

pub size_of-requires : goal.size_of-requires
size_of-requires c =
    let rows = c.args.rows.now in
    let few = sizes_few (table_of rows) rows.accepted in
    let a = ap length (actors_encoded (table_of rows) c.actors.result.now c.actors.ensures) in omega arith

pub size_of-requires-2 : goal.size_of-requires-2
size_of-requires-2 c =
    let s = sizes (table_of c.args.rows.now) c.args.rows.now.accepted _ _ c.actors.ensures c.channels.ensures in omega arith

pub overflow_add-result : goal.overflow_add-result
overflow_add-result c =
    let s = sizes (table_of c.args.rows.now) c.args.rows.now.accepted _ _ c.actors.ensures c.channels.ensures in omega arith

pub overflow_add-result-2 : goal.overflow_add-result-2
overflow_add-result-2 c =
    let s = sizes (table_of c.args.rows.now) c.args.rows.now.accepted _ _ c.actors.ensures c.channels.ensures in omega arith

pub returns : goal.returns
returns c =
    let s = sizes (table_of c.args.rows.now) c.args.rows.now.accepted _ _ c.actors.ensures c.channels.ensures in omega arith
