use Rattle.table.specs.Tables.{table_of}
use Rattle.word_laws.proofs.BothWays.{save_laws}
use Rattle.word_laws.proofs.tables.save.Goals as goal

pub returns-clause-laws : goal.returns-clause-laws
returns-clause-laws c = let rows = c.args.rows.now in save_laws (table_of rows) rows.accepted _ _ _ c.save.ensures
