use Rattle.std.proofs.Common.{◌-◌, length}
use Rattle.table.specs.Tables.{table_of}
use Rattle.words.specs.Loads.{rows_from}
use Rattle.words.proofs.Turns.{Coming}
use Rattle.words.proofs.load.add_records.Given as goal

abbrev pub invariant-loop-part : goal.invariant-loop-part
invariant-loop-part l = Coming l.words (rows_from (length l.words) l.words 0 (table_of l.initial.rows)) l.head (table_of l.rows)

abbrev pub decreases-loop-part : goal.decreases-loop-part
decreases-loop-part l = length l.words - l.head
