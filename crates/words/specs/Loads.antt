-- The rows that a table of words adds, record by record.
use Rattle.std.specs.Prelude.{ℕ, zero, suc, ◌+◌, Bool, not, ◌&&◌, List, length, Some, None, Ok, Err, Option, Result, ◌==◌}
use Rattle.rows.specs.Steps.{Step}
use Rattle.rows.specs.Table.{Table, empty_table, add_actor, add_channel}
use Rattle.words.specs.Checks.{check}
use Rattle.words.specs.declared.fault.WordFault.TheVariants.{Missing}
use Rattle.words.specs.declared.fault.LoadFault.{LoadFault}
use Rattle.words.specs.declared.fault.LoadFault.TheVariants.{HasRows, Word, Row}
use Rattle.words.specs.Records.{actor_part, channel_part, end_part, record_at, actor_of, channel_of}

abbrev pub has_channels : Table → Bool
has_channels t = not (length t.channels == 0)

-- the table t with the rows of the records from place h on: each record is read whole and then added, and the first
-- fault is the answer. A record has a word or more, so there are at most as many records as words.
abbrev pub rows_from : ℕ → List ℕ → ℕ → Table → Result Table LoadFault
rows_from zero ws h t = Err (Word (Missing h))
rows_from (suc records) ws h t = elim (record_at (has_channels t) ws h) [
  | Err f ↦ Err (Word f)
  | Ok part ↦ elim part [
    | actor_part words ↦ elim ((add_actor (actor_of words)).fault t) [
      | Some f ↦ Err (Row h f)
      | None ↦ rows_from records ws (h + length words) ((add_actor (actor_of words)).made t)
    ]
    | channel_part words ↦ elim ((add_channel (channel_of words)).fault t) [
      | Some f ↦ Err (Row h f)
      | None ↦ rows_from records ws (h + length words) ((add_channel (channel_of words)).made t)
    ]
    | end_part words ↦ Ok t
  ]
]

abbrev pub table_read : List ℕ → Result Table LoadFault
table_read ws = rows_from (length ws) ws 0 empty_table

abbrev pub is_empty : Table → Bool
is_empty t = length t.actors == 0 && length t.channels == 0

abbrev pub fault_in : {X F : Type 0} → Result X F → Option F
fault_in (Ok x) = None
fault_in (Err f) = Some f

abbrev pub table_in : {F : Type 0} → Result Table F → Table
table_in (Ok t) = t
table_in (Err f) = empty_table

-- load, into a table without rows; it answers the number of words
abbrev pub loading : List ℕ → Step LoadFault Table ℕ
loading ws =
    record {
      fault = λ t. check (is_empty t) HasRows (fault_in (table_read ws));
      value = λ t. length ws;
      made = λ t. table_in (table_read ws);
    }
