-- The number and the place of each refusal of load.
use Rattle.std.specs.Prelude.{ℕ}
use Rattle.rows.specs.Faults.{number_of}
use Rattle.words.specs.declared.fault.WordFault.{WordFault}
use Rattle.words.specs.declared.fault.WordFault.TheVariants.{Missing, UnknownKind, Misplaced, WrongEnd}
use Rattle.words.specs.declared.fault.LoadFault.{LoadFault}
use Rattle.words.specs.declared.fault.LoadFault.TheVariants.{TicketRefused, HasRows, Word, Row}

abbrev pub shown_word : WordFault → ℕ × ℕ
shown_word (Missing place) = (30, place)
shown_word (UnknownKind place) = (31, place)
shown_word (Misplaced place) = (32, place)
shown_word (WrongEnd place) = (33, place)

-- a row's refusal keeps its number, and names the head of its record
abbrev pub shown_load : LoadFault → ℕ × ℕ
shown_load TicketRefused = (2, 0)
shown_load HasRows = (28, 0)
shown_load (Word fault) = shown_word fault
shown_load (Row head fault) = (number_of fault, head)
