-- The record at a place of a table of words: its words, its row, or what is wrong with it.
use Rattle.std.specs.Prelude.{ℕ, zero, suc, ◌+◌, ◌/◌, ◌%◌, Bool, cond, not, ◌&&◌, List, map, length, is_some, Some, None, Err, Option, Result, ◌==◌, nat_lt, slice_index}
use Rattle.std.specs.List.{between, slice_get}
use Rattle.rows.specs.Steps.{answer}
use Rattle.rows.specs.Table.{ActorRow, ChannelRow, actor_with, channel_with, within, placed}
use Rattle.words.specs.Checks.{check}
use Rattle.words.specs.declared.fault.WordFault.{WordFault}
use Rattle.words.specs.declared.fault.WordFault.TheVariants.{Missing, UnknownKind, Misplaced, WrongEnd}
use Rattle.words.specs.Format.{kind_of, content_of}

-- a record: its part of the words, from its head on
pub data Part : Type 0 where
  actor_part : List ℕ → Part
  channel_part : List ℕ → Part
  end_part : List ℕ → Part

-- why a word at place i may not stand there: kinds 1 to 7 are known
abbrev pub wrong_kind : ℕ → ℕ → WordFault
wrong_kind i w = cond (within 1 7 (kind_of w)) (Misplaced i) (UnknownKind i)

-- why the word at place i is no number, which has kind 3
abbrev pub number_fault : List ℕ → ℕ → Option WordFault
number_fault ws i = elim (slice_get ws i) [ None ↦ Some (Missing i) | Some w ↦ check (kind_of w == 3) (wrong_kind i w) None ]

-- the same of the first of n words from place i on that is no number
abbrev pub numbers_fault : List ℕ → ℕ → ℕ → Option WordFault
numbers_fault ws i zero = None
numbers_fault ws i (suc n) = elim (number_fault ws i) [ Some f ↦ Some f | None ↦ numbers_fault ws (suc i) n ]

-- the content of the word at place i, if it is of this kind
abbrev pub given : List ℕ → ℕ → ℕ → Option ℕ
given ws i kind = elim (slice_get ws i) [ None ↦ None | Some w ↦ cond (kind_of w == kind) (Some (content_of w)) None ]

-- the place after it, or i where the word is of another kind
abbrev pub past : List ℕ → ℕ → ℕ → ℕ
past ws i kind = cond (is_some (given ws i kind)) (suc i) i

-- the fields of a channel's head
abbrev pub writer_in : ℕ → ℕ
writer_in content = content % 256

abbrev pub reader_in : ℕ → ℕ
reader_in content = content / 256 % 256

abbrev pub writes_in : ℕ → ℕ
writes_in content = content / 65536 % 16

abbrev pub reads_in : ℕ → ℕ
reads_in content = content / 1048576 % 16

-- the record with its head at place h, by the kind of its head and by the content of that

abbrev pub actor_at : Bool → List ℕ → ℕ → ℕ → Result Part WordFault
actor_at after_channel ws h content =
    answer (check (not after_channel && nat_lt content 256) (Misplaced h) (numbers_fault ws (suc h) content))
    (actor_part (between h (past ws (past ws (suc h + content) 4) 5) ws))

abbrev pub channel_at : List ℕ → ℕ → ℕ → Result Part WordFault
channel_at ws h content =
    answer (check (nat_lt content 16777216) (Misplaced h) (numbers_fault ws (suc h) (writes_in content + reads_in content)))
    (channel_part (between h (past ws (suc h + (writes_in content + reads_in content)) 6) ws))

abbrev pub end_at : List ℕ → ℕ → ℕ → Result Part WordFault
end_at ws h content =
    answer (check (content == h) (WrongEnd h) (check (length ws == suc h) (WrongEnd (suc h)) None))
    (end_part (between h (suc h) ws))

abbrev pub headed_by : Bool → List ℕ → ℕ → ℕ → Result Part WordFault
headed_by after_channel ws h w =
    cond (kind_of w == 1) (actor_at after_channel ws h (content_of w))
    (cond (kind_of w == 2) (channel_at ws h (content_of w))
    (cond (kind_of w == 7) (end_at ws h (content_of w)) (Err (wrong_kind h w))))

-- no actor may stand after a channel
abbrev pub record_at : Bool → List ℕ → ℕ → Result Part WordFault
record_at after_channel ws h = elim (slice_get ws h) [ None ↦ Err (Missing h) | Some w ↦ headed_by after_channel ws h w ]

-- the row that the words of a record say

abbrev pub head_content : List ℕ → ℕ
head_content part = content_of (slice_index part 0)

abbrev pub actor_of : List ℕ → ActorRow
actor_of part =
    let n = head_content part in
    actor_with (map content_of (between 1 (suc n) part)) (given part (suc n) 4) (placed (given part (past part (suc n) 4) 5))

abbrev pub channel_of : List ℕ → ChannelRow
channel_of part =
    let n = writes_in (head_content part) in
    let m = reads_in (head_content part) in
    channel_with (writer_in (head_content part)) (reader_in (head_content part)) (map content_of (between 1 (suc n) part))
    (map content_of (between (suc n) (suc n + m) part)) (given part (suc n + m) 6)
