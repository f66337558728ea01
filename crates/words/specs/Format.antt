-- The words of a table. The top 4 bits of a word are its kind, and the others its content.
use Rattle.std.specs.Prelude.{◌≡◌, ℕ, ◌+◌, ◌*◌, ◌/◌, ◌%◌, true, List, [], ◌∷◌, ◌++◌, map, length, Some, None, Option}
use Rattle.std.specs.List.{flat_map}
use Rattle.rows.specs.Table.{ActorRow, ChannelRow, Table, lawful, pin_of}
use Rattle.words.specs.declared.word.Kind.{Kind}
use Rattle.words.specs.declared.word.Kind.TheVariants.{Actor, Channel, Number, NotBefore, Pin, Ceiling, End}

-- the number of each kind
abbrev pub kind_number : Kind → ℕ
kind_number Actor = 1
kind_number Channel = 2
kind_number Number = 3
kind_number NotBefore = 4
kind_number Pin = 5
kind_number Ceiling = 6
kind_number End = 7

abbrev pub kind_of : ℕ → ℕ
kind_of w = w / 268435456

abbrev pub content_of : ℕ → ℕ
content_of w = w % 268435456

abbrev pub word_of : ℕ → ℕ → ℕ
word_of kind content = kind * 268435456 + content

-- a word of this kind, where there is a number for it
abbrev pub option_words : ℕ → Option ℕ → List ℕ
option_words kind None = []
option_words kind (Some n) = word_of kind n ∷ []

-- kind 1 with the number of phases, the times in kind 3, then a not-before tick in kind 4 and a pin in kind 5
abbrev pub actor_words : ActorRow → List ℕ
actor_words a =
    word_of 1 (length a.times)
    ∷ (map (word_of 3) a.times ++ (option_words 4 a.not_before ++ option_words 5 (pin_of a.placement)))

-- the content of a channel's head: writer in bits 0 to 7, reader in bits 8 to 15, and the phases of either in bits
-- 16 to 19 and 20 to 23
abbrev pub ends_content : ℕ → ℕ → ℕ → ℕ → ℕ
ends_content writer reader writer_phases reader_phases = writer + 256 * reader + 65536 * writer_phases + 1048576 * reader_phases

-- kind 2 with its ends, the writer's rates and the reader's in kind 3, then a ceiling in kind 6
abbrev pub channel_words : ChannelRow → List ℕ
channel_words c =
    word_of 2 (ends_content c.writer c.reader (length c.writes) (length c.reads))
    ∷ (map (word_of 3) c.writes ++ (map (word_of 3) c.reads ++ option_words 6 c.ceiling))

-- the actors, and then the channels
abbrev pub row_words : Table → List ℕ
row_words t = flat_map actor_words t.actors ++ flat_map channel_words t.channels

-- and at the end kind 7 with the number of words before it
abbrev pub table_words : Table → List ℕ
table_words t = row_words t ++ word_of 7 (length (row_words t)) ∷ []

-- the words are those of the table, and its rows are ones that the checks accept
pub record Describes (words : List ℕ) (t : Table) : Type 0 where
  pub accepted : lawful t ≡ true
  pub written : words ≡ table_words t
