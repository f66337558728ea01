-- What a refusal says of the words, without the steps of reading them.
use Rattle.std.specs.Prelude.{◌≡◌, ℕ, suc, ◌<◌, ◌≤◌, true, false, List, [], ◌∷◌, ◌++◌, length, take, Some}
use Rattle.std.specs.List.{AllByRecursion, slice_get}
use Rattle.rows.specs.declared.fault.Fault.{Fault}
use Rattle.rows.specs.Table.{ActorRow, ChannelRow, Table, within, lawful, add_actor, add_channel}
use Rattle.words.specs.declared.fault.WordFault.{WordFault}
use Rattle.words.specs.declared.fault.WordFault.TheVariants.{Missing, UnknownKind, Misplaced, WrongEnd}
use Rattle.words.specs.declared.fault.LoadFault.{LoadFault}
use Rattle.words.specs.declared.fault.LoadFault.TheVariants.{Word, Row}
use Rattle.words.specs.Fitting.{ActorFits, ChannelFits}
use Rattle.words.specs.Format.{kind_of, word_of, actor_words, channel_words, row_words, table_words}

-- a table whose rows fit the words, whether or not the checks accept them, with so few words that its end can count them
pub record Shaped (t : Table) : Type 0 where
  pub actors_fit : AllByRecursion ActorFits t.actors
  pub channels_fit : AllByRecursion ChannelFits t.channels
  pub few_words : length (row_words t) < 268435456

-- the words begin a table: with more words, or none, after them they are those of the table
pub record Begins (words : List ℕ) : Type 0 where
  pub table : Table
  pub shaped : Shaped table
  pub more : List ℕ
  pub written : words ++ more ≡ table_words table

-- and the table has a word after them
pub record Unfinished (words : List ℕ) : Type 0 where
  pub next : ℕ
  pub begins : Begins (words ++ next ∷ [])

-- the word at place p, which is w, is the first that offends: the words before it begin a table, and with it they do not
pub record Offends (words : List ℕ) (p w : ℕ) : Type 0 where
  pub there : slice_get words p ≡ Some w
  pub before : Begins (take p words)
  pub not_with_it : Begins (take (suc p) words) → ⊥

-- the end may stand at place p
abbrev pub MayEnd : List ℕ → ℕ → Type 0
MayEnd words p = Begins (take p words ++ word_of 7 p ∷ [])

-- why the first word that offends, w at place p, does so
pub data Why (words : List ℕ) (p w : ℕ) : WordFault → Type 0 where
  -- a word is wanted there, and this one has no known kind
  unknown_kind : Unfinished (take p words) → within 1 7 (kind_of w) ≡ false → Why words p w (UnknownKind p)
  -- a word is wanted there, and this one has a known kind, but it is no end where the end may stand
  misplaced : Unfinished (take p words) → within 1 7 (kind_of w) ≡ true → (kind_of w ≡ 7 → MayEnd words p → ⊥) → Why words p w (Misplaced p)
  -- it is an end where the end may stand, and so it counts another number of words
  wrong_count : MayEnd words p → kind_of w ≡ 7 → Why words p w (WrongEnd p)
  -- it comes after all the words of a table
  after_end : (t : Table) → Shaped t → take p words ≡ table_words t → Why words p w (WrongEnd p)

-- the words are not those of a table: they run out before its end, or one of them offends
pub data WordRefused (words : List ℕ) : WordFault → Type 0 where
  missing : Unfinished words → WordRefused words (Missing (length words))
  offending : (p w : ℕ) (f : WordFault) → Offends words p w → Why words p w f → WordRefused words f

-- of the rows that the words begin with, the longest
pub record First {R : Type 0} (Fits : R → Type 0) (words_of : R → List ℕ) (words : List ℕ) (row : R) : Type 0 where
  pub fits : Fits row
  pub more : List ℕ
  pub written : words ≡ words_of row ++ more
  pub longest : (other : R) (rest : List ℕ) → Fits other → words ≡ words_of other ++ rest → length (words_of other) ≤ length (words_of row)

-- the words begin with the rows of a lawful table, and the checks refuse the row after these; the place is that of its head
pub data RowRefused (words : List ℕ) : ℕ → Fault → Type 0 where
  actor_refused : (t : Table) (a : ActorRow) (f : Fault) (rest : List ℕ) → lawful t ≡ true → t.channels ≡ [] → words ≡ row_words t ++ rest
      → First ActorFits actor_words rest a → (add_actor a).fault t ≡ Some f → RowRefused words (length (row_words t)) f
  channel_refused : (t : Table) (c : ChannelRow) (f : Fault) (rest : List ℕ) → lawful t ≡ true → words ≡ row_words t ++ rest
      → First ChannelFits channel_words rest c → (add_channel c).fault t ≡ Some f → RowRefused words (length (row_words t)) f

-- what a refusal says: that a row is refused, or where none is, what is wrong with the words
pub data RefusedBy (words : List ℕ) : LoadFault → Type 0 where
  by_row : (h : ℕ) (f : Fault) → RowRefused words h f → RefusedBy words (Row h f)
  by_word : (f : WordFault) → WordRefused words f → ((h : ℕ) (g : Fault) → RowRefused words h g → ⊥) → RefusedBy words (Word f)
