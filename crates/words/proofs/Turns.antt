-- The records of a table of words, one after the other.
use Rattle.std.proofs.Common.{◌≡◌, ℕ, suc, ◌+◌, ◌<◌, ◌≤◌, List, length, Ok, Err, Result, ◌∙◌, arith}
use Rattle.rows.specs.declared.fault.Fault.{Fault}
use Rattle.rows.specs.Steps.{Does}
use Rattle.rows.specs.Table.{Table, add_actor, add_channel}
use Rattle.rows.proofs.Steps.{when_granted, when_refused}
use Rattle.words.specs.declared.fault.WordFault.{WordFault}
use Rattle.words.specs.declared.fault.LoadFault.{LoadFault}
use Rattle.words.specs.declared.fault.LoadFault.TheVariants.{Word, Row}
use Rattle.words.specs.Records.{Part, actor_part, channel_part, end_part, record_at, actor_of, channel_of}
use Rattle.words.specs.Loads.{rows_from, has_channels}
use Rattle.std.proofs.lemmas.Option.{slice_get_past}
use Rattle.words.proofs.Whole.{head_there, read_as, actor_within, channel_within}

-- the answer for all the words is the answer for those to come, with so many records at most
pub record Coming (ws : List ℕ) (all : Result Table LoadFault) (h : ℕ) (t : Table) : Type 0 where
  pub records : ℕ
  pub same : all ≡ rows_from records ws h t
  pub enough : length ws ≤ h + records

-- and there is one at least while words are left
pub record Next (ws : List ℕ) (all : Result Table LoadFault) (h : ℕ) (t : Table) : Type 0 where
  pub later : ℕ
  pub same : all ≡ rows_from (suc later) ws h t
  pub enough : length ws ≤ h + suc later

pub turn : (ws : List ℕ) (all : Result Table LoadFault) (h : ℕ) (t : Table) → Coming ws all h t → h < length ws → Next ws all h t
turn ws all h t c l = grind arith

-- the records to come once one of so many words is passed
pub coming : (ws : List ℕ) (all : Result Table LoadFault) (h m : ℕ) (t after : Table) (n : Next ws all h t) → 0 < m
    → rows_from (suc n.later) ws h t ≡ rows_from n.later ws (h + m) after → Coming ws all (h + m) after
coming ws all h m t after n p e = grind arith

-- a record's row, added

pub data Adds (t after : Table) (r : Result ℕ Fault) : Part → ℕ → Type 0 where
  adds_actor_lem : (words : List ℕ) → Does (add_actor (actor_of words)) t after r → Adds t after r (actor_part words) (length words)
  adds_channel_lem : (words : List ℕ) → Does (add_channel (channel_of words)) t after r → Adds t after r (channel_part words) (length words)

pub same_adds : (t after was : Table) (r s : Result ℕ Fault) (part other : Part) (m n : ℕ) → after ≡ was → r ≡ s → part ≡ other → m ≡ n → Adds t was s other n
    → Adds t after r part m
same_adds t after was r s part other m n a b p q d = grind arith

-- it is refused with its head, or the records after it are read
abbrev row_then : ℕ → List ℕ → ℕ → Table → ℕ → Result ℕ Fault → Result Table LoadFault
row_then n ws h after m (Err f) = Err (Row h f)
row_then n ws h after m (Ok v) = rows_from n ws (h + m) after

one_row : (n : ℕ) (ws : List ℕ) (h : ℕ) (t after : Table) (r : Result ℕ Fault) (part : Part) (m : ℕ) → record_at (has_channels t) ws h ≡ Ok part → Adds t after r part m
    → rows_from (suc n) ws h t ≡ row_then n ws h after m r
one_row n ws h t after (Err f) part m e (adds_actor_lem words d) = rw (rows_from, e, (when_refused (add_actor (actor_of words)) t after f d).0)
one_row n ws h t after (Ok v) part m e (adds_actor_lem words d) = let g = when_granted (add_actor (actor_of words)) t after v d in rw (rows_from, e, g.0, g.2)
one_row n ws h t after (Err f) part m e (adds_channel_lem words d) = rw (rows_from, e, (when_refused (add_channel (channel_of words)) t after f d).0)
one_row n ws h t after (Ok v) part m e (adds_channel_lem words d) = let g = when_granted (add_channel (channel_of words)) t after v d in rw (rows_from, e, g.0, g.2)

module _ (ws : List ℕ) (all : Result Table LoadFault) (h : ℕ) (t : Table) (c : Coming ws all h t) where
  -- where no record is read; where the words run out, none is
  pub stopped : (f : WordFault) → record_at (has_channels t) ws h ≡ Err f → all ≡ Err (Word f)
  stopped f e = grind (arith, slice_get_past)

  -- and one that is read has its head there
  ahead : (part : Part) → record_at (has_channels t) ws h ≡ Ok part → Next ws all h t
  ahead part e = turn ws all h t c (head_there (has_channels t) ws h part (read_as (has_channels t) ws h part e))

  pub finished : (words : List ℕ) → record_at (has_channels t) ws h ≡ Ok (end_part words) → all ≡ Ok t
  finished words e = let n = ahead (end_part words) e in grind arith

  pub row_refused : (after : Table) (f : Fault) (part : Part) (m : ℕ) → record_at (has_channels t) ws h ≡ Ok part → Adds t after (Err f) part m → all ≡ Err (Row h f)
  row_refused after f part m e d = let n = ahead part e in n.same ∙ one_row n.later ws h t after (Err f) part m e d

  -- the record has a word or more, and ends within the words
  pub moves : (after : Table) (r : Result ℕ Fault) (part : Part) (m : ℕ) → record_at (has_channels t) ws h ≡ Ok part → Adds t after r part m → (0 < m) × (h + m ≤ length ws)
  moves after r part m e (adds_actor_lem words d) = grind (arith, actor_within ws h words (has_channels t) (read_as (has_channels t) ws h part e))
  moves after r part m e (adds_channel_lem words d) = grind (arith, channel_within ws h words (read_as (has_channels t) ws h part e))

  pub row_taken : (after : Table) (v : ℕ) (part : Part) (m : ℕ) → record_at (has_channels t) ws h ≡ Ok part → Adds t after (Ok v) part m → Coming ws all (h + m) after
  row_taken after v part m e d =
      let n = ahead part e in coming ws all h m t after n (moves after (Ok v) part m e d).0 (one_row n.later ws h t after (Ok v) part m e d)
