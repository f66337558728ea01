-- The words of a table are read as that table.
use Rattle.std.proofs.lemmas.Grind.{common_steps}
use Rattle.std.proofs.Common.{◌≡◌, ℕ, zero, suc, ◌+◌, ◌-◌, ◌<◌, ◌≤◌, Bool, true, false, List, [], ◌∷◌, ◌++◌, length, drop, Some, None, Ok, Err, Option, Result, sym, refl, ap, ◌∙◌, append_assoc, append-nil, arith, length-append, drop_at}
use lib.Seq.{append_snoc}
use Rattle.std.specs.List.{flat_map, AllByRecursion, list_all}
use Rattle.std.proofs.lemmas.Bool.{cond-true, and_parts, lt-ltb}
use Rattle.rows.specs.declared.fault.Fault.{Fault}
use Rattle.rows.specs.Table.{ActorRow, ChannelRow, Table, actor_fault, channel_fault, lawful, add_actor, add_channel}
use Rattle.rows.proofs.Parts.{passes_none}
use Rattle.table.proofs.Lawful.{lawful_parts}
use Rattle.words.specs.declared.fault.WordFault.{WordFault}
use Rattle.words.specs.declared.fault.LoadFault.{LoadFault}
use Rattle.words.specs.declared.fault.LoadFault.TheVariants.{Word, Row}
use Rattle.words.specs.Format.{word_of, actor_words, channel_words, row_words, table_words, Describes}
use Rattle.words.specs.Fitting.{small, ActorFits, ChannelFits}
use Rattle.words.specs.Records.{Part, actor_part, channel_part, end_part, actor_of, channel_of}
use Rattle.words.specs.Loads.{has_channels, rows_from, table_read}
use Rattle.word_laws.proofs.Places.{drop_past}
use Rattle.word_laws.proofs.RowRecords.{Over, over_head, actors_over, channels_over, actor_read, actor_again, channel_read, channel_again, end_read}
use Rattle.words.proofs.Fits.{good_actor, good_channel, actor_fits, channel_fits, rows_few, rows_many}

-- one more record

abbrev pub add_then : ℕ → List ℕ → ℕ → List ℕ → Table → Option Fault → Result Table LoadFault
add_then records ws h part made o = elim o [ Some f ↦ Err (Row h f) | None ↦ rows_from records ws (h + length part) made ]

abbrev pub record_then : ℕ → List ℕ → ℕ → Table → Result Part WordFault → Result Table LoadFault
record_then records ws h t r = elim r [
  | Err f ↦ Err (Word f)
  | Ok part ↦ elim part [
    | actor_part words ↦ add_then records ws h words ((add_actor (actor_of words)).made t) ((add_actor (actor_of words)).fault t)
    | channel_part words ↦ add_then records ws h words ((add_channel (channel_of words)).made t) ((add_channel (channel_of words)).fault t)
    | end_part words ↦ Ok t
  ]
]

-- the words of one row more

module _ (t : Table) where
  pub words_with_actor : (a : ActorRow) → has_channels t ≡ false → row_words ((add_actor a).made t) ≡ row_words t ++ actor_words a
  words_with_actor a e = grind (arith, common_steps)

  pub words_with_channel : (c : ChannelRow) → row_words ((add_channel c).made t) ≡ row_words t ++ channel_words c
  words_with_channel c = grind (arith, common_steps)

-- the table read so far has the words up to this place

pub record Sofar (ws : List ℕ) (h : ℕ) (t : Table) : Type 0 where
  pub good : lawful t ≡ true
  pub words : ws ≡ row_words t ++ drop h ws
  pub here : h ≡ length (row_words t)

pub sofar_more : (ws : List ℕ) (h : ℕ) (t u : Table) (part : List ℕ) → Sofar ws h t → lawful u ≡ true → row_words u ≡ row_words t ++ part
    → drop h ws ≡ part ++ drop (h + length part) ws → Sofar ws (h + length part) u
sofar_more ws h t u part s l e d = grind (arith, common_steps)

-- a record whose row is accepted is read, and the reading goes on after it

module _ (records : ℕ) (ws : List ℕ) (h : ℕ) (t : Table) where
  actor_step : (a : ActorRow) (more : List ℕ) → drop h ws ≡ actor_words a ++ more → ActorFits a → Over more → has_channels t ≡ false → (add_actor a).fault t ≡ None
      → rows_from (suc records) ws h t ≡ rows_from records ws (h + length (actor_words a)) ((add_actor a).made t)
  actor_step a more e f o early none = grind (arith, actor_again, actor_read)

  channel_step : (c : ChannelRow) (more : List ℕ) → drop h ws ≡ channel_words c ++ more → ChannelFits c → Over more → (add_channel c).fault t ≡ None
      → rows_from (suc records) ws h t ≡ rows_from records ws (h + length (channel_words c)) ((add_channel c).made t)
  channel_step c more e f o none = grind (arith, channel_again, channel_read)

  end_step : drop h ws ≡ word_of 7 h ∷ [] → small h ≡ true → rows_from (suc records) ws h t ≡ Ok t
  end_step e s = ap (record_then records ws h t) (end_read (has_channels t) ws h e s)

-- the rows of a lawful table fit

list_all_after : {X : Type 0} (test : X → Bool) (xs ys : List X) → list_all test (xs ++ ys) ≡ true → list_all test ys ≡ true
list_all_after test xs ys e = grind (arith, common_steps)

all_tested : {X : Type 0} (test : X → Bool) (P : X → Type 0) → ((x : X) → test x ≡ true → P x) → (xs : List X) → list_all test xs ≡ true → AllByRecursion P xs
all_tested test P f [] e = tt
all_tested test P f (x ∷ xs) e = grind (arith, all_tested test P f xs)

pub actors_fit : (rows : List ActorRow) → list_all good_actor rows ≡ true → AllByRecursion ActorFits rows
actors_fit rows e = all_tested good_actor ActorFits (λ a h. actor_fits a (passes_none (actor_fault a) h)) rows e

pub channels_fit : (rows : List ActorRow) → length rows ≤ 64 → list_all good_actor rows ≡ true → (cs : List ChannelRow) → list_all (good_channel rows) cs ≡ true → AllByRecursion ChannelFits cs
channels_fit rows few good cs e = all_tested (good_channel rows) ChannelFits (λ c h. channel_fits rows c few good (passes_none (channel_fault rows c) h)) cs e

-- the words of a table's rows are read as these: first those of its actors, then those of its channels

abbrev rows_of : List ActorRow → List ChannelRow → Table
rows_of rows cs = record { actors = rows; channels = cs }

module _ (ws rest : List ℕ) (over : Over rest) (records : ℕ) where
  channels_pass : (all h : ℕ) (rows : List ActorRow) (xs ys : List ChannelRow) → lawful (rows_of rows (xs ++ ys)) ≡ true
      → drop h ws ≡ flat_map channel_words ys ++ rest → all ≡ length ys + records
      → rows_from all ws h (rows_of rows xs) ≡ rows_from records ws (h + length (flat_map channel_words ys)) (rows_of rows (xs ++ ys))
  channels_pass all h rows xs [] l e count = grind (arith, common_steps)
  channels_pass zero h rows xs (c ∷ cs) l e count = grind arith
  channels_pass (suc all) h rows xs (c ∷ cs) l e count =
      let law = lawful_parts (rows_of rows (xs ++ c ∷ cs)) l in
      let good = and_parts (good_channel rows c) (list_all (good_channel rows) cs) (list_all_after (good_channel rows) xs (c ∷ cs) law.good_channels) in
      let none = passes_none (channel_fault rows c) good.0 in
      let many = law.few_channels in
      let size = length-append xs (c ∷ cs) in
      let room : length xs < 128 = omega arith in
      let part = channel_words c in
      let more = flat_map channel_words cs ++ rest in
      let from : drop h ws ≡ part ++ more = e ∙ append_assoc part (flat_map channel_words cs) rest in
      let n = length-append part (flat_map channel_words cs) in
      let after : h + length part + length (flat_map channel_words cs) ≡ h + length (part ++ flat_map channel_words cs) = omega arith in
      let left : all ≡ length cs + records = omega arith in
      let same = append_snoc xs c cs in
      channel_step all ws h (rows_of rows xs) c more from (channel_fits rows c law.few_actors law.good_actors none)
      (channels_over cs rest (channels_fit rows law.few_actors law.good_actors cs good.1) over)
      (cond-true _ _ _ (lt-ltb (length xs) 128 room) ∙ none)
      ∙ channels_pass all (h + length part) rows (xs ++ c ∷ []) cs (ap (λ l. lawful (rows_of rows l)) same ∙ l)
      (drop_past ws h (h + length part) part more from refl) left
      ∙ (λ i. rows_from records ws (after i) (rows_of rows (same i)))

  actors_pass : (all h : ℕ) (xs ys : List ActorRow) (cs : List ChannelRow) → lawful (rows_of (xs ++ ys) cs) ≡ true
      → drop h ws ≡ flat_map actor_words ys ++ (flat_map channel_words cs ++ rest) → all ≡ length ys + length cs + records
      → rows_from all ws h (rows_of xs []) ≡ rows_from records ws (h + length (flat_map actor_words ys) + length (flat_map channel_words cs)) (rows_of (xs ++ ys) cs)
  actors_pass all h xs [] cs l e count =
      let same = append-nil xs in
      let left : all ≡ length cs + records = omega arith in
      let here : h + length (flat_map channel_words cs) ≡ h + 0 + length (flat_map channel_words cs) = omega arith in
      channels_pass all h xs [] cs (ap (λ r. lawful (rows_of r cs)) (sym same) ∙ l) e left ∙ (λ i. rows_from records ws (here i) (rows_of (sym same i) cs))
  actors_pass zero h xs (a ∷ ys) cs l e count = grind arith
  actors_pass (suc all) h xs (a ∷ ys) cs l e count =
      let rows = xs ++ a ∷ ys in
      let law = lawful_parts (rows_of rows cs) l in
      let good = and_parts (good_actor a) (list_all good_actor ys) (list_all_after good_actor xs (a ∷ ys) law.good_actors) in
      let none = passes_none (actor_fault a) good.0 in
      let many = law.few_actors in
      let size = length-append xs (a ∷ ys) in
      let room : length xs < 64 = omega arith in
      let part = actor_words a in
      let last = flat_map channel_words cs ++ rest in
      let more = flat_map actor_words ys ++ last in
      let from : drop h ws ≡ part ++ more = e ∙ append_assoc part (flat_map actor_words ys) last in
      let n = length-append part (flat_map actor_words ys) in
      let after : h + length part + length (flat_map actor_words ys) + length (flat_map channel_words cs) ≡ h + length (part ++ flat_map actor_words ys) + length (flat_map channel_words cs) = omega arith in
      let left : all ≡ length ys + length cs + records = omega arith in
      let same = append_snoc xs a ys in
      actor_step all ws h (rows_of xs []) a more from (actor_fits a none)
      (actors_over ys last (actors_fit ys good.1) (channels_over cs rest (channels_fit rows law.few_actors law.good_actors cs law.good_channels) over))
      refl
      (cond-true _ _ _ (lt-ltb (length xs) 64 room) ∙ none)
      ∙ actors_pass all (h + length part) (xs ++ a ∷ []) ys cs (ap (λ r. lawful (rows_of r cs)) same ∙ l)
      (drop_past ws h (h + length part) part more from refl) left
      ∙ (λ i. rows_from records ws (after i) (rows_of (same i) cs))

-- the words of a lawful table's rows, and then others
pub record Passed (ws : List ℕ) (t : Table) : Type 0 where
  pub later : ℕ
  pub same : table_read ws ≡ rows_from (suc later) ws (length (row_words t)) t

pub rows_pass : (ws : List ℕ) (t : Table) (rest : List ℕ) → lawful t ≡ true → ws ≡ row_words t ++ rest → Over rest → 0 < length rest → Passed ws t
rows_pass ws t rest l e over some =
    let x = flat_map actor_words t.actors in
    let y = flat_map channel_words t.channels in
    let n = length-append x y in
    let m = ap length e ∙ length-append (row_words t) rest in
    let many = rows_many t in
    let rows = length t.actors + length t.channels in
    let later = length ws - suc rows in
    let count : length ws ≡ rows + suc later = omega arith in
    let here : 0 + length x + length y ≡ length (row_words t) = omega arith in
    record {
      later = later;
      same =
          actors_pass ws rest over (suc later) (length ws) 0 [] t.actors t.channels l (e ∙ append_assoc x y rest) count
          ∙ ap (λ h. rows_from (suc later) ws h t) here;
    }

words_read : (t : Table) → lawful t ≡ true → table_read (table_words t) ≡ Ok t
words_read t l =
    let z = length (row_words t) in
    let last = word_of 7 z ∷ [] in
    let low = lt-ltb z 268435456 (rows_few t l) in
    let p = rows_pass (table_words t) t last l refl (over_head 7 z [] low refl refl refl) (omega arith) in
    p.same ∙ end_step p.later (table_words t) z t (drop_at (row_words t) last z refl) low

pub described_read : (ws : List ℕ) (t : Table) → Describes ws t → table_read ws ≡ Ok t
described_read ws t d = ap table_read d.written ∙ words_read t d.accepted
