-- The words of a whole table.
use Rattle.std.proofs.lemmas.Grind.{common_steps}
use Rattle.std.proofs.Common.{◌≡◌, ℕ, ◌+◌, ◌<◌, Bool, true, List, map, length, get_or, sym, ap, ◌∙◌, arith, length-append}
use lib.ListN.{length-map}
use Rattle.std.specs.List.{flat_map, list_all}
use Rattle.std.proofs.lemmas.List.{get_or-map}
use Rattle.std.proofs.lemmas.List.Folds.{flat_map-map}
use Rattle.rows.specs.declared.row.Actor.{Actor}
use Rattle.rows.specs.declared.row.Channel.{Channel}
use Rattle.rows.specs.Table.{Table, lawful, passes, actor_fault, channel_fault}
use Rattle.rows.specs.Values.{actor_row, channel_row}
use Rattle.rows.proofs.Parts.{passes_none}
use Rattle.table.proofs.Lawful.{lawful_parts}
use Rattle.words.specs.Fitting.{ActorFits, ChannelFits}
use Rattle.words.specs.Format.{actor_words, channel_words, table_words}
use Rattle.words.proofs.Fits.{actor_fits, channel_fits, rows_few}

-- an element of a list that passes a test
list_all_get_or : {X : Type 0} (test : X → Bool) (xs : List X) (i : ℕ) (d : X) → list_all test xs ≡ true → i < length xs → test (get_or xs i d) ≡ true
list_all_get_or test xs i d e h = grind (arith, common_steps)

-- a row at a place passes the test that all rows pass
row_passes : {X Y : Type 0} (row : X → Y) (test : Y → Bool) (xs : List X) (ys : List Y) → map row xs ≡ ys → list_all test ys ≡ true → (i : ℕ) (d : X) → i < length xs
    → test (row (get_or xs i d)) ≡ true
row_passes row test xs ys e all i d h =
    let n = length-map xs row in
    let m = ap length e in
    ap test (sym (get_or-map row xs i d (row d) h) ∙ ap (λ rows. get_or rows i (row d)) e) ∙ list_all_get_or test ys i (row d) all (omega arith)

-- the words of the program's rows are those of the rows that they stand for

pub actors_encoded : (t : Table) (xs : List Actor) → map actor_row xs ≡ t.actors → flat_map (λ a. actor_words (actor_row a)) xs ≡ flat_map actor_words t.actors
actors_encoded t xs e = sym (flat_map-map actor_words actor_row xs) ∙ ap (flat_map actor_words) e

pub channels_encoded : (t : Table) (xs : List Channel) → map channel_row xs ≡ t.channels → flat_map (λ c. channel_words (channel_row c)) xs ≡ flat_map channel_words t.channels
channels_encoded t xs e = sym (flat_map-map channel_words channel_row xs) ∙ ap (flat_map channel_words) e

pub whole_size : (t : Table) → length (table_words t) ≡ length (flat_map actor_words t.actors) + length (flat_map channel_words t.channels) + 1
whole_size t = grind (arith, common_steps)

module _ (t : Table) (l : lawful t ≡ true) where
  pub sizes_few : length (flat_map actor_words t.actors) + length (flat_map channel_words t.channels) < 268435456
  sizes_few = let a = length-append (flat_map actor_words t.actors) (flat_map channel_words t.channels) in let f = rows_few t l in omega arith

  pub actors_fit : (xs : List Actor) → map actor_row xs ≡ t.actors → (i : ℕ) (d : Actor) → i < length xs → ActorFits (actor_row (get_or xs i d))
  actors_fit xs e i d h =
      actor_fits (actor_row (get_or xs i d)) (passes_none _ (row_passes actor_row (λ a. passes (actor_fault a)) xs t.actors e (lawful_parts t l).good_actors i d h))

  pub channels_fit : (xs : List Channel) → map channel_row xs ≡ t.channels → (i : ℕ) (d : Channel) → i < length xs → ChannelFits (channel_row (get_or xs i d))
  channels_fit xs e i d h =
      let p = lawful_parts t l in
      channel_fits t.actors (channel_row (get_or xs i d)) p.few_actors p.good_actors
      (passes_none _ (row_passes channel_row (λ c. passes (channel_fault t.actors c)) xs t.channels e p.good_channels i d h))

  -- the sizes of the parts that a table is written in
  pub record Sizes (actors : List Actor) (channels : List Channel) : Type 0 where
    pub whole : length (table_words t) ≡ length (flat_map (λ a. actor_words (actor_row a)) actors) + length (flat_map (λ c. channel_words (channel_row c)) channels) + 1
    pub few : length (flat_map (λ a. actor_words (actor_row a)) actors) + length (flat_map (λ c. channel_words (channel_row c)) channels) < 268435456

  pub sizes : (actors : List Actor) (channels : List Channel) → map actor_row actors ≡ t.actors → map channel_row channels ≡ t.channels → Sizes actors channels
  sizes actors channels e f = grind (arith, actors_encoded, channels_encoded, whole_size, sizes_few)
