-- The rows of a lawful table fit the words, and take few of them.
use Rattle.std.proofs.lemmas.Grind.{common_steps}
use Rattle.std.proofs.Common.{◌≡◌, ℕ, zero, suc, ◌+◌, ◌*◌, ◌<◌, ◌≤◌, Bool, true, List, [], ◌∷◌, length, None, arith, length-append}
use Rattle.std.specs.List.{flat_map, list_all}
use Rattle.rows.specs.Table.{ActorRow, ChannelRow, Table, within, good_rates, phases_at, passes, actor_fault, channel_fault, lawful}
use Rattle.rows.proofs.Parts.{passes_none, accepted}
use Rattle.table.proofs.Lawful.{every_weaker}
use Rattle.words.specs.Format.{actor_words, channel_words, row_words}
use Rattle.words.specs.Fitting.{small, ActorFits, ChannelFits}

-- a number of a range that fits

within_small : (low high : ℕ) → high < 268435456 → (n : ℕ) → within low high n ≡ true → small n ≡ true
within_small low high h n e = grind arith

rates_small : (rates : List ℕ) → good_rates rates ≡ true → list_all small rates ≡ true
rates_small rates e = grind (arith, every_weaker, within_small)

-- rows that the checks accept

pub actor_fits : (a : ActorRow) → actor_fault a ≡ None → ActorFits a
actor_fits a e = grind (arith, every_weaker)

abbrev pub good_actor : ActorRow → Bool
good_actor a = passes (actor_fault a)

abbrev pub good_channel : List ActorRow → ChannelRow → Bool
good_channel rows c = passes (channel_fault rows c)

phases_few : (rows : List ActorRow) → list_all good_actor rows ≡ true → (i : ℕ) → phases_at rows i ≤ 8
phases_few [] e i = omega arith
phases_few (a ∷ rows) e zero = grind arith
phases_few (a ∷ rows) e (suc i) = phases_few rows (grind arith) i

module _ (rows : List ActorRow) (c : ChannelRow) (few : length rows ≤ 64) (good : list_all good_actor rows ≡ true) (e : channel_fault rows c ≡ None) where
  pub channel_fits : ChannelFits c
  channel_fits = grind (arith, accepted, phases_few, rates_small)

-- a row takes a word or more, and at most 258

pub actor_few : (a : ActorRow) → ActorFits a → length (actor_words a) ≤ 258
actor_few a f = grind (arith, common_steps)

pub channel_few : (c : ChannelRow) → ChannelFits c → length (channel_words c) ≤ 258
channel_few c f = grind (arith, common_steps)

module _ {X : Type 0} (f : X → List ℕ) where
  joined_few : (test : X → Bool) → ((x : X) → test x ≡ true → length (f x) ≤ 258) → (xs : List X) → list_all test xs ≡ true → length (flat_map f xs) ≤ 258 * length xs
  joined_few test few [] e = omega arith
  joined_few test few (x ∷ xs) e = grind (arith, common_steps, few x, joined_few test few xs)

  joined_many : ((x : X) → 0 < length (f x)) → (xs : List X) → length xs ≤ length (flat_map f xs)
  joined_many some [] = omega arith
  joined_many some (x ∷ xs) = grind (arith, common_steps, some x, joined_many some xs)

pub rows_bound : (t : Table) → lawful t ≡ true → length (row_words t) ≤ 49536
rows_bound t e = grind (arith, joined_few, actor_few, actor_fits, passes_none, channel_few, channel_fits, length-append)

pub rows_few : (t : Table) → lawful t ≡ true → length (row_words t) < 268435456
rows_few t e = omega (arith, rows_bound t e)

pub rows_many : (t : Table) → length t.actors + length t.channels ≤ length (row_words t)
rows_many t = grind (arith, joined_many, length-append)
