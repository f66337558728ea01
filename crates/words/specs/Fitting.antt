-- Rows whose numbers fit the bits that the words of a table have for them.
use Rattle.std.specs.Prelude.{◌≡◌, ℕ, ◌<◌, Bool, true, length, Some, None, Option, nat_lt}
use Rattle.std.specs.List.{list_all}
use Rattle.rows.specs.Table.{ActorRow, ChannelRow, pin_of}

-- a number that fits the 28 bits of a content
abbrev pub small : ℕ → Bool
small n = nat_lt n 268435456

abbrev pub small_if : Option ℕ → Bool
small_if None = true
small_if (Some n) = small n

pub record ActorFits (a : ActorRow) : Type 0 where
  pub few : length a.times < 256
  pub times_small : list_all small a.times ≡ true
  pub tick_small : small_if a.not_before ≡ true
  pub pin_small : small_if (pin_of a.placement) ≡ true

pub record ChannelFits (c : ChannelRow) : Type 0 where
  pub writer_small : c.writer < 256
  pub reader_small : c.reader < 256
  pub few_writes : length c.writes < 16
  pub few_reads : length c.reads < 16
  pub writes_small : list_all small c.writes ≡ true
  pub reads_small : list_all small c.reads ≡ true
  pub ceiling_small : small_if c.ceiling ≡ true
