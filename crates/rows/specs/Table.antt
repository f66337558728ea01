-- A dataflow table: what a row says, which rows are accepted, and what each edit does.
use Rattle.std.specs.Prelude.{ℕ, zero, suc, ◌-◌, Bool, true, false, cond, not, ◌&&◌, ◌||◌, List, [], ◌∷◌, ◌++◌, map, length, Some, None, Option, ◌==◌, nat_le, nat_lt}
use Rattle.std.specs.List.{remove, list_all}
use Rattle.rows.specs.Steps.{Step}
use Rattle.rows.specs.declared.fault.Fault.{Fault}
use Rattle.rows.specs.declared.fault.Fault.TheVariants.{TableFull, PhaseCount, TimeRange, NotBeforeRange, PinRange, NoActor, SameActor, RateCount, RateRange, CeilingRange, NoChannel, ActorInUse}
use Rattle.rows.specs.declared.row.Placement.{Placement}
use Rattle.rows.specs.declared.row.Placement.TheVariants.{Free, Pinned}

-- the processor of a pinned actor, and the placement that it makes
abbrev pub pin_of : Placement → Option ℕ
pin_of Free = None
pin_of (Pinned p) = Some p

abbrev pub placed : Option ℕ → Placement
placed None = Free
placed (Some p) = Pinned p

-- an actor: the time of each phase in ticks, the tick before which it does not start, and where it runs
pub record ActorRow : Type 0 where
  pub times : List ℕ
  pub not_before : Option ℕ
  pub placement : Placement

-- a channel: its two actors by number, the tokens of each phase of either, and the most slots it may have
pub record ChannelRow : Type 0 where
  pub writer : ℕ
  pub reader : ℕ
  pub writes : List ℕ
  pub reads : List ℕ
  pub ceiling : Option ℕ

abbrev pub actor_with : List ℕ → Option ℕ → Placement → ActorRow
actor_with ts n p = record { times = ts; not_before = n; placement = p }

abbrev pub channel_with : ℕ → ℕ → List ℕ → List ℕ → Option ℕ → ChannelRow
channel_with w r ws rs most = record { writer = w; reader = r; writes = ws; reads = rs; ceiling = most }

pub record Table : Type 0 where
  pub actors : List ActorRow
  pub channels : List ChannelRow

abbrev pub empty_table : Table
empty_table = record { actors = []; channels = [] }

-- ranges

abbrev pub within : ℕ → ℕ → ℕ → Bool
within low high n = nat_le low n && nat_le n high

-- an optional number is in range where it is given
abbrev pub within_if_given : ℕ → ℕ → Option ℕ → Bool
within_if_given low high None = true
within_if_given low high (Some n) = within low high n

abbrev pub pin_within : ℕ → Placement → Bool
pin_within last Free = true
pin_within last (Pinned p) = nat_le p last

-- rates are at most 255 tokens, and not all of them are 0
abbrev pub good_rates : List ℕ → Bool
good_rates rates = list_all (within 0 255) rates && not (list_all (within 0 0) rates)

-- how many phases the actor at a place has, 0 where there is none
abbrev pub phases_at : List ActorRow → ℕ → ℕ
phases_at [] i = 0
phases_at (a ∷ more) zero = length a.times
phases_at (a ∷ more) (suc i) = phases_at more i

-- a check that has to hold, else its fault is the answer; then the checks after it
abbrev pub check : Bool → Fault → Option Fault → Option Fault
check holds fault later = cond holds later (Some fault)

abbrev pub actor_fault : ActorRow → Option Fault
actor_fault a =
    check (within 1 8 (length a.times)) PhaseCount
    (check (list_all (within 1 1000000) a.times) TimeRange
    (check (within_if_given 0 1000000 a.not_before) NotBeforeRange
    (check (pin_within 15 a.placement) PinRange None)))

abbrev pub channel_fault : List ActorRow → ChannelRow → Option Fault
channel_fault rows c =
    check (nat_lt c.writer (length rows) && nat_lt c.reader (length rows)) NoActor
    (check (not (c.writer == c.reader)) SameActor
    (check (length c.writes == phases_at rows c.writer && length c.reads == phases_at rows c.reader) RateCount
    (check (good_rates c.writes && good_rates c.reads) RateRange
    (check (within_if_given 1 65535 c.ceiling) CeilingRange None))))

abbrev pub passes : Option Fault → Bool
passes None = true
passes (Some f) = false

-- a table of at most 64 actors and 128 channels, in which each row is one that the checks accept
abbrev pub lawful : Table → Bool
lawful t =
    (nat_le (length t.actors) 64 && nat_le (length t.channels) 128)
    && (list_all (λ a. passes (actor_fault a)) t.actors && list_all (λ c. passes (channel_fault t.actors c)) t.channels)

-- the edits

abbrev pub add_actor : ActorRow → Step Fault Table ℕ
add_actor a =
    record {
      fault = λ t. check (nat_lt (length t.actors) 64) TableFull (actor_fault a);
      value = λ t. length t.actors;
      made = λ t. record { actors = t.actors ++ a ∷ []; channels = t.channels };
    }

abbrev pub add_channel : ChannelRow → Step Fault Table ℕ
add_channel c =
    record {
      fault = λ t. check (nat_lt (length t.channels) 128) TableFull (channel_fault t.actors c);
      value = λ t. length t.channels;
      made = λ t. record { actors = t.actors; channels = t.channels ++ c ∷ [] };
    }

abbrev pub cut_channel : ℕ → Step Fault Table (Unit {0})
cut_channel i =
    record {
      fault = λ t. check (nat_lt i (length t.channels)) NoChannel None;
      value = λ t. tt;
      made = λ t. record { actors = t.actors; channels = remove t.channels i };
    }

-- the channel has the actor at an end
abbrev pub names : ℕ → ChannelRow → Bool
names i c = c.writer == i || c.reader == i

-- an actor's number once the actor numbered gone is cut: every later number is one lower
abbrev pub renumbered : ℕ → ℕ → ℕ
renumbered gone i = cond (nat_lt gone i) (i - 1) i

abbrev pub renumbered_ends : ℕ → ChannelRow → ChannelRow
renumbered_ends gone c =
    channel_with (renumbered gone c.writer) (renumbered gone c.reader) c.writes c.reads c.ceiling

abbrev pub cut_actor : ℕ → Step Fault Table (Unit {0})
cut_actor i =
    record {
      fault = λ t.
          check (nat_lt i (length t.actors)) NoActor (check (list_all (λ c. not (names i c)) t.channels) ActorInUse None);
      value = λ t. tt;
      made = λ t. record { actors = remove t.actors i; channels = map (renumbered_ends i) t.channels };
    }
