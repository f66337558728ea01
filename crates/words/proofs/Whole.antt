-- What a record that is read whole has: its head, its numbers, and an end within the words.
use Rattle.std.proofs.lemmas.Grind.{common_steps}
use Rattle.std.proofs.lemmas.Option.{gets}
use Rattle.std.proofs.Common.{◌≡◌, ℕ, zero, suc, ◌+◌, ◌<◌, ◌≤◌, Bool, false, List, length, Some, None, Ok, arith}
use Rattle.std.specs.List.{between, slice_get}
use Rattle.std.proofs.lemmas.Bool.{ltb-true, eqb-true}
use Rattle.words.specs.Format.{kind_of, content_of}
use Rattle.words.specs.Records.{Part, actor_part, channel_part, end_part, past, numbers_fault, record_at, writes_in, reads_in, head_content}

-- numbers that are all there

module _ (ws : List ℕ) where
  pub numbers_within : (n i : ℕ) → numbers_fault ws i n ≡ None → i ≤ length ws → i + n ≤ length ws
  numbers_within zero i e h = omega arith
  numbers_within (suc n) i e h = grind (arith, gets, numbers_within n (suc i))

  pub past_within : (i kind : ℕ) → i ≤ length ws → (i ≤ past ws i kind) × (past ws i kind ≤ length ws)
  past_within i kind h = grind (arith, gets)

-- what is known of a record once it is read

pub record ActorRead (after : Bool) (ws : List ℕ) (h : ℕ) (part : List ℕ) : Type 0 where
  pub head : ℕ
  pub stands : slice_get ws h ≡ Some head
  pub kind : kind_of head ≡ 1
  pub first : after ≡ false
  pub few : content_of head < 256
  pub numbers : numbers_fault ws (suc h) (content_of head) ≡ None
  pub is : between h (past ws (past ws (suc h + content_of head) 4) 5) ws ≡ part

pub record ChannelRead (ws : List ℕ) (h : ℕ) (part : List ℕ) : Type 0 where
  pub head : ℕ
  pub stands : slice_get ws h ≡ Some head
  pub kind : kind_of head ≡ 2
  pub few : content_of head < 16777216
  pub numbers : numbers_fault ws (suc h) (writes_in (content_of head) + reads_in (content_of head)) ≡ None
  pub is : between h (past ws (suc h + (writes_in (content_of head) + reads_in (content_of head))) 6) ws ≡ part

pub record EndRead (ws : List ℕ) (h : ℕ) (part : List ℕ) : Type 0 where
  pub head : ℕ
  pub stands : slice_get ws h ≡ Some head
  pub kind : kind_of head ≡ 7
  pub count : content_of head ≡ h
  pub last : length ws ≡ suc h

module _ (after : Bool) (ws : List ℕ) (h : ℕ) where
  abbrev pub ReadAs : Part → Type 0
  ReadAs (actor_part part) = ActorRead after ws h part
  ReadAs (channel_part part) = ChannelRead ws h part
  ReadAs (end_part part) = EndRead ws h part

  pub head_there : (part : Part) → ReadAs part → h < length ws
  head_there part r = grind (arith, gets)

  pub read_as : (part : Part) → record_at after ws h ≡ Ok part → ReadAs part
  read_as part r = grind (arith, eqb-true, ltb-true)

-- the part of an actor: its head's content, its numbers, and where it ends

pub record Within (ws : List ℕ) (h : ℕ) (part : List ℕ) (content numbers : ℕ) : Type 0 where
  pub content_is : head_content part ≡ content
  pub long : suc numbers ≤ length part
  pub ends : h + length part ≤ length ws

module _ (ws : List ℕ) (h : ℕ) (part : List ℕ) where
  pub actor_within : (after : Bool) (r : ActorRead after ws h part) → Within ws h part (content_of r.head) (content_of r.head)
  actor_within after r = grind (arith, common_steps, gets, numbers_within)

  pub channel_within : (r : ChannelRead ws h part) → Within ws h part (content_of r.head) (writes_in (content_of r.head) + reads_in (content_of r.head))
  channel_within r = grind (arith, common_steps, gets, numbers_within)
