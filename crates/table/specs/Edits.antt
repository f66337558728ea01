-- The steps that an edit of a table may be.
use Rattle.std.specs.Prelude.{◌≡◌, ℕ, refl}
use Rattle.rows.specs.Steps.{Step}
use Rattle.rows.specs.declared.fault.Fault.{Fault}
use Rattle.rows.specs.Table.{ActorRow, ChannelRow, Table, add_actor, add_channel, cut_actor, cut_channel}

-- answers of two types, each of which tells the other
pub record Alike (V A : Type 0) : Type 0 where
  pub told : V → A
  pub meant : A → V
  pub told_meant : (a : A) → told (meant a) ≡ a
  pub meant_told : (v : V) → meant (told v) ≡ v

abbrev pub itself : {V : Type 0} → Alike V V
itself = record { told = λ v. v; meant = λ v. v; told_meant = λ v. refl; meant_told = λ v. refl }

-- a step with its answer told in another type
abbrev pub telling : {V A : Type 0} → Alike V A → Step Fault Table V → Step Fault Table A
telling answers step = record { fault = step.fault; value = λ t. answers.told (step.value t); made = step.made }

-- an edit adds an actor or a channel of some row, or cuts the actor or the channel of some number
pub data EditOf (A : Type 0) : Step Fault Table A → Type 0 where
  actor_added : (a : ActorRow) (answers : Alike ℕ A) → EditOf A (telling answers (add_actor a))
  channel_added : (c : ChannelRow) (answers : Alike ℕ A) → EditOf A (telling answers (add_channel c))
  actor_cut : (number : ℕ) (answers : Alike (Unit {0}) A) → EditOf A (telling answers (cut_actor number))
  channel_cut : (number : ℕ) (answers : Alike (Unit {0}) A) → EditOf A (telling answers (cut_channel number))
