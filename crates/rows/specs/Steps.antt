-- A call with checks: what it answers, and what it leaves.
use Rattle.std.specs.Prelude.{◌≡◌, Some, None, Ok, Err, Option, Result}

-- a call on a state: the fault of the first check that fails, and where none does the answer and the state after it
pub record Step (F S V : Type 0) : Type 0 where
  pub fault : S → Option F
  pub value : S → V
  pub made : S → S

abbrev pub answer : {F V : Type 0} → Option F → V → Result V F
answer None value = Ok value
answer (Some fault) value = Err fault

abbrev pub leaves : {F S : Type 0} → Option F → S → S → S
leaves None was made = made
leaves (Some fault) was made = was

-- the step, taken at a state, answers r and leaves the state after: a refused step leaves all as it was
pub record Does {F S V : Type 0} (step : Step F S V) (was after : S) (r : Result V F) : Type 0 where
  pub answered : r ≡ answer (step.fault was) (step.value was)
  pub left : after ≡ leaves (step.fault was) was (step.made was)
