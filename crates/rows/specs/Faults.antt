-- The number and the place of each refusal.
use Rattle.std.specs.Prelude.{ℕ, List, ◌++◌, codes, decimal}
use Rattle.rows.specs.declared.fault.Fault.{Fault}
use Rattle.rows.specs.declared.fault.Fault.TheVariants.{ChangeOpen, TicketRefused, TableFull, PhaseCount, TimeRange, NotBeforeRange, PinRange, NoActor, SameActor, RateCount, RateRange, CeilingRange, NoChannel, ActorInUse}

-- the number and the place of a refusal, once for all promises
abbrev pub shown : Fault → ℕ × ℕ
shown ChangeOpen = (1, 0)
shown TicketRefused = (2, 0)
shown TableFull = (3, 0)
shown PhaseCount = (4, 0)
shown TimeRange = (5, 0)
shown NotBeforeRange = (6, 0)
shown PinRange = (7, 0)
shown NoActor = (8, 0)
shown SameActor = (9, 0)
shown RateCount = (10, 0)
shown RateRange = (11, 0)
shown CeilingRange = (12, 0)
shown NoChannel = (13, 0)
shown ActorInUse = (14, 0)

abbrev pub number_of : Fault → ℕ
number_of f = (shown f).0

abbrev pub place_of : Fault → ℕ
place_of f = (shown f).1

-- as text
abbrev pub fault_text : Fault → List ℕ
fault_text f = decimal (number_of f) ++ (codes " at " ++ decimal (place_of f))
