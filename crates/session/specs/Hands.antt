-- The ticket that a session holds.
use Rattle.std.specs.Prelude.{ℕ, Some, None, Option}
use Rattle.draft.specs.declared.ticket.Ticket.{Ticket}

-- the mark of the ticket in hand, or m where there is none
abbrev pub mark_or : Option Ticket → ℕ → ℕ
mark_or None m = m
mark_or (Some t) m = t.mark
