-- The ticket of a draft with a mark, not spent yet.
use Rattle.std.specs.Prelude.{ℕ, false}
use Rattle.draft.specs.declared.ticket.Ticket.{Ticket}

abbrev pub ticket_of : ℕ → Ticket
ticket_of m = record { mark = m; spent = false }
