-- The plain book of a draft: what each call does to it, and what it answers.
use Rattle.std.specs.Prelude.{ℕ, Bool, true, false, not, ◌&&◌, None, ◌==◌}
use Rattle.std.specs.Option.{option_map}
use Rattle.rows.specs.declared.fault.Fault.{Fault}
use Rattle.rows.specs.declared.fault.Fault.TheVariants.{ChangeOpen, TicketRefused}
use Rattle.rows.specs.Steps.{Step}
use Rattle.rows.specs.Table.{Table, empty_table, check}
use Rattle.draft.specs.declared.ticket.Ticket.{Ticket}
use Rattle.draft.specs.declared.ticket.Returned.{Returned}
use Rattle.draft.specs.Tickets.{ticket_of}

-- the draft's mark, the rows that kept changes leave, the rows as edited so far, and whether a change is open
pub record Book : Type 0 where
  pub mark : ℕ
  pub standing : Table
  pub working : Table
  pub changing : Bool

abbrev pub new_book : ℕ → Book
new_book m = record { mark = m; standing = empty_table; working = empty_table; changing = false }

-- open begins a change, and gives a ticket of the draft's mark
abbrev pub opening : Step Fault Book Ticket
opening =
    record {
      fault = λ b. check (not b.changing) ChangeOpen None;
      value = λ b. ticket_of b.mark;
      made = λ b. record { mark = b.mark; standing = b.standing; working = b.working; changing = true };
    }

-- a ticket is accepted by its mark, while a change is open
abbrev pub accepts : Book → ℕ → Bool
accepts b shown = b.changing && shown == b.mark

-- an edit of the working rows, shown a ticket of a mark
abbrev pub editing : {V : Type 0} → ℕ → Step Fault Table V → Step Fault Book V
editing shown edit =
    record {
      fault = λ b. check (accepts b shown) TicketRefused (edit.fault b.working);
      value = λ b. edit.value b.working;
      made = λ b. record { mark = b.mark; standing = b.standing; working = edit.made b.working; changing = b.changing };
    }

-- keep makes the working rows the standing ones, and ends the change
abbrev pub keeping : ℕ → Step Fault Book (Unit {0})
keeping shown =
    record {
      fault = λ b. check (accepts b shown) TicketRefused None;
      value = λ b. tt;
      made = λ b. record { mark = b.mark; standing = b.working; working = b.working; changing = false };
    }

-- withdraw makes the standing rows the working ones, and ends the change
abbrev pub withdrawing : ℕ → Step Fault Book (Unit {0})
withdrawing shown =
    record {
      fault = λ b. check (accepts b shown) TicketRefused None;
      value = λ b. tt;
      made = λ b. record { mark = b.mark; standing = b.standing; working = b.standing; changing = false };
    }

-- a step that takes a ticket, and gives it back beside the fault where it is refused
abbrev pub or_gives_back : {V : Type 0} → Ticket → Step Fault Book V → Step Returned Book V
or_gives_back t step =
    record { fault = λ b. option_map (λ f. record { ticket = t; fault = f }) (step.fault b); value = step.value; made = step.made }
