-- What a list of calls does to the book, and what each call is answered.
use Rattle.std.specs.Prelude.{◌≡◌, ℕ, Bool, true, false, not, List, [], ◌∷◌, Some, None, vec_items, Option}
use Rattle.rows.specs.declared.fault.Fault.{Fault}
use Rattle.rows.specs.Steps.{Step, leaves}
use Rattle.rows.specs.Table.{Table, actor_with, channel_with, add_actor, add_channel, cut_actor, cut_channel}
use Rattle.table.specs.Tables.{table_of}
use Rattle.draft.specs.Book.{Book, accepts, opening, editing, keeping, withdrawing}
use Rattle.session.specs.declared.calls.Edit.{Edit}
use Rattle.session.specs.declared.calls.Edit.TheVariants.{AddActor, AddChannel, CutActor, CutChannel}
use Rattle.session.specs.declared.calls.Ending.{Ending}
use Rattle.session.specs.declared.calls.Ending.TheVariants.{Keep, Withdraw}
use Rattle.session.specs.declared.calls.Call.{Call}
use Rattle.session.specs.declared.calls.Call.TheVariants.{Open, End, Edit as EditCall, Rows as RowsCall}
use Rattle.session.specs.declared.calls.Answer.{Answer}
use Rattle.session.specs.declared.calls.Answer.TheVariants.{Done, Actor, Channel, Refused, Rows}

-- an answer: granted, with the number of an added row or with the rows where the call gives them, or refused
pub data Said : Type 0 where
  done : Said
  actor : ℕ → Said
  channel : ℕ → Said
  rows : Table → Said
  refused : Fault → Said

abbrev pub said_of : Answer → Said
said_of Done = done
said_of (Actor n) = actor n
said_of (Channel n) = channel n
said_of (Rows r) = rows (table_of r)
said_of (Refused f) = refused f

-- a step with what it says in place of what it gives
abbrev pub saying : {F S V : Type 0} → (V → Said) → Step F S V → Step F S Said
saying say step = record { fault = step.fault; value = λ s. say (step.value s); made = step.made }

abbrev pub edit_step : Edit → Step Fault Table Said
edit_step (AddActor times first placement) = saying actor (add_actor (actor_with (vec_items times) first placement))
edit_step (AddChannel writer reader writes reads ceiling) = saying channel (add_channel (channel_with writer reader (vec_items writes) (vec_items reads) ceiling))
edit_step (CutActor i) = saying (λ _. done) (cut_actor i)
edit_step (CutChannel i) = saying (λ _. done) (cut_channel i)

abbrev pub end_step : Ending → ℕ → Step Fault Book (Unit {0})
end_step Keep = keeping
end_step Withdraw = withdrawing

abbrev pub call_step : Call → Step Fault Book Said
call_step Open = saying (λ _. done) opening
call_step (EditCall shown edit) = editing shown (edit_step edit)
call_step (End shown ending) = saying (λ _. done) (end_step ending shown)
call_step RowsCall = record { fault = λ _. None; value = λ b. rows b.working; made = λ b. b }

-- a run asks for memory to copy the rows, and to show a ticket that is not the open change's own
abbrev pub asks_memory : Book → Call → Bool
asks_memory b Open = false
asks_memory b (EditCall shown edit) = not (accepts b shown)
asks_memory b (End shown ending) = not (accepts b shown)
asks_memory b RowsCall = true

-- what a step says: its value, or that it is refused
abbrev pub or_refused : Option Fault → Said → Said
or_refused None said = said
or_refused (Some f) said = refused f

-- the step, taken at a state, says this and leaves the state after
pub record Tells {S : Type 0} (step : Step Fault S Said) (was after : S) (said : Said) : Type 0 where
  pub told : said ≡ or_refused (step.fault was) (step.value was)
  pub left : after ≡ leaves (step.fault was) was (step.made was)

-- the book's answer to a call, and the book after it
abbrev pub says : Book → Call → Said
says b call = or_refused ((call_step call).fault b) ((call_step call).value b)

abbrev pub next : Book → Call → Book
next b call = leaves ((call_step call).fault b) b ((call_step call).made b)

-- the same for a list of calls, one after the other
abbrev pub answers : Book → List Call → List Said
answers b [] = []
answers b (call ∷ more) = says b call ∷ answers (next b call) more

abbrev pub book_after : Book → List Call → Book
book_after b [] = b
book_after b (call ∷ more) = book_after (next b call) more
