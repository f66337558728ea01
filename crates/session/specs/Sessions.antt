-- The book that a session stands for, and one call of it.
use Rattle.std.specs.Prelude.{◌≡◌, Result, MatchResult}
use Rattle.std.specs.declared.alloc.AllocError.{AllocError}
use Rattle.rows.specs.declared.fault.Fault.{Fault}
use Rattle.rows.specs.Steps.{Step}
use Rattle.draft.specs.Book.{Book}
use Rattle.draft.specs.Drafts.{book_of}
use Rattle.session.specs.declared.calls.Answer.{Answer}
use Rattle.session.specs.declared.session.Session.{Session}
use Rattle.session.specs.Calls.{Said, said_of, Tells}

abbrev pub session_book : Session → Book
session_book s = book_of s.draft

-- the answer and the book after a step are as the step says; where memory is wanting nothing is done
abbrev pub Serves : Step Fault Book Said → Book → Book → Result Answer AllocError → Type 0
Serves step was after r = MatchResult r (λ a. Tells step was after (said_of a)) (λ _. after ≡ was)
