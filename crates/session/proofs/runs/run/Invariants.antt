use Rattle.std.proofs.Common.{◌≡◌, ◌++◌, map, drop, vec_items}
use Rattle.draft.specs.Book.{new_book}
use Rattle.session.specs.Calls.{said_of, answers, book_after}
use Rattle.session.specs.Sessions.{session_book}
use Rattle.session.proofs.runs.run.Given as goal

-- the answers so far and those to come are all the answers, and the calls to come lead to the end
abbrev pub invariant-loop-call : goal.invariant-loop-call
invariant-loop-call l =
    (map said_of (vec_items l.answers) ++ answers (session_book l.session) (drop l.call-index l.calls) ≡ answers (new_book l.mark) l.calls)
    × (book_after (session_book l.session) (drop l.call-index l.calls) ≡ book_after (new_book l.mark) l.calls)
