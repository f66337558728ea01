-- What a run of a list of calls on a new draft gives.
use Rattle.std.specs.Prelude.{◌≡◌, ℕ, true, List, [], map, vec_items}
use Rattle.rows.specs.Table.{empty_table, lawful}
use Rattle.draft.specs.Book.{new_book}
use Rattle.session.specs.declared.calls.Call.{Call}
use Rattle.session.specs.declared.outcome.Outcome.{Outcome}
use Rattle.session.specs.Calls.{said_of, answers, book_after}
use Rattle.session.specs.Kept.{kept_edits, edited}
use Rattle.session.specs.Sessions.{session_book}

pub record Follows (mark : ℕ) (calls : List Call) (outcome : Outcome) : Type 0 where
  -- every answer is the book's
  pub answered : map said_of (vec_items outcome.answers) ≡ answers (new_book mark) calls
  -- the rows that kept changes leave, the rows as edited so far and whether a change is open are the book's
  pub booked : session_book outcome.session ≡ book_after (new_book mark) calls
  -- the rows that stand are those that the edits granted in kept changes make of no rows, in order, and no others
  pub kept : (session_book outcome.session).standing ≡ edited empty_table (kept_edits [] calls (map said_of (vec_items outcome.answers)))
  -- every row of either table is one that the checks accept
  pub standing_lawful : lawful (book_after (new_book mark) calls).standing ≡ true
  pub working_lawful : lawful (book_after (new_book mark) calls).working ≡ true
