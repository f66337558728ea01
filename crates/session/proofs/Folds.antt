-- The end of a run.
use Rattle.std.proofs.Common.{◌≡◌, ℕ, ◌≤◌, Bool, true, cond, List, ◌++◌, length, drop, sym, ap, ◌∙◌, append-nil, arith}
use Rattle.std.proofs.lemmas.List.{at_drop_all}
use Rattle.rows.specs.Table.{Table, lawful}
use Rattle.draft.specs.Book.{Book}
use Rattle.session.specs.declared.calls.Call.{Call}
use Rattle.session.specs.Calls.{Said, answers, book_after}

-- no call is left
module _ (b : Book) (calls : List Call) (i : ℕ) (h : length calls ≤ i) where
  pub last_answers : (past all : List Said) → past ++ answers b (drop i calls) ≡ all → past ≡ all
  last_answers past all inv = sym (append-nil past) ∙ ap (λ l. past ++ l) (sym (at_drop_all (answers b) calls i h)) ∙ inv

  pub last_book : (end : Book) → book_after b (drop i calls) ≡ end → b ≡ end
  last_book end inv = sym (at_drop_all (book_after b) calls i h) ∙ inv

pub lawful_either : (changing : Bool) (saved working : Table) → lawful saved ≡ true → lawful working ≡ true → lawful (cond changing saved working) ≡ true
lawful_either changing saved working s w = grind arith
