-- The standing rows are those that the granted edits of kept changes make.
use Rattle.std.proofs.Common.{◌≡◌, ℕ, true, false, cond, List, [], ◌∷◌, ◌++◌, None, Option, refl, arith}
use Rattle.rows.specs.declared.fault.Fault.{Fault}
use Rattle.rows.specs.Steps.{leaves}
use Rattle.rows.specs.Table.{Table, empty_table}
use Rattle.draft.specs.Book.{Book, new_book, keeping}
use Rattle.session.specs.declared.calls.Edit.{Edit}
use Rattle.session.specs.declared.calls.Ending.TheVariants.{Keep, Withdraw}
use Rattle.session.specs.declared.calls.Call.{Call}
use Rattle.session.specs.declared.calls.Call.TheVariants.{Open, End, Edit as EditCall, Rows as RowsCall}
use Rattle.session.specs.Calls.{done, or_refused, edit_step, next, answers, book_after}
use Rattle.session.specs.Kept.{is_refused, kept_edits, edited}

edited_append : (t : Table) (es fs : List Edit) → edited t (es ++ fs) ≡ edited (edited t es) fs
edited_append t [] fs = refl
edited_append t (e ∷ es) fs = edited_append ((edit_step e).made t) es fs

-- the working rows are the standing ones after the edits of the open change; no change is open, no edit is pending
pub record Pending (b : Book) (es : List Edit) : Type 0 where
  pub working_is : b.working ≡ edited b.standing es
  pub none_closed : b.changing ≡ false → es ≡ []

-- the law over a list of calls, from any book with the edits that are pending in it
abbrev pub Law : List Call → Type 0
Law calls = (b : Book) (es : List Edit) → Pending b es → (book_after b calls).standing ≡ edited b.standing (kept_edits es calls (answers b calls))

module _ (b : Book) (es : List Edit) (p : Pending b es) where
  abbrev edits : Edit → Book
  edits e = record { mark = b.mark; standing = b.standing; working = (edit_step e).made b.working; changing = b.changing }

  abbrev kept : Book
  kept = record { mark = b.mark; standing = b.working; working = b.working; changing = false }

  edit_pending : (e : Edit) (o : Option Fault) → (o ≡ None → b.changing ≡ true)
      → Pending (leaves o b (edits e)) (cond (is_refused (or_refused o ((edit_step e).value b.working))) es (es ++ e ∷ []))
  edit_pending e o h = grind (arith, edited_append)

  module _ (more : List Call) (ih : Law more) where
    keep_law : (o : Option Fault)
        → (book_after (leaves o b kept) more).standing
        ≡ edited b.standing
        (cond (is_refused (or_refused o done)) (kept_edits es more (answers (leaves o b kept) more)) (es ++ kept_edits [] more (answers (leaves o b kept) more)))
    keep_law o = grind (arith, edited_append)

kept_law : (calls : List Call) → Law calls
kept_law [] b es p = refl
kept_law (Open ∷ more) b es p = grind (arith, kept_law more (next b Open) es)
kept_law (EditCall shown e ∷ more) b es p = grind (arith, edit_pending, kept_law more)
kept_law (End shown Keep ∷ more) b es p = keep_law b es p more (kept_law more) ((keeping shown).fault b)
kept_law (End shown Withdraw ∷ more) b es p = grind (arith, kept_law more)
kept_law (RowsCall ∷ more) b es p = kept_law more b es p

-- on a new draft
pub standing_kept : (mark : ℕ) (calls : List Call) → (book_after (new_book mark) calls).standing ≡ edited empty_table (kept_edits [] calls (answers (new_book mark) calls))
standing_kept mark calls = kept_law calls (new_book mark) [] (record { working_is = refl; none_closed = λ _. refl })
