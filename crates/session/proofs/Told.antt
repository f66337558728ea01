-- What edits of the book leave as it was.
use Rattle.std.proofs.Common.{◌≡◌, ℕ, Option, refl, ap, ◌∙◌, arith}
use Rattle.rows.specs.declared.fault.Fault.{Fault}
use Rattle.rows.specs.Steps.{Step, leaves}
use Rattle.rows.specs.Table.{Table}
use Rattle.draft.specs.Book.{Book, editing}
use Rattle.session.specs.Calls.{Said, Tells}

leaves_same : {X : Type 0} (look : Book → X) (o : Option Fault) (was made : Book) → look made ≡ look was → look (leaves o was made) ≡ look was
leaves_same look o was made e = grind arith

-- an edit neither ends the change nor alters the mark
module _ (shown : ℕ) (edit : Step Fault Table Said) (was after : Book) (said : Said) (t : Tells (editing shown edit) was after said) where
  pub edit_keeps_changing : after.changing ≡ was.changing
  edit_keeps_changing = ap (λ (b : Book). b.changing) t.left ∙ leaves_same (λ b. b.changing) ((editing shown edit).fault was) was ((editing shown edit).made was) refl

  pub edit_keeps_mark : after.mark ≡ was.mark
  edit_keeps_mark = ap (λ (b : Book). b.mark) t.left ∙ leaves_same (λ b. b.mark) ((editing shown edit).fault was) was ((editing shown edit).made was) refl
