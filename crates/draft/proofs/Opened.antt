-- What a caller who opens a change may count on: the ticket is accepted, and a withdrawn change leaves no trace.
use Rattle.std.proofs.Common.{◌≡◌, ℕ, Bool, true, false, cond, Ok, ap, ◌∙◌, arith}
use Rattle.std.proofs.lemmas.Bool.{eq-eqb}
use Rattle.rows.specs.Steps.{Does}
use Rattle.rows.specs.Table.{Table}
use Rattle.table.specs.Tables.{table_of}
use Rattle.rows.proofs.Steps.{when_granted}
use Rattle.draft.specs.declared.draft.Draft.{Draft}
use Rattle.draft.specs.declared.ticket.Ticket.{Ticket}
use Rattle.draft.specs.Book.{Book, accepts, opening, withdrawing}
use Rattle.draft.specs.Drafts.{book_of}

pub opened_accepts : (was opened : Book) (t : Ticket) → Does opening was opened (Ok t) → accepts opened t.mark ≡ true
opened_accepts was opened t d =
    let g = when_granted opening was opened t d in
    ap (λ (b : Book). accepts b t.mark) g.2 ∙ eq-eqb t.mark was.mark (ap (λ (s : Ticket). s.mark) g.1)

-- the book of a draft with these rows
abbrev book : ℕ → Table → Table → Bool → Book
book m saved was changing = record { mark = m; standing = cond changing saved was; working = was; changing = changing }

restores : (m : ℕ) (saved was : Table) (changing : Bool) (opened after : Book) (t : Ticket) (shown : ℕ)
    → Does opening (book m saved was changing) opened (Ok t) → after ≡ (withdrawing shown).made opened → after ≡ book m saved was changing
restores m saved was true opened after t shown o w =
    let g = (when_granted opening (book m saved was true) opened t o).0 in let z : ◌≡◌ {A = ℕ} 0 1 = cc in absurd (let y : ⊥ = omega arith in y)
restores m saved was false opened after t shown o w =
    let g = (when_granted opening (book m saved was false) opened t o).2 in w ∙ ap (withdrawing shown).made g

pub withdrawn_restores : (d : Draft) (opened after : Book) (t : Ticket) (shown : ℕ) → Does opening (book_of d) opened (Ok t) → after ≡ (withdrawing shown).made opened → after ≡ book_of d
withdrawn_restores d = restores d.mark (table_of d.saved) (table_of d.working) d.changing
