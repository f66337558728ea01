use Rattle.std.proofs.Common.{ap, ◌∙◌, rules}
use Rattle.rows.proofs.Steps.{when_refused}
use Rattle.draft.specs.Book.{Book, accepts}
use Rattle.draft.proofs.Opened.{opened_accepts}
use Rattle.example_edit.proofs.add_actor.Goals as goal

pub unwrap-requires-in-Err : goal.unwrap-requires-in-Err
unwrap-requires-in-Err c =
    let same = (when_refused _ _ _ _ c.in-Err.ensures.made).1 in
    let held = ap (λ (b : Book). accepts b c.in_ok-ticket.ticket.mark) same ∙ opened_accepts _ _ _ c.in_ok-ticket.ensures in
    search rules
