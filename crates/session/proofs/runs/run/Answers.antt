use Rattle.std.proofs.Common.{◌≡◌, true, [], map, vec_items, sym, ap, ◌∙◌}
use Rattle.rows.specs.Table.{empty_table, lawful}
use Rattle.draft.specs.Book.{Book, new_book}
use Rattle.session.specs.Calls.{said_of, answers, book_after}
use Rattle.session.specs.Kept.{kept_edits, edited}
use Rattle.session.specs.Sessions.{session_book}
use Rattle.session.proofs.Folds.{last_answers, last_book, lawful_either}
use Rattle.session.proofs.Keeps.{standing_kept}
use Rattle.session.proofs.runs.run.Goals as goal

pub returns : goal.returns
returns c =
    let session = c.loop-call.session in
    let calls = c.args.calls.now in
    let i = c.loop-call.invariant in
    let book : session_book session ≡ book_after (new_book c.args.mark) calls = last_book _ _ _ c.loop-call-test.false _ i.1 in
    let said : map said_of (vec_items c.loop-call.answers) ≡ answers (new_book c.args.mark) calls = last_answers _ _ _ c.loop-call-test.false _ _ i.0 in
    let working : lawful (session_book session).working ≡ true = session.draft.working.accepted in
    let standing : lawful (session_book session).standing ≡ true =
    lawful_either session.draft.changing _ _ session.draft.saved.accepted session.draft.working.accepted in
    record {
      answered = said;
      booked = book;
      kept = ap (λ (b : Book). b.standing) book ∙ standing_kept c.args.mark calls ∙ ap (λ l. edited empty_table (kept_edits [] calls l)) (sym said);
      standing_lawful = ap (λ (b : Book). lawful b.standing) (sym book) ∙ standing;
      working_lawful = ap (λ (b : Book). lawful b.working) (sym book) ∙ working;
    }
