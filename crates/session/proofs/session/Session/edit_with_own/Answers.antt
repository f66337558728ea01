use Rattle.std.proofs.Common.{sym, ap, ◌∙◌}
use Rattle.session.specs.Hands.{mark_or}
use Rattle.session.proofs.Told.{edit_keeps_changing, edit_keeps_mark}
use Rattle.session.proofs.session.Session.edit_with_own.Goals as goal

pub invariant_of-self : goal.invariant_of-self
invariant_of-self c =
    let changing = edit_keeps_changing _ _ _ _ _ c.apply.ensures in
    let mark = edit_keeps_mark _ _ _ _ _ c.apply.ensures in
    record { held = c.args.self.now.held ∙ sym changing; same = ap (mark_or c.args.self.now.hand) mark ∙ c.args.self.now.same ∙ sym mark }
