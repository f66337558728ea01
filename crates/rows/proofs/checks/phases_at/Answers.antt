use Rattle.std.proofs.Common.{length, rules, ap, ◌∙◌}
use Rattle.rows.proofs.Places.{phases_at_actor, phases_at_none}
use Rattle.rows.proofs.checks.phases_at.Goals as goal

pub returns-in-Some : goal.returns-in-Some
returns-in-Some c =
    ap length c.as_slice.ensures
    ∙ phases_at_actor c.args.actors.now c.args.place c.in-Some.actor.now (search rules) (search rules)

pub returns-in-None : goal.returns-in-None
returns-in-None c = phases_at_none c.args.actors.now c.args.place (search rules)
