use Rattle.std.proofs.Common.{rules, sym, subst, ◌<◌}
use Rattle.std.proofs.lemmas.List.Concat.{length-flat_map}
use Rattle.word_save.proofs.save.size_of.Goals as goal

pub sum-requires-clause-fits : goal.sum-requires-clause-fits
sum-requires-clause-fits g c = let fits = subst (λ n. n < 268435456) (length-flat_map g.T.Encode.words c.args.rows.now) c.requires in search rules

pub returns : goal.returns
returns g c = let size = sym (length-flat_map g.T.Encode.words c.args.rows.now) in rw (length-flat_map g.T.Encode.words c.args.rows.now) (search rules)
