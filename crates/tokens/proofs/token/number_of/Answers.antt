use Rattle.std.proofs.Common.{◌∙◌, rules}
use Rattle.std.proofs.lemmas.Iterator.{YieldsList-from_slice}
use Rattle.tokens.proofs.Numerals.{number_from_try_fold, read_all}
use Rattle.tokens.proofs.token.number_of.Goals as goal

pub returns : goal.returns
returns c =
    number_from_try_fold _ _ (λ b. b.now) _ _ (λ n x o q k. search rules) _ _ _ _ _ c.try_fold.ensures.ran (YieldsList-from_slice c.args.word.now cc)
    ∙ read_all c.args.word.now (search rules)
