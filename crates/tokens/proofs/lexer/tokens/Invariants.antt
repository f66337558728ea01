use Rattle.std.proofs.Common.{◌≡◌, [], length, vec_items}
use Rattle.tokens.specs.Lines.{tokens_from, tokens_of}
use Rattle.tokens.proofs.lexer.tokens.Given as goal

-- what is left goes on from the tokens so far
abbrev pub invariant-loop-rest : goal.invariant-loop-rest
invariant-loop-rest l = tokens_from (vec_items l.all) [] l.rest ≡ tokens_of l.line

abbrev pub decreases-loop-rest : goal.decreases-loop-rest
decreases-loop-rest l = length l.rest
