-- The tokens that are left of a line.
use Rattle.std.specs.Prelude.{List}
use Rattle.tokens.specs.declared.token.Token.{Token}
use Rattle.script.specs.declared.line.Line.{Line}

abbrev pub rest_of : Line → List Token
rest_of l = l.rest.now
