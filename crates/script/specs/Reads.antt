-- A function that reads: it gives what the definition gives, unless memory is wanting.
use Rattle.std.specs.Prelude.{◌≡◌, List, Ok, Err, Result, MatchResult}
use Rattle.tokens.specs.declared.token.Token.{Token}
use Rattle.tokens.specs.declared.expected.Expected.{Expected}
use Rattle.tokens.specs.declared.expected.ReadError.{ReadError}
use Rattle.tokens.specs.declared.expected.ReadError.TheVariants.{NoMemory, NoCall}
use Rattle.script.specs.Reading.{Reading}

-- the error is what was expected, or that memory is wanting
abbrev pub Fails : {X : Type 0} → ReadError Expected → Result X Expected → Type 0
Fails NoMemory given = Unit {0}
Fails (NoCall e) given = given ≡ Err e

-- r, seen as plain, is what is given, and so is what is left
abbrev pub Reads : {X Y : Type 0} → (X → Y) → Result X (ReadError Expected) → List Token → Reading Y → Type 0
Reads plain r rest given = MatchResult r (λ x. given ≡ Ok (plain x, rest)) (λ f. Fails f given)

abbrev pub ReadsAll : {X Y : Type 0} → (X → Y) → Result X (ReadError Expected) → Result Y Expected → Type 0
ReadsAll plain r given = MatchResult r (λ x. given ≡ Ok (plain x)) (λ f. Fails f given)
