-- The script that the program's values stand for, and what its functions read.
use Rattle.std.specs.Prelude.{◌≡◌, ℕ, map, Ok, Err, vec_items, Result, MatchResult}
use Rattle.tokens.specs.declared.expected.Expected.{Expected}
use Rattle.tokens.specs.declared.expected.ExpectedAt.{ExpectedAt}
use Rattle.tokens.specs.declared.expected.ReadError.{ReadError}
use Rattle.tokens.specs.declared.expected.ReadError.TheVariants.{NoMemory, NoCall}
use Rattle.script.specs.declared.script.Script.{Script}
use Rattle.script.specs.declared.script.Reader.{Reader}
use Rattle.script.specs.Plain.{plain_call}
use Rattle.script.specs.Scripts.{Sofar, sofar_with, PlainScript}

abbrev pub plain_script : Script → PlainScript
plain_script s = record { mark = s.mark; calls = map plain_call (vec_items s.calls) }

abbrev pub sofar_of : Reader → Sofar
sofar_of r = sofar_with r.mark (map plain_call (vec_items r.calls))

-- the error is a line's number and what was expected there, or that memory is wanting
abbrev pub FailsAt : {X : Type 0} → ReadError ExpectedAt → Result X (ℕ × Expected) → Type 0
FailsAt NoMemory given = Unit {0}
FailsAt (NoCall at) given = given ≡ Err (at.line, at.expected)

-- r, seen as plain, is what is given
abbrev pub ReadsAt : {X Y : Type 0} → (X → Y) → Result X (ReadError ExpectedAt) → Result Y (ℕ × Expected) → Type 0
ReadsAt plain r given = MatchResult r (λ x. given ≡ Ok (plain x)) (λ f. FailsAt f given)

-- r with the state after it is what is given
abbrev pub after : {X E : Type 0} → Result (Unit {0}) E → X → Result X E
after (Ok u) x = Ok x
after (Err e) x = Err e
