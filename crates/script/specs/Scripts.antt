-- The script that a text is.
use Rattle.std.specs.Prelude.{ℕ, ◌+◌, Bool, cond, not, ◌&&◌, List, [], ◌∷◌, ◌++◌, length, is_some, Some, None, Ok, Err, Option, Result, ◌==◌}
use Rattle.std.specs.Option.{unwrap_or}
use Rattle.tokens.specs.declared.token.Token.{Token}
use Rattle.tokens.specs.declared.token.Token.TheVariants.{Mark}
use Rattle.tokens.specs.declared.expected.Expected.{Expected}
use Rattle.tokens.specs.declared.expected.Expected.TheVariants.{OneMark}
use Rattle.tokens.specs.Lines.{tokens_of, lines_of}
use Rattle.script.specs.Reading.{and_then, starts, tail, number_after, ended}
use Rattle.script.specs.Plain.{PlainCall}
use Rattle.script.specs.Grammar.{call_of}

-- what the lines so far give: the mark, where a line gave one, and the calls
pub record Sofar : Type 0 where
  pub mark : Option ℕ
  pub calls : List PlainCall

abbrev pub sofar_with : Option ℕ → List PlainCall → Sofar
sofar_with m cs = record { mark = m; calls = cs }

pub record PlainScript : Type 0 where
  pub mark : ℕ
  pub calls : List PlainCall

-- the mark is 0 where no line gave one
abbrev pub finished : Sofar → PlainScript
finished s = record { mark = unwrap_or s.mark 0; calls = s.calls }

-- no mark is given yet, and no call
abbrev pub may_mark : Sofar → Bool
may_mark s = not (is_some s.mark) && length s.calls == 0

-- after `mark`: N, once, before the first call
abbrev pub mark_line : Sofar → List Token → Result Sofar Expected
mark_line s ts =
    cond (may_mark s) (and_then (number_after Mark ts) (λ p. and_then (ended p.1) (λ _. Ok (sofar_with (Some p.0) s.calls))))
    (Err OneMark)

abbrev pub call_line : Sofar → List Token → Result Sofar Expected
call_line s ts = and_then (call_of (unwrap_or s.mark 0) ts) (λ c. Ok (sofar_with s.mark (s.calls ++ c ∷ [])))

-- a line: blank, the mark, or a call
abbrev pub line_of : Sofar → List Token → Result Sofar Expected
line_of s ts = cond (length ts == 0) (Ok s) (cond (starts Mark ts) (mark_line s (tail ts)) (call_line s ts))

-- an error, with the number of its line
abbrev pub numbered : {X : Type 0} → ℕ → Result X Expected → Result X (ℕ × Expected)
numbered n (Ok x) = Ok x
numbered n (Err e) = Err (n, e)

-- the lines from line n on; the first that is no call is the answer
abbrev pub lines_read : ℕ → Sofar → List (List ℕ) → Result PlainScript (ℕ × Expected)
lines_read n s [] = Ok (finished s)
lines_read n s (line ∷ more) = and_then (numbered n (line_of s (tokens_of line))) (λ t. lines_read (n + 1) t more)

abbrev pub script_of : List ℕ → Result PlainScript (ℕ × Expected)
script_of text = lines_read 1 (sofar_with None []) (lines_of text)
