-- The bytes that tell what was expected.
use Rattle.std.specs.Prelude.{ℕ, List, ◌++◌, codes, decimal}
use Rattle.tokens.specs.declared.token.Token.{Token}
use Rattle.tokens.specs.declared.token.Token.TheVariants.{Mark, Ticket, Open, Actor, Times, NotBefore, Pin, Channel, Writes, Reads, Ceiling, Cut, Keep, Withdraw, Rows, Number, Other}
use Rattle.tokens.specs.declared.expected.Expected.{Expected}
use Rattle.tokens.specs.declared.expected.Expected.TheVariants.{Call, Shown, Kind, Word, NumberAfter, LineEnd, OneMark}
use Rattle.tokens.specs.declared.expected.ExpectedAt.{ExpectedAt}
use Rattle.tokens.specs.declared.expected.ReadError.{ReadError}
use Rattle.tokens.specs.declared.expected.ReadError.TheVariants.{NoMemory, NoCall}

-- a token as a line has it
abbrev pub name_text : Token → List ℕ
name_text Mark = codes "mark"
name_text Ticket = codes "ticket"
name_text Open = codes "open"
name_text Actor = codes "actor"
name_text Times = codes "times"
name_text NotBefore = codes "not-before"
name_text Pin = codes "pin"
name_text Channel = codes "channel"
name_text Writes = codes "writes"
name_text Reads = codes "reads"
name_text Ceiling = codes "ceiling"
name_text Cut = codes "cut"
name_text Keep = codes "keep"
name_text Withdraw = codes "withdraw"
name_text Rows = codes "rows"
name_text (Number n) = codes "a number"
name_text Other = codes "a word"

abbrev pub expected_text : Expected → List ℕ
expected_text Call = codes "a call"
expected_text Shown = codes "'actor', 'channel', 'cut', 'keep' or 'withdraw' after the ticket"
expected_text Kind = codes "'actor' or 'channel' after 'cut'"
expected_text (Word w) = codes "'" ++ (name_text w ++ codes "'")
expected_text (NumberAfter w) = codes "a number after '" ++ (name_text w ++ codes "'")
expected_text LineEnd = codes "the end of the line"
expected_text OneMark = codes "'mark' only once, before the first call"

-- the error of a line, in the line of this number
abbrev pub error_at : ℕ → ReadError Expected → ReadError ExpectedAt
error_at n NoMemory = NoMemory
error_at n (NoCall e) = NoCall (record { line = n; expected = e })

abbrev pub error_text : ReadError ExpectedAt → List ℕ
error_text NoMemory = codes "no memory"
error_text (NoCall at) = codes "line " ++ (decimal at.line ++ (codes ": expected " ++ expected_text at.expected))
