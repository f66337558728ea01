use Rattle.std.proofs.Common.{◌≡◌, ◌+◌, length, drop}
use Rattle.tokens.specs.Lines.{lines_of}
use Rattle.script.specs.Scripts.{lines_read, script_of}
use Rattle.script.specs.Whole.{sofar_of}
use Rattle.script.proofs.script.parse.Given as goal

-- what is left goes on from the lines so far
abbrev pub invariant-loop-i : goal.invariant-loop-i
invariant-loop-i l = lines_read (length l.yielded + 1) (sofar_of l.reader) (drop (length l.yielded) (lines_of l.text)) ≡ script_of l.text
