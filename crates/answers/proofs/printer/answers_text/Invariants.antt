use Rattle.std.proofs.Common.{◌≡◌, map, take, string_bytes}
use Rattle.std.specs.List.{flat_map}
use Rattle.session.specs.Calls.{said_of}
use Rattle.answers.specs.Texts.{answer_text}
use Rattle.answers.proofs.printer.answers_text.Given as goal

abbrev pub invariant-loop-answer : goal.invariant-loop-answer
invariant-loop-answer l = string_bytes l.out ≡ flat_map answer_text (map said_of (take l.answer-index l.answers))
