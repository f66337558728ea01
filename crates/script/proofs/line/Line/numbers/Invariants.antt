use Rattle.std.proofs.Common.{◌≡◌, [], length, vec_items}
use Rattle.script.specs.Reading.{numbers_from}
use Rattle.script.specs.Rest.{rest_of}
use Rattle.script.proofs.line.Line.numbers.Given as goal

abbrev pub invariant-loop-n : goal.invariant-loop-n
invariant-loop-n l = numbers_from (vec_items l.all) (rest_of l.self) ≡ numbers_from [] (rest_of l.initial.self)

abbrev pub decreases-loop-n : goal.decreases-loop-n
decreases-loop-n l = length (rest_of l.self)
