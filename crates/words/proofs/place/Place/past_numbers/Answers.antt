use Rattle.std.proofs.Common.{arith}
use Rattle.std.proofs.lemmas.Option.{slice_get_read}
use Rattle.words.proofs.Found.{number_passed, number_refused}
use Rattle.words.proofs.place.Place.past_numbers.Goals as goal

pub returns-then-ne : goal.returns-then-ne
returns-then-ne c = grind (arith, slice_get_read, number_refused)

pub loop-index-preserved : goal.loop-index-preserved
loop-index-preserved c = grind (arith, slice_get_read, number_passed)
