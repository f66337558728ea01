use Rattle.std.proofs.Common.{arith}
use Rattle.std.proofs.lemmas.Option.{slice_get_read}
use Rattle.words.proofs.Headed.{wrongly_headed}
use Rattle.words.proofs.record.Record.read.Goals as goal

pub returns-in_default : goal.returns-in_default
returns-in_default c = grind (arith, slice_get_read, wrongly_headed)
