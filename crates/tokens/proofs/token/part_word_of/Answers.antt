use Rattle.std.proofs.Common.{codes, arith}
use Rattle.std.proofs.lemmas.Slice.Eq.{text_from_reads}
use Rattle.tokens.proofs.token.part_word_of.Goals as goal

pub returns-in-times : goal.returns-in-times
returns-in-times c = grind (arith, text_from_reads c.args.word.now (codes "times"))

pub returns-in-110 : goal.returns-in-110
returns-in-110 c = grind (arith, text_from_reads c.args.word.now (codes "not-before"))

pub returns-in-pin : goal.returns-in-pin
returns-in-pin c = grind (arith, text_from_reads c.args.word.now (codes "pin"))

pub returns-in-writes : goal.returns-in-writes
returns-in-writes c = grind (arith, text_from_reads c.args.word.now (codes "writes"))

pub returns-in-reads : goal.returns-in-reads
returns-in-reads c = grind (arith, text_from_reads c.args.word.now (codes "reads"))

pub returns-in-ceiling : goal.returns-in-ceiling
returns-in-ceiling c = grind (arith, text_from_reads c.args.word.now (codes "ceiling"))
