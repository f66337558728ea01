use Rattle.word_laws.proofs.BothWays.{load_laws}
use Rattle.word_laws.proofs.tables.load.Goals as goal

pub returns-clause-laws : goal.returns-clause-laws
returns-clause-laws c = load_laws _ _ _ _ c.load.ensures
