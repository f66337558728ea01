-- Words written over others, and the rows of a table saved so.
use Rattle.std.specs.Prelude.{ℕ, ◌+◌, List, ◌++◌, length, take, drop, None, nat_le}
use Rattle.rows.specs.Steps.{Step}
use Rattle.rows.specs.Table.{Table}
use Rattle.words.specs.Checks.{check}
use Rattle.word_save.specs.declared.fault.SaveFault.{SaveFault}
use Rattle.word_save.specs.declared.fault.SaveFault.TheVariants.{SpaceShort}
use Rattle.words.specs.Format.{table_words}

-- these words over the others from a place on, and the others before and after as they were
abbrev pub written : ℕ → List ℕ → List ℕ → List ℕ
written place ws out = take place out ++ (ws ++ drop (place + length ws) out)

-- save, into words of the caller's: it answers how many it wrote, and leaves later words alone
abbrev pub saving : Table → Step SaveFault (List ℕ) ℕ
saving t =
    record {
      fault = λ out. check (nat_le (length (table_words t)) (length out)) SpaceShort None;
      value = λ out. length (table_words t);
      made = λ out. written 0 (table_words t) out;
    }
