-- What load and save promise of each other.
use Rattle.std.specs.Prelude.{◌≡◌, ℕ, Bool, true, List, length, take, Ok, Err, Result}
use Rattle.rows.specs.Steps.{Does}
use Rattle.rows.specs.Table.{Table, empty_table}
use Rattle.words.specs.declared.fault.LoadFault.{LoadFault}
use Rattle.word_save.specs.declared.fault.SaveFault.{SaveFault}
use Rattle.words.specs.Format.{Describes}
use Rattle.words.specs.Loads.{loading}
use Rattle.word_laws.specs.Offends.{RefusedBy}

-- a load of these words, shown a ticket that is accepted or not, answers r and leaves the rows after
pub record Loads (accepted : Bool) (words : List ℕ) (was after : Table) (r : Result ℕ LoadFault) : Type 0 where
  -- a load that is granted leaves the rows that the words describe: saving them gives the same words
  pub takes_described : (n : ℕ) → r ≡ Ok n → (n ≡ length words) × Describes words after
  -- and the words of any rows that the checks accept are granted, where there are no rows yet, and those rows are there then
  pub describes_taken : (t : Table) → accepted ≡ true → was ≡ empty_table → Describes words t → (r ≡ Ok (length words)) × (after ≡ t)
  -- any other words are refused, for what is wrong with them and for nothing else
  pub refuses_others : (f : LoadFault) → accepted ≡ true → was ≡ empty_table → (r ≡ Err f → RefusedBy words f) × (RefusedBy words f → r ≡ Err f)

-- a save of these rows answers r and leaves the words out
pub record Saves (rows : Table) (out : List ℕ) (r : Result ℕ SaveFault) : Type 0 where
  -- the words that it wrote describe the rows
  pub written_describes : (n : ℕ) → r ≡ Ok n → Describes (take n out) rows
  -- and a load of them gives the same rows
  pub loads_back : (n : ℕ) → r ≡ Ok n → Does (loading (take n out)) empty_table rows (Ok n)
