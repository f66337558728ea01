-- A load into a table without rows.
use Rattle.std.proofs.lemmas.Grind.{common_steps}
use Rattle.std.proofs.Common.{◌≡◌, ℕ, true, false, List, length, Ok, Err, arith}
use Rattle.rows.specs.Steps.{Does}
use Rattle.rows.specs.Table.{Table, empty_table}
use Rattle.words.specs.declared.fault.LoadFault.{LoadFault}
use Rattle.words.specs.declared.fault.LoadFault.TheVariants.{HasRows}
use Rattle.words.specs.Loads.{rows_from, is_empty, loading}

module _ (ws : List ℕ) (t : Table) where
  module _ (e : is_empty t ≡ true) where
    pub loaded : (after : Table) → rows_from (length ws) ws 0 t ≡ Ok after → Does (loading ws) t after (Ok (length ws))
    loaded after x = grind (arith, common_steps)

    pub not_loaded : (after : Table) (f : LoadFault) → rows_from (length ws) ws 0 t ≡ Err f → after ≡ empty_table → Does (loading ws) t after (Err f)
    not_loaded after f x y = grind (arith, common_steps)

  pub has_rows : is_empty t ≡ false → Does (loading ws) t t (Err HasRows)
  has_rows e = grind (arith, common_steps)
