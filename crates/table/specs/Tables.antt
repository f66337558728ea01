-- The table that the program's rows stand for.
use Rattle.std.specs.Prelude.{◌≡◌, ℕ, List, vec_items, slice_get, Some, None, Result, MatchResult}
use Rattle.table.specs.declared.storage.Rows.{Rows}
use Rattle.rows.specs.Table.{Table}
use Rattle.rows.specs.Values.{table_from}

abbrev pub table_of : Rows → Table
table_of r = table_from (vec_items r.actors) (vec_items r.channels)

-- r is the row of this number, or the fault where there is none
abbrev pub RowAt : {X Y F : Type 0} → (X → Y) → List Y → ℕ → F → Result X F → Type 0
RowAt row rows number missing r = MatchResult r (λ x. slice_get rows number ≡ Some (row x)) (λ f. (slice_get rows number ≡ None) × (f ≡ missing))
