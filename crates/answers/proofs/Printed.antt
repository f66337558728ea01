-- One turn of a loop that prints rows.
use Rattle.std.proofs.lemmas.Grind.{common_steps}
use Rattle.std.proofs.Common.{◌≡◌, ℕ, ◌+◌, ◌<◌, List, ◌++◌, map, length, get_or, take, arith}
use Rattle.std.specs.List.{flat_map}

pub rows_more : {X Y : Type 0} (text : Y → List ℕ) (bs before after : List ℕ) (row : X → Y) (xs : List X) (i : ℕ) (x : X) → i < length xs → x ≡ get_or xs i x
    → before ≡ bs ++ flat_map text (map row (take i xs)) → after ≡ before ++ text (row x) → after ≡ bs ++ flat_map text (map row (take (i + 1) xs))
rows_more text bs before after row xs i x h is was now = grind (arith, common_steps)
