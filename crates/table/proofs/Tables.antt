-- The edits on the program's lists, seen as edits of the table that they stand for.
use Rattle.std.proofs.Common.{◌≡◌, ℕ, zero, suc, ◌+◌, ◌<◌, ◌≤◌, true, false, ltb, List, [], ◌∷◌, ◌++◌, map, length, get_or, slice_get, take, drop, set, Some, None, Option, Bor, is_some, option_map, option_copied, ok_or, IfSome, MatchResult, sym, refl, ap, ◌∙◌, append-nil, arith}
use Rattle.std.specs.List.{remove}
use Rattle.std.proofs.lemmas.List.{length-map, map_push, map-set, get_or-map, take_all, drop_all}
use Rattle.std.proofs.lemmas.List.Edits.{map_over_more}
use Rattle.std.proofs.lemmas.Option.{slice_get-map, slice_get_past, slice_get_read}
use Rattle.std.proofs.lemmas.Bool.{lt-ltb, le-ltb, ltb-true, ltb-false}
use Rattle.rows.specs.declared.row.Actor.{Actor}
use Rattle.rows.specs.declared.row.Channel.{Channel}
use Rattle.rows.specs.Table.{ActorRow, Table, lawful, renumbered_ends, add_actor, cut_actor, cut_channel}
use Rattle.rows.specs.Values.{actor_row, channel_row, table_from}
use Rattle.table.proofs.Lawful.{lawful_parts, lawful_with_actor, lawful_without_actor, lawful_without_channel}

pub map_removed : {X Y : Type 0} (f : X → Y) (xs : List X) (i : ℕ) → map f (remove xs i) ≡ remove (map f xs) i
map_removed f [] zero = refl
map_removed f [] (suc i) = refl
map_removed f (x ∷ xs) zero = refl
map_removed f (x ∷ xs) (suc i) = ap (λ l. f x ∷ l) (map_removed f xs i)

-- tests of the number of rows, from the number of elements
module _ {X Y : Type 0} (row : X → Y) (xs : List X) (n : ℕ) (long : n ≡ length xs) where
  pub fewer : (k : ℕ) → n < k → ltb (length (map row xs)) k ≡ true
  fewer k h = let l = length-map xs row in lt-ltb (length (map row xs)) k (omega arith)

  pub there : (i : ℕ) → i < n → ltb i (length (map row xs)) ≡ true
  there i h = let l = length-map xs row in lt-ltb i (length (map row xs)) (omega arith)

  pub not_there : (i : ℕ) → n ≤ i → ltb i (length (map row xs)) ≡ false
  not_there i h = let l = length-map xs row in le-ltb i (length (map row xs)) (omega arith)

-- one turn of a loop that changes each element in place, seen on the rows
pub changed_more : {X Y : Type 0} (row : X → Y) (f : Y → Y) (rows : List Y) (xs : List X) (i : ℕ) (d z : X)
    → i < length rows → i < length xs → map row xs ≡ map f (take i rows) ++ drop i rows → row z ≡ f (row (get_or xs i d))
    → map row (set xs i z) ≡ map f (take (i + 1) rows) ++ drop (i + 1) rows
changed_more row f rows xs i d z h k inv made =
    map-set row xs i z ∙ ap (set (map row xs) i) made
    ∙ map_over_more f rows (map row xs) i (row (get_or xs i d)) h inv (sym (get_or-map row xs i d (row (get_or xs i d)) k))

-- the end of such a loop
pub changed_all : {Y : Type 0} (f : Y → Y) (rows ys : List Y) (i : ℕ) → length rows ≤ i → ys ≡ map f (take i rows) ++ drop i rows → ys ≡ map f rows
changed_all f rows ys i h inv =
    inv ∙ ap (λ l. map f l ++ drop i rows) (take_all i rows h) ∙ ap (λ l. map f rows ++ l) (drop_all i rows h) ∙ append-nil (map f rows)

module _ (actors : List Actor) (channels : List Channel) (l : lawful (table_from actors channels) ≡ true) where
  abbrev pub was : Table
  was = table_from actors channels

  pub few_actors : length actors ≤ 64
  few_actors = let n = length-map actors actor_row in let p = (lawful_parts was l).few_actors in omega arith

  pub few_channels : length channels ≤ 128
  few_channels = let n = length-map channels channel_row in let p = (lawful_parts was l).few_channels in omega arith

  module _ (a : ActorRow) (x : Actor) (after : List Actor) (is : actor_row x ≡ a) (e : after ≡ actors ++ x ∷ []) where
    pub actor_added_lem : table_from after channels ≡ (add_actor a).made was
    actor_added_lem =
        ap (λ rows. table_from rows channels) e
        ∙ ap (λ rows. record { actors = rows; channels = map channel_row channels }) (map_push actor_row actors x ∙ ap (λ r. map actor_row actors ++ r ∷ []) is)

    pub actor_added_lawful : (add_actor a).fault was ≡ None → lawful (table_from after channels) ≡ true
    actor_added_lawful none = ap lawful actor_added_lem ∙ lawful_with_actor was l a none

  module _ (i : ℕ) (after : List Channel) (e : after ≡ remove channels i) where
    pub channel_cut_lem : table_from actors after ≡ (cut_channel i).made was
    channel_cut_lem =
        ap (λ rows. table_from actors rows) e
        ∙ ap (λ rows. record { actors = map actor_row actors; channels = rows }) (map_removed channel_row channels i)

    pub channel_cut_lawful : (cut_channel i).fault was ≡ None → lawful (table_from actors after) ≡ true
    channel_cut_lawful none = ap lawful channel_cut_lem ∙ lawful_without_channel was l i none

  module _ (i : ℕ) (left : List Actor) (after : List Channel) (e : left ≡ remove actors i) (f : map channel_row after ≡ map (renumbered_ends i) (map channel_row channels)) where
    pub actor_cut_lem : table_from left after ≡ (cut_actor i).made was
    actor_cut_lem =
        ap (λ rows. table_from rows after) e
        ∙ ap (λ rows. record { actors = rows; channels = map channel_row after }) (map_removed actor_row actors i)
        ∙ ap (λ rows. record { actors = remove (map actor_row actors) i; channels = rows }) f

    pub actor_cut_lawful : (cut_actor i).fault was ≡ None → lawful (table_from left after) ≡ true
    actor_cut_lawful none = ap lawful actor_cut_lem ∙ lawful_without_actor was l i none

-- a row read by its number, or the fault where there is none
pub row_read : {X Y F : Type 0} (row : X → Y) (xs : List X) (i : ℕ) (f : F) (o : Option (Bor X)) → is_some o ≡ ltb i (length xs)
    → IfSome o (λ x. x.now ≡ get_or xs i x.now)
    → MatchResult (ok_or (option_copied o) f) (λ x. slice_get (map row xs) i ≡ Some (row x)) (λ g. (slice_get (map row xs) i ≡ None) × (g ≡ f))
row_read row xs i f None found is = (slice_get-map row xs i ∙ ap (option_map row) (slice_get_past xs i (ltb-false i (length xs) (sym found))), refl)
row_read row xs i f (Some x) found is =
    slice_get-map row xs i ∙ ap (option_map row) (slice_get_read xs (length xs) i x.now refl (ltb-true i (length xs) (sym found)) is)
