-- The words before a fault begin a table: the record under way can be completed.
use Rattle.std.proofs.lemmas.Grind.{common_steps}
use Rattle.std.proofs.Common.{◌≡◌, ℕ, zero, suc, ◌+◌, ◌-◌, ◌<◌, ◌≤◌, Bool, true, false, List, [], ◌∷◌, ◌++◌, map, length, take, drop, replicate, Some, None, sym, refl, ap, ◌∙◌, subst, append_assoc, append-nil, arith, length-append, length-drop, take-append-drop}
use mathlib.Core.List.{map-append}
use lib.ListN.{length-replicate}
use Rattle.std.proofs.lemmas.List.{length-map, length-take-le, take_at}
use Rattle.std.proofs.ByRecursion.{All-push}
use Rattle.rows.specs.declared.row.Placement.TheVariants.{Free}
use Rattle.std.specs.List.{list_all, slice_get}
use Rattle.rows.specs.Table.{ActorRow, ChannelRow, Table, actor_with, channel_with, lawful, add_actor, add_channel}
use Rattle.table.proofs.Lawful.{lawful_parts}
use Rattle.words.specs.Format.{kind_of, content_of, word_of, actor_words, channel_words, ends_content, row_words}
use Rattle.words.specs.Fitting.{small, ActorFits, ChannelFits}
use Rattle.word_laws.specs.Offends.{Shaped, Begins, Unfinished, MayEnd}
use Rattle.words.specs.Records.{numbers_fault, writer_in, reader_in, writes_in, reads_in}
use Rattle.words.specs.Loads.{has_channels}
use Rattle.words.proofs.Bits.{word_again, writer_small, reader_small, writes_small, reads_small, ends_again}
use Rattle.word_laws.proofs.Places.{drop_there, Numbers, numbers_there}
use Rattle.words.proofs.Fits.{channel_few, rows_bound}
use Rattle.word_laws.proofs.Reading.{actors_fit, channels_fit, words_with_actor, words_with_channel, Sofar}

-- a lawful table is shaped

pub lawful_shaped : (t : Table) → lawful t ≡ true → Shaped t
lawful_shaped t e =
    let l = lawful_parts t e in
    record {
      actors_fit = actors_fit t.actors l.good_actors;
      channels_fit = channels_fit t.actors l.few_actors l.good_actors t.channels l.good_channels;
      few_words = omega (arith, rows_bound t e);
    }

-- and so it is with one more row that fits

shaped_with_actor : (t : Table) → lawful t ≡ true → (a : ActorRow) → ActorFits a → row_words ((add_actor a).made t) ≡ row_words t ++ actor_words a → Shaped ((add_actor a).made t)
shaped_with_actor t e a f w = grind (arith, common_steps, lawful_shaped, rows_bound)

shaped_with_channel : (t : Table) → lawful t ≡ true → (c : ChannelRow) → ChannelFits c → Shaped ((add_channel c).made t)
shaped_with_channel t e c f =
    let s = lawful_shaped t e in
    let n = rows_bound t e in
    let m = channel_few c f in
    let k = ap length (words_with_channel t c) ∙ length-append (row_words t) (channel_words c) in
    record { actors_fit = s.actors_fit; channels_fit = All-push ChannelFits t.channels c s.channels_fit f; few_words = omega arith }

-- words that begin a table

pub begins_front : (xs ys : List ℕ) → Begins (xs ++ ys) → Begins xs
begins_front xs ys b = grind (arith, common_steps)

pub unfinished_begins : (xs : List ℕ) → Unfinished xs → Begins xs
unfinished_begins xs u = begins_front xs (u.next ∷ []) u.begins

rows_begin : (t : Table) → Shaped t → (front rest : List ℕ) → row_words t ≡ front ++ rest → Begins front
rows_begin t s front rest e =
    let z = word_of 7 (length (row_words t)) ∷ [] in
    record { table = t; shaped = s; more = rest ++ z; written = sym (append_assoc front rest z) ∙ ap (λ l. l ++ z) (sym e) }

module _ (ws : List ℕ) (h : ℕ) (t : Table) (s : Sofar ws h t) where
  pub rows_taken : take h ws ≡ row_words t
  rows_taken = ap (take h) s.words ∙ take_at (row_words t) (drop h ws) h (sym s.here)

  pub h_within : h ≤ length ws
  h_within = let n = ap length s.words ∙ length-append (row_words t) (drop h ws) in let k = s.here in omega arith

  -- the table may end after its rows
  pub may_end : MayEnd ws h
  may_end = grind (arith, lawful_shaped, append-nil, rows_taken)

  pub rows_unfinished : Unfinished (take h ws)
  rows_unfinished = record { next = word_of 7 h; begins = may_end }

  -- a record under way: its head and some of its numbers
  front_taken : (w : ℕ) (xs more : List ℕ) → drop h ws ≡ w ∷ (map (word_of 3) xs ++ more) → take (suc h + length xs) ws ≡ row_words t ++ (w ∷ map (word_of 3) xs)
  front_taken w xs more e =
      let front = w ∷ map (word_of 3) xs in
      let n = length-append (row_words t) front in
      let m = length-map xs (word_of 3) in
      let k = s.here in
      let long : length (row_words t ++ front) ≡ suc h + length xs = omega arith in
      ap (take (suc h + length xs)) (s.words ∙ ap (λ l. row_words t ++ l) e ∙ sym (append_assoc (row_words t) front more))
      ∙ take_at (row_words t ++ front) more (suc h + length xs) long

  under_way : (w p : ℕ) (xs ys : List ℕ) → take p ws ≡ row_words t ++ (w ∷ map (word_of 3) xs) → (u : Table) → Shaped u
      → row_words u ≡ row_words t ++ (w ∷ map (word_of 3) (xs ++ 0 ∷ ys)) → Unfinished (take p ws)
  under_way w p xs ys taken u shaped e =
      let n = word_of 3 0 in
      let rest = map (word_of 3) ys in
      let x = row_words t in
      let y = w ∷ map (word_of 3) xs in
      record {
        next = n;
        begins =
            rows_begin u shaped (take p ws ++ n ∷ []) rest
            (e ∙ ap (λ l. x ++ (w ∷ l)) (map-append (word_of 3) xs (0 ∷ ys)) ∙ sym (append_assoc x y (n ∷ rest)) ∙ sym (append_assoc (x ++ y) (n ∷ []) rest)
            ∙ ap (λ l. (l ++ n ∷ []) ++ rest) (sym taken));
      }

-- numbers, completed by zeros

zeros_small : (k : ℕ) → list_all small (replicate k 0) ≡ true
zeros_small zero = refl
zeros_small (suc k) = zeros_small k

list_all_join : {X : Type 0} (test : X → Bool) (xs ys : List X) → list_all test xs ≡ true → list_all test ys ≡ true → list_all test (xs ++ ys) ≡ true
list_all_join test xs ys e f = grind (arith, common_steps)

list_all_parts : {X : Type 0} (test : X → Bool) (xs ys : List X) → list_all test (xs ++ ys) ≡ true → (list_all test xs ≡ true) × (list_all test ys ≡ true)
list_all_parts test xs ys e = grind (arith, common_steps)

record Filled (xs : List ℕ) (n : ℕ) : Type 0 where
  ys : List ℕ
  long : length (xs ++ 0 ∷ ys) ≡ n
  all_small : list_all small (xs ++ 0 ∷ ys) ≡ true

filled : (xs : List ℕ) (n : ℕ) → length xs < n → list_all small xs ≡ true → Filled xs n
filled xs n l e =
    let k = n - suc (length xs) in
    let ys = replicate k 0 in
    let a = length-append xs (0 ∷ ys) in
    let b : length ys ≡ k = length-replicate k 0 in
    record { ys = ys; long = omega arith; all_small = list_all_join small xs (0 ∷ ys) e (zeros_small k) }

module _ (ws : List ℕ) (h : ℕ) (t : Table) (s : Sofar ws h t) (w : ℕ) (stands : slice_get ws h ≡ Some w) (j : ℕ) (found : numbers_fault ws (suc h) j ≡ None) where
  numbers_taken : (ns : Numbers ws (suc h) j) → take (suc h + j) ws ≡ row_words t ++ (w ∷ map (word_of 3) ns.numbers)
  numbers_taken ns = grind (arith, front_taken, drop_there)

  pub actor_under_way : kind_of w ≡ 1 → has_channels t ≡ false → content_of w < 256 → j < content_of w → Unfinished (take (suc h + j) ws)
  actor_under_way k early few l =
      let ns = numbers_there ws (suc h) j found in
      let xs = ns.numbers in
      let n = content_of w in
      let fill = filled xs n (subst (λ i. i < n) (sym ns.many) l) ns.small_ones in
      let full = xs ++ 0 ∷ fill.ys in
      let a = actor_with full None Free in
      let fits : ActorFits a = record { few = subst (λ i. i < 256) (sym fill.long) few; times_small = fill.all_small; tick_small = refl; pin_small = refl } in
      let words : actor_words a ≡ w ∷ map (word_of 3) full =
      ap (λ i. word_of 1 i ∷ (map (word_of 3) full ++ [])) fill.long
      ∙ ap (λ i. i ∷ (map (word_of 3) full ++ [])) (sym (word_again w 1 k)) ∙ ap (λ l. w ∷ l) (append-nil (map (word_of 3) full)) in
      let with_row = words_with_actor t a early in
      under_way ws h t s w (suc h + j) xs fill.ys (numbers_taken ns) ((add_actor a).made t) (shaped_with_actor t s.good a fits with_row)
      (with_row ∙ ap (λ l. row_words t ++ l) words)

  pub channel_under_way : kind_of w ≡ 2 → content_of w < 16777216 → j < writes_in (content_of w) + reads_in (content_of w) → Unfinished (take (suc h + j) ws)
  channel_under_way k low l =
      let ns = numbers_there ws (suc h) j found in
      let xs = ns.numbers in
      let content = content_of w in
      let n = writes_in content in
      let m = reads_in content in
      let few_n = writes_small content in
      let few_m = reads_small content in
      let fill = filled xs (n + m) (subst (λ i. i < n + m) (sym ns.many) l) ns.small_ones in
      let full = xs ++ 0 ∷ fill.ys in
      let long = fill.long in
      let whole = take-append-drop n full in
      let writes = take n full in
      let reads = drop n full in
      let n_long : length writes ≡ n = length-take-le n full (omega arith) in
      let m_long : length reads ≡ m = length-drop n full ∙ (let z : length full - n ≡ m = omega arith in z) in
      let parts = list_all_parts small writes reads (ap (list_all small) whole ∙ fill.all_small) in
      let c = channel_with (writer_in content) (reader_in content) writes reads None in
      let fits : ChannelFits c =
      record {
        writer_small = writer_small content;
        reader_small = reader_small content;
        few_writes = omega arith;
        few_reads = omega arith;
        writes_small = parts.0;
        reads_small = parts.1;
        ceiling_small = refl;
      } in
      let x = map (word_of 3) writes in
      let y = map (word_of 3) reads in
      let words : channel_words c ≡ w ∷ map (word_of 3) full =
      (λ i. word_of 2 (ends_content (writer_in content) (reader_in content) (n_long i) (m_long i)) ∷ (x ++ (y ++ [])))
      ∙ ap (λ i. word_of 2 i ∷ (x ++ (y ++ []))) (sym (ends_again content low))
      ∙ ap (λ i. i ∷ (x ++ (y ++ []))) (sym (word_again w 2 k))
      ∙ ap (λ l. w ∷ (x ++ l)) (append-nil y)
      ∙ ap (λ l. w ∷ l) (sym (map-append (word_of 3) writes reads) ∙ ap (map (word_of 3)) whole) in
      under_way ws h t s w (suc h + j) xs fill.ys (numbers_taken ns) ((add_channel c).made t) (shaped_with_channel t s.good c fits)
      (words_with_channel t c ∙ ap (λ l. row_words t ++ l) words)
