use Rattle.std.proofs.lemmas.Grind.{common_steps}
use Rattle.std.proofs.Common.{◌≡◌, ℕ, ◌+◌, ◌-◌, ◌<◌, ◌≤◌, List, [], ◌∷◌, ◌++◌, length, take, drop, set, refl, ap, ◌∙◌, append-nil, arith, length-append}
use Rattle.std.specs.List.{flat_map}
use Rattle.std.proofs.lemmas.List.{drop_all}
use Rattle.table.specs.Tables.{table_of}
use Rattle.words.specs.Format.{word_of, actor_words, channel_words, row_words}
use Rattle.word_save.specs.Saves.{written}
use Rattle.word_save.proofs.Encoded.{actors_encoded, channels_encoded, actors_fit, channels_fit, whole_size, sizes}
use Rattle.word_save.proofs.Written.{length_written, written_from, written_one, then_written}
use Rattle.word_save.proofs.save.write_table.Goals as goal

-- two lists of words, written one after the other, and a last word after them
module _ (xs ys was first : List ℕ) (n : ℕ) (size : length was ≡ length xs + length ys + 1) (e : first ≡ written 0 xs was) (is : n ≡ length xs) where
  rest_room : length ys ≤ length (take (length first - n) (drop n first))
  rest_room = grind (arith, common_steps, length_written 0 xs was)

  module _ (part : List ℕ) (m : ℕ) (f : part ≡ written 0 ys (take (length first - n) (drop n first))) (js : m ≡ length ys) where
    abbrev both : List ℕ
    both = take n first ++ (part ++ drop (length first - n) (drop n first))

    both_written : both ≡ written 0 (xs ++ ys) was
    both_written = then_written 0 n xs ys was first both (omega arith) e (omega arith) (written_from n (length first - n) ys first part refl f)

    last_room : n + m < length both
    last_room = grind (arith, both_written, length_written 0 (xs ++ ys) was, length-append xs ys)

    all_written : (w : ℕ) → set both (n + m) w ≡ (xs ++ ys) ++ w ∷ []
    all_written w =
        let joined = length-append xs ys in
        let one = length-append (xs ++ ys) (w ∷ []) in
        then_written 0 (n + m) (xs ++ ys) (w ∷ []) was both _ (omega arith) both_written (omega arith) (written_one (n + m) w both last_room)
        ∙ ap (λ l. ((xs ++ ys) ++ w ∷ []) ++ l) (drop_all (0 + length ((xs ++ ys) ++ w ∷ [])) was (omega arith))
        ∙ append-nil ((xs ++ ys) ++ w ∷ [])

pub write_rows-channels_from-requires-clause-fit : goal.write_rows-channels_from-requires-clause-fit
write_rows-channels_from-requires-clause-fit c = actors_fit (table_of c.args.rows.now) c.args.rows.now.accepted c.actors.result.now c.actors.ensures

pub write_rows-channels_from-requires-clause-room : goal.write_rows-channels_from-requires-clause-room
write_rows-channels_from-requires-clause-room c =
    let t = table_of c.args.rows.now in
    let whole = whole_size t in
    let actors = ap length (actors_encoded t c.actors.result.now c.actors.ensures) in
    let all = c.requires in
    omega arith

pub write_rows-requires-clause-fit : goal.write_rows-requires-clause-fit
write_rows-requires-clause-fit c = channels_fit (table_of c.args.rows.now) c.args.rows.now.accepted c.channels.result.now c.channels.ensures

pub write_rows-requires-clause-room : goal.write_rows-requires-clause-room
write_rows-requires-clause-room c =
    let s = sizes (table_of c.args.rows.now) c.args.rows.now.accepted _ _ c.actors.ensures c.channels.ensures in
    rest_room _ _ c.args.out.now c.write_rows-channels_from.new.out c.write_rows-channels_from.result (c.requires ∙ s.whole) c.write_rows-channels_from.ensures.out
    c.write_rows-channels_from.ensures.size

pub overflow_cast-end : goal.overflow_cast-end
overflow_cast-end c =
    let s = sizes (table_of c.args.rows.now) c.args.rows.now.accepted _ _ c.actors.ensures c.channels.ensures in
    let few = s.few in
    let size = c.write_rows-channels_from.ensures.size in
    let more = c.write_rows.ensures.size in
    omega arith

pub word_of-requires : goal.word_of-requires
word_of-requires c =
    let s = sizes (table_of c.args.rows.now) c.args.rows.now.accepted _ _ c.actors.ensures c.channels.ensures in
    let few = s.few in
    let size = c.write_rows-channels_from.ensures.size in
    let more = c.write_rows.ensures.size in
    omega arith

pub bounds-out-end : goal.bounds-out-end
bounds-out-end c =
    let s = sizes (table_of c.args.rows.now) c.args.rows.now.accepted _ _ c.actors.ensures c.channels.ensures in
    last_room _ _ c.args.out.now c.write_rows-channels_from.new.out c.write_rows-channels_from.result (c.requires ∙ s.whole) c.write_rows-channels_from.ensures.out
    c.write_rows-channels_from.ensures.size c.write_rows.new.out c.write_rows.result c.write_rows.ensures.out c.write_rows.ensures.size

pub returns : goal.returns
returns c =
    let t = table_of c.args.rows.now in
    let s = sizes t c.args.rows.now.accepted _ _ c.actors.ensures c.channels.ensures in
    let actors = actors_encoded t c.actors.result.now c.actors.ensures in
    let channels = channels_encoded t c.channels.result.now c.channels.ensures in
    let joined = length-append (flat_map actor_words t.actors) (flat_map channel_words t.channels) in
    let size = c.write_rows-channels_from.ensures.size ∙ ap length actors in
    let more = c.write_rows.ensures.size ∙ ap length channels in
    let count : c.write_rows-channels_from.result + c.write_rows.result ≡ length (row_words t) = omega arith in
    let end = c.word_of.ensures ∙ ap (word_of 7) count in
    all_written _ _ c.args.out.now c.write_rows-channels_from.new.out c.write_rows-channels_from.result (c.requires ∙ s.whole) c.write_rows-channels_from.ensures.out
    c.write_rows-channels_from.ensures.size c.write_rows.new.out c.write_rows.result c.write_rows.ensures.out c.write_rows.ensures.size _
    ∙ (λ i. (actors i ++ channels i) ++ end i ∷ [])
