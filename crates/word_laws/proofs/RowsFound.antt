-- A record that is read is that of a row, or the end.
use Rattle.std.proofs.lemmas.Grind.{common_steps}
use Rattle.std.proofs.Common.{◌≡◌, ℕ, suc, ◌+◌, ◌<◌, Bool, false, List, [], ◌∷◌, ◌++◌, map, length, drop, Some, Ok, Option, sym, refl, ap, ◌∙◌, subst, append_assoc, arith}
use Rattle.std.proofs.lemmas.List.{drop_all}
use Rattle.std.specs.List.{slice_get}
use Rattle.rows.specs.Table.{ActorRow, ChannelRow, actor_with, channel_with, pin_of, placed}
use Rattle.words.specs.Format.{kind_of, content_of, word_of, option_words, actor_words, ends_content, channel_words}
use Rattle.words.specs.Fitting.{small_if, ActorFits, ChannelFits}
use Rattle.words.specs.Records.{Part, actor_part, channel_part, end_part, given, past, writer_in, reader_in, writes_in, reads_in, record_at}
use Rattle.words.proofs.Whole.{ActorRead, ChannelRead, EndRead, read_as}
use Rattle.words.proofs.Bits.{word_again, writer_small, reader_small, writes_small, reads_small, ends_again}
use Rattle.word_laws.proofs.Places.{drop_there, between_front, given_fits, given_there, numbers_part, numbers_there}
use Rattle.word_laws.proofs.RowRecords.{actor_past, channel_past}

-- the words from a head on
head_there : (ws : List ℕ) (h w : ℕ) → slice_get ws h ≡ Some w → (k : ℕ) → kind_of w ≡ k → drop h ws ≡ word_of k (content_of w) ∷ drop (suc h) ws
head_there ws h w is k e = drop_there ws h w is ∙ ap (λ x. x ∷ drop (suc h) ws) (word_again w k e)

pinned_again : (o : Option ℕ) → pin_of (placed o) ≡ o
pinned_again o = grind arith

-- an actor

pub record FoundActor (b : Bool) (ws : List ℕ) (h : ℕ) (part : List ℕ) : Type 0 where
  pub row : ActorRow
  pub fits : ActorFits row
  pub early : b ≡ false
  pub words : part ≡ actor_words row
  pub there : drop h ws ≡ actor_words row ++ drop (h + length part) ws

lists_joined : (x y z more : List ℕ) → x ++ (y ++ (z ++ more)) ≡ (x ++ (y ++ z)) ++ more
lists_joined x y z more = sym (append_assoc x (y ++ z) more ∙ ap (λ l. x ++ l) (append_assoc y z more))

actor_joined : (n : ℕ) (ts : List ℕ) (o p : Option ℕ) (more : List ℕ) → length ts ≡ n
    → word_of 1 n ∷ (map (word_of 3) ts ++ (option_words 4 o ++ (option_words 5 p ++ more))) ≡ actor_words (actor_with ts o (placed p)) ++ more
actor_joined n ts o p more long = grind (arith, common_steps)

module _ (b : Bool) (ws : List ℕ) (h : ℕ) (part : List ℕ) (r : ActorRead b ws h part) where
  actor_found : FoundActor b ws h part
  actor_found =
      let n = content_of r.head in
      let j = suc h + n in
      let stop = past ws (past ws j 4) 5 in
      let ts = numbers_there ws (suc h) n r.numbers in
      let o = given ws j 4 in
      let g = given ws (past ws j 4) 5 in
      let a = actor_with ts.numbers o (placed g) in
      let long = ts.many in
      let few = r.few in
      let stop_is = actor_past a ws h j (ap (λ k. suc h + k) (sym long)) refl (sym (pinned_again g)) in
      let from : drop h ws ≡ actor_words a ++ drop stop ws =
      head_there ws h r.head r.stands 1 r.kind
      ∙ ap (λ l. word_of 1 n ∷ l)
      (ts.words ∙ ap (λ l. map (word_of 3) ts.numbers ++ l) (given_there ws j 4 ∙ ap (λ l. option_words 4 o ++ l) (given_there ws (past ws j 4) 5)))
      ∙ actor_joined n ts.numbers o g (drop stop ws) long in
      let is = sym r.is ∙ between_front ws h stop (actor_words a) (drop stop ws) from stop_is in
      let after : stop ≡ h + length part = stop_is ∙ ap (λ l. h + length l) (sym is) in
      record {
        row = a;
        fits =
            record {
              few = omega arith;
              times_small = ts.small_ones;
              tick_small = given_fits ws j 4;
              pin_small = ap small_if (pinned_again g) ∙ given_fits ws (past ws j 4) 5;
            };
        early = r.first;
        words = is;
        there = from ∙ ap (λ i. actor_words a ++ drop i ws) after;
      }

-- a channel

pub record FoundChannel (ws : List ℕ) (h : ℕ) (part : List ℕ) : Type 0 where
  pub row : ChannelRow
  pub fits : ChannelFits row
  pub words : part ≡ channel_words row
  pub there : drop h ws ≡ channel_words row ++ drop (h + length part) ws

module _ (ws : List ℕ) (h : ℕ) (part : List ℕ) (r : ChannelRead ws h part) where
  channel_found : FoundChannel ws h part
  channel_found =
      let content = content_of r.head in
      let n = writes_in content in
      let m = reads_in content in
      let j = suc h + n in
      let k = suc h + (n + m) in
      let stop = past ws k 6 in
      let s = numbers_part ws (suc h) n m r.numbers in
      let xs = numbers_there ws (suc h) n s.0 in
      let ys = numbers_there ws j m s.1 in
      let o = given ws k 6 in
      let c = channel_with (writer_in content) (reader_in content) xs.numbers ys.numbers o in
      let x = map (word_of 3) xs.numbers in
      let y = map (word_of 3) ys.numbers in
      let u = xs.many in
      let v = ys.many in
      let jm : j + m ≡ k = omega arith in
      let stop_is = channel_past c ws h j k (ap (λ i. suc h + i) (sym u)) (sym jm ∙ ap (λ i. j + i) (sym v)) refl in
      let from : drop h ws ≡ channel_words c ++ drop stop ws =
      head_there ws h r.head r.stands 2 r.kind
      ∙ ap (λ i. word_of 2 i ∷ drop (suc h) ws) (ends_again content r.few)
      ∙ (λ i. word_of 2 (ends_content (writer_in content) (reader_in content) (sym u i) (sym v i)) ∷ drop (suc h) ws)
      ∙ ap (λ l. word_of 2 (ends_content (writer_in content) (reader_in content) (length xs.numbers) (length ys.numbers)) ∷ l)
      (xs.words ∙ ap (λ l. x ++ l) (ys.words ∙ ap (λ l. y ++ l) (ap (λ i. drop i ws) jm ∙ given_there ws k 6)) ∙ lists_joined x y (option_words 6 o) (drop stop ws)) in
      let is = sym r.is ∙ between_front ws h stop (channel_words c) (drop stop ws) from stop_is in
      let after : stop ≡ h + length part = stop_is ∙ ap (λ l. h + length l) (sym is) in
      record {
        row = c;
        fits =
            record {
              writer_small = writer_small content;
              reader_small = reader_small content;
              few_writes = subst (λ i. i < 16) (sym u) (writes_small content);
              few_reads = subst (λ i. i < 16) (sym v) (reads_small content);
              writes_small = xs.small_ones;
              reads_small = ys.small_ones;
              ceiling_small = given_fits ws k 6;
            };
        words = is;
        there = from ∙ ap (λ i. channel_words c ++ drop i ws) after;
      }

-- the end

end_found : (ws : List ℕ) (h : ℕ) (part : List ℕ) → EndRead ws h part → drop h ws ≡ word_of 7 h ∷ []
end_found ws h part r =
    let last = r.last in
    head_there ws h r.head r.stands 7 r.kind ∙ (λ i. word_of 7 (r.count i) ∷ drop_all (suc h) ws (omega arith) i)

-- any record

abbrev pub Found : Bool → List ℕ → ℕ → Part → Type 0
Found b ws h (actor_part part) = FoundActor b ws h part
Found b ws h (channel_part part) = FoundChannel ws h part
Found b ws h (end_part part) = drop h ws ≡ word_of 7 h ∷ []

pub record_found : (b : Bool) (ws : List ℕ) (h : ℕ) (p : Part) → record_at b ws h ≡ Ok p → Found b ws h p
record_found b ws h (actor_part part) e = actor_found b ws h part (read_as b ws h (actor_part part) e)
record_found b ws h (channel_part part) e = channel_found ws h part (read_as b ws h (channel_part part) e)
record_found b ws h (end_part part) e = end_found ws h part (read_as b ws h (end_part part) e)
