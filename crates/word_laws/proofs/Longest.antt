-- A record that is read is the longest row that the words go on with.
use Rattle.std.proofs.lemmas.Grind.{common_steps}
use Rattle.std.proofs.lemmas.Option.{gets}
use Rattle.std.proofs.Common.{◌≡◌, ℕ, suc, ◌+◌, ◌≤◌, Bool, true, false, List, ◌++◌, length, take, drop, Ok, Option, sym, refl, ap, ◌∙◌, arith}
use Rattle.std.specs.List.{between}
use Rattle.std.proofs.lemmas.List.{take_at}
use Rattle.rows.specs.Table.{ActorRow, ChannelRow}
use Rattle.words.specs.Format.{option_words, actor_words, channel_words}
use Rattle.words.specs.Fitting.{small_if, ActorFits, ChannelFits}
use Rattle.word_laws.specs.Offends.{First}
use Rattle.words.specs.Records.{actor_part, channel_part, past, record_at}
use Rattle.word_laws.proofs.Places.{drop_past, given_from}
use Rattle.word_laws.proofs.RowRecords.{after_times_lem, after_reads_lem, actor_there, channel_there}
use Rattle.word_laws.proofs.RowsFound.{record_found}

-- words that may be left out

option_least : (ws : List ℕ) (i k : ℕ) (o : Option ℕ) (more : List ℕ) → drop i ws ≡ option_words k o ++ more → small_if o ≡ true
    → i + length (option_words k o) ≤ past ws i k
option_least ws i k o more e s = grind (arith, common_steps, gets)

options_least : (ws : List ℕ) (j : ℕ) (o p : Option ℕ) (more : List ℕ) → drop j ws ≡ option_words 4 o ++ (option_words 5 p ++ more)
    → small_if o ≡ true → small_if p ≡ true → j + length (option_words 4 o) + length (option_words 5 p) ≤ past ws (past ws j 4) 5
options_least ws j o p more e s u = grind (arith, drop_past, given_from)

-- the records

pub actor_longest : (ws : List ℕ) (h : ℕ) (part : List ℕ) (a : ActorRow) (rest : List ℕ) → record_at false ws h ≡ Ok (actor_part part) → ActorFits a
    → drop h ws ≡ actor_words a ++ rest → length (actor_words a) ≤ length part
actor_longest ws h part a rest r f e = grind (arith, common_steps, gets, options_least, after_times_lem, actor_there)

pub channel_longest : (b : Bool) (ws : List ℕ) (h : ℕ) (part : List ℕ) (c : ChannelRow) (rest : List ℕ) → record_at b ws h ≡ Ok (channel_part part) → ChannelFits c
    → drop h ws ≡ channel_words c ++ rest → length (channel_words c) ≤ length part
channel_longest b ws h part c rest r f e =
    let k = suc h + (length c.writes + length c.reads) in
    let least = option_least ws k 6 c.ceiling rest (after_reads_lem c ws h (suc h + length c.writes) k rest e f refl (omega arith)) f.ceiling_small in
    let is : between h (past ws k 6) ws ≡ part = cc (channel_there c f b ws h rest e) in
    grind (arith, common_steps, gets)

-- and the longest row is read

same_front : (words x y more rest : List ℕ) → words ≡ x ++ more → words ≡ y ++ rest → length x ≡ length y → x ≡ y
same_front words x y more rest e d l =
    sym (take_at x more (length y) l) ∙ ap (take (length y)) (sym e ∙ d) ∙ take_at y rest (length y) refl

module _ (ws : List ℕ) (h : ℕ) where
  pub first_actor : (a : ActorRow) → First ActorFits actor_words (drop h ws) a → record_at false ws h ≡ Ok (actor_part (actor_words a))
  first_actor a f =
      let part = between h (past ws (past ws (suc h + length a.times) 4) 5) ws in
      let r = actor_there a ws h f.more f.written f.fits in
      let g = record_found false ws h (actor_part part) r in
      let least = actor_longest ws h part a f.more r f.fits f.written in
      let most = f.longest g.row (drop (h + length part) ws) g.fits g.there in
      let size = ap length g.words in
      let same = same_front (drop h ws) (actor_words g.row) (actor_words a) (drop (h + length part) ws) f.more g.there f.written (omega arith) in
      r ∙ ap (λ l. Ok (actor_part l)) (g.words ∙ same)

  pub first_channel : (b : Bool) (c : ChannelRow) → First ChannelFits channel_words (drop h ws) c → record_at b ws h ≡ Ok (channel_part (channel_words c))
  first_channel b c f =
      let part = between h (past ws (suc h + (length c.writes + length c.reads)) 6) ws in
      let r = channel_there c f.fits b ws h f.more f.written in
      let g = record_found b ws h (channel_part part) r in
      let least = channel_longest b ws h part c f.more r f.fits f.written in
      let most = f.longest g.row (drop (h + length part) ws) g.fits g.there in
      let size = ap length g.words in
      let same = same_front (drop h ws) (channel_words g.row) (channel_words c) (drop (h + length part) ws) f.more g.there f.written (omega arith) in
      r ∙ ap (λ l. Ok (channel_part l)) (g.words ∙ same)
