-- The record of a row is read as the words of that row, and these as the row.
use Rattle.std.proofs.lemmas.Grind.{common_steps}
use Rattle.std.proofs.lemmas.Option.{gets}
use Rattle.std.proofs.Common.{◌≡◌, ℕ, suc, ◌+◌, ◌<◌, Bool, true, false, eqb, List, [], ◌∷◌, ◌++◌, map, length, drop, None, Ok, sym, refl, ap, ◌∙◌, append_assoc, append-nil, arith}
use Rattle.std.specs.List.{between, flat_map, AllByRecursion}
use Rattle.std.proofs.lemmas.List.{length-map}
use Rattle.std.proofs.lemmas.Bool.{lt-ltb}
use Rattle.rows.specs.declared.row.Placement.{Placement}
use Rattle.rows.specs.Table.{ActorRow, ChannelRow, actor_with, channel_with, pin_of, placed}
use Rattle.words.specs.Format.{content_of, word_of, option_words, actor_words, ends_content, channel_words}
use Rattle.words.specs.Fitting.{small, ActorFits, ChannelFits}
use Rattle.words.specs.Records.{actor_part, channel_part, end_part, numbers_fault, given, past, writer_in, reader_in, writes_in, reads_in, record_at, actor_of, channel_of}
use Rattle.words.proofs.Bits.{writer_field, reader_field, writes_field, reads_field, ends_small}
use Rattle.word_laws.proofs.Places.{slice_get_head, drop_past, drop_next, between_front, kind_read, content_read, given_read, numbers_read, numbers_are, numbers_join}

-- words that do not go on the record before them

pub record Over (more : List ℕ) : Type 0 where
  pub no_tick : given more 0 4 ≡ None
  pub no_pin : given more 0 5 ≡ None
  pub no_ceiling : given more 0 6 ≡ None

pub over_none : Over []
over_none = record { no_tick = refl; no_pin = refl; no_ceiling = refl }

pub over_head : (k n : ℕ) (more : List ℕ) → small n ≡ true → eqb k 4 ≡ false → eqb k 5 ≡ false → eqb k 6 ≡ false → Over (word_of k n ∷ more)
over_head k n more s a b c = grind arith

placed_again : (p : Placement) → placed (pin_of p) ≡ p
placed_again p = grind arith

-- an actor

abbrev tick_words : ActorRow → List ℕ
tick_words a = option_words 4 a.not_before

abbrev pin_words : ActorRow → List ℕ
pin_words a = option_words 5 (pin_of a.placement)

abbrev row_from : List ℕ → ℕ → ℕ → ActorRow
row_from ws i j = actor_with (map content_of (between i j ws)) (given ws j 4) (placed (given ws (past ws j 4) 5))

-- the place after it
pub actor_past : (a : ActorRow) (ws : List ℕ) (h j : ℕ) → j ≡ suc h + length a.times → given ws j 4 ≡ a.not_before → given ws (past ws j 4) 5 ≡ pin_of a.placement
    → past ws (past ws j 4) 5 ≡ h + length (actor_words a)
actor_past a ws h j j_is g k = grind (arith, common_steps)

module _ (a : ActorRow) (ws : List ℕ) (h j : ℕ) (more : List ℕ) (e : drop h ws ≡ actor_words a ++ more) (f : ActorFits a) (j_is : j ≡ suc h + length a.times) where
  after_head : drop (suc h) ws ≡ map (word_of 3) a.times ++ (tick_words a ++ (pin_words a ++ more))
  after_head = grind (arith, drop_next, append_assoc)

  pub after_times_lem : drop j ws ≡ tick_words a ++ (pin_words a ++ more)
  after_times_lem = grind (arith, length-map, drop_past, after_head)

  actor_numbers : numbers_fault ws (suc h) (length a.times) ≡ None
  actor_numbers = grind (arith, numbers_read, after_head)

  module _ (o : Over more) where
    tick_read : given ws j 4 ≡ a.not_before
    tick_read = grind (arith, given_read, after_times_lem)

    after_tick : drop (past ws j 4) ws ≡ pin_words a ++ more
    after_tick = grind (arith, drop_past, after_times_lem, tick_read)

    pin_read : given ws (past ws j 4) 5 ≡ pin_of a.placement
    pin_read = given_read ws (past ws j 4) 5 (pin_of a.placement) more after_tick f.pin_small o.no_pin

    actor_row_lem : row_from ws (suc h) j ≡ a
    actor_row_lem =
        let p = numbers_are ws (suc h) j a.times (tick_words a ++ (pin_words a ++ more)) after_head f.times_small j_is in
        let q = tick_read in
        let r = ap placed pin_read ∙ placed_again a.placement in
        λ i. actor_with (p i) (q i) (r i)

    actor_part_lem : between h (past ws (past ws j 4) 5) ws ≡ actor_words a
    actor_part_lem = between_front ws h (past ws (past ws j 4) 5) (actor_words a) more e (actor_past a ws h j j_is tick_read pin_read)

-- its record is read, and where the words after it do not go on, it is all of the record
pub actor_there : (a : ActorRow) (ws : List ℕ) (h : ℕ) (more : List ℕ) → drop h ws ≡ actor_words a ++ more → ActorFits a
    → record_at false ws h ≡ Ok (actor_part (between h (past ws (past ws (suc h + length a.times) 4) 5) ws))
actor_there a ws h more e f =
    let n = length a.times in
    let stands = slice_get_head ws h (word_of 1 n) _ e in
    let numbers = actor_numbers a ws h (suc h + n) more e f refl in
    let few = f.few in
    grind (arith, kind_read 1 n, content_read 1 n)

pub actor_read : (a : ActorRow) (ws : List ℕ) (h : ℕ) (more : List ℕ) → drop h ws ≡ actor_words a ++ more → ActorFits a → Over more
    → record_at false ws h ≡ Ok (actor_part (actor_words a))
actor_read a ws h more e f o = grind (arith, common_steps, gets, actor_there, actor_part_lem)

pub actor_again : (a : ActorRow) → ActorFits a → actor_of (actor_words a) ≡ a
actor_again a f =
    let n = length a.times in
    let few : n < 256 = f.few in
    let low : n < 268435456 = omega arith in
    let c = content_read 1 n (lt-ltb n 268435456 low) in
    let j_is : suc n ≡ 1 + n = omega arith in
    ap (λ m. row_from (actor_words a) 1 (suc m)) c ∙ actor_row_lem a (actor_words a) 0 (suc n) [] (sym (append-nil (actor_words a))) f j_is over_none

-- a channel

abbrev pub ends : ChannelRow → ℕ
ends c = ends_content c.writer c.reader (length c.writes) (length c.reads)

abbrev ceiling_words : ChannelRow → List ℕ
ceiling_words c = option_words 6 c.ceiling

abbrev rates_from : List ℕ → ℕ → ℕ → List ℕ
rates_from ws i j = map content_of (between i j ws)

-- the place after it
pub channel_past : (c : ChannelRow) (ws : List ℕ) (h j k : ℕ) → j ≡ suc h + length c.writes → k ≡ j + length c.reads → given ws k 6 ≡ c.ceiling
    → past ws k 6 ≡ h + length (channel_words c)
channel_past c ws h j k j_is k_is g = grind (arith, common_steps)

module _ (c : ChannelRow) (ws : List ℕ) (h j k : ℕ) (more : List ℕ) (e : drop h ws ≡ channel_words c ++ more) (f : ChannelFits c)
    (j_is : j ≡ suc h + length c.writes) (k_is : k ≡ j + length c.reads) where
  after_ends : drop (suc h) ws ≡ map (word_of 3) c.writes ++ (map (word_of 3) c.reads ++ (ceiling_words c ++ more))
  after_ends = grind (arith, drop_next, append_assoc)

  after_writes_lem : drop j ws ≡ map (word_of 3) c.reads ++ (ceiling_words c ++ more)
  after_writes_lem = grind (arith, length-map, drop_past, after_ends)

  pub after_reads_lem : drop k ws ≡ ceiling_words c ++ more
  after_reads_lem = grind (arith, length-map, drop_past, after_writes_lem)

  channel_numbers : numbers_fault ws (suc h) (length c.writes + length c.reads) ≡ None
  channel_numbers = grind (arith, numbers_join, numbers_read, after_ends, after_writes_lem)

  module _ (o : Over more) where
    ceiling_read : given ws k 6 ≡ c.ceiling
    ceiling_read = given_read ws k 6 c.ceiling more after_reads_lem f.ceiling_small o.no_ceiling

    channel_row_lem : channel_with c.writer c.reader (rates_from ws (suc h) j) (rates_from ws j k) (given ws k 6) ≡ c
    channel_row_lem =
        let p = numbers_are ws (suc h) j c.writes (map (word_of 3) c.reads ++ (ceiling_words c ++ more)) after_ends f.writes_small j_is in
        let q = numbers_are ws j k c.reads (ceiling_words c ++ more) after_writes_lem f.reads_small k_is in
        let r = ceiling_read in
        λ i. channel_with c.writer c.reader (p i) (q i) (r i)

    channel_part_lem : between h (past ws k 6) ws ≡ channel_words c
    channel_part_lem = between_front ws h (past ws k 6) (channel_words c) more e (channel_past c ws h j k j_is k_is ceiling_read)

module _ (c : ChannelRow) (f : ChannelFits c) where
  ends_low : ends c < 16777216
  ends_low = ends_small c.writer c.reader (length c.writes) (length c.reads) f.writer_small f.reader_small f.few_writes f.few_reads

  pub ends_fit : small (ends c) ≡ true
  ends_fit = let p = ends_low in let q : ends c < 268435456 = omega arith in lt-ltb (ends c) 268435456 q

  writes_in_lem : writes_in (ends c) ≡ length c.writes
  writes_in_lem = writes_field c.writer c.reader (length c.writes) (length c.reads) f.writer_small f.reader_small f.few_writes f.few_reads

  reads_in_lem : reads_in (ends c) ≡ length c.reads
  reads_in_lem = reads_field c.writer c.reader (length c.writes) (length c.reads) f.writer_small f.reader_small f.few_writes f.few_reads

  writer_in_lem : writer_in (ends c) ≡ c.writer
  writer_in_lem = writer_field c.writer c.reader (length c.writes) (length c.reads) f.writer_small f.reader_small f.few_writes f.few_reads

  reader_in_lem : reader_in (ends c) ≡ c.reader
  reader_in_lem = reader_field c.writer c.reader (length c.writes) (length c.reads) f.writer_small f.reader_small f.few_writes f.few_reads

  pub channel_there : (b : Bool) (ws : List ℕ) (h : ℕ) (more : List ℕ) → drop h ws ≡ channel_words c ++ more
      → record_at b ws h ≡ Ok (channel_part (between h (past ws (suc h + (length c.writes + length c.reads)) 6) ws))
  channel_there b ws h more e =
      let n = length c.writes in
      let m = length c.reads in
      let stands = slice_get_head ws h (word_of 2 (ends c)) _ e in
      let kind = kind_read 2 (ends c) ends_fit in
      let content = content_read 2 (ends c) ends_fit in
      let low = ends_low in
      let u = writes_in_lem in
      let v = reads_in_lem in
      let numbers = channel_numbers c ws h (suc h + n) (suc h + (n + m)) more e f refl (omega arith) in
      grind arith

  pub channel_read : (b : Bool) (ws : List ℕ) (h : ℕ) (more : List ℕ) → drop h ws ≡ channel_words c ++ more → Over more
      → record_at b ws h ≡ Ok (channel_part (channel_words c))
  channel_read b ws h more e o = grind (arith, channel_there, channel_part_lem)

  pub channel_again : channel_of (channel_words c) ≡ c
  channel_again =
      let part = channel_words c in
      let n = length c.writes in
      let m = length c.reads in
      let q = content_read 2 (ends c) ends_fit in
      let w = ap writer_in q ∙ writer_in_lem in
      let r = ap reader_in q ∙ reader_in_lem in
      let u = ap writes_in q ∙ writes_in_lem in
      let v = ap reads_in q ∙ reads_in_lem in
      let j_is : suc n ≡ 1 + n = omega arith in
      (λ i. channel_with (w i) (r i) (rates_from part 1 (suc (u i))) (rates_from part (suc (u i)) (suc (u i) + v i)) (given part (suc (u i) + v i) 6))
      ∙ channel_row_lem c part 0 (suc n) (suc n + m) [] (sym (append-nil part)) f j_is refl over_none

-- the words of rows that fit do not go on the record before them

pub actors_over : (rows : List ActorRow) (more : List ℕ) → AllByRecursion ActorFits rows → Over more → Over (flat_map actor_words rows ++ more)
actors_over [] more f o = o
actors_over (a ∷ rows) more f o = grind arith

pub channels_over : (cs : List ChannelRow) (more : List ℕ) → AllByRecursion ChannelFits cs → Over more → Over (flat_map channel_words cs ++ more)
channels_over [] more f o = o
channels_over (c ∷ cs) more f o = over_head 2 (ends c) _ (ends_fit c f.0) refl refl refl

-- the end

pub end_read : (b : Bool) (ws : List ℕ) (h : ℕ) → drop h ws ≡ word_of 7 h ∷ [] → small h ≡ true → record_at b ws h ≡ Ok (end_part (between h (suc h) ws))
end_read b ws h e s = grind (arith, common_steps, gets)
