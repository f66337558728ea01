-- What a refusal of the words means.
use Rattle.std.proofs.Common.{◌≡◌, ℕ, zero, suc, ◌+◌, ◌<◌, ◌≤◌, true, false, not, eqb, List, [], ◌++◌, length, drop, Some, None, Ok, Err, Option, Result, sym, refl, ap, ◌∙◌, subst, arith}
use Rattle.std.proofs.lemmas.List.{drop_at, nil_from_length}
use Rattle.std.proofs.lemmas.Grind.{common_steps}
use Rattle.std.proofs.lemmas.Bool.{not-false, lt-ltb, eqb-true}
use Rattle.rows.specs.declared.fault.Fault.{Fault}
use Rattle.rows.specs.Table.{ActorRow, ChannelRow, Table, empty_table, lawful, add_actor, add_channel}
use Rattle.table.proofs.Lawful.{lawful_with_actor}
use Rattle.words.specs.declared.fault.WordFault.{WordFault}
use Rattle.words.specs.declared.fault.WordFault.TheVariants.{Missing}
use Rattle.words.specs.declared.fault.LoadFault.{LoadFault}
use Rattle.words.specs.declared.fault.LoadFault.TheVariants.{Word, Row}
use Rattle.words.specs.Format.{actor_words, channel_words, row_words, Describes}
use Rattle.words.specs.Fitting.{ActorFits, ChannelFits}
use Rattle.word_laws.specs.Offends.{First, WordRefused, RowRefused, actor_refused, channel_refused, RefusedBy, by_row, by_word}
use Rattle.words.specs.Records.{Part, actor_part, channel_part, end_part, record_at, actor_of, channel_of}
use Rattle.words.specs.Loads.{has_channels, rows_from, table_read}
use Rattle.word_laws.proofs.RowRecords.{Over, over_head, ends, ends_fit, actor_again, channel_again}
use Rattle.word_laws.proofs.RowsFound.{FoundActor, FoundChannel, record_found}
use Rattle.word_laws.proofs.Reading.{add_then, record_then, words_with_actor, Sofar, sofar_more, rows_pass}
use Rattle.word_laws.proofs.Reached.{Reached, start, past_actor, past_channel}
use Rattle.word_laws.proofs.Longest.{actor_longest, channel_longest, first_actor, first_channel}
use Rattle.word_laws.proofs.Offending.{head_missing, word_refused}

-- a refused row is the answer

module _ (ws : List ℕ) (t : Table) (f : Fault) (rest : List ℕ) (l : lawful t ≡ true) (e : ws ≡ row_words t ++ rest) where
  abbrev h : ℕ
  h = length (row_words t)

  after_rows : drop h ws ≡ rest
  after_rows = ap (drop h) e ∙ drop_at (row_words t) rest h refl

  actor_answer : (a : ActorRow) → t.channels ≡ [] → First ActorFits actor_words rest a → (add_actor a).fault t ≡ Some f → table_read ws ≡ Err (Row h f)
  actor_answer a none first bad =
      let n = length a.times in
      let few = first.fits.few in
      let low : n < 268435456 = omega arith in
      let over = subst Over (sym first.written) (over_head 1 n _ (lt-ltb n 268435456 low) refl refl refl) in
      let size = ap length first.written in
      let p = rows_pass ws t rest l e over (omega arith) in
      let part = actor_words a in
      let early : has_channels t ≡ false = ap (λ cs. not (eqb (length cs) 0)) none in
      p.same
      ∙ ap (λ b. record_then p.later ws h t (record_at b ws h)) early
      ∙ ap (record_then p.later ws h t) (first_actor ws h a (subst (λ x. First ActorFits actor_words x a) (sym after_rows) first))
      ∙ ap (λ r. add_then p.later ws h part ((add_actor r).made t) ((add_actor r).fault t)) (actor_again a first.fits)
      ∙ ap (add_then p.later ws h part ((add_actor a).made t)) bad

  channel_answer : (c : ChannelRow) → First ChannelFits channel_words rest c → (add_channel c).fault t ≡ Some f → table_read ws ≡ Err (Row h f)
  channel_answer c first bad =
      let over = subst Over (sym first.written) (over_head 2 (ends c) _ (ends_fit c first.fits) refl refl refl) in
      let size = ap length first.written in
      let p = rows_pass ws t rest l e over (omega arith) in
      let part = channel_words c in
      p.same
      ∙ ap (record_then p.later ws h t) (first_channel ws h (has_channels t) c (subst (λ x. First ChannelFits channel_words x c) (sym after_rows) first))
      ∙ ap (λ r. add_then p.later ws h part ((add_channel r).made t) ((add_channel r).fault t)) (channel_again c first.fits)
      ∙ ap (add_then p.later ws h part ((add_channel c).made t)) bad

pub row_answer : (ws : List ℕ) (h : ℕ) (f : Fault) → RowRefused ws h f → table_read ws ≡ Err (Row h f)
row_answer ws h f (actor_refused t a _ rest l none e first bad) = grind (arith, actor_answer)
row_answer ws h f (channel_refused t c _ rest l e first bad) = channel_answer ws t f rest l e c first bad

-- what an answer says of the words

abbrev Says : List ℕ → Result Table LoadFault → Type 0
Says ws (Ok t) = Describes ws t
Says ws (Err f) = RefusedBy ws f

module _ (ws : List ℕ) where
  -- from place h on, with so many records at most
  abbrev Means : ℕ → Type 0
  Means records = (h : ℕ) (t : Table) → Sofar ws h t → Reached ws (has_channels t) h → length ws ≤ h + records
      → table_read ws ≡ rows_from records ws h t → Says ws (rows_from records ws h t)

  of_word : (g : WordFault) → table_read ws ≡ Err (Word g) → WordRefused ws g → RefusedBy ws (Word g)
  of_word g e w = by_word g w (λ h x r. let d = sym e ∙ row_answer ws h x r in absurd (cc))

  module _ (records : ℕ) (next : Means records) (h : ℕ) (t : Table) (s : Sofar ws h t) (r : Reached ws (has_channels t) h) (enough : length ws ≤ h + suc records) where
    of_row : (g : Fault) → RowRefused ws (length (row_words t)) g → RefusedBy ws (Row h g)
    of_row g m = by_row h g (subst (λ i. RowRefused ws i g) (sym s.here) m)

    actor_then : (part : List ℕ) → record_at (has_channels t) ws h ≡ Ok (actor_part part) → FoundActor (has_channels t) ws h part → (o : Option Fault)
        → (add_actor (actor_of part)).fault t ≡ o → table_read ws ≡ add_then records ws h part ((add_actor (actor_of part)).made t) o
        → Says ws (add_then records ws h part ((add_actor (actor_of part)).made t) o)
    actor_then part d g (Some x) a e =
        let same = ap actor_of g.words ∙ actor_again g.row g.fits in
        let none = nil_from_length t.channels (eqb-true (length t.channels) 0 (not-false (eqb (length t.channels) 0) g.early)) in
        let early = ap (λ b. record_at b ws h) (sym g.early) ∙ d in
        let first : First ActorFits actor_words (drop h ws) g.row =
        record {
          fits = g.fits;
          more = drop (h + length part) ws;
          written = g.there;
          longest = λ c rest fits there. subst (λ l. length (actor_words c) ≤ length l) g.words (actor_longest ws h part c rest early fits there);
        } in
        of_row x (actor_refused t g.row x (drop h ws) s.good none s.words first (ap (λ y. (add_actor y).fault t) (sym same) ∙ a))
    actor_then part d g None a e =
        let same : actor_words (actor_of part) ≡ part = ap actor_words (ap actor_of g.words ∙ actor_again g.row g.fits) ∙ sym g.words in
        let more = drop (h + length part) ws in
        let some : length part ≡ length (actor_words g.row) = ap length g.words in
        next (h + length part) ((add_actor (actor_of part)).made t)
        (sofar_more ws h t ((add_actor (actor_of part)).made t) part s (lawful_with_actor t s.good (actor_of part) a)
        (words_with_actor t (actor_of part) g.early ∙ ap (λ l. row_words t ++ l) same) (g.there ∙ ap (λ l. l ++ more) (sym g.words)))
        (subst (λ c. Reached ws c (h + length part)) (sym g.early) (past_actor (has_channels t) h part r d)) (omega arith) e

    channel_then : (part : List ℕ) → record_at (has_channels t) ws h ≡ Ok (channel_part part) → FoundChannel ws h part → (o : Option Fault)
        → (add_channel (channel_of part)).fault t ≡ o → table_read ws ≡ add_then records ws h part ((add_channel (channel_of part)).made t) o
        → Says ws (add_then records ws h part ((add_channel (channel_of part)).made t) o)
    channel_then part d g (Some x) a e =
        let same = ap channel_of g.words ∙ channel_again g.row g.fits in
        let first : First ChannelFits channel_words (drop h ws) g.row =
        record {
          fits = g.fits;
          more = drop (h + length part) ws;
          written = g.there;
          longest = λ c rest fits there. subst (λ l. length (channel_words c) ≤ length l) g.words (channel_longest (has_channels t) ws h part c rest d fits there);
        } in
        of_row x (channel_refused t g.row x (drop h ws) s.good s.words first (ap (λ y. (add_channel y).fault t) (sym same) ∙ a))
    channel_then part d g None a e = grind (arith, common_steps, channel_again, past_channel)

    record_then_lem : (x : Result Part WordFault) → record_at (has_channels t) ws h ≡ x → table_read ws ≡ record_then records ws h t x → Says ws (record_then records ws h t x)
    record_then_lem (Err g) a e = of_word g e (word_refused ws h t s r g a)
    record_then_lem (Ok (actor_part part)) a e =
        actor_then part a (record_found (has_channels t) ws h (actor_part part) a) ((add_actor (actor_of part)).fault t) refl e
    record_then_lem (Ok (channel_part part)) a e =
        channel_then part a (record_found (has_channels t) ws h (channel_part part) a) ((add_channel (channel_of part)).fault t) refl e
    record_then_lem (Ok (end_part part)) a e = grind (arith, record_found (has_channels t) ws h (end_part part) a)

  means : (records : ℕ) → Means records
  means zero h t s r enough e = of_word (Missing h) e (head_missing ws h t s r (omega arith))
  means (suc records) h t s r enough e = record_then_lem records (means records) h t s r enough (record_at (has_channels t) ws h) refl e

  says : Says ws (table_read ws)
  says = means (length ws) 0 empty_table record { good = refl; words = refl; here = refl } start (omega arith) refl

  pub read_described : (t : Table) → table_read ws ≡ Ok t → Describes ws t
  read_described t e = subst (Says ws) e says

  pub refusal_means : (f : LoadFault) → table_read ws ≡ Err f → RefusedBy ws f
  refusal_means f e = subst (Says ws) e says
