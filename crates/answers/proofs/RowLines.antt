-- The line of a row: its words, and the call that it makes.
use Rattle.std.proofs.lemmas.Grind.{common_steps, flat_map-append}
use Rattle.std.proofs.Common.{◌≡◌, ℕ, Bool, true, List, [], ◌∷◌, ◌++◌, map, Some, None, Ok, codes, decimal, Option, Result, sym, refl, ap, ◌∙◌, append_assoc, append-nil, arith}
use Rattle.std.proofs.lemmas.List.{map-append}
use Rattle.std.proofs.lemmas.Bool.{and_from}
use Rattle.rows.specs.declared.row.Placement.{Placement}
use Rattle.rows.specs.Table.{ActorRow, ChannelRow, actor_with, channel_with, pin_of, placed}
use Rattle.tokens.specs.declared.token.Token.{Token}
use Rattle.tokens.specs.declared.token.Token.TheVariants.{Number, Actor, Times, NotBefore, Pin, Channel, Writes, Reads, Ceiling}
use Rattle.tokens.specs.declared.expected.Expected.{Expected}
use Rattle.tokens.specs.Tokens.{token_of}
use Rattle.tokens.specs.Lines.{tokens_of, lines_from}
use Rattle.script.specs.Reading.{Reading, and_then, this_word, first_number, numbers_from, number_if, ended}
use Rattle.script.specs.Plain.{PlainEdit, PlainCall, actor_added, channel_added, edited}
use Rattle.script.specs.Grammar.{call_of}
use Rattle.answers.specs.Texts.{actor_text, channel_text}
use Rattle.answers.proofs.Spaced.{wordly, all_words, spaced, words_read, line_read, words_append}
use Rattle.answers.proofs.Figures.{small, all_small, figures_word, figures_token, list_words, list_tokens, list_spaced}

-- an optional part

abbrev opt_words : List ℕ → Option ℕ → List (List ℕ)
opt_words name None = []
opt_words name (Some n) = name ∷ decimal n ∷ []

abbrev opt_tokens : Token → Option ℕ → List Token
opt_tokens w None = []
opt_tokens w (Some n) = w ∷ Number n ∷ []

abbrev pub small_if : Option ℕ → Bool
small_if None = true
small_if (Some n) = small n

opt_words_lem : (name : List ℕ) (o : Option ℕ) → wordly name ≡ true → small_if o ≡ true → all_words (opt_words name o) ≡ true
opt_words_lem name o h s = grind (arith, figures_word)

opt_tokens_lem : (name : List ℕ) (o : Option ℕ) → small_if o ≡ true → map token_of (opt_words name o) ≡ opt_tokens (token_of name) o
opt_tokens_lem name o s = grind (arith, figures_token)

-- a list's numbers are read up to a token that is no number

abbrev figure : ℕ → Token
figure n = Number n

numbers_read : (ns before : List ℕ) (rest : List Token) → first_number rest ≡ None → numbers_from before (map figure ns ++ rest) ≡ (before ++ ns, rest)
numbers_read [] before [] h = ap (λ l. (l, [])) (sym (append-nil before))
numbers_read [] before (t ∷ ts) h = grind (arith, common_steps)
numbers_read (n ∷ ns) before rest h = grind (arith, common_steps, numbers_read ns (before ++ n ∷ []) rest h)

-- what follows of a call once its last list is read

abbrev as_call : ℕ → Reading PlainEdit → Result PlainCall Expected
as_call m r = and_then (and_then {Y = PlainCall × List Token} r (λ q. Ok (edited m q.0, q.1))) (λ p. and_then (ended p.1) (λ _. Ok p.0))

abbrev after_times : ℕ → List ℕ × List Token → Result PlainCall Expected
after_times m p =
    as_call m (and_then (number_if NotBefore p.1) (λ b. and_then (number_if Pin b.1) (λ c.
    Ok (actor_added (actor_with p.0 b.0 (placed c.0)), c.1))))

abbrev after_reads : ℕ → ℕ → List ℕ → List ℕ × List Token → Reading PlainEdit
after_reads w r ws q = and_then (number_if Ceiling q.1) (λ c. Ok (channel_added (channel_with w r ws q.0 c.0), c.1))

abbrev after_writes : ℕ → ℕ → ℕ → List ℕ × List Token → Result PlainCall Expected
after_writes m w r p = as_call m (and_then (this_word Reads p.1) (λ b. after_reads w r p.0 (numbers_from [] b.1)))

-- an actor's line

abbrev actor_words : ActorRow → List (List ℕ)
actor_words a =
    codes "times" ∷ (map decimal a.times ++ (opt_words (codes "not-before") a.not_before ++ opt_words (codes "pin") (pin_of a.placement)))

abbrev pub actor_line : ActorRow → List ℕ
actor_line a = codes "actor" ++ spaced (actor_words a)

abbrev pub after_actor : List ℕ → Option ℕ → Placement → List Token
after_actor ts o p = Times ∷ (map figure ts ++ (opt_tokens NotBefore o ++ opt_tokens Pin (pin_of p)))

pub record SmallActor (a : ActorRow) : Type 0 where
  pub times : all_small a.times ≡ true
  pub not_before : small_if a.not_before ≡ true
  pub pin : small_if (pin_of a.placement) ≡ true

actor_call : (m : ℕ) (ts : List ℕ) (o : Option ℕ) (p : Placement) → call_of m (Actor ∷ after_actor ts o p) ≡ Ok (edited m (actor_added (actor_with ts o p)))
actor_call m ts o p = grind (arith, numbers_read)

actor_joins : (h j n p t : List ℕ) → ((h ++ j) ++ (n ++ (p ++ 10 ∷ []))) ++ t ≡ (h ++ (j ++ (n ++ p))) ++ 10 ∷ t
actor_joins h j n p t = simp append_assoc

module _ (a : ActorRow) (s : SmallActor a) where
  actor_words_lem : all_words (actor_words a) ≡ true
  actor_words_lem = grind (arith, words_append, list_words, opt_words_lem)

  pub actor_tokens : tokens_of (actor_line a) ≡ Actor ∷ after_actor a.times a.not_before a.placement
  actor_tokens =
      let d = map decimal a.times in
      let x = opt_words (codes "not-before") a.not_before in
      let y = opt_words (codes "pin") (pin_of a.placement) in
      let p = list_tokens a.times s.times in
      let q = opt_tokens_lem (codes "not-before") a.not_before s.not_before in
      let r = opt_tokens_lem (codes "pin") (pin_of a.placement) s.pin in
      words_read (codes "actor") (actor_words a) refl actor_words_lem
      ∙ ap (λ l. Actor ∷ Times ∷ l) (map-append token_of d (x ++ y) ∙ ap (λ l. map token_of d ++ l) (map-append token_of x y) ∙ (λ i. p i ++ (q i ++ r i)))

  pub actor_line_call : (m : ℕ) → call_of m (tokens_of (actor_line a)) ≡ Ok (edited m (actor_added a))
  actor_line_call m = ap (call_of m) actor_tokens ∙ actor_call m a.times a.not_before a.placement

  actor_text_lem : (t : List ℕ) → actor_text a ++ t ≡ actor_line a ++ 10 ∷ t
  actor_text_lem t = grind (arith, common_steps, list_spaced, flat_map-append, spaced, actor_joins)

  pub actor_line_lem : (rest : List ℕ) → lines_from [] (actor_text a ++ rest) ≡ actor_line a ∷ lines_from [] rest
  actor_line_lem rest = ap (lines_from []) (actor_text_lem rest) ∙ line_read (codes "actor") (actor_words a) rest refl actor_words_lem

-- a channel's line

abbrev reads_words : ChannelRow → List (List ℕ)
reads_words c = codes "reads" ∷ (map decimal c.reads ++ opt_words (codes "ceiling") c.ceiling)

abbrev channel_words : ChannelRow → List (List ℕ)
channel_words c = decimal c.writer ∷ decimal c.reader ∷ codes "writes" ∷ (map decimal c.writes ++ reads_words c)

abbrev pub channel_line : ChannelRow → List ℕ
channel_line c = codes "channel" ++ spaced (channel_words c)

abbrev reads_tokens : List ℕ → Option ℕ → List Token
reads_tokens rs o = Reads ∷ (map figure rs ++ opt_tokens Ceiling o)

abbrev pub after_channel : ℕ → ℕ → List ℕ → List ℕ → Option ℕ → List Token
after_channel w r ws rs o = Number w ∷ Number r ∷ Writes ∷ (map figure ws ++ reads_tokens rs o)

pub record SmallChannel (c : ChannelRow) : Type 0 where
  pub writer : small c.writer ≡ true
  pub reader : small c.reader ≡ true
  pub writes : all_small c.writes ≡ true
  pub reads : all_small c.reads ≡ true
  pub ceiling : small_if c.ceiling ≡ true

channel_call : (m w r : ℕ) (ws rs : List ℕ) (o : Option ℕ) → call_of m (Channel ∷ after_channel w r ws rs o) ≡ Ok (edited m (channel_added (channel_with w r ws rs o)))
channel_call m w r ws rs o = grind (arith, numbers_read)

channel_joins : (h dw s dr a jw b jr o t : List ℕ)
    → ((h ++ (dw ++ (s ++ dr))) ++ ((a ++ jw) ++ ((b ++ jr) ++ (o ++ 10 ∷ [])))) ++ t
    ≡ (h ++ (dw ++ (s ++ (dr ++ (a ++ (jw ++ (b ++ (jr ++ o)))))))) ++ 10 ∷ t
channel_joins h dw s dr a jw b jr o t = simp append_assoc

module _ (c : ChannelRow) (s : SmallChannel c) where
  channel_words_lem : all_words (channel_words c) ≡ true
  channel_words_lem =
      and_from _ _ (figures_word c.writer s.writer)
      (and_from _ _ (figures_word c.reader s.reader)
      (words_append (map decimal c.writes) (reads_words c) (list_words c.writes s.writes)
      (words_append (map decimal c.reads) _ (list_words c.reads s.reads) (opt_words_lem (codes "ceiling") c.ceiling refl s.ceiling))))

  pub channel_tokens : tokens_of (channel_line c) ≡ Channel ∷ after_channel c.writer c.reader c.writes c.reads c.ceiling
  channel_tokens =
      let d = map decimal c.writes in
      let e = map decimal c.reads in
      let x = opt_words (codes "ceiling") c.ceiling in
      let w = figures_token c.writer s.writer in
      let r = figures_token c.reader s.reader in
      let p = list_tokens c.writes s.writes in
      let q = list_tokens c.reads s.reads in
      let o = opt_tokens_lem (codes "ceiling") c.ceiling s.ceiling in
      let after : map token_of (d ++ reads_words c) ≡ map figure c.writes ++ reads_tokens c.reads c.ceiling =
      map-append token_of d (reads_words c) ∙ ap (λ l. map token_of d ++ Reads ∷ l) (map-append token_of e x) ∙ (λ i. p i ++ Reads ∷ (q i ++ o i)) in
      words_read (codes "channel") (channel_words c) refl channel_words_lem ∙ (λ i. Channel ∷ w i ∷ r i ∷ Writes ∷ after i)

  pub channel_line_call : (m : ℕ) → call_of m (tokens_of (channel_line c)) ≡ Ok (edited m (channel_added c))
  channel_line_call m = ap (call_of m) channel_tokens ∙ channel_call m c.writer c.reader c.writes c.reads c.ceiling

  channel_text_lem : (t : List ℕ) → channel_text c ++ t ≡ channel_line c ++ 10 ∷ t
  channel_text_lem t = grind (arith, common_steps, list_spaced, spaced, flat_map-append, channel_joins)

  pub channel_line_lem : (rest : List ℕ) → lines_from [] (channel_text c ++ rest) ≡ channel_line c ∷ lines_from [] rest
  channel_line_lem rest = ap (lines_from []) (channel_text_lem rest) ∙ line_read (codes "channel") (channel_words c) rest refl channel_words_lem
