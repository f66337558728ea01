-- The records of words, one after the other, whether or not the checks accept their rows.
use Rattle.std.proofs.Common.{◌≡◌, ℕ, suc, ◌+◌, ◌<◌, ◌≤◌, Bool, true, false, List, [], ◌∷◌, ◌++◌, length, take, drop, Ok, Err, sym, refl, ap, ◌∙◌, append_assoc, arith, length-append}
use Rattle.std.specs.List.{flat_map, AllByRecursion, between}
use Rattle.std.proofs.lemmas.List.{take_all, take_at}
use Rattle.std.proofs.lemmas.Bool.{lt-ltb}
use Rattle.rows.specs.Table.{ActorRow, ChannelRow, Table}
use Rattle.words.specs.declared.fault.WordFault.{WordFault}
use Rattle.words.specs.declared.fault.WordFault.TheVariants.{WrongEnd}
use Rattle.words.specs.Format.{word_of, actor_words, channel_words, row_words, table_words}
use Rattle.words.specs.Fitting.{small, ActorFits, ChannelFits}
use Rattle.word_laws.specs.Offends.{Shaped}
use Rattle.words.specs.Records.{actor_part, channel_part, end_part, record_at}
use Rattle.word_laws.proofs.Places.{drop_past}
use Rattle.word_laws.proofs.RowRecords.{over_head, actors_over, channels_over, actor_read, channel_read, end_read}
use Rattle.words.proofs.Whole.{read_as}
use Rattle.word_laws.proofs.Alike.{slice_get_alike, actor_alike, channel_alike}

-- from the first word on, records come up to place h; b says whether there is a channel among them
pub data Reached (ws : List ℕ) : Bool → ℕ → Type 0 where
  start : Reached ws false 0
  past_actor : (b : Bool) (h : ℕ) (part : List ℕ) → Reached ws b h → record_at b ws h ≡ Ok (actor_part part) → Reached ws false (h + length part)
  past_channel : (b : Bool) (h : ℕ) (part : List ℕ) → Reached ws b h → record_at b ws h ≡ Ok (channel_part part) → Reached ws true (h + length part)

-- from place h on, records come up to the end
pub data Ends (ws : List ℕ) : Bool → ℕ → Type 0 where
  here : (b : Bool) (h : ℕ) (part : List ℕ) → record_at b ws h ≡ Ok (end_part part) → Ends ws b h
  after_actor_lem : (b : Bool) (h : ℕ) (part : List ℕ) → record_at b ws h ≡ Ok (actor_part part) → Ends ws false (h + length part) → Ends ws b h
  after_channel_lem : (b : Bool) (h : ℕ) (part : List ℕ) → record_at b ws h ≡ Ok (channel_part part) → Ends ws true (h + length part) → Ends ws b h

module _ (ws : List ℕ) where
  from_actor : (b : Bool) (h : ℕ) (part : List ℕ) → record_at b ws h ≡ Ok (actor_part part) → Ends ws b h → Ends ws false (h + length part)
  from_actor b h part e n = grind arith

  from_channel : (b : Bool) (h : ℕ) (part : List ℕ) → record_at b ws h ≡ Ok (channel_part part) → Ends ws b h → Ends ws true (h + length part)
  from_channel b h part e n = grind arith

  -- records are read in one way
  ends_from : Ends ws false 0 → (b : Bool) (h : ℕ) → Reached ws b h → Ends ws b h
  ends_from n b h start = n
  ends_from n b h (past_actor c i part r e) = from_actor c i part e (ends_from n c i r)
  ends_from n b h (past_channel c i part r e) = from_channel c i part e (ends_from n c i r)

  no_fault : (b : Bool) (h : ℕ) (f : WordFault) → Ends ws b h → record_at b ws h ≡ Err f → ⊥
  no_fault b h f n e = grind arith

-- words that are alike up to a place after h have the same records up to h
reached_alike : (n : ℕ) (ws vs : List ℕ) → take n ws ≡ take n vs → (b : Bool) (h : ℕ) → Reached ws b h → h < n → Reached vs b h
reached_alike n ws vs alike b h start l = start
reached_alike n ws vs alike b h (past_actor c i part r e) l =
    past_actor c i part (reached_alike n ws vs alike c i r (omega arith)) (actor_alike n ws vs alike c i part (read_as c ws i (actor_part part) e) l)
reached_alike n ws vs alike b h (past_channel c i part r e) l =
    past_channel c i part (reached_alike n ws vs alike c i r (omega arith)) (channel_alike n ws vs alike c i part (read_as c ws i (channel_part part) e) l)

-- the words of a table come to its end

abbrev end_words : ℕ → List ℕ
end_words z = word_of 7 z ∷ []

module _ (ws : List ℕ) (z : ℕ) (low : small z ≡ true) where
  channels_end : (b : Bool) (h : ℕ) (cs : List ChannelRow) → AllByRecursion ChannelFits cs → drop h ws ≡ flat_map channel_words cs ++ end_words z
      → z ≡ h + length (flat_map channel_words cs) → Ends ws b h
  channels_end b h [] f e z_is =
      let same : z ≡ h = omega arith in
      here b h (between h (suc h) ws) (end_read b ws h (e ∙ ap end_words same) (ap small (sym same) ∙ low))
  channels_end b h (c ∷ cs) f e z_is =
      let part = channel_words c in
      let more = flat_map channel_words cs ++ end_words z in
      let from : drop h ws ≡ part ++ more = e ∙ append_assoc part (flat_map channel_words cs) (end_words z) in
      let n = length-append part (flat_map channel_words cs) in
      let z_more : z ≡ h + length part + length (flat_map channel_words cs) = omega arith in
      after_channel_lem b h part (channel_read c f.0 b ws h more from (channels_over cs (end_words z) f.1 (over_head 7 z [] low refl refl refl)))
      (channels_end true (h + length part) cs f.1 (drop_past ws h (h + length part) part more from refl) z_more)

  actors_end : (h : ℕ) (rows : List ActorRow) (cs : List ChannelRow) → AllByRecursion ActorFits rows → AllByRecursion ChannelFits cs
      → drop h ws ≡ flat_map actor_words rows ++ (flat_map channel_words cs ++ end_words z)
      → z ≡ h + length (flat_map actor_words rows) + length (flat_map channel_words cs) → Ends ws false h
  actors_end h [] cs f g e z_is = grind (arith, channels_end)
  actors_end h (a ∷ rows) cs f g e z_is =
      let part = actor_words a in
      let last = flat_map channel_words cs ++ end_words z in
      let more = flat_map actor_words rows ++ last in
      let from : drop h ws ≡ part ++ more = e ∙ append_assoc part (flat_map actor_words rows) last in
      let n = length-append part (flat_map actor_words rows) in
      let z_more : z ≡ h + length part + length (flat_map actor_words rows) + length (flat_map channel_words cs) = omega arith in
      after_actor_lem false h part
      (actor_read a ws h more from f.0 (actors_over rows last f.1 (channels_over cs (end_words z) g (over_head 7 z [] low refl refl refl))))
      (actors_end (h + length part) rows cs f.1 g (drop_past ws h (h + length part) part more from refl) z_more)

table_ends : (t : Table) → Shaped t → Ends (table_words t) false 0
table_ends t s =
    let x = flat_map actor_words t.actors in
    let y = flat_map channel_words t.channels in
    let z = length (row_words t) in
    let n = length-append x y in
    let z_is : z ≡ 0 + length x + length y = omega arith in
    actors_end (table_words t) z (lt-ltb z 268435456 s.few_words) 0 t.actors t.channels s.actors_fit s.channels_fit
    (append_assoc x y (end_words z)) z_is

-- no table has words that are alike to these up to a place after h, and a fault at h
pub never : (n : ℕ) (ws : List ℕ) (b : Bool) (h : ℕ) → Reached ws b h → h < n → (t : Table) → Shaped t → take n ws ≡ take n (table_words t)
    → (f : WordFault) → record_at b (table_words t) h ≡ Err f → ⊥
never n ws b h r l t s alike f e = grind (arith, no_fault, ends_from, table_ends, reached_alike)

-- no table goes on after all the words of another

record Last (ws : List ℕ) : Type 0 where
  b : Bool
  h : ℕ
  part : List ℕ
  reached : Reached ws b h
  ended : record_at b ws h ≡ Ok (end_part part)

last : (ws : List ℕ) (b : Bool) (h : ℕ) → Reached ws b h → Ends ws b h → Last ws
last ws b h r (here _ _ part e) = record { b = b; h = h; part = part; reached = r; ended = e }
last ws b h r (after_actor_lem _ _ part e n) = last ws false (h + length part) (past_actor b h part r e) n
last ws b h r (after_channel_lem _ _ part e n) = last ws true (h + length part) (past_channel b h part r e) n

pub whole_stops : (t u : Table) → Shaped t → Shaped u → (x : ℕ) (more : List ℕ) → table_words t ++ x ∷ more ≡ table_words u → ⊥
whole_stops t u s v x more e =
    let ws = table_words t in
    let vs = table_words u in
    let l = last ws false 0 start (table_ends t s) in
    let b = l.b in
    let h = l.h in
    let r = read_as b ws h (end_part l.part) l.ended in
    let w = r.head in
    let long = r.last in
    let alike : take (suc h) ws ≡ take (suc h) vs =
    take_all (suc h) ws (let z : length ws ≤ suc h = omega arith in z) ∙ sym (take_at ws (x ∷ more) (suc h) long) ∙ ap (take (suc h)) e in
    let longer = ap length (sym e) ∙ length-append ws (x ∷ more) in
    let d = sym (slice_get_alike (suc h) ws vs alike h (omega arith)) ∙ r.stands in
    let kind = r.kind in
    let count = r.count in
    never (suc h) ws b h l.reached (omega arith) u v alike (WrongEnd (suc h)) (grind arith)
