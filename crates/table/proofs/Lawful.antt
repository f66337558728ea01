-- Every edit that the checks accept leaves a lawful table.
use Rattle.std.proofs.Common.{◌≡◌, ℕ, zero, suc, ◌-◌, ◌<◌, ◌≤◌, Bool, true, false, not, eqb, ltb, List, [], ◌∷◌, ◌++◌, map, length, None, refl, ap, ◌∙◌, ⊎_elim, arith}
use Rattle.std.specs.List.{remove, list_all}
use Rattle.std.proofs.lemmas.List.{length_push, length-map}
use Rattle.std.proofs.lemmas.List.Folds.{list_all-append}
use Rattle.std.proofs.lemmas.List.Edits.{length-remove}
use Rattle.std.proofs.lemmas.Bool.{and_parts, and_from, or_parts, not-true, ltb-true, leb-true, lt-ltb, le-ltb, le-leb, eqb-false, cases_lt, cond-true, cond-false}
use Rattle.rows.specs.declared.fault.Fault.TheVariants.{TableFull, NoActor, NoChannel, ActorInUse}
use Rattle.rows.specs.Table.{ActorRow, ChannelRow, Table, phases_at, check, passes, actor_fault, channel_fault, lawful, add_actor, add_channel, cut_channel, names, renumbered, renumbered_ends, cut_actor}
use Rattle.rows.proofs.Parts.{check_parts, passes_none, none_passes, Accepted, accepted, accepts}

-- a test of every element

module _ {X : Type 0} (test : X → Bool) where
  pub every_push : (xs : List X) (x : X) → list_all test xs ≡ true → test x ≡ true → list_all test (xs ++ x ∷ []) ≡ true
  every_push xs x h e = list_all-append test xs (x ∷ []) ∙ and_from (list_all test xs) (list_all test (x ∷ [])) h (and_from (test x) true e refl)

  pub every_removed : (xs : List X) (i : ℕ) → list_all test xs ≡ true → list_all test (remove xs i) ≡ true
  every_removed [] zero h = refl
  every_removed [] (suc i) h = refl
  every_removed (y ∷ ys) zero h = (and_parts (test y) (list_all test ys) h).1
  every_removed (y ∷ ys) (suc i) h =
      let p = and_parts (test y) (list_all test ys) h in and_from (test y) (list_all test (remove ys i)) p.0 (every_removed ys i p.1)

  pub every_weaker : (other : X → Bool) → ((x : X) → test x ≡ true → other x ≡ true) → (xs : List X) → list_all test xs ≡ true → list_all other xs ≡ true
  every_weaker other f [] h = refl
  every_weaker other f (y ∷ ys) h =
      let p = and_parts (test y) (list_all test ys) h in and_from (other y) (list_all other ys) (f y p.0) (every_weaker other f ys p.1)

-- two tests of every element give a test of every element's image
pub every_image : {X : Type 0} (first second other : X → Bool) (g : X → X) → ((x : X) → first x ≡ true → second x ≡ true → other (g x) ≡ true)
    → (xs : List X) → list_all first xs ≡ true → list_all second xs ≡ true → list_all other (map g xs) ≡ true
every_image first second other g f [] h k = refl
every_image first second other g f (y ∷ ys) h k =
    let p = and_parts (first y) (list_all first ys) h in
    let q = and_parts (second y) (list_all second ys) k in
    and_from (other (g y)) (list_all other (map g ys)) (f y p.0 q.0) (every_image first second other g f ys p.1 q.1)

-- the parts of a lawful table

pub record Lawful (t : Table) : Type 0 where
  pub few_actors : length t.actors ≤ 64
  pub few_channels : length t.channels ≤ 128
  pub good_actors : list_all (λ a. passes (actor_fault a)) t.actors ≡ true
  pub good_channels : list_all (λ c. passes (channel_fault t.actors c)) t.channels ≡ true

module _ (t : Table) where
  pub lawful_parts : lawful t ≡ true → Lawful t
  lawful_parts e =
      let p = and_parts _ _ e in
      let q = and_parts _ _ p.0 in
      let r = and_parts _ _ p.1 in
      record {
        few_actors = leb-true (length t.actors) 64 q.0;
        few_channels = leb-true (length t.channels) 128 q.1;
        good_actors = r.0;
        good_channels = r.1;
      }

  pub lawful_from : Lawful t → lawful t ≡ true
  lawful_from l =
      and_from _ _ (and_from _ _ (le-leb (length t.actors) 64 l.few_actors) (le-leb (length t.channels) 128 l.few_channels))
      (and_from _ _ l.good_actors l.good_channels)

-- phases at a place of an edited list

pub phases_push : (rows : List ActorRow) (a : ActorRow) (i : ℕ) → i < length rows → phases_at (rows ++ a ∷ []) i ≡ phases_at rows i
phases_push [] a i h = absurd (let z : ⊥ = omega arith in z)
phases_push (x ∷ more) a zero h = refl
phases_push (x ∷ more) a (suc i) h = phases_push more a i (omega arith)

pub phases_before : (rows : List ActorRow) (gone i : ℕ) → i < gone → phases_at (remove rows gone) i ≡ phases_at rows i
phases_before [] zero i h = refl
phases_before [] (suc gone) i h = refl
phases_before (x ∷ more) zero i h = absurd (let z : ⊥ = omega arith in z)
phases_before (x ∷ more) (suc gone) zero h = refl
phases_before (x ∷ more) (suc gone) (suc i) h = phases_before more gone i (omega arith)

pub phases_after : (rows : List ActorRow) (gone i : ℕ) → gone ≤ i → phases_at (remove rows gone) i ≡ phases_at rows (suc i)
phases_after [] zero i h = refl
phases_after [] (suc gone) i h = refl
phases_after (x ∷ more) zero i h = refl
phases_after (x ∷ more) (suc gone) zero h = absurd (let z : ⊥ = omega arith in z)
phases_after (x ∷ more) (suc gone) (suc i) h = phases_after more gone i (omega arith)

-- numbers once an actor is cut

module _ (gone i : ℕ) where
  pub renumbered_before : i ≤ gone → renumbered gone i ≡ i
  renumbered_before h = cond-false (ltb gone i) (i - 1) i (le-ltb gone i h)

  pub renumbered_after : gone < i → renumbered gone i ≡ i - 1
  renumbered_after h = cond-true (ltb gone i) (i - 1) i (lt-ltb gone i h)

  pub renumbered_below : (n : ℕ) → gone < n → i < n → (i ≡ gone → ⊥) → renumbered gone i < n - 1
  renumbered_below n g h ne =
      ⊎_elim (λ (l : gone < i). let e = renumbered_after l in omega arith) (λ (l : i ≤ gone). let e = renumbered_before l in omega arith) (cases_lt gone i)

  pub phases_renumbered : (rows : List ActorRow) → (i ≡ gone → ⊥) → phases_at (remove rows gone) (renumbered gone i) ≡ phases_at rows i
  phases_renumbered rows ne =
      ⊎_elim
      (λ (l : gone < i).
      let back : suc (i - 1) ≡ i = omega arith in
      ap (phases_at (remove rows gone)) (renumbered_after l) ∙ phases_after rows gone (i - 1) (omega arith) ∙ ap (phases_at rows) back)
      (λ (l : i ≤ gone). ap (phases_at (remove rows gone)) (renumbered_before l) ∙ phases_before rows gone i (omega arith))
      (cases_lt gone i)

pub renumbered_apart : (gone i j : ℕ) → (i ≡ gone → ⊥) → (j ≡ gone → ⊥) → (i ≡ j → ⊥) → renumbered gone i ≡ renumbered gone j → ⊥
renumbered_apart gone i j p q ne e =
    ⊎_elim
    (λ (l : gone < i).
    let a = renumbered_after gone i l in
    ⊎_elim (λ (m : gone < j). let b = renumbered_after gone j m in ne (omega arith)) (λ (m : j ≤ gone). let b = renumbered_before gone j m in q (omega arith)) (cases_lt gone j))
    (λ (l : i ≤ gone).
    let a = renumbered_before gone i l in
    ⊎_elim (λ (m : gone < j). let b = renumbered_after gone j m in p (omega arith)) (λ (m : j ≤ gone). let b = renumbered_before gone j m in ne (omega arith)) (cases_lt gone j))
    (cases_lt gone i)

-- an accepted channel stays accepted

pub accepted_with_actor : (rows : List ActorRow) (a : ActorRow) (c : ChannelRow) → Accepted rows c → Accepted (rows ++ a ∷ []) c
accepted_with_actor rows a c k =
    let n = length_push rows a in
    let w = k.writer_is in
    let r = k.reader_is in
    record {
      writer_is = omega arith;
      reader_is = omega arith;
      apart = k.apart;
      counted = rw (phases_push rows a c.writer w, phases_push rows a c.reader r) k.counted;
      rated = k.rated;
      capped = k.capped;
    }

pub accepted_without_actor : (rows : List ActorRow) (gone : ℕ) (c : ChannelRow) → gone < length rows → Accepted rows c → names gone c ≡ false
    → Accepted (remove rows gone) (renumbered_ends gone c)
accepted_without_actor rows gone c g k e =
    let p = or_parts (eqb c.writer gone) (eqb c.reader gone) e in
    let v = eqb-false c.writer gone p.0 in
    let u = eqb-false c.reader gone p.1 in
    let n = length-remove rows gone g in
    let w = renumbered_below gone c.writer (length rows) g k.writer_is v in
    let r = renumbered_below gone c.reader (length rows) g k.reader_is u in
    record {
      writer_is = omega arith;
      reader_is = omega arith;
      apart = renumbered_apart gone c.writer c.reader v u k.apart;
      counted = rw (phases_renumbered gone c.writer rows v, phases_renumbered gone c.reader rows u) k.counted;
      rated = k.rated;
      capped = k.capped;
    }

-- every edit leaves a lawful table

module _ (t : Table) (l : lawful t ≡ true) where
  abbrev pub was : Lawful t
  was = lawful_parts t l

  pub lawful_with_actor : (a : ActorRow) → (add_actor a).fault t ≡ None → lawful ((add_actor a).made t) ≡ true
  lawful_with_actor a e =
      let p = check_parts (ltb (length t.actors) 64) TableFull (actor_fault a) e in
      let few = ltb-true (length t.actors) 64 p.0 in
      let n = length_push t.actors a in
      lawful_from ((add_actor a).made t)
      record {
        few_actors = omega arith;
        few_channels = was.few_channels;
        good_actors = every_push (λ r. passes (actor_fault r)) t.actors a was.good_actors (none_passes (actor_fault a) p.1);
        good_channels =
            every_weaker (λ c. passes (channel_fault t.actors c)) (λ c. passes (channel_fault (t.actors ++ a ∷ []) c))
            (λ c h.
            none_passes (channel_fault (t.actors ++ a ∷ []) c)
            (accepts (t.actors ++ a ∷ []) c (accepted_with_actor t.actors a c (accepted t.actors c (passes_none (channel_fault t.actors c) h)))))
            t.channels was.good_channels;
      }

  pub lawful_with_channel : (c : ChannelRow) → (add_channel c).fault t ≡ None → lawful ((add_channel c).made t) ≡ true
  lawful_with_channel c e =
      let p = check_parts (ltb (length t.channels) 128) TableFull (channel_fault t.actors c) e in
      let few = ltb-true (length t.channels) 128 p.0 in
      let n = length_push t.channels c in
      lawful_from ((add_channel c).made t)
      record {
        few_actors = was.few_actors;
        few_channels = omega arith;
        good_actors = was.good_actors;
        good_channels =
            every_push (λ r. passes (channel_fault t.actors r)) t.channels c was.good_channels (none_passes (channel_fault t.actors c) p.1);
      }

  pub lawful_without_channel : (i : ℕ) → (cut_channel i).fault t ≡ None → lawful ((cut_channel i).made t) ≡ true
  lawful_without_channel i e =
      let h = ltb-true i (length t.channels) (check_parts (ltb i (length t.channels)) NoChannel None e).0 in
      let n = length-remove t.channels i h in
      let f = was.few_channels in
      lawful_from ((cut_channel i).made t)
      record {
        few_actors = was.few_actors;
        few_channels = omega arith;
        good_actors = was.good_actors;
        good_channels = every_removed (λ c. passes (channel_fault t.actors c)) t.channels i was.good_channels;
      }

  pub lawful_without_actor : (i : ℕ) → (cut_actor i).fault t ≡ None → lawful ((cut_actor i).made t) ≡ true
  lawful_without_actor i e =
      let p = check_parts (ltb i (length t.actors)) NoActor (check (list_all (λ c. not (names i c)) t.channels) ActorInUse None) e in
      let q = check_parts (list_all (λ c. not (names i c)) t.channels) ActorInUse None p.1 in
      let h = ltb-true i (length t.actors) p.0 in
      let n = length-remove t.actors i h in
      let m = length-map t.channels (renumbered_ends i) in
      let f = was.few_actors in
      let g = was.few_channels in
      lawful_from ((cut_actor i).made t)
      record {
        few_actors = omega arith;
        few_channels = omega arith;
        good_actors = every_removed (λ r. passes (actor_fault r)) t.actors i was.good_actors;
        good_channels =
            every_image (λ c. passes (channel_fault t.actors c)) (λ c. not (names i c)) (λ c. passes (channel_fault (remove t.actors i) c)) (renumbered_ends i)
            (λ c k o.
            none_passes (channel_fault (remove t.actors i) (renumbered_ends i c))
            (accepts (remove t.actors i) (renumbered_ends i c)
            (accepted_without_actor t.actors i c h (accepted t.actors c (passes_none (channel_fault t.actors c) k)) (not-true (names i c) o))))
            t.channels was.good_channels q.0;
      }
