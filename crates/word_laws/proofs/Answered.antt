-- Words of which a refusal says what is so are refused by it.
use Rattle.std.proofs.Common.{◌≡◌, ℕ, suc, ◌<◌, true, List, [], ◌++◌, take, drop, Ok, Err, Result, sym, refl, ap, ◌∙◌, subst, append_assoc, append-nil, arith, take-append-drop}
use Rattle.std.proofs.lemmas.List.{take-take}
use Rattle.std.proofs.lemmas.Bool.{both_ways}
use Rattle.std.specs.List.{slice_get}
use Rattle.rows.specs.Table.{Table, within}
use Rattle.words.specs.declared.fault.WordFault.{WordFault}
use Rattle.words.specs.declared.fault.LoadFault.{LoadFault}
use Rattle.words.specs.declared.fault.LoadFault.TheVariants.{Word}
use Rattle.words.specs.Format.{kind_of, table_words, Describes}
use Rattle.word_laws.specs.Offends.{Shaped, Begins, Unfinished, Offends, Why, unknown_kind, misplaced, wrong_count, after_end, WordRefused, missing, offending, RefusedBy, by_row, by_word}
use Rattle.words.specs.Loads.{table_read}
use Rattle.word_laws.proofs.Reached.{whole_stops}
use Rattle.word_laws.proofs.Begun.{lawful_shaped, begins_front, unfinished_begins}
use Rattle.word_laws.proofs.Refused.{row_answer, read_described, refusal_means}

-- words that begin a table

finished : (xs : List ℕ) → Unfinished xs → (t : Table) → Shaped t → xs ≡ table_words t → ⊥
finished xs u t s e = grind (arith, whole_stops, append_assoc)

begins_taken : (ws : List ℕ) (n : ℕ) → Begins ws → Begins (take n ws)
begins_taken ws n g = begins_front (take n ws) (drop n ws) (subst Begins (sym (take-append-drop n ws)) g)

-- there is one first offending word

module _ (ws : List ℕ) (p w q v : ℕ) (o : Offends ws p w) (x : Offends ws q v) where
  not_before_lem : p < q → ⊥
  not_before_lem l = o.not_with_it (subst Begins (take-take (suc p) q ws l) (begins_taken (take q ws) (suc p) x.before))

same_place : (ws : List ℕ) (p w q v : ℕ) → Offends ws p w → Offends ws q v → p ≡ q
same_place ws p w q v o x = grind (arith, not_before_lem)

-- and one reason

module _ (ws : List ℕ) (p w : ℕ) where
  known_end : kind_of w ≡ 7 → within 1 7 (kind_of w) ≡ true
  known_end k = ap (within 1 7) k

  same_why : (f g : WordFault) → Why ws p w f → Why ws p w g → f ≡ g
  same_why f g (unknown_kind u k) (unknown_kind v m) = refl
  same_why f g (unknown_kind u k) (misplaced v m c) = absurd (both_ways (within 1 7 (kind_of w)) k m)
  same_why f g (unknown_kind u k) (wrong_count v m) = absurd (both_ways (within 1 7 (kind_of w)) k (known_end m))
  same_why f g (unknown_kind u k) (after_end t s e) = absurd (finished (take p ws) u t s e)
  same_why f g (misplaced u k c) (unknown_kind v m) = absurd (both_ways (within 1 7 (kind_of w)) m k)
  same_why f g (misplaced u k c) (misplaced v m d) = refl
  same_why f g (misplaced u k c) (wrong_count v m) = absurd (c m v)
  same_why f g (misplaced u k c) (after_end t s e) = absurd (finished (take p ws) u t s e)
  same_why f g (wrong_count u k) (unknown_kind v m) = absurd (both_ways (within 1 7 (kind_of w)) m (known_end k))
  same_why f g (wrong_count u k) (misplaced v m c) = absurd (c k u)
  same_why f g (wrong_count u k) (wrong_count v m) = refl
  same_why f g (wrong_count u k) (after_end t s e) = refl
  same_why f g (after_end t s e) (unknown_kind v m) = absurd (finished (take p ws) v t s e)
  same_why f g (after_end t s e) (misplaced v m c) = absurd (finished (take p ws) v t s e)
  same_why f g (after_end t s e) (wrong_count v m) = refl
  same_why f g (after_end t s e) (after_end u v d) = refl

module _ (ws : List ℕ) where
  not_begun : (p w : ℕ) → Offends ws p w → Begins ws → ⊥
  not_begun p w o g = o.not_with_it (begins_taken ws (suc p) g)

  same_fault : (f g : WordFault) → WordRefused ws f → WordRefused ws g → f ≡ g
  same_fault f g (missing u) (missing v) = refl
  same_fault f g (missing u) (offending p w _ o y) = absurd (not_begun p w o (unfinished_begins ws u))
  same_fault f g (offending p w _ o y) (missing u) = absurd (not_begun p w o (unfinished_begins ws u))
  same_fault f g (offending p w _ o y) (offending q v _ x z) =
      let i = same_place ws p w q v o x in
      let a = o.there in
      let c = ap (slice_get ws) i ∙ x.there in
      let j : w ≡ v = cc in
      same_why ws q v f g (subst (λ k. Why ws k v f) i (subst (λ k. Why ws p k f) j y)) z

  -- no table has these words
  not_whole : (f : WordFault) → WordRefused ws f → (t : Table) → Describes ws t → ⊥
  not_whole f (missing u) t d = finished ws u t (lawful_shaped t d.accepted) d.written
  not_whole f (offending p w _ o y) t d =
      not_begun p w o
      (begins_front ws []
      (record { table = t; shaped = lawful_shaped t d.accepted; more = []; written = append-nil (ws ++ []) ∙ append-nil ws ∙ d.written }))

  by_answer : (f : WordFault) → WordRefused ws f → (r : Result Table LoadFault) → table_read ws ≡ r → ((g : LoadFault) → RefusedBy ws g → g ≡ Word f) → r ≡ Err (Word f)
  by_answer f w (Ok t) e one = absurd (not_whole f w t (read_described ws t e))
  by_answer f w (Err g) e one = ap (λ x. Err x) (one g (refusal_means ws g e))

pub means_refusal : (ws : List ℕ) (f : LoadFault) → RefusedBy ws f → table_read ws ≡ Err f
means_refusal ws f (by_row h g r) = row_answer ws h g r
means_refusal ws f (by_word g w none) = by_answer ws g w (table_read ws) refl one
  where
    one : (x : LoadFault) → RefusedBy ws x → x ≡ Word g
    one x (by_row h y r) = absurd (none h y r)
    one x (by_word y v other) = ap (λ z. Word z) (same_fault ws y g v w)
