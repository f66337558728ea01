-- A fault of a word: the first that offends, or one that is missing.
use Rattle.std.proofs.lemmas.Grind.{common_steps}
use Rattle.std.proofs.lemmas.Option.{slice_get_within, slice_get-get_or, gets}
use Rattle.std.proofs.Common.{◌≡◌, ◌⊎◌, ⊎_elim, ℕ, zero, suc, ◌+◌, ◌<◌, ◌≤◌, Bool, true, false, not, ltb, List, [], ◌∷◌, ◌++◌, length, get_or, take, drop, Some, None, Err, Option, sym, refl, ap, ◌∙◌, subst, append_assoc, append-nil, arith}
use Rattle.std.proofs.lemmas.List.{length-take-le, take_all, take_at, drop_at}
use Rattle.std.proofs.lemmas.Bool.{cases_eq, and_parts, not-true, ltb-true, eqb-true, eqb-false, cond-true, cond-false}
use Rattle.rows.specs.Steps.{answer}
use Rattle.std.specs.List.{slice_get}
use Rattle.rows.specs.Table.{Table, within}
use Rattle.words.specs.Checks.{check}
use Rattle.words.specs.declared.fault.WordFault.{WordFault}
use Rattle.words.specs.declared.fault.WordFault.TheVariants.{Missing, UnknownKind, Misplaced, WrongEnd}
use Rattle.words.specs.Format.{kind_of, content_of, word_of, row_words, table_words}
use Rattle.word_laws.specs.Offends.{Begins, Unfinished, Offends, MayEnd, Why, unknown_kind, misplaced, wrong_count, after_end, WordRefused, missing, offending}
use Rattle.words.specs.Records.{wrong_kind, number_fault, numbers_fault, writes_in, reads_in, actor_at, channel_at, end_at, record_at}
use Rattle.words.specs.Loads.{has_channels}
use Rattle.words.proofs.Bits.{word_again}
use Rattle.word_laws.proofs.Places.{slice_get_head}
use Rattle.words.proofs.Headed.{headed_by_lem, wrongly_headed}
use Rattle.words.proofs.Whole.{numbers_within}
use Rattle.word_laws.proofs.Alike.{slice_get_alike, numbers_alike}
use Rattle.word_laws.proofs.Reached.{Reached, never}
use Rattle.word_laws.proofs.Begun.{lawful_shaped, unfinished_begins, rows_taken, h_within, may_end, rows_unfinished, actor_under_way, channel_under_way}
use Rattle.word_laws.proofs.Reading.{Sofar}

answer_err : {F V : Type 0} (o : Option F) (v : V) (f : F) → answer o v ≡ Err f → o ≡ Some f
answer_err o v f e = grind arith

-- the fault of a chain of checks is that of its first check, or of those after it
check_cases : {F : Type 0} (b : Bool) (g : F) (later : Option F) (f : F) → check b g later ≡ Some f → ((b ≡ false) × (f ≡ g)) ⊎ ((b ≡ true) × (later ≡ Some f))
check_cases b g later f e = grind arith

-- a place of the words

past_all : (xs : List ℕ) (i : ℕ) → slice_get xs i ≡ None → length xs ≤ i
past_all xs i e = grind (arith, gets)

take_next : (xs : List ℕ) (i x : ℕ) → slice_get xs i ≡ Some x → take (suc i) xs ≡ take i xs ++ x ∷ []
take_next xs i x e = grind (arith, common_steps, gets)

-- the first word that is no number is the fault
numbers_stop : (vs : List ℕ) (i j n v : ℕ) → numbers_fault vs i j ≡ None → j < n → slice_get vs (i + j) ≡ Some v → (kind_of v ≡ 3 → ⊥)
    → numbers_fault vs i n ≡ Some (wrong_kind (i + j) v)
numbers_stop vs i j zero v e l a k = grind arith
numbers_stop vs i zero (suc n) v e l a k = grind arith
numbers_stop vs i (suc j) (suc n) v e l a k = grind (arith, numbers_stop vs (suc i) j n v)

-- of n words from place i on, the first that is no number
record Short (ws : List ℕ) (i n : ℕ) (f : WordFault) : Type 0 where
  before : ℕ
  fewer : before < n
  numbers : numbers_fault ws i before ≡ None
  stops : number_fault ws (i + before) ≡ Some f

short : (ws : List ℕ) (n i : ℕ) (f : WordFault) → numbers_fault ws i n ≡ Some f → Short ws i n f
short ws zero i f e = absurd (cc)
short ws (suc n) i f e = by (λ d. short ws n (suc i) f d) (number_fault ws i) refl
  where
    by : (numbers_fault ws (suc i) n ≡ Some f → Short ws (suc i) n f) → (o : Option WordFault) → number_fault ws i ≡ o → Short ws i (suc n) f
    by next (Some g) a =
        let z : i ≡ i + 0 = omega arith in
        record { before = 0; fewer = omega arith; numbers = refl; stops = subst (λ p. number_fault ws p ≡ Some f) z (grind arith) }
    by next None a =
        let x = next (grind arith) in
        let z : suc i + x.before ≡ i + suc x.before = omega arith in
        let less = x.fewer in
        let numbers = x.numbers in
        record { before = suc x.before; fewer = omega arith; numbers = grind arith; stops = subst (λ p. number_fault ws p ≡ Some f) z x.stops }

-- an offending word

module _ (ws : List ℕ) (p w : ℕ) (o : Offends ws p w) (u : Unfinished (take p ws)) where
  by_kind : (kind_of w ≡ 7 → MayEnd ws p → ⊥) → (f : WordFault) → f ≡ wrong_kind p w → WordRefused ws f
  by_kind no_end f e = offending p w f o (subst (Why ws p w) (sym e) (split (within 1 7 (kind_of w)) refl))
    where
      split : (known : Bool) → within 1 7 (kind_of w) ≡ known → Why ws p w (wrong_kind p w)
      split true k = subst (Why ws p w) (sym (cond-true (within 1 7 (kind_of w)) (Misplaced p) (UnknownKind p) k)) (misplaced u k no_end)
      split false k = subst (Why ws p w) (sym (cond-false (within 1 7 (kind_of w)) (Misplaced p) (UnknownKind p) k)) (unknown_kind u k)

-- a fault at place h, after the rows of a lawful table

module _ (ws : List ℕ) (h : ℕ) (t : Table) (s : Sofar ws h t) (r : Reached ws (has_channels t) h) where
  abbrev b : Bool
  b = has_channels t

  -- words that begin a table as these do up to place n have no fault at h
  no_table : (n : ℕ) → h < n → n ≤ length ws → (f : WordFault) → ((vs : List ℕ) → take n ws ≡ take n vs → record_at b vs h ≡ Err f) → Begins (take n ws) → ⊥
  no_table n l m f fault g =
      let vs = table_words g.table in
      let alike : take n ws ≡ take n vs =
      sym (take_at (take n ws) g.more n (length-take-le n ws m)) ∙ ap (take n) g.written in
      never n ws b h r l g.table g.shaped alike f (fault vs alike)

  head_offends : (w : ℕ) → slice_get ws h ≡ Some w → (f : WordFault) → ((vs : List ℕ) → slice_get vs h ≡ Some w → record_at b vs h ≡ Err f) → Offends ws h w
  head_offends w a f fault =
      let l = slice_get_within ws h w a in
      record {
        there = a;
        before = unfinished_begins (take h ws) (rows_unfinished ws h t s);
        not_with_it = no_table (suc h) (omega arith) l f (λ vs alike. fault vs (sym (slice_get_alike (suc h) ws vs alike h (omega arith)) ∙ a));
      }

  -- words that run out
  runs_out : (p : ℕ) → p ≡ length ws → Unfinished (take p ws) → WordRefused ws (Missing p)
  runs_out p e u =
      subst (λ n. WordRefused ws (Missing n)) (sym e)
      (missing (subst Unfinished (take_all p ws (let z : length ws ≤ p = omega arith in z)) u))

  pub head_missing : length ws ≤ h → WordRefused ws (Missing h)
  head_missing l = let m = h_within ws h t s in runs_out h (omega arith) (rows_unfinished ws h t s)

  -- a record whose numbers are not all there
  module _ (w : ℕ) (stands : slice_get ws h ≡ Some w) (n : ℕ)
      (fault : (vs : List ℕ) → slice_get vs h ≡ Some w → (f : WordFault) → numbers_fault vs (suc h) n ≡ Some f → record_at b vs h ≡ Err f) where
    module _ (j : ℕ) (less : j < n) (numbers : numbers_fault ws (suc h) j ≡ None) where
      p_within : suc h + j ≤ length ws
      p_within = let l = slice_get_within ws h w stands in numbers_within ws j (suc h) numbers l

      only_number : (v : ℕ) → (kind_of v ≡ 3 → ⊥) → Begins (take (suc h + j) ws ++ v ∷ []) → ⊥
      only_number v k g =
          let p = suc h + j in
          let front = take p ws in
          let more = v ∷ g.more in
          let vs = table_words g.table in
          let long = length-take-le p ws p_within in
          let is : front ++ more ≡ vs = sym (append_assoc front (v ∷ []) g.more) ∙ g.written in
          let alike : take p ws ≡ take p vs = sym (take_at front more p long) ∙ ap (take p) is in
          let v_there = slice_get_head vs p v g.more (ap (drop p) (sym is) ∙ drop_at front more p long) in
          let none = sym (numbers_alike p ws vs alike (suc h) j (omega arith)) ∙ numbers in
          let head = sym (slice_get_alike p ws vs alike h (omega arith)) ∙ stands in
          never p ws b h r (omega arith) g.table g.shaped alike (wrong_kind p v)
          (fault vs head (wrong_kind p v) (numbers_stop vs (suc h) j n v none less v_there k))

      number_refused : Unfinished (take (suc h + j) ws) → (f : WordFault) → number_fault ws (suc h + j) ≡ Some f → WordRefused ws f
      number_refused u f e = by (slice_get ws (suc h + j)) refl
        where
          by : (o : Option ℕ) → slice_get ws (suc h + j) ≡ o → WordRefused ws f
          by None a = grind (arith, past_all, p_within, runs_out)
          by (Some v) a =
              let p = suc h + j in
              let k : kind_of v ≡ 3 → ⊥ = λ z. grind arith in
              by_kind ws p v
              (record { there = a; before = unfinished_begins (take p ws) u; not_with_it = λ g. only_number v k (subst Begins (take_next ws p v a) g) }) u
              (λ q g. only_number (word_of 7 p) (λ z. omega arith) g) f (grind arith)

  -- a head of a known kind that may not stand here
  head_misplaced : (w k : ℕ) → slice_get ws h ≡ Some w → kind_of w ≡ k → within 1 7 k ≡ true → k < 7 → ((vs : List ℕ) → slice_get vs h ≡ Some w → record_at b vs h ≡ Err (Misplaced h))
      → WordRefused ws (Misplaced h)
  head_misplaced w k a e known low fault =
      offending h w (Misplaced h) (head_offends w a (Misplaced h) fault) (misplaced (rows_unfinished ws h t s) (ap (within 1 7) e ∙ known) (λ q g. omega arith))

  -- a word after the end
  goes_on_lem : (w : ℕ) → slice_get ws h ≡ Some w → kind_of w ≡ 7 → content_of w ≡ h → (length ws ≡ suc h → ⊥) → WordRefused ws (WrongEnd (suc h))
  goes_on_lem w a k e more =
      let l = slice_get_within ws h w a in
      let m : suc h < length ws = omega arith in
      let v = get_or ws (suc h) 0 in
      let v_there = slice_get-get_or ws (suc h) 0 m in
      let is = word_again w 7 k in
      let here : take (suc h) ws ≡ table_words t =
      take_next ws h w a ∙ ap (λ l. l ++ w ∷ []) (rows_taken ws h t s) ∙ ap (λ x. row_words t ++ x ∷ []) is
      ∙ ap (λ n. row_words t ++ word_of 7 n ∷ []) (e ∙ s.here) in
      let shaped = lawful_shaped t s.good in
      let longer : (vs : List ℕ) → take (suc (suc h)) ws ≡ take (suc (suc h)) vs → record_at b vs h ≡ Err (WrongEnd (suc h)) =
      λ vs alike.
      let n = slice_get_within vs (suc h) v (sym (slice_get_alike (suc (suc h)) ws vs alike (suc h) (omega arith)) ∙ v_there) in
      let d = sym (slice_get_alike (suc (suc h)) ws vs alike h (omega arith)) ∙ a in
      let more : length vs ≡ suc h → ⊥ = λ z. omega arith in
      grind arith in
      offending (suc h) v (WrongEnd (suc h))
      (record {
        there = v_there;
        before = record { table = t; shaped = shaped; more = []; written = append-nil (take (suc h) ws) ∙ here };
        not_with_it = no_table (suc (suc h)) (omega arith) m (WrongEnd (suc h)) longer;
      })
      (after_end t shaped here)

  -- by its head

  actor_refused : (w : ℕ) → slice_get ws h ≡ Some w → kind_of w ≡ 1 → (f : WordFault) → actor_at b ws h (content_of w) ≡ Err f → WordRefused ws f
  actor_refused w a k f e =
      let n = content_of w in
      ⊎_elim (λ c. subst (WordRefused ws) (sym c.1) (head_misplaced w 1 a k refl (omega arith) (λ vs d. let low = c.0 in grind arith)))
      (λ c.
      let p = and_parts (not b) (ltb n 256) c.0 in
      let x = short ws n (suc h) f c.1 in
      number_refused w a n (λ vs d g e. let low = c.0 in grind arith)
      x.before x.fewer x.numbers (actor_under_way ws h t s w a x.before x.numbers k (not-true b p.0) (ltb-true n 256 p.1) x.fewer) f x.stops)
      (check_cases _ (Misplaced h) _ f (answer_err _ _ f e))

  channel_refused : (w : ℕ) → slice_get ws h ≡ Some w → kind_of w ≡ 2 → (f : WordFault) → channel_at ws h (content_of w) ≡ Err f → WordRefused ws f
  channel_refused w a k f e =
      let n = writes_in (content_of w) + reads_in (content_of w) in
      ⊎_elim (λ c. subst (WordRefused ws) (sym c.1) (head_misplaced w 2 a k refl (omega arith) (λ vs d. let low = c.0 in grind arith)))
      (λ c.
      let x = short ws n (suc h) f c.1 in
      number_refused w a n (λ vs d g e. let low = c.0 in grind arith)
      x.before x.fewer x.numbers (channel_under_way ws h t s w a x.before x.numbers k (ltb-true (content_of w) 16777216 c.0) x.fewer) f x.stops)
      (check_cases _ (Misplaced h) _ f (answer_err _ _ f e))

  end_refused : (w : ℕ) → slice_get ws h ≡ Some w → kind_of w ≡ 7 → (f : WordFault) → end_at ws h (content_of w) ≡ Err f → WordRefused ws f
  end_refused w a k f e =
      ⊎_elim
      (λ c. subst (WordRefused ws) (sym c.1) (offending h w (WrongEnd h) (head_offends w a (WrongEnd h) (λ vs d. let no = c.0 in grind arith)) (wrong_count (may_end ws h t s) k)))
      (λ c. ⊎_elim (λ d. subst (WordRefused ws) (sym d.1) (goes_on_lem w a k (eqb-true (content_of w) h c.0) (eqb-false (length ws) (suc h) d.0)))
      (λ d. absurd (cc d.1)) (check_cases _ (WrongEnd (suc h)) _ f c.1))
      (check_cases _ (WrongEnd h) _ f (answer_err _ _ f e))

  pub word_refused : (f : WordFault) → record_at b ws h ≡ Err f → WordRefused ws f
  word_refused f e = by (slice_get ws h) refl
    where
      by : (o : Option ℕ) → slice_get ws h ≡ o → WordRefused ws f
      by None a = let missing : f ≡ Missing h = grind arith in subst (WordRefused ws) (sym missing) (head_missing (past_all ws h a))
      by (Some w) a =
          ⊎_elim (λ k. actor_refused w a k f (sym (headed_by_lem b ws h w a 1 k) ∙ e))
          (λ not1. ⊎_elim (λ k. channel_refused w a k f (sym (headed_by_lem b ws h w a 2 k) ∙ e))
          (λ not2. ⊎_elim (λ k. end_refused w a k f (sym (headed_by_lem b ws h w a 7 k) ∙ e))
          (λ not7. by_kind ws h w (head_offends w a (wrong_kind h w) (λ vs d. wrongly_headed b vs h w d not1 not2 not7)) (rows_unfinished ws h t s) (λ q g. not7 q) f
          (let d = sym e ∙ wrongly_headed b ws h w a not1 not2 not7 in cc))
          (cases_eq (kind_of w) 7)) (cases_eq (kind_of w) 2)) (cases_eq (kind_of w) 1)
