-- A number read digit by digit.
use Rattle.std.proofs.Common.{◌≡◌, ℕ, ◌+◌, ◌-◌, ◌*◌, ◌<◌, ◌≤◌, Bool, true, false, cond, ◌&&◌, ltb, leb, List, [], ◌∷◌, length, Some, None, Option, ControlFlow, Continue, Break, refl, sym, ap, ◌∙◌, subst, ⊎_elim, arith}
use Rattle.std.specs.Str.Parse.{digits_value_after}
use Rattle.std.specs.Char.{is_ascii_digit, digit_value}
use Rattle.std.specs.Str.{all_ascii_digits}
use Rattle.std.proofs.lemmas.Bool.{cases_Bool, cond-true, cond-false, and_from, and_left, and_right, and_parts, leb-true, lt-ltb, le-ltb, ltb-true, ltb-false}
use Rattle.std.specs.ControlFlow.{continue_value}
use Rattle.std.specs.Fn.{Called}
use Rattle.std.specs.Iterator.{AlwaysYields, Yields, TryFoldTurn, TryFoldsItems}
use Rattle.std.specs.List.{FoldsTo}
use Rattle.std.specs.Option.{MatchOption}
use Rattle.std.proofs.lemmas.Iterator.{YieldsList}
use denote.Param.Members.{Mut}
use Rattle.tokens.specs.Tokens.{numeral, with_digit}

-- the number that n and the digits that follow it write
abbrev pub numeral_from : ℕ → List ℕ → Option ℕ
numeral_from n [] = Some n
numeral_from n (c ∷ cs) = elim (with_digit n c) [ None ↦ None | Some m ↦ numeral_from m cs ]

abbrev pub goes_on : List ℕ → Option ℕ → Option ℕ
goes_on cs o = elim o [ None ↦ None | Some m ↦ numeral_from m cs ]

abbrev below : Bool → ℕ → Option ℕ
below digits v = cond (digits && ltb v 4294967296) (Some v) None

value_ge : (cs : List ℕ) (n : ℕ) → n ≤ digits_value_after 10 n cs
value_ge [] n = omega arith
value_ge (c ∷ cs) n = let h = value_ge cs (n * 10 + digit_value c) in omega arith

digit_value_lem : (c : ℕ) → is_ascii_digit c ≡ true → digit_value c ≡ c - 48
digit_value_lem c d =
    let p = and_parts (leb 48 c) (leb c 57) d in
    let a = leb-true 48 c p.0 in
    let b = leb-true c 57 p.1 in
    cond-false (ltb c 48) 36 _ (le-ltb c 48 a) ∙ cond-true (ltb c 58) (c - 48) _ (lt-ltb c 58 (omega arith))

pub read_from : (w : List ℕ) (n : ℕ) → n < 4294967296 → numeral_from n w ≡ below (all_ascii_digits w) (digits_value_after 10 n w)
read_from [] n h = sym (cond-true (ltb n 4294967296) (Some n) None (lt-ltb n 4294967296 h))
read_from (c ∷ cs) n h =
    let m = n * 10 + (c - 48) in
    let v = digits_value_after 10 (n * 10 + digit_value c) cs in
    let fits = ltb m 4294967296 in
    ⊎_elim
    (λ (d : is_ascii_digit c ≡ true).
    let val : v ≡ digits_value_after 10 m cs = ap (λ k. digits_value_after 10 (n * 10 + k) cs) (digit_value_lem c d) in
    let digits : all_ascii_digits (c ∷ cs) ≡ all_ascii_digits cs = ap (λ b. b && all_ascii_digits cs) d in
    ⊎_elim
    (λ (l : fits ≡ true).
    let went : numeral_from n (c ∷ cs) ≡ numeral_from m cs = ap (goes_on cs) (cond-true (is_ascii_digit c && fits) (Some m) None (and_from _ _ d l)) in
    let small : m < 4294967296 = ltb-true m 4294967296 l in
    went ∙ read_from cs m small ∙ ap (λ a. below a (digits_value_after 10 m cs)) (sym digits) ∙ ap (below (all_ascii_digits (c ∷ cs))) (sym val))
    (λ (l : fits ≡ false).
    let stopped : numeral_from n (c ∷ cs) ≡ None = ap (goes_on cs) (cond-false (is_ascii_digit c && fits) (Some m) None (and_right _ _ l)) in
    let large : 4294967296 ≤ v = let a = ltb-false m 4294967296 l in let b = value_ge cs m in let e = val in omega arith in
    stopped ∙ sym (cond-false (all_ascii_digits (c ∷ cs) && ltb v 4294967296) (Some v) None (and_right _ _ (le-ltb v 4294967296 large))))
    (cases_Bool fits))
    (λ (d : is_ascii_digit c ≡ false).
    let stopped : numeral_from n (c ∷ cs) ≡ None = ap (goes_on cs) (cond-false (is_ascii_digit c && fits) (Some m) None (and_left _ _ d)) in
    stopped ∙ sym (cond-false (all_ascii_digits (c ∷ cs) && ltb v 4294967296) (Some v) None (and_left _ _ (and_left _ _ d))))
    (cases_Bool (is_ascii_digit c))

pub read_all : (w : List ℕ) → 0 < length w → numeral_from 0 w ≡ numeral w
read_all w h = read_from w 0 (omega arith) ∙ ap (λ b. cond (b && (all_ascii_digits w && ltb (digits_value_after 10 0 w) 4294967296)) (Some (digits_value_after 10 0 w)) None) (sym (lt-ltb 0 (length w) h))

-- what `try_fold` gives over a word, where each call of the closure gives the number with one more digit
module _ {S A F : Type 0} (E : Type 0) (steps : S → Option A → S → Type 0) (v : A → ℕ) (g : Mut F (ℕ × (A × Unit {0})) (Option ℕ)) (f : F)
    (k : (n : ℕ) (x : A) (o : Option ℕ) (q : F) → Called g f (n, (x, tt)) o q → (q ≡ f) × (o ≡ with_digit n (v x))) where
  abbrev branches : Option ℕ → ControlFlow E ℕ → Type 0
  branches r b = r ≡ continue_value b

  -- the word's end came, or the closure gave None at x
  abbrev Ends : Option A → Option ℕ → F × ℕ → Type 0
  Ends o r p = MatchOption o (branches r (Continue p.1))
      (λ x. (w : Option ℕ) × (h : F) × (e : E) × Called g p.0 (p.1, (x, tt)) w h × branches w (Break e) × (r ≡ None))

  at_end : (all : List ℕ) (s u : S) (o : Option A) (r : Option ℕ) (p : F × ℕ) → p.0 ≡ f → AlwaysYields steps v s all → steps s o u → Ends o r p → r ≡ numeral_from p.1 all
  at_end [] s u None r p a y t e = e
  at_end [] s u (Some x) r p a y t e = absurd (y x u t)
  at_end (c ∷ cs) s u None r p a y t e = absurd (y.0 u t)
  at_end (c ∷ cs) s u (Some x) r p a y t e =
      let h = k p.1 x e.0 e.1 (subst (λ w. Called g w (p.1, (x, tt)) e.0 e.1) a e.3) in
      let none : with_digit p.1 c ≡ None = ap (with_digit p.1) (sym (y.1 x u t).0) ∙ sym h.1 ∙ e.4 in
      e.5 ∙ sym (ap (goes_on cs) none)

  turns : (xs : List A) (all : List ℕ) (s t u : S) (o : Option A) (r : Option ℕ) (p q : F × ℕ) → p.0 ≡ f → AlwaysYields steps v s all → Yields steps s xs t → steps t o u
      → FoldsTo {P = F × ℕ} (TryFoldTurn g branches) p xs q → Ends o r q → r ≡ numeral_from p.1 all
  turns [] all s t u o r p q a y i z c e = at_end all s u o r p a y (subst (λ w. steps w o u) (sym i) z) (subst (Ends o r) (sym c) e)
  turns (x ∷ xs) [] s t u o r p q a y i z c e = absurd (y x i.0 i.1)
  turns (x ∷ xs) (b ∷ bs) s t u o r p q a y i z c e =
      let h = k p.1 x c.1.0 c.0.0 (subst (λ w. Called g w (p.1, (x, tt)) c.1.0 c.0.0) a c.1.1) in
      let more : with_digit p.1 b ≡ Some c.0.1 = ap (with_digit p.1) (sym (y.1 x i.0 i.1).0) ∙ sym h.1 ∙ c.1.2 in
      turns xs bs i.0 t u o r c.0 q h.0 (y.1 x i.0 i.1).1 i.2 z c.2 e ∙ sym (ap (goes_on bs) more)

  pub number_from_try_fold : (s u : S) (n : ℕ) (r : Option ℕ) (all : List ℕ) → TryFoldsItems steps g branches (λ _ o. o ≡ None) s f n r u → YieldsList steps v s all → r ≡ numeral_from n all
  number_from_try_fold s u n r all d y = turns d.0 all s d.4.0 u d.1 r (f, n) (d.2, d.3) refl y.runs d.4.1 d.4.2 d.5 d.6
