-- What is read at the front of a line's tokens, and what is left of them; or what was expected there.
use Rattle.std.specs.Prelude.{ℕ, Bool, false, cond, List, [], ◌∷◌, ◌++◌, is_some, Some, None, Ok, Err, Option, Result}
use Rattle.tokens.specs.declared.token.Token.{Token}
use Rattle.tokens.specs.declared.expected.Expected.{Expected}
use Rattle.tokens.specs.declared.expected.Expected.TheVariants.{Word, NumberAfter, LineEnd}
use Rattle.tokens.specs.Tokens.{same, as_number}

abbrev pub Reading : Type 0 → Type 0
Reading X = Result (X × List Token) Expected

-- one step, and then another of its result
abbrev pub and_then : {X Y E : Type 0} → Result X E → (X → Result Y E) → Result Y E
and_then (Ok x) f = f x
and_then (Err e) f = Err e

-- a result, beside what is left after it
abbrev pub with_rest : {X E : Type 0} → Result X E → List Token → Result (X × List Token) E
with_rest (Ok x) rest = Ok (x, rest)
with_rest (Err e) rest = Err e

abbrev pub first_token : List Token → Option Token
first_token [] = None
first_token (t ∷ ts) = Some t

abbrev pub starts : Token → List Token → Bool
starts w [] = false
starts w (t ∷ ts) = same t w

abbrev pub tail : List Token → List Token
tail [] = []
tail (t ∷ ts) = ts

-- what is left after a word, if it comes first
abbrev pub after_word : Token → List Token → List Token
after_word w ts = cond (starts w ts) (tail ts) ts

abbrev pub this_word : Token → List Token → Reading (Unit {0})
this_word w ts = cond (starts w ts) (Ok (tt, tail ts)) (Err (Word w))

abbrev pub first_number : List Token → Option ℕ
first_number [] = None
first_number (t ∷ ts) = as_number t

abbrev pub after_number : List Token → List Token
after_number ts = cond (is_some (first_number ts)) (tail ts) ts

abbrev number_or : Option ℕ → List Token → Expected → Reading ℕ
number_or (Some n) rest e = Ok (n, rest)
number_or None rest e = Err e

abbrev pub number_after : Token → List Token → Reading ℕ
number_after w ts = number_or (first_number ts) (tail ts) (NumberAfter w)

-- all the numbers that come first, after those before
abbrev pub numbers_from : List ℕ → List Token → List ℕ × List Token
numbers_from before [] = (before, [])
numbers_from before (t ∷ ts) = elim (as_number t) [ None ↦ (before, t ∷ ts) | Some n ↦ numbers_from (before ++ n ∷ []) ts ]

abbrev pub all_numbers : List Token → List ℕ × List Token
all_numbers ts = numbers_from [] ts

-- a number after a word, if the word comes first
abbrev pub number_if : Token → List Token → Reading (Option ℕ)
number_if w ts = cond (starts w ts) (and_then (number_after w (tail ts)) (λ p. Ok (Some p.0, p.1))) (Ok (None, ts))

abbrev pub ended : List Token → Result (Unit {0}) Expected
ended [] = Ok tt
ended (t ∷ ts) = Err LineEnd
