-- One turn of the loop that cuts a line into words: a word goes on to the first byte that ends it.
use Rattle.std.proofs.Common.{◌≡◌, ℕ, suc, ◌+◌, ◌-◌, ◌≤◌, Bool, true, false, not, cond, ltb, ◌||◌, List, [], ◌∷◌, ◌++◌, length, get_or, take, drop, Some, None, Option, sym, ap, ◌∙◌, append_assoc, append-nil, ⊎_elim, arith}
use Rattle.std.proofs.lemmas.Bool.{cases_Bool}
use Rattle.std.proofs.lemmas.Bool.Decides.{nat_tests}
use Rattle.std.proofs.lemmas.List.Sums.{prefix_len-le-length}
use Rattle.std.proofs.Math.Seq.{take-length}
use Rattle.std.specs.Prelude.{◌==◌}
use Rattle.std.specs.List.{position_or_len}
use Rattle.std.specs.Option.{unwrap_or}
use Rattle.tokens.specs.declared.token.Token.{Token}
use Rattle.tokens.specs.Tokens.{token_of}
use Rattle.tokens.specs.Lines.{blank, with_word, tokens_from}

-- a blank, or the sign of a comment
abbrev pub ends_word : ℕ → Bool
ends_word b = blank b || b == 35

word_ends : (before : List Token) (w : List ℕ) (b : ℕ) (bs : List ℕ) → ends_word b ≡ true → tokens_from before w (b ∷ bs) ≡ tokens_from (with_word before w) [] (b ∷ bs)
word_ends before w b bs h = grind (arith, nat_tests)

word_goes_on : (before : List Token) (w : List ℕ) (b : ℕ) (bs : List ℕ) → ends_word b ≡ false → tokens_from before w (b ∷ bs) ≡ tokens_from before (w ++ b ∷ []) bs
word_goes_on before w b bs h = grind (arith, nat_tests)

-- the tokens where the word takes in the first n bytes of what follows, and ends
abbrev after_word : List Token → List ℕ → List ℕ → ℕ → List Token
after_word before w bs n = tokens_from (with_word before (w ++ take n bs)) [] (drop n bs)

word_from : (before : List Token) (w bs : List ℕ) → tokens_from before w bs ≡ after_word before w bs (position_or_len ends_word bs)
word_from before w [] = ap (with_word before) (sym (append-nil w))
word_from before w (b ∷ bs) =
    let n = position_or_len ends_word bs in
    ⊎_elim
    (λ (e : ends_word b ≡ true).
    word_ends before w b bs e ∙ ap (λ l. tokens_from (with_word before l) [] (b ∷ bs)) (sym (append-nil w)) ∙ ap (λ t. after_word before w (b ∷ bs) (cond (not t) (1 + n) 0)) (sym e))
    (λ (e : ends_word b ≡ false).
    let one : suc n ≡ 1 + n = omega arith in
    word_goes_on before w b bs e ∙ word_from before (w ++ b ∷ []) bs ∙ ap (λ l. tokens_from (with_word before l) [] (drop n bs)) (append_assoc w (b ∷ []) (take n bs))
    ∙ ap (after_word before w (b ∷ bs)) one ∙ ap (λ t. after_word before w (b ∷ bs) (cond (not t) (1 + n) 0)) (sym e))
    (cases_Bool (ends_word b))

-- the place of the first byte that ends the word, or the length
end_is : (bs : List ℕ) (e : ℕ) (p : Option ℕ) → p ≡ cond (ltb (position_or_len ends_word bs) (length bs)) (Some (position_or_len ends_word bs)) None
    → e ≡ unwrap_or p (length bs) → e ≡ position_or_len ends_word bs
end_is bs e p h k = grind (arith, nat_tests, prefix_len-le-length (λ b. not (ends_word b)) bs)

begins_word : (b : ℕ) → (b ≡ 35 → ⊥) → blank b ≡ false → ends_word b ≡ false
begins_word b h k = grind (arith, nat_tests)

pub at_word : (before : List Token) (rest others : List ℕ) (e : ℕ) (p : Option ℕ) → 1 ≤ length rest → (get_or rest 0 0 ≡ 35 → ⊥) → blank (get_or rest 0 0) ≡ false → others ≡ take (length rest - 1) (drop 1 rest)
    → p ≡ cond (ltb (position_or_len ends_word others) (length others)) (Some (position_or_len ends_word others)) None → e ≡ unwrap_or p (length others)
    → tokens_from before [] rest ≡ tokens_from (before ++ token_of (take (e + 1) rest) ∷ []) [] (drop (e + 1) rest)
at_word before [] others e p some sign letter os h k = absurd (omega arith)
at_word before (b ∷ bs) others e p some sign letter os h k =
    let less : length (b ∷ bs) - 1 ≡ length bs = omega arith in
    let all : others ≡ bs = os ∙ ap (λ n. take n bs) less ∙ take-length bs in
    let one : suc (position_or_len ends_word bs) ≡ e + 1 = let end = end_is others e p h k ∙ ap (position_or_len ends_word) all in omega arith in
    word_goes_on before [] b bs (begins_word b sign letter) ∙ word_from before (b ∷ []) bs ∙ (λ i. tokens_from (before ++ token_of (take (one i) (b ∷ bs)) ∷ []) [] (drop (one i) (b ∷ bs)))
