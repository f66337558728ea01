-- Words with a space before each: the tokens that they are read as, and that they stay on one line.
use Rattle.std.proofs.Common.{◌≡◌, ℕ, Bool, true, false, not, ◌&&◌, eqb, List, [], ◌∷◌, ◌++◌, map, sym, refl, ap, append_assoc, append-nil, arith}
use Rattle.std.specs.List.{flat_map, list_all}
use Rattle.std.proofs.lemmas.Grind.{common_steps}
use Rattle.std.proofs.lemmas.Bool.{and_parts}
use Rattle.tokens.specs.declared.token.Token.{Token}
use Rattle.tokens.specs.Tokens.{token_of}
use Rattle.tokens.specs.Lines.{blank, with_word, tokens_from, tokens_of, lines_from}

-- a byte of a word: no line feed, no comment's sign and no blank
abbrev pub letter : ℕ → Bool
letter b = not (eqb b 10) && (not (eqb b 35) && not (blank b))

abbrev pub letters : List ℕ → Bool
letters = list_all letter

-- a word has a byte
abbrev pub wordly : List ℕ → Bool
wordly [] = false
wordly (b ∷ bs) = letters (b ∷ bs)

abbrev pub all_words : List (List ℕ) → Bool
all_words = list_all wordly

abbrev pub spaced : List (List ℕ) → List ℕ
spaced ws = flat_map (λ w. 32 ∷ w) ws

pub words_letters : (w : List ℕ) → wordly w ≡ true → letters w ≡ true
words_letters bs h = grind arith

-- the bytes of a word are read into the word that is begun
pub word_read : (w : List ℕ) (before : List Token) (begun rest : List ℕ) → letters w ≡ true → tokens_from before begun (w ++ rest) ≡ tokens_from before (begun ++ w) rest
word_read [] before begun rest h = ap (λ l. tokens_from before l rest) (sym (append-nil begun))
word_read (b ∷ w) before begun rest h = grind (arith, common_steps, word_read w before (begun ++ b ∷ []) rest)

-- words that follow the one that is begun
spaced_read : (ws : List (List ℕ)) (before : List Token) (begun : List ℕ) → all_words ws ≡ true → tokens_from before begun (spaced ws) ≡ with_word before begun ++ map token_of ws
spaced_read [] before begun h = sym (append-nil (with_word before begun))
spaced_read (w ∷ ws) before begun h = grind (arith, word_read, append_assoc, spaced_read ws (with_word before begun) w)

-- the tokens of a line are those of its words
pub words_read : (w : List ℕ) (ws : List (List ℕ)) → wordly w ≡ true → all_words ws ≡ true → tokens_of (w ++ spaced ws) ≡ token_of w ∷ map token_of ws
words_read w ws h k = grind (arith, word_read, spaced_read)

-- no line feed
abbrev flat : List ℕ → Bool
flat = list_all (λ b. not (eqb b 10))

flat_letters : (w : List ℕ) → letters w ≡ true → flat w ≡ true
flat_letters [] h = refl
flat_letters (b ∷ w) h = grind (arith, flat_letters w)

flat_spaced : (ws : List (List ℕ)) → all_words ws ≡ true → flat (spaced ws) ≡ true
flat_spaced [] h = refl
flat_spaced (w ∷ ws) h = grind (arith, and_parts, common_steps, flat_letters, flat_spaced ws)

flat_read : (l begun rest : List ℕ) → flat l ≡ true → lines_from begun (l ++ rest) ≡ lines_from (begun ++ l) rest
flat_read [] begun rest h = ap (λ k. lines_from k rest) (sym (append-nil begun))
flat_read (b ∷ l) begun rest h = grind (arith, common_steps, flat_read l (begun ++ b ∷ []) rest)

-- a line of words ends at the line feed that follows it
pub line_read : (w : List ℕ) (ws : List (List ℕ)) (rest : List ℕ) → wordly w ≡ true → all_words ws ≡ true
    → lines_from [] ((w ++ spaced ws) ++ 10 ∷ rest) ≡ (w ++ spaced ws) ∷ lines_from [] rest
line_read w ws rest h k = flat_read (w ++ spaced ws) [] (10 ∷ rest) (grind (arith, common_steps, flat_letters w (words_letters w h), flat_spaced ws k))

pub words_append : (a b : List (List ℕ)) → all_words a ≡ true → all_words b ≡ true → all_words (a ++ b) ≡ true
words_append a b h k = grind (arith, common_steps)
