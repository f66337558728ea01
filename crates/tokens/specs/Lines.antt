-- The words of a line, and the lines of a text.
use Rattle.std.specs.Prelude.{ℕ, Bool, cond, ◌||◌, List, [], ◌∷◌, ◌++◌, ◌==◌}
use Rattle.tokens.specs.declared.token.Token.{Token}
use Rattle.tokens.specs.Tokens.{token_of}

-- a space, a tab or a carriage return
abbrev pub blank : ℕ → Bool
blank b = b == 32 || (b == 9 || b == 13)

-- the tokens so far, and one more of a word, unless the word is empty
abbrev pub with_word : List Token → List ℕ → List Token
with_word before [] = before
with_word before (b ∷ w) = before ++ token_of (b ∷ w) ∷ []

-- the tokens of a line, after those before and the word that is being read; a `#` ends it
abbrev pub tokens_from : List Token → List ℕ → List ℕ → List Token
tokens_from before w [] = with_word before w
tokens_from before w (b ∷ bs) =
    cond (b == 35) (with_word before w)
    (cond (blank b) (tokens_from (with_word before w) [] bs) (tokens_from before (w ++ b ∷ []) bs))

abbrev pub tokens_of : List ℕ → List Token
tokens_of line = tokens_from [] [] line

-- the lines of a text, after the line that is being read; a line feed ends each but the last
abbrev pub lines_from : List ℕ → List ℕ → List (List ℕ)
lines_from line [] = line ∷ []
lines_from line (b ∷ bs) = cond (b == 10) (line ∷ lines_from [] bs) (lines_from (line ++ b ∷ []) bs)

abbrev pub lines_of : List ℕ → List (List ℕ)
lines_of text = lines_from [] text
