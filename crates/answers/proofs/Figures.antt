-- A printed number is a word, and is read as that number.
use Rattle.std.proofs.Common.{◌≡◌, ℕ, ◌^◌, ◌<◌, Bool, true, ltb, List, [], ◌∷◌, map, length, decimal, refl, arith}
use Rattle.std.specs.Str.Parse.{digits_value}
use Rattle.std.specs.List.{flat_map, list_all}
use Rattle.std.proofs.lemmas.List.Folds.{flat_map-map}
use Rattle.std.specs.Str.{all_ascii_digits}
use Rattle.std.proofs.lemmas.Str.Parse.{IsNumeralModel, numerals_by_value, tells_all_ascii_digits}
use Rattle.std.proofs.lemmas.Fmt.{digits_decimal, digits_value-decimal, decimal_nonempty}
use Rattle.std.proofs.lemmas.Bool.{and_from, ltb-true, lt-ltb}
use Rattle.tokens.specs.declared.token.Token.TheVariants.{Number}
use Rattle.tokens.specs.Tokens.{token_of}
use Rattle.answers.specs.Texts.{spaced_text}
use Rattle.answers.proofs.Spaced.{letters, wordly, all_words, spaced}

own : IsNumeralModel (λ ds. all_ascii_digits ds ≡ true) (digits_value 10)
own = numerals_by_value (λ ds. all_ascii_digits ds ≡ true) tells_all_ascii_digits

-- small enough for a token
abbrev pub small : ℕ → Bool
small n = ltb n 4294967296

abbrev pub all_small : List ℕ → Bool
all_small = list_all small

digits_letters : (w : List ℕ) → all_ascii_digits w ≡ true → letters w ≡ true
digits_letters [] h = refl
digits_letters (b ∷ w) h = grind (arith, digits_letters w)

letters_word : (w : List ℕ) → 0 < length w → letters w ≡ true → wordly w ≡ true
letters_word w h k = grind arith

module _ (n : ℕ) (s : small n ≡ true) where
  fits : n < 2 ^ 64
  fits = let h = ltb-true n 4294967296 s in omega arith

  pub figures_word : wordly (decimal n) ≡ true
  figures_word = letters_word (decimal n) (decimal_nonempty n fits) (digits_letters (decimal n) (digits_decimal own n fits))

  pub figures_token : token_of (decimal n) ≡ Number n
  figures_token = grind (arith, digits_value-decimal, own, and_from, lt-ltb, decimal_nonempty, digits_decimal)

-- the same of a list
pub list_words : (ns : List ℕ) → all_small ns ≡ true → all_words (map decimal ns) ≡ true
list_words [] h = refl
list_words (n ∷ ns) h = grind (arith, figures_word, list_words ns)

pub list_tokens : (ns : List ℕ) → all_small ns ≡ true → map token_of (map decimal ns) ≡ map (λ n. Number n) ns
list_tokens [] h = refl
list_tokens (n ∷ ns) h = grind (arith, figures_token, list_tokens ns)

pub list_spaced : (ns : List ℕ) → spaced (map decimal ns) ≡ flat_map spaced_text ns
list_spaced ns = flat_map-map (λ w. 32 ∷ w) decimal ns
