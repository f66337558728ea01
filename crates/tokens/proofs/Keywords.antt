-- A word that is none of the keywords that a call begins with.
use Rattle.std.proofs.Common.{◌≡◌, ℕ, cond, List, codes, ◌∙◌, ⊎_elim}
use Rattle.std.specs.Str.{bytes_eq}
use Rattle.std.proofs.lemmas.Bool.{cases_Bool, cond-false}
use Rattle.std.proofs.lemmas.Slice.Eq.{bytes_eq-Decides}
use Rattle.tokens.specs.declared.token.Token.{Token}
use Rattle.tokens.specs.Tokens.{call_word, part_word}

-- where a word is not this one, the other choice is taken
other : (w p : List ℕ) (t u : Token) → (w ≡ p → ⊥) → cond (bytes_eq w p) t u ≡ u
other w p t u h = cond-false _ _ _ (⊎_elim (λ e. absurd (h ((bytes_eq-Decides w p).0 e))) (λ e. e) (cases_Bool (bytes_eq w p)))

module _ (w : List ℕ) (mark : w ≡ codes "mark" → ⊥) (ticket : w ≡ codes "ticket" → ⊥) (open_word : w ≡ codes "open" → ⊥) (actor : w ≡ codes "actor" → ⊥) (channel : w ≡ codes "channel" → ⊥) (cut : w ≡ codes "cut" → ⊥) (keep : w ≡ codes "keep" → ⊥) (withdraw : w ≡ codes "withdraw" → ⊥) (rows : w ≡ codes "rows" → ⊥) where
  pub no_call_word : call_word w ≡ part_word w
  no_call_word = other w _ _ _ mark ∙ other w _ _ _ ticket ∙ other w _ _ _ open_word ∙ other w _ _ _ actor ∙ other w _ _ _ channel ∙ other w _ _ _ cut ∙ other w _ _ _ keep ∙ other w _ _ _ withdraw ∙ other w _ _ _ rows
