-- The lines of a text are what `split` gives.
use Rattle.std.proofs.Common.{◌≡◌, ℕ, ◌<◌, Bool, true, false, cond, eqb, List, [], ◌∷◌, ◌++◌, length, refl, sym, ap, ◌∙◌, append_assoc, append-nil, arith}
use Rattle.std.specs.List.{slice_split, onto_first}
use Rattle.std.proofs.lemmas.List.Splits.{length-slice_split}
use Rattle.tokens.specs.Lines.{lines_from, lines_of}

-- the part that was begun goes before the first
abbrev pub onto_part : List ℕ → List (List ℕ) → List (List ℕ)
onto_part w [] = w ∷ []
onto_part w (p ∷ ps) = (w ++ p) ∷ ps

pub onto_byte : (w : List ℕ) (b : ℕ) (ps : List (List ℕ)) → onto_part (w ++ b ∷ []) ps ≡ onto_part w (onto_first b ps)
onto_byte w b [] = refl
onto_byte w b (p ∷ ps) = ap (λ x. x ∷ ps) (append_assoc w (b ∷ []) p)

onto_none : (ps : List (List ℕ)) → 0 < length ps → onto_part [] ps ≡ ps
onto_none [] h = absurd (let z : ⊥ = omega arith in z)
onto_none (p ∷ ps) h = refl

abbrev pub feed : ℕ → Bool
feed b = eqb b 10

one_byte : (t : Bool) (w : List ℕ) (b : ℕ) (bs : List ℕ) (ps : List (List ℕ)) → lines_from [] bs ≡ ps → lines_from (w ++ b ∷ []) bs ≡ onto_part (w ++ b ∷ []) ps
    → cond t (w ∷ lines_from [] bs) (lines_from (w ++ b ∷ []) bs) ≡ onto_part w (cond t ([] ∷ ps) (onto_first b ps))
one_byte true w b bs ps x y = ap (λ l. w ∷ l) x ∙ ap (λ l. l ∷ ps) (sym (append-nil w))
one_byte false w b bs ps x y = y ∙ onto_byte w b ps

split_some : (text : List ℕ) → 0 < length (slice_split feed text)
split_some text = omega (arith, length-slice_split feed text)

split_from : (w text : List ℕ) → lines_from w text ≡ onto_part w (slice_split feed text)
split_from w [] = ap (λ l. l ∷ []) (sym (append-nil w))
split_from w (b ∷ bs) = one_byte (feed b) w b bs (slice_split feed bs) (split_from [] bs ∙ onto_none _ (split_some bs)) (split_from (w ++ b ∷ []) bs)

pub lines_by_split : (text : List ℕ) → slice_split feed text ≡ lines_of text
lines_by_split text = sym (split_from [] text ∙ onto_none _ (split_some text))
