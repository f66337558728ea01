-- The lines of a text, one after the other.
use Rattle.std.proofs.lemmas.Grind.{common_steps}
use Rattle.std.proofs.Common.{◌≡◌, ℕ, ◌+◌, ◌<◌, Bool, cond, eqb, List, [], ◌∷◌, ◌++◌, length, get_or, drop, Ok, Result, sym, ap, ◌∙◌, append-nil, subst, arith}
use Rattle.std.specs.List.{slice_split, onto_first, enumerate_from}
use Rattle.std.proofs.lemmas.List.{at_drop_more}
use Rattle.std.proofs.lemmas.List.Splits.{length-slice_split}
use Rattle.std.proofs.lemmas.List.FromFn.{length-enumerate_from, get_or-enumerate_from}
use Rattle.tokens.specs.declared.expected.ExpectedAt.{ExpectedAt}
use Rattle.tokens.specs.declared.expected.ReadError.{ReadError}
use Rattle.tokens.specs.declared.expected.Expected.{Expected}
use Rattle.tokens.specs.Lines.{tokens_of, lines_from, lines_of}
use Rattle.script.specs.Reading.{and_then}
use Rattle.script.specs.Scripts.{Sofar, finished, line_of, numbered, lines_read}
use Rattle.script.specs.Whole.{FailsAt}

abbrev pub feed : ℕ → Bool
feed b = eqb b 10

-- the line that was begun goes before the first
abbrev onto_line : List ℕ → List (List ℕ) → List (List ℕ)
onto_line w [] = w ∷ []
onto_line w (p ∷ ps) = (w ++ p) ∷ ps

onto_none : (ps : List (List ℕ)) → 0 < length ps → onto_line [] ps ≡ ps
onto_none ps h = grind arith

one_byte : (t : Bool) (w : List ℕ) (b : ℕ) (bs : List ℕ) (ps : List (List ℕ)) → lines_from [] bs ≡ ps → lines_from (w ++ b ∷ []) bs ≡ onto_line (w ++ b ∷ []) ps
    → cond t (w ∷ lines_from [] bs) (lines_from (w ++ b ∷ []) bs) ≡ onto_line w (cond t ([] ∷ ps) (onto_first b ps))
one_byte t w b bs ps x y = grind (arith, common_steps)

split_some : (text : List ℕ) → 0 < length (slice_split feed text)
split_some text = omega (arith, length-slice_split feed text)

split_from : (w text : List ℕ) → lines_from w text ≡ onto_line w (slice_split feed text)
split_from w [] = ap (λ l. l ∷ []) (sym (append-nil w))
split_from w (b ∷ bs) = one_byte (feed b) w b bs (slice_split feed bs) (split_from [] bs ∙ onto_none _ (split_some bs)) (split_from (w ++ b ∷ []) bs)

pub lines_by_split : (text : List ℕ) → slice_split feed text ≡ lines_of text
lines_by_split text = sym (split_from [] text ∙ onto_none _ (split_some text))

-- the line at k, as `enumerate` gives it
abbrev pub IsLineAt : List (List ℕ) → ℕ → ℕ × List ℕ → Type 0
IsLineAt ls k p = (k < length (enumerate_from 0 ls)) × (p ≡ get_or (enumerate_from 0 ls) k p)

at_line : (ls : List (List ℕ)) (k i : ℕ) (line : List ℕ) (s : Sofar) → IsLineAt ls k (i, line)
    → lines_read (k + 1) s (drop k ls) ≡ and_then (numbered (i + 1) (line_of s (tokens_of line))) (λ t. lines_read (k + 1 + 1) t (drop (k + 1) ls))
at_line ls k i line s h =
    let some : k < length ls = omega (arith, h.0, length-enumerate_from 0 ls) in
    let e : ◌≡◌ {A = ℕ × List ℕ} (i, line) (0 + k, get_or ls k line) = h.1 ∙ get_or-enumerate_from 0 ls k (i, line) some in
    let place : k ≡ i = let q : i ≡ 0 + k = ap (λ p. p.0) e in omega arith in
    let same : get_or ls k line ≡ line = sym (ap (λ p. p.1) e) in
    at_drop_more (lines_read (k + 1) s) ls k line some
    ∙ (λ j. and_then (numbered (place j + 1) (line_of s (tokens_of (same j)))) (λ t. lines_read (k + 1 + 1) t (drop (k + 1) ls)))

pub at_text_line : (text : List ℕ) (k i : ℕ) (line : List ℕ) (s : Sofar) → IsLineAt (slice_split feed text) k (i, line)
    → lines_read (k + 1) s (drop k (lines_of text)) ≡ and_then (numbered (i + 1) (line_of s (tokens_of line))) (λ t. lines_read (k + 1 + 1) t (drop (k + 1) (lines_of text)))
at_text_line text k i line s h = at_line (lines_of text) k i line s (subst (λ ls. IsLineAt ls k (i, line)) (lines_by_split text) h)

pub at_text_end : (text : List ℕ) (k : ℕ) (s : Sofar) → k ≡ length (enumerate_from 0 (slice_split feed text)) → lines_read (k + 1) s (drop k (lines_of text)) ≡ Ok (finished s)
at_text_end text k s h = grind (arith, common_steps, length-enumerate_from, lines_by_split)

-- a step that gave a value, or that failed
pub then_ok : {X Y E : Type 0} (r : Result X E) (k : X → Result Y E) (x : X) → r ≡ Ok x → and_then r k ≡ k x
then_ok r k x e = ap (λ q. and_then q k) e

pub then_fails : {X Y : Type 0} (f : ReadError ExpectedAt) (r : Result X (ℕ × Expected)) (k : X → Result Y (ℕ × Expected)) → FailsAt f r → FailsAt f (and_then r k)
then_fails x r k h = grind arith
