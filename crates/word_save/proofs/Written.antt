-- Words written over others, one part after the other.
use Rattle.std.proofs.lemmas.Grind.{common_steps}
use Rattle.std.proofs.Common.{◌≡◌, ℕ, suc, ◌+◌, ◌-◌, ◌<◌, ◌≤◌, List, [], ◌∷◌, ◌++◌, map, length, get_or, take, drop, set, sym, ap, ◌∙◌, append_assoc, arith, length-append, take_at, drop_at}
use lib.Seq.{set_split}
use Rattle.std.specs.List.{flat_map}
use Rattle.std.proofs.lemmas.List.{drop-drop, take_more}
use Rattle.words.specs.Format.{word_of}
use Rattle.word_save.specs.Saves.{written}

pub written_one : (place w : ℕ) (out : List ℕ) → place < length out → set out place w ≡ written place (w ∷ []) out
written_one place w out h =
    let e : suc place ≡ place + 1 = omega arith in set_split out place w h ∙ ap (λ n. take place out ++ w ∷ drop n out) e

module _ (place : ℕ) (xs out : List ℕ) (h : place + length xs ≤ length out) where
  pub length_written : length (written place xs out) ≡ length out
  length_written = grind (arith, common_steps)

  pub written_more : (ys : List ℕ) → written (place + length xs) ys (written place xs out) ≡ written place (xs ++ ys) out
  written_more ys =
      let n = place + length xs in
      let rest = drop n out in
      let front : length (take place out ++ xs) ≡ n = grind (arith, common_steps) in
      let split : written place xs out ≡ (take place out ++ xs) ++ rest = sym (append_assoc (take place out) xs rest) in
      let before : take n (written place xs out) ≡ take place out ++ xs = ap (take n) split ∙ take_at (take place out ++ xs) rest n front in
      let later : drop n (written place xs out) ≡ rest = ap (drop n) split ∙ drop_at (take place out ++ xs) rest n front in
      let whole : n + length ys ≡ place + length (xs ++ ys) = omega (arith, length-append xs ys) in
      let beyond : drop (n + length ys) (written place xs out) ≡ drop (place + length (xs ++ ys)) out =
      sym (drop-drop (length ys) n (written place xs out)) ∙ ap (drop (length ys)) later ∙ drop-drop (length ys) n out ∙ ap (λ k. drop k out) whole in
      ap (λ l. l ++ (ys ++ drop (n + length ys) (written place xs out))) before ∙ ap (λ l. (take place out ++ xs) ++ (ys ++ l)) beyond
      ∙ append_assoc (take place out) xs (ys ++ drop (place + length (xs ++ ys)) out)
      ∙ ap (λ l. take place out ++ l) (sym (append_assoc xs ys (drop (place + length (xs ++ ys)) out)))

-- a part after another
pub then_written : (place n : ℕ) (xs ys was mid after : List ℕ) → place + length xs ≤ length was → mid ≡ written place xs was → n ≡ place + length xs → after ≡ written n ys mid
    → after ≡ written place (xs ++ ys) was
then_written place n xs ys was mid after h e k f = grind (arith, written_more)

-- a record of a head and three parts

pub record_length : (head : ℕ) (x y z : List ℕ) → length (head ∷ (x ++ (y ++ z))) ≡ suc (length x + (length y + length z))
record_length head x y z = grind (arith, common_steps)

module _ (place head : ℕ) (x y z was : List ℕ) (h : place + length (head ∷ (x ++ (y ++ z))) ≤ length was) where
  pub record_written : (n1 : ℕ) (a : List ℕ) → a ≡ written place (head ∷ []) was → n1 ≡ place + 1 → (n2 : ℕ) (b : List ℕ) → b ≡ written n1 x a → n2 ≡ n1 + length x
      → (n3 : ℕ) (c : List ℕ) → c ≡ written n2 y b → n3 ≡ n2 + length y → (n4 : ℕ) (d : List ℕ) → d ≡ written n3 z c → n4 ≡ n3 + length z
      → (n4 ≡ place + length (head ∷ (x ++ (y ++ z)))) × (d ≡ written place (head ∷ (x ++ (y ++ z))) was)
  record_written n1 a e1 k1 n2 b e2 k2 n3 c e3 k3 n4 d e4 k4 =
      let l = record_length head x y z in
      let m = length-append (head ∷ x) y in
      let two = then_written place n1 (head ∷ []) x was a b (omega arith) e1 k1 e2 in
      let three = then_written place n2 (head ∷ x) y was b c (omega arith) two (omega arith) e3 in
      (omega arith, then_written place n3 ((head ∷ x) ++ y) z was c d (omega arith) three (omega arith) e4 ∙ ap (λ w. written place w was) (append_assoc (head ∷ x) y z))

-- a list of numbers, of which the code has a slice
pub list_size : (from n : ℕ) (slice ns : List ℕ) → slice ≡ ns → n ≡ from + length slice → n ≡ from + length (map (word_of 3) ns)
list_size from n slice ns is e = grind (arith, common_steps)

-- a part over the first of the words from a place on
pub written_from : (place k : ℕ) (xs out part : List ℕ) → k ≡ length out - place → part ≡ written 0 xs (take k (drop place out))
    → take place out ++ (part ++ drop k (drop place out)) ≡ written place xs out
written_from place k xs out part e f = grind (arith, common_steps)

-- the words of rows, one row after the other
pub joined_next : {X : Type 0} (words : X → List ℕ) (rows : List X) (i : ℕ) (row : X) → i < length rows → row ≡ get_or rows i row
    → flat_map words (take (i + 1) rows) ≡ flat_map words (take i rows) ++ words row
joined_next words rows i row h e = grind (arith, common_steps, take_more)
