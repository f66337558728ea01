-- The words from a place on: numbers, and words that may be left out.
use Rattle.std.proofs.lemmas.Grind.{common_steps}
use Rattle.std.proofs.lemmas.Option.{gets}
use Rattle.std.proofs.Common.{◌≡◌, ℕ, zero, suc, ◌+◌, true, List, [], ◌∷◌, ◌++◌, map, length, get_or, drop, Some, None, Option, refl, ap, ◌∙◌, arith, drop-drop, drop_at}
use Rattle.std.specs.List.{list_all, slice_get, between}
use Rattle.std.proofs.lemmas.List.{length-map}
use Rattle.std.proofs.lemmas.Bool.{and_from}
use Rattle.words.specs.declared.fault.WordFault.{WordFault}
use Rattle.words.specs.Format.{kind_of, content_of, word_of, option_words}
use Rattle.words.specs.Fitting.{small, small_if}
use Rattle.words.specs.Records.{number_fault, numbers_fault, given, past}

-- a list from a place on

module _ {X : Type 0} where
  pub slice_get-drop : (xs : List X) (i : ℕ) → slice_get xs i ≡ slice_get (drop i xs) 0
  slice_get-drop xs i = grind (arith, common_steps, gets)

  pub drop_past : (xs : List X) (i j : ℕ) (front more : List X) → drop i xs ≡ front ++ more → j ≡ i + length front → drop j xs ≡ more
  drop_past xs i j front more e k = rw (k, ← drop-drop (length front) i xs, e) (drop_at front more (length front) refl)

  pub drop_next : (xs : List X) (i : ℕ) (x : X) (more : List X) → drop i xs ≡ x ∷ more → drop (suc i) xs ≡ more
  drop_next xs i x more e = drop_past xs i (suc i) (x ∷ []) more e (omega arith)

  pub between_front : (xs : List X) (i j : ℕ) (front more : List X) → drop i xs ≡ front ++ more → j ≡ i + length front → between i j xs ≡ front
  between_front xs i j front more e k = grind (arith, common_steps)

  pub slice_get_head : (xs : List X) (i : ℕ) (x : X) (more : List X) → drop i xs ≡ x ∷ more → slice_get xs i ≡ Some x
  slice_get_head xs i x more e = slice_get-drop xs i ∙ ap (λ l. slice_get l 0) e

  -- the element at a place begins the list from there on
  pub drop_there : (xs : List X) (i : ℕ) (x : X) → slice_get xs i ≡ Some x → drop i xs ≡ x ∷ drop (suc i) xs
  drop_there xs i x e = grind (arith, common_steps, gets)

-- contents that fit their bits

pub small_content : (w : ℕ) → small (content_of w) ≡ true
small_content w = grind arith

pub kind_read : (k c : ℕ) → small c ≡ true → kind_of (word_of k c) ≡ k
kind_read k c s = grind arith

pub content_read : (k c : ℕ) → small c ≡ true → content_of (word_of k c) ≡ c
content_read k c s = grind arith

pub contents_read : (k : ℕ) (ns : List ℕ) → list_all small ns ≡ true → map content_of (map (word_of k) ns) ≡ ns
contents_read k [] s = refl
contents_read k (n ∷ ns) s = grind (arith, contents_read k ns)

-- a word that may be left out

-- it depends on the words from its place on alone
pub given_from : (ws : List ℕ) (i k : ℕ) → given ws i k ≡ given (drop i ws) 0 k
given_from ws i k = grind (arith, slice_get-drop)

pub given_read : (ws : List ℕ) (i k : ℕ) (o : Option ℕ) (more : List ℕ) → drop i ws ≡ option_words k o ++ more → small_if o ≡ true → given more 0 k ≡ None → given ws i k ≡ o
given_read ws i k o more e s n = grind (arith, given_from)

-- what is given is there

pub given_fits : (ws : List ℕ) (i k : ℕ) → small_if (given ws i k) ≡ true
given_fits ws i k = grind arith

pub given_there : (ws : List ℕ) (i k : ℕ) → drop i ws ≡ option_words k (given ws i k) ++ drop (past ws i k) ws
given_there ws i k = grind (arith, common_steps, gets)

-- numbers

pub numbers_read : (ws : List ℕ) (i : ℕ) (ns more : List ℕ) → drop i ws ≡ map (word_of 3) ns ++ more → list_all small ns ≡ true → numbers_fault ws i (length ns) ≡ None
numbers_read ws i [] more e s = refl
numbers_read ws i (n ∷ ns) more e s = grind (arith, slice_get_head, drop_next, numbers_read ws (suc i) ns more)

-- and their contents are the numbers
pub numbers_are : (ws : List ℕ) (i j : ℕ) (ns more : List ℕ) → drop i ws ≡ map (word_of 3) ns ++ more → list_all small ns ≡ true → j ≡ i + length ns
    → map content_of (between i j ws) ≡ ns
numbers_are ws i j ns more e s k = grind (arith, length-map, between_front, contents_read)

-- the fault of two lists of numbers, one after the other

abbrev fault_or : Option WordFault → Option WordFault → Option WordFault
fault_or o p = elim o [ Some f ↦ Some f | None ↦ p ]

fault_or_assoc : (o p q : Option WordFault) → fault_or o (fault_or p q) ≡ fault_or (fault_or o p) q
fault_or_assoc o p q = grind arith

number_then : (o p : Option WordFault) → fault_or o p ≡ None → (o ≡ None) × (p ≡ None)
number_then o p e = grind arith

numbers_fault-add : (ws : List ℕ) (i n m : ℕ) → numbers_fault ws i (n + m) ≡ fault_or (numbers_fault ws i n) (numbers_fault ws (i + n) m)
numbers_fault-add ws i zero m = grind arith
numbers_fault-add ws i (suc n) m =
    let a : suc n + m ≡ suc (n + m) = omega arith in
    let b : suc i + n ≡ i + suc n = omega arith in
    ap (numbers_fault ws i) a
    ∙ ap (fault_or (number_fault ws i)) (numbers_fault-add ws (suc i) n m ∙ ap (λ j. fault_or (numbers_fault ws (suc i) n) (numbers_fault ws j m)) b)
    ∙ fault_or_assoc (number_fault ws i) (numbers_fault ws (suc i) n) (numbers_fault ws (i + suc n) m)

pub numbers_join : (ws : List ℕ) (i n m : ℕ) → numbers_fault ws i n ≡ None → numbers_fault ws (i + n) m ≡ None → numbers_fault ws i (n + m) ≡ None
numbers_join ws i n m e f = grind (arith, numbers_fault-add)

pub numbers_part : (ws : List ℕ) (i n m : ℕ) → numbers_fault ws i (n + m) ≡ None → (numbers_fault ws i n ≡ None) × (numbers_fault ws (i + n) m ≡ None)
numbers_part ws i n m e = grind (arith, numbers_fault-add)

-- where there is no fault, there are as many numbers

pub record Numbers (ws : List ℕ) (i n : ℕ) : Type 0 where
  pub numbers : List ℕ
  pub small_ones : list_all small numbers ≡ true
  pub many : length numbers ≡ n
  pub words : drop i ws ≡ map (word_of 3) numbers ++ drop (i + n) ws

record Number (ws : List ℕ) (i : ℕ) : Type 0 where
  number : ℕ
  small_one : small number ≡ true
  word : drop i ws ≡ word_of 3 number ∷ drop (suc i) ws

number_there : (ws : List ℕ) (i : ℕ) → number_fault ws i ≡ None → Number ws i
number_there ws i e = let w = get_or ws i 0 in record { number = content_of w; small_one = small_content w; word = grind (arith, common_steps, gets) }

pub numbers_there : (ws : List ℕ) (i n : ℕ) → numbers_fault ws i n ≡ None → Numbers ws i n
numbers_there ws i zero e = grind arith
numbers_there ws i (suc n) e =
    let p = number_then (number_fault ws i) (numbers_fault ws (suc i) n) e in
    let x = number_there ws i p.0 in
    let xs = numbers_there ws (suc i) n p.1 in
    let b : suc i + n ≡ i + suc n = omega arith in
    record {
      numbers = x.number ∷ xs.numbers;
      small_ones = and_from (small x.number) (list_all small xs.numbers) x.small_one xs.small_ones;
      many = ap suc xs.many;
      words = x.word ∙ ap (λ l. word_of 3 x.number ∷ l) (xs.words ∙ ap (λ j. map (word_of 3) xs.numbers ++ drop j ws) b);
    }
