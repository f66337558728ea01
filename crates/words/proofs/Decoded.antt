-- A row made of the words of its record.
use Rattle.std.proofs.Common.{◌≡◌, ℕ, suc, ◌+◌, ◌≤◌, List, map, length, take, drop, Option, sym, ap, ◌∙◌, arith, length-drop, length-take-le}
use Rattle.std.specs.List.{between}
use Rattle.rows.specs.declared.row.Placement.{Placement}
use Rattle.rows.specs.Table.{actor_with, placed}
use Rattle.words.specs.Format.{content_of}
use Rattle.words.specs.Records.{head_content, given, past, actor_of}

-- the first n of these numbers are the contents of n words
pub list_read : (part numbers : List ℕ) (from n a k e : ℕ) → from + n ≤ length part → a ≡ n → k ≡ n → e ≡ n
    → take (length (take a (drop from part))) numbers ≡ map content_of (take a (drop from part)) → take k numbers ≡ map content_of (take e (drop from part))
list_read part numbers from n a k e l p q r is =
    let size : length (take a (drop from part)) ≡ k =
    let d = length-drop from part in length-take-le a (drop from part) (omega arith) ∙ p ∙ sym q in
    ap (λ m. take m numbers) (sym size) ∙ is ∙ ap (λ m. map content_of (take m (drop from part))) (p ∙ sym r)

module _ (part : List ℕ) where
  pub actor_made : (count : ℕ) (times : List ℕ) (first pin : Option ℕ) (place : Placement) → count ≡ head_content part
      → times ≡ map content_of (between 1 (suc (head_content part)) part) → first ≡ given part (count + 1) 4 → pin ≡ given part (past part (count + 1) 4) 5
      → place ≡ placed pin → actor_with times first place ≡ actor_of part
  actor_made count times first pin place n t f p l = grind arith
