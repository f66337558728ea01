-- The words that have to be numbers, one after the other.
use Rattle.std.proofs.Common.{◌≡◌, ℕ, ◌+◌, ◌-◌, ◌<◌, List, Some, arith}
use Rattle.std.specs.List.{slice_get}
use Rattle.words.specs.Format.{kind_of}
use Rattle.words.specs.Records.{numbers_fault, wrong_kind}

module _ (ws : List ℕ) (i end w : ℕ) (h : i < end) (e : slice_get ws i ≡ Some w) where
  -- seen from a number, and from a word that is none: they are counted by where they end
  pub number_passed : kind_of w ≡ 3 → numbers_fault ws i (end - i) ≡ numbers_fault ws (i + 1) (end - (i + 1))
  number_passed k = grind arith

  pub number_refused : (kind_of w ≡ 3 → ⊥) → numbers_fault ws i (end - i) ≡ Some (wrong_kind i w)
  number_refused k = grind arith
