-- The record at a place, by the kind of its head.
use Rattle.std.proofs.Common.{◌≡◌, ℕ, Bool, cond, eqb, List, Some, Err, Result, arith}
use Rattle.std.specs.List.{slice_get}
use Rattle.words.specs.declared.fault.WordFault.{WordFault}
use Rattle.words.specs.Format.{kind_of, content_of}
use Rattle.words.specs.Records.{Part, wrong_kind, record_at, actor_at, channel_at, end_at}

module _ (after : Bool) (ws : List ℕ) (h w : ℕ) (is : slice_get ws h ≡ Some w) where
  abbrev pub kinded : ℕ → Result Part WordFault
  kinded kind =
      cond (eqb kind 1) (actor_at after ws h (content_of w))
      (cond (eqb kind 2) (channel_at ws h (content_of w))
      (cond (eqb kind 7) (end_at ws h (content_of w)) (Err (wrong_kind h w))))

  pub headed_by_lem : (kind : ℕ) → kind_of w ≡ kind → record_at after ws h ≡ kinded kind
  headed_by_lem kind k = grind arith

  pub wrongly_headed : (kind_of w ≡ 1 → ⊥) → (kind_of w ≡ 2 → ⊥) → (kind_of w ≡ 7 → ⊥) → record_at after ws h ≡ Err (wrong_kind h w)
  wrongly_headed not1 not2 not7 = grind arith
