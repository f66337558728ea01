-- The phases of an actor at a place of a list.
use Rattle.std.proofs.Common.{◌≡◌, ℕ, zero, suc, ◌<◌, ◌≤◌, List, [], ◌∷◌, map, length, get_or, refl, ap, arith}
use Rattle.std.proofs.lemmas.List.{length-take-le}
use Rattle.rows.specs.declared.row.Phases.{Phases}
use Rattle.rows.specs.declared.row.Actor.{Actor}
use Rattle.rows.specs.Table.{phases_at}
use Rattle.rows.specs.Values.{listed, actor_row}

pub length_listed : (p : Phases) → length (listed p) ≡ p.count
length_listed p = length-take-le p.count p.values (let f = p.few in let w = p.whole in omega arith)

pub phases_at_actor : (rows : List Actor) (i : ℕ) (a : Actor) → i < length rows → a ≡ get_or rows i a → length (listed a.times) ≡ phases_at (map actor_row rows) i
phases_at_actor [] i a h e = absurd (let z : ⊥ = omega arith in z)
phases_at_actor (x ∷ more) zero a h e = ap (λ (y : Actor). length (listed y.times)) e
phases_at_actor (x ∷ more) (suc i) a h e = phases_at_actor more i a (omega arith) e

pub phases_at_none : (rows : List Actor) (i : ℕ) → length rows ≤ i → 0 ≡ phases_at (map actor_row rows) i
phases_at_none [] i h = refl
phases_at_none (x ∷ more) zero h = absurd (let z : ⊥ = omega arith in z)
phases_at_none (x ∷ more) (suc i) h = phases_at_none more i (omega arith)
