-- How a step ends, where its checks are known to pass or to fail.
use Rattle.std.proofs.Common.{◌≡◌, ℕ, Some, None, Ok, Err, Option, refl, ap, arith}
use Rattle.rows.specs.Steps.{Step, Does, answer, leaves}

-- checks that are answered by a value have all passed
pub none_if_ok : {F V : Type 0} (o : Option F) (v w : V) → Ok v ≡ answer o w → o ≡ None
none_if_ok None v w e = refl
none_if_ok (Some f) v w e = let z : ◌≡◌ {A = ℕ} 0 1 = cc in absurd (let y : ⊥ = omega arith in y)

module _ {F S V : Type 0} (step : Step F S V) (was : S) where
  pub granted : (after : S) (v : V) → step.fault was ≡ None → v ≡ step.value was → after ≡ step.made was → Does step was after (Ok v)
  granted after v none value made =
      let a : answer (step.fault was) (step.value was) ≡ Ok (step.value was) = ap (λ o. answer o (step.value was)) none in
      let l : leaves (step.fault was) was (step.made was) ≡ step.made was = ap (λ o. leaves o was (step.made was)) none in
      record { answered = cc; left = cc }

  pub refused : (after : S) (f : F) → step.fault was ≡ Some f → after ≡ was → Does step was after (Err f)
  refused after f some same =
      let a : answer (step.fault was) (step.value was) ≡ Err f = ap (λ o. answer o (step.value was)) some in
      let l : leaves (step.fault was) was (step.made was) ≡ was = ap (λ o. leaves o was (step.made was)) some in
      record { answered = cc; left = cc }

  granted_by : (o : Option F) (made after : S) (v w : V) → Ok v ≡ answer o w → after ≡ leaves o was made → (o ≡ None) × (v ≡ w) × (after ≡ made)
  granted_by None made after v w e l = (refl, cc, l)
  granted_by (Some f) made after v w e l = let z : ◌≡◌ {A = ℕ} 0 1 = cc in absurd (let y : ⊥ = omega arith in y)

  refused_by : (o : Option F) (made after : S) (f : F) (w : V) → Err f ≡ answer o w → after ≡ leaves o was made → (o ≡ Some f) × (after ≡ was)
  refused_by None made after f w e l = let z : ◌≡◌ {A = ℕ} 0 1 = cc in absurd (let y : ⊥ = omega arith in y)
  refused_by (Some g) made after f w e l = (cc, l)

  -- a step that was granted passed its checks, and one that was refused left all as it was
  pub when_granted : (after : S) (v : V) → Does step was after (Ok v) → (step.fault was ≡ None) × (v ≡ step.value was) × (after ≡ step.made was)
  when_granted after v d = granted_by (step.fault was) (step.made was) after v (step.value was) d.answered d.left

  pub when_refused : (after : S) (f : F) → Does step was after (Err f) → (step.fault was ≡ Some f) × (after ≡ was)
  when_refused after f d = refused_by (step.fault was) (step.made was) after f (step.value was) d.answered d.left
