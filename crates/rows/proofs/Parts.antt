-- The parts of a chain of checks, and of a channel that the checks accept.
use Rattle.std.proofs.Common.{◌≡◌, ℕ, zero, suc, ◌<◌, ◌≤◌, Bool, true, false, ◌&&◌, eqb, leb, List, [], ◌∷◌, map, length, Some, None, Option, sym, refl, ap, ◌∙◌, arith}
use Rattle.std.proofs.lemmas.Bool.{and_parts, and_from, not-true, not_from_false, ltb-true, leb-true, lt-ltb, eqb-true, eqb-false, ne_eqb, cond-true, cond-false}
use Rattle.rows.specs.declared.fault.Fault.{Fault}
use Rattle.rows.specs.declared.fault.Fault.TheVariants.{PhaseCount, NoActor, SameActor, RateCount, RateRange, CeilingRange}
use Rattle.rows.specs.declared.row.Actor.{Actor}
use Rattle.rows.specs.Table.{ActorRow, ChannelRow, good_rates, within_if_given, phases_at, check, passes, actor_fault, channel_fault}
use Rattle.rows.specs.Values.{actor_row}
use Rattle.rows.proofs.Places.{length_listed}

-- a chain of checks

pub check_parts : (b : Bool) (f : Fault) (later : Option Fault) → check b f later ≡ None → (b ≡ true) × (later ≡ None)
check_parts true f later e = (refl, e)
check_parts false f later e = let z : ◌≡◌ {A = ℕ} 0 1 = cc in absurd (let w : ⊥ = omega arith in w)

pub check_from : (b : Bool) (f : Fault) (later : Option Fault) → b ≡ true → later ≡ None → check b f later ≡ None
check_from b f later h e = cond-true b later (Some f) h ∙ e

-- the answer of a check that passes is that of the checks after it, and of one that fails its fault
pub check_passed : (b : Bool) (f : Fault) (later o : Option Fault) → b ≡ true → o ≡ later → o ≡ check b f later
check_passed b f later o h e = e ∙ sym (cond-true b later (Some f) h)

pub check_failed : (b : Bool) (f : Fault) (later : Option Fault) → b ≡ false → Some f ≡ check b f later
check_failed b f later h = sym (cond-false b later (Some f) h)

pub passes_none : (o : Option Fault) → passes o ≡ true → o ≡ None
passes_none None e = refl
passes_none (Some f) e = let z : ◌≡◌ {A = ℕ} 0 1 = cc in absurd (let w : ⊥ = omega arith in w)

pub none_passes : (o : Option Fault) → o ≡ None → passes o ≡ true
none_passes o e = ap passes e

-- an actor that the checks accept has at most eight phases
pub accepted_phases : (a : ActorRow) → actor_fault a ≡ None → length a.times ≤ 8
accepted_phases a e =
    let p = check_parts _ PhaseCount _ e in leb-true (length a.times) 8 (and_parts (leb 1 (length a.times)) (leb (length a.times) 8) p.0).1

-- and so has every actor of the program
pub few_phases : (actors : List Actor) (i : ℕ) → phases_at (map actor_row actors) i ≤ 8
few_phases [] i = omega arith
few_phases (a ∷ more) zero = let n = length_listed a.times in let few = a.times.few in omega arith
few_phases (a ∷ more) (suc i) = few_phases more i

-- the parts of an accepted channel

pub record Accepted (rows : List ActorRow) (c : ChannelRow) : Type 0 where
  pub writer_is : c.writer < length rows
  pub reader_is : c.reader < length rows
  pub apart : c.writer ≡ c.reader → ⊥
  pub counted : (eqb (length c.writes) (phases_at rows c.writer) && eqb (length c.reads) (phases_at rows c.reader)) ≡ true
  pub rated : (good_rates c.writes && good_rates c.reads) ≡ true
  pub capped : within_if_given 1 65535 c.ceiling ≡ true

module _ (rows : List ActorRow) (c : ChannelRow) where
  pub accepted : channel_fault rows c ≡ None → Accepted rows c
  accepted e =
      let p = check_parts _ NoActor _ e in
      let q = check_parts _ SameActor _ p.1 in
      let r = check_parts _ RateCount _ q.1 in
      let s = check_parts _ RateRange _ r.1 in
      let t = check_parts _ CeilingRange _ s.1 in
      let w = and_parts _ _ p.0 in
      record {
        writer_is = ltb-true c.writer (length rows) w.0;
        reader_is = ltb-true c.reader (length rows) w.1;
        apart = eqb-false c.writer c.reader (not-true _ q.0);
        counted = r.0;
        rated = s.0;
        capped = t.0;
      }

  pub accepts : Accepted rows c → channel_fault rows c ≡ None
  accepts a =
      check_from _ NoActor _ (and_from _ _ (lt-ltb c.writer (length rows) a.writer_is) (lt-ltb c.reader (length rows) a.reader_is))
      (check_from _ SameActor _ (not_from_false _ (ne_eqb c.writer c.reader a.apart))
      (check_from _ RateCount _ a.counted
      (check_from _ RateRange _ a.rated
      (check_from _ CeilingRange _ a.capped refl))))

-- a channel that the checks accept has at most eight rates at either end
module _ (actors : List Actor) (c : ChannelRow) (e : channel_fault (map actor_row actors) c ≡ None) where
  pub few_writes : length c.writes ≤ 8
  few_writes =
      let q = and_parts (eqb (length c.writes) (phases_at (map actor_row actors) c.writer)) (eqb (length c.reads) (phases_at (map actor_row actors) c.reader)) (accepted (map actor_row actors) c e).counted in
      let same : length c.writes ≡ phases_at (map actor_row actors) c.writer = eqb-true (length c.writes) (phases_at (map actor_row actors) c.writer) q.0 in
      let few = few_phases actors c.writer in
      omega arith

  pub few_reads : length c.reads ≤ 8
  few_reads =
      let q = and_parts (eqb (length c.writes) (phases_at (map actor_row actors) c.writer)) (eqb (length c.reads) (phases_at (map actor_row actors) c.reader)) (accepted (map actor_row actors) c e).counted in
      let same : length c.reads ≡ phases_at (map actor_row actors) c.reader = eqb-true (length c.reads) (phases_at (map actor_row actors) c.reader) q.1 in
      let few = few_phases actors c.reader in
      omega arith
