-- Load takes exactly what the format describes, and save writes it.
use Rattle.std.proofs.Common.{◌≡◌, ℕ, ◌+◌, true, List, length, take, drop, Some, None, Ok, Err, Result, sym, refl, ◌∙◌, subst, arith, take_at}
use Rattle.rows.specs.Steps.{Does}
use Rattle.rows.specs.Table.{Table, empty_table, lawful}
use Rattle.rows.proofs.Steps.{when_granted, when_refused}
use Rattle.words.specs.declared.fault.LoadFault.{LoadFault}
use Rattle.word_save.specs.declared.fault.SaveFault.{SaveFault}
use Rattle.words.specs.Format.{table_words, Describes}
use Rattle.words.specs.Loads.{loading, table_read, fault_in, table_in}
use Rattle.word_save.specs.Saves.{written, saving}
use Rattle.word_laws.specs.Offends.{RefusedBy}
use Rattle.word_laws.specs.Laws.{Loads, Saves}
use Rattle.words.proofs.Loaded.{loaded, not_loaded}
use Rattle.word_laws.proofs.Reading.{described_read}
use Rattle.word_laws.proofs.Refused.{read_described, refusal_means}
use Rattle.word_laws.proofs.Answered.{means_refusal}

module _ (ws : List ℕ) where
  read_as_granted : (r : Result Table LoadFault) → table_read ws ≡ r → fault_in r ≡ None → Describes ws (table_in r)
  read_as_granted (Ok t) e n = read_described ws t e
  read_as_granted (Err f) e n = grind arith

  pub described_loads : (t : Table) → Describes ws t → Does (loading ws) empty_table t (Ok (length ws))
  described_loads t d = loaded ws empty_table refl t (described_read ws t d)

  answers_same : (t after other : Table) (r s : Result ℕ LoadFault) → Does (loading ws) t after r → Does (loading ws) t other s → (r ≡ s) × (after ≡ other)
  answers_same t after other r s d e = (d.answered ∙ sym e.answered, d.left ∙ sym e.left)

  refused_in : (r : Result Table LoadFault) (f : LoadFault) → table_read ws ≡ r → fault_in r ≡ Some f → RefusedBy ws f
  refused_in r f e n = grind (arith, refusal_means)

  refused_since : (after : Table) (r : Result ℕ LoadFault) (f : LoadFault) → Does (loading ws) empty_table after r → r ≡ Err f → RefusedBy ws f
  refused_since after r f d e = refused_in (table_read ws) f refl (when_refused (loading ws) empty_table after f (subst (Does (loading ws) empty_table after) e d)).0

  refused_loads : (f : LoadFault) → RefusedBy ws f → Does (loading ws) empty_table empty_table (Err f)
  refused_loads f b = not_loaded ws empty_table refl empty_table f (means_refusal ws f b) refl

  pub load_laws : (was after : Table) (r : Result ℕ LoadFault) → Does (loading ws) was after r → Loads true ws was after r
  load_laws was after r d =
      record {
        takes_described = λ n e.
            let g = when_granted (loading ws) was after n (subst (Does (loading ws) was after) e d) in
            let passed = g.0 in let none : fault_in (table_read ws) ≡ None = grind arith in
            (g.1, subst (Describes ws) (sym g.2) (read_as_granted (table_read ws) refl none));
        describes_taken = λ t a e w. answers_same empty_table after t r (Ok (length ws)) (subst (λ x. Does (loading ws) x after r) e d) (described_loads t w);
        refuses_others = λ f a e. let d0 = subst (λ x. Does (loading ws) x after r) e d in (refused_since after r f d0, λ b. (answers_same empty_table after empty_table r (Err f) d0 (refused_loads f b)).0);
      }

module _ (t : Table) (l : lawful t ≡ true) where
  pub words_describe : Describes (table_words t) t
  words_describe = record { accepted = l; written = refl }

  -- what is at the front of the words that are written
  pub written_front : (out : List ℕ) → take (length (table_words t)) (written 0 (table_words t) out) ≡ table_words t
  written_front out = take_at (table_words t) (drop (0 + length (table_words t)) out) (length (table_words t)) refl

  pub save_laws : (was out : List ℕ) (r : Result ℕ SaveFault) → Does (saving t) was out r → Saves t out r
  save_laws was out r d = grind (arith, described_loads, written_front)
