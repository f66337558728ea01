-- The answer to a load, as two numbers and as it is printed.
use Rattle.std.specs.Prelude.{ℕ, List, ◌++◌, Ok, Err, Result, codes, decimal}
use Rattle.rows.specs.Table.{Table}
use Rattle.words.specs.declared.fault.LoadFault.{LoadFault}
use Rattle.words.specs.Faults.{shown_load}

-- 0 and the number of words, or the refusal's number and place
abbrev pub told_of : Result Table LoadFault → ℕ → ℕ × ℕ
told_of (Ok t) count = (0, count)
told_of (Err f) count = shown_load f

abbrev pub pair_text : ℕ × ℕ → List ℕ
pair_text p = decimal p.0 ++ (codes "@" ++ decimal p.1)

-- the same of the answer to any call that is granted with a number of words
abbrev pub answer_text : {F : Type 0} → (F → ℕ × ℕ) → Result ℕ F → List ℕ
answer_text shown (Ok count) = pair_text (0, count)
answer_text shown (Err f) = pair_text (shown f)
