-- A check of words, whatever its faults are.
use Rattle.std.specs.Prelude.{Bool, cond, Some, Option}

-- a check that has to hold, else its fault is the answer; then the checks after it
abbrev pub check : {F : Type 0} → Bool → F → Option F → Option F
check holds fault later = cond holds later (Some fault)
