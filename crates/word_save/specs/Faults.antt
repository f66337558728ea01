-- The number and the place of a refusal of save.
use Rattle.std.specs.Prelude.{ℕ}
use Rattle.word_save.specs.declared.fault.SaveFault.{SaveFault}
use Rattle.word_save.specs.declared.fault.SaveFault.TheVariants.{SpaceShort}

abbrev pub shown_save : SaveFault → ℕ × ℕ
shown_save SpaceShort = (27, 0)
