use Rattle.std.proofs.Common.{◌≡◌, map, length, take}
use Rattle.words.specs.Format.{content_of}
use Rattle.words.proofs.load.contents.Given as goal

abbrev pub invariant-loop-i : goal.invariant-loop-i
invariant-loop-i l = (take l.i l.numbers ≡ map content_of (take l.i l.words)) × (length l.numbers ≡ 255)
