use Rattle.std.proofs.Common.{◌≡◌, ◌+◌, ◌≤◌, map, length, take}
use Rattle.words.specs.Format.{word_of}
use Rattle.word_save.specs.Saves.{written}
use Rattle.word_save.proofs.save.write_numbers.Given as goal

-- the words of the numbers so far are written
abbrev pub invariant-loop-n : goal.invariant-loop-n
invariant-loop-n l =
    (l.out ≡ written l.initial.place (map (word_of 3) (take l.n-index l.numbers)) l.initial.out)
    × ((l.next ≡ l.initial.place + l.n-index) × (l.initial.place + length l.numbers ≤ length l.initial.out))
