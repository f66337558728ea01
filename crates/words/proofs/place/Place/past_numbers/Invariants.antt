use Rattle.std.proofs.Common.{◌≡◌, ◌-◌, ◌≤◌, length}
use Rattle.words.specs.Records.{numbers_fault}
use Rattle.words.proofs.place.Place.past_numbers.Given as goal

-- what is wrong with the numbers is what is wrong with those to come
abbrev pub invariant-loop-index : goal.invariant-loop-index
invariant-loop-index l =
    (numbers_fault l.self.words.now l.self.index l.count ≡ numbers_fault l.self.words.now l.index (l.end - l.index))
    × (l.index ≤ length l.self.words.now)
