-- What the program's records stand for.
use Rattle.std.specs.Prelude.{◌≡◌, Ok, Err, Result, MatchResult}
use Rattle.words.specs.declared.fault.WordFault.{WordFault}
use Rattle.words.specs.declared.record.Record.{Record}
use Rattle.words.specs.declared.record.Record.TheVariants.{Actor, Channel, End}
use Rattle.words.specs.Records.{Part, actor_part, channel_part, end_part}

abbrev pub part_of : Record → Part
part_of (Actor words) = actor_part words.now
part_of (Channel words) = channel_part words.now
part_of (End words) = end_part words.now

-- r is what is given
abbrev pub ReadsPart : Result Record WordFault → Result Part WordFault → Type 0
ReadsPart r given = MatchResult r (λ part. given ≡ Ok (part_of part)) (λ f. given ≡ Err f)
