use Rattle.std.proofs.Common.{◌≡◌, length, take}
use Rattle.std.specs.List.{flat_map}
use Rattle.word_save.specs.Saves.{written}
use Rattle.word_save.proofs.save.write_rows.Given as goal

-- the words of the rows so far are written
abbrev pub invariant-loop-row : goal.invariant-loop-row
invariant-loop-row g l =
    let words = flat_map g.T.Encode.words (take l.row-index l.rows) in
    (l.place ≡ length words) × (l.out ≡ written 0 words l.initial.out)
