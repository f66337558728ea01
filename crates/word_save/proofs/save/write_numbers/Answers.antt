use Rattle.std.proofs.Common.{◌≡◌, ◌<◌, [], ◌∷◌, map, length, get_or, take, sym, ap, ◌∙◌, arith, length-take-le}
use lib.ListN.{length-map}
use Rattle.std.proofs.lemmas.List.{map_more}
use Rattle.words.specs.Format.{word_of}
use Rattle.word_save.specs.Saves.{written}
use Rattle.word_save.proofs.Written.{written_one, then_written}
use Rattle.word_save.proofs.save.write_numbers.Goals as goal

pub loop-n-preserved : goal.loop-n-preserved
loop-n-preserved c =
    let ns = c.args.numbers.now in
    let i = c.loop-n.n-index in
    let xs = map (word_of 3) (take i ns) in
    let size : length xs ≡ i = length-map (take i ns) (word_of 3) ∙ length-take-le i ns (omega arith) in
    let next = c.loop-n.invariant.1.0 in
    let room = c.loop-n.invariant.1.1 in
    let kept = c.loop-n.auto.out in
    let there : c.loop-n.next < length c.loop-n.out = omega arith in (
      then_written c.args.place c.loop-n.next xs (word_of 3 (get_or ns i 0) ∷ []) c.args.out.now c.loop-n.out _ (omega arith) c.loop-n.invariant.0 (omega arith)
          (written_one c.loop-n.next c.word_of.result c.loop-n.out there ∙ ap (λ w. written c.loop-n.next (w ∷ []) c.loop-n.out) c.word_of.ensures)
          ∙ ap (λ l. written c.args.place l c.args.out.now) (sym (map_more (word_of 3) ns i 0 c.loop-n-test.true)),
      (omega arith, room),
    )
