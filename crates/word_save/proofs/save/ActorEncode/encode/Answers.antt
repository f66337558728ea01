use Rattle.std.proofs.Common.{◌+◌, ◌<◌, [], ◌∷◌, map, length, set, ap, ◌∙◌, arith}
use Rattle.rows.specs.Table.{pin_of}
use Rattle.rows.specs.Values.{listed}
use Rattle.words.specs.Format.{word_of, option_words}
use Rattle.word_save.specs.Saves.{written}
use Rattle.word_save.proofs.Written.{written_one, record_written, list_size}
use Rattle.word_save.proofs.save.ActorEncode.encode.Goals as goal

pub returns-clause-out : goal.returns-clause-out
returns-clause-out c =
    let a = c.args.self.now in
    let ts = listed a.times in
    let is = c.as_slice-times.ensures in
    let room = c.requires.1 in
    let there : 0 < length c.args.out.now = omega arith in
    let head = written_one 0 c.word_of.result c.args.out.now there ∙ ap (λ w. written 0 (w ∷ []) c.args.out.now) (c.word_of.ensures ∙ ap (λ l. word_of 1 (length l)) is) in
    (record_written 0 (word_of 1 (length ts)) (map (word_of 3) ts) (option_words 4 a.not_before) (option_words 5 (pin_of a.placement)) c.args.out.now
    (omega arith) 1 _ head (omega arith) _ _
    (c.write_numbers-times_end.ensures.out ∙ ap (λ l. written 1 (map (word_of 3) l) (set c.args.out.now 0 c.word_of.result)) is)
    (list_size 1 _ _ _ is c.write_numbers-times_end.ensures.after) _ _ c.write_option-pin_from.ensures.out c.write_option-pin_from.ensures.after _ _
    (c.write_option.ensures.out ∙ ap (λ o. written c.write_option-pin_from.result (option_words 5 o) c.write_option-pin_from.new.out) c.pin.ensures)
    (c.write_option.ensures.after ∙ ap (λ o. c.write_option-pin_from.result + length (option_words 5 o)) c.pin.ensures)).1
