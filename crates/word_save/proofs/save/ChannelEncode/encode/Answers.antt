use Rattle.std.proofs.Common.{◌<◌, [], ◌∷◌, map, length, set, ap, ◌∙◌, arith}
use Rattle.rows.specs.Values.{listed}
use Rattle.words.specs.Format.{word_of, option_words, ends_content}
use Rattle.word_save.specs.Saves.{written}
use Rattle.word_save.proofs.Written.{written_one, record_written, list_size}
use Rattle.word_save.proofs.save.ChannelEncode.encode.Goals as goal

pub returns-clause-out : goal.returns-clause-out
returns-clause-out c =
    let r = c.args.self.now in
    let ws = listed r.writes in
    let rs = listed r.reads in
    let writes = c.as_slice.ensures in
    let reads = c.as_slice-2.ensures in
    let room = c.requires.1 in
    let there : 0 < length c.args.out.now = omega arith in
    let head = written_one 0 c.word_of.result c.args.out.now there ∙ ap (λ w. written 0 (w ∷ []) c.args.out.now) (c.word_of.ensures ∙ ap (word_of 2) c.ends_content.ensures.value) in
    (record_written 0 (word_of 2 (ends_content r.writer r.reader (length ws) (length rs))) (map (word_of 3) ws) (map (word_of 3) rs) (option_words 6 r.ceiling) c.args.out.now
    (omega arith) 1 _ head (omega arith) _ _
    (c.write_numbers-reads_from.ensures.out ∙ ap (λ l. written 1 (map (word_of 3) l) (set c.args.out.now 0 c.word_of.result)) writes)
    (list_size 1 _ _ _ writes c.write_numbers-reads_from.ensures.after) _ _
    (c.write_numbers-ceiling_from.ensures.out ∙ ap (λ l. written c.write_numbers-reads_from.result (map (word_of 3) l) c.write_numbers-reads_from.new.out) reads)
    (list_size _ _ _ _ reads c.write_numbers-ceiling_from.ensures.after) _ _ c.write_option.ensures.out c.write_option.ensures.after).1
