use Rattle.std.proofs.Common.{◌-◌, length, take, sym, ap, ◌∙◌, subst, arith, length-append, length-drop, length-take-le, drop}
use Rattle.std.specs.List.{flat_map}
use Rattle.std.proofs.lemmas.List.Folds.{length-flat_map-take}
use Rattle.word_save.specs.Saves.{written}
use Rattle.word_save.proofs.Written.{length_written, then_written, written_from, joined_next}
use Rattle.word_save.proofs.save.write_rows.Goals as goal

pub encode-place-requires : goal.encode-place-requires
encode-place-requires g c =
    let words = g.T.Encode.words in
    let rows = c.args.rows.now in
    let i = c.loop-row.row-index in
    let row = c.row-item.result in
    let room = length-flat_map-take words rows i row c.loop-row-test.true in
    let at = ap (λ r. length (words r)) c.row-item.is in
    let kept = ap length c.loop-row.invariant.1 ∙ length_written 0 (flat_map words (take i rows)) c.args.out.now (omega arith) in
    let left = length-drop c.loop-row.place c.loop-row.out in
    let all = length-take-le (length c.loop-row.out - c.loop-row.place) (drop c.loop-row.place c.loop-row.out) (omega arith) in
    (subst g.T.Encode.fits (sym c.row-item.is) (c.requires.fit i row c.loop-row-test.true), omega arith)

pub loop-row-preserved : goal.loop-row-preserved
loop-row-preserved g c =
    let words = g.T.Encode.words in
    let rows = c.args.rows.now in
    let i = c.loop-row.row-index in
    let row = c.row-item.result in
    let so_far = flat_map words (take i rows) in
    let room = length-flat_map-take words rows i row c.loop-row-test.true in
    let at = ap (λ r. length (words r)) c.row-item.is in
    let more = joined_next words rows i row c.loop-row-test.true c.row-item.is in
    let long = ap length more ∙ length-append so_far (words row) in
    let place = c.loop-row.invariant.0 in
    let size = c.encode-place.ensures.size in (
      omega arith,
      then_written 0 c.loop-row.place so_far (words row) c.args.out.now c.loop-row.out _ (omega arith) c.loop-row.invariant.1 (omega arith)
          (written_from c.loop-row.place _ (words row) c.loop-row.out _ (omega arith) c.encode-place.ensures.out)
          ∙ ap (λ l. written 0 l c.args.out.now) (sym more),
    )
