use Rattle.std.proofs.Common.{◌+◌, length, drop, Ok, sym, ap, ◌∙◌, subst, rules}
use Rattle.std.proofs.lemmas.Iterator.Consumers.{YieldsList-at, YieldsList-from_enumerate, YieldsList-turn, YieldsList-end}
use Rattle.std.proofs.lemmas.Iterator.Splits.{YieldsList-from_slice_split}
use Rattle.std.proofs.lemmas.List.{length_push}
use Rattle.std.proofs.lemmas.Result.{err_from_is_err_and}
use Rattle.tokens.specs.Lines.{lines_of}
use Rattle.tokens.proofs.Lines.{feed}
use Rattle.script.specs.Scripts.{lines_read}
use Rattle.script.specs.Whole.{sofar_of, FailsAt}
use Rattle.script.proofs.Turns.{at_text_line, at_text_end, then_ok, then_fails}
use Rattle.script.proofs.script.parse.Goals as goal

pub loop-i-preserved : goal.loop-i-preserved
loop-i-preserved c =
    let k = length c.loop-i.yielded in
    let lines = lines_of c.args.text.now in
    let turn = at_text_line c.args.text.now k c.in-Some.i c.in-Some.line.now (sofar_of c.loop-i.reader)
    (YieldsList-turn
    (YieldsList-at c.into_iter-i-iterator.ensures.into_iter_gives
    (YieldsList-from_enumerate
    (YieldsList-at c.enumerate-i-items.ensures.source
    (YieldsList-from_slice_split _ feed c.args.text.now c.split.ensures.rest c.split.ensures.done c.split.ensures.closure (λ x b q k. search rules)))
    c.enumerate-i-items.ensures.count))
    c.loop-i.yielded _ c.loop-i.yielded_by _ _ (c.in-Some.i, c.in-Some.line) c.in-Some.is c.next.ensures.steps) in
    let went = then_ok _ (λ t. lines_read (k + 1 + 1) t (drop (k + 1) lines)) _ c.in_ok-read_at.ensures in
    ap (λ n. lines_read (n + 1) (sofar_of c.read_at.new.self) (drop n lines)) (length_push c.loop-i.yielded (c.in-Some.i, c.in-Some.line)) ∙ sym went ∙ sym turn ∙ c.loop-i.invariant

pub returns-in_err-read_at : goal.returns-in_err-read_at
returns-in_err-read_at c =
    let turn = at_text_line c.args.text.now (length c.loop-i.yielded) c.in-Some.i c.in-Some.line.now (sofar_of c.loop-i.reader)
    (YieldsList-turn
    (YieldsList-at c.into_iter-i-iterator.ensures.into_iter_gives
    (YieldsList-from_enumerate
    (YieldsList-at c.enumerate-i-items.ensures.source
    (YieldsList-from_slice_split _ feed c.args.text.now c.split.ensures.rest c.split.ensures.done c.split.ensures.closure (λ x b q k. search rules)))
    c.enumerate-i-items.ensures.count))
    c.loop-i.yielded _ c.loop-i.yielded_by _ _ (c.in-Some.i, c.in-Some.line) c.in-Some.is c.next.ensures.steps) in
    let f = c.in_err-read_at.field-0.0 in
    let p = err_from_is_err_and c.from_residual.result c.from_residual.ensures.1 in
    rw (p.1, p.2) (subst (FailsAt f) (sym turn ∙ c.loop-i.invariant) (then_fails f _ _ c.in_err-read_at.ensures))

pub returns : goal.returns
returns c =
    let all =
    (YieldsList-end
    (YieldsList-at c.into_iter-i-iterator.ensures.into_iter_gives
    (YieldsList-from_enumerate
    (YieldsList-at c.enumerate-i-items.ensures.source
    (YieldsList-from_slice_split _ feed c.args.text.now c.split.ensures.rest c.split.ensures.done c.split.ensures.closure (λ x b q k. search rules)))
    c.enumerate-i-items.ensures.count))
    c.loop-i.yielded _ c.loop-i.yielded_by _ _ c.in-None.is c.next.ensures.steps) in
    sym c.loop-i.invariant ∙ at_text_end c.args.text.now (length c.loop-i.yielded) (sofar_of c.loop-i.reader) all.1 ∙ ap (λ q. Ok q) (sym c.finish.ensures)
