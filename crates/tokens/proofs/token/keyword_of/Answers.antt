use Rattle.std.proofs.Common.{codes, sym, ◌∙◌, arith}
use Rattle.std.proofs.lemmas.Slice.Eq.{text_from_reads}
use Rattle.tokens.proofs.Keywords.{no_call_word}
use Rattle.tokens.proofs.token.keyword_of.Goals as goal

-- `keep` needs no answer, and has none: a must-fail edit changes its arm's name
pub returns-in-mark : goal.returns-in-mark
returns-in-mark c = grind (arith, text_from_reads c.args.word.now (codes "mark"))

pub returns-in-ticket : goal.returns-in-ticket
returns-in-ticket c = grind (arith, text_from_reads c.args.word.now (codes "ticket"))

pub returns-in-open : goal.returns-in-open
returns-in-open c = grind (arith, text_from_reads c.args.word.now (codes "open"))

pub returns-in-actor : goal.returns-in-actor
returns-in-actor c = grind (arith, text_from_reads c.args.word.now (codes "actor"))

pub returns-in-channel : goal.returns-in-channel
returns-in-channel c = grind (arith, text_from_reads c.args.word.now (codes "channel"))

pub returns-in-cut : goal.returns-in-cut
returns-in-cut c = grind (arith, text_from_reads c.args.word.now (codes "cut"))

pub returns-in-withdraw : goal.returns-in-withdraw
returns-in-withdraw c = grind (arith, text_from_reads c.args.word.now (codes "withdraw"))

pub returns-in-rows : goal.returns-in-rows
returns-in-rows c = grind (arith, text_from_reads c.args.word.now (codes "rows"))

pub returns-in_default : goal.returns-in_default
returns-in_default c =
    c.part_word_of.ensures
    ∙ sym (no_call_word c.args.word.now (λ e. grind arith) (λ e. grind arith) (λ e. grind arith) (λ e. grind arith) (λ e. grind arith) (λ e. grind arith) (λ e. grind arith) (λ e. grind arith) (λ e. grind arith))
