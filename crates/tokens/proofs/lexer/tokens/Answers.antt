use Rattle.std.proofs.Common.{◌≡◌, ◌+◌, ◌-◌, ◌++◌, [], ◌∷◌, length, take, drop, vec_items, refl, sym, ◌∙◌, rules}
use Rattle.std.proofs.lemmas.Iterator.{YieldsList-from_slice}
use Rattle.std.proofs.lemmas.Iterator.Search.{position_from_yields_List}
use Rattle.tokens.specs.Tokens.{token_of}
use Rattle.tokens.specs.Lines.{tokens_from}
use Rattle.tokens.proofs.Words.{ends_word, at_word}
use Rattle.tokens.proofs.lexer.tokens.Goals as goal

pub loop-rest-preserved : goal.loop-rest-preserved
loop-rest-preserved c =
    let rest = c.loop-rest.rest.now in
    let before = vec_items c.loop-rest.all in
    let others = take (length rest - 1) (drop 1 rest) in
    let turn = at_word before rest others c.unwrap_or-end.result c.position.result c.in-len1-up.len_at_least (search rules) (sym c.is_blank.ensures ∙ c.if-is_blank.false) refl
    (position_from_yields_List ends_word _ _ _ c.position.ensures.ran (YieldsList-from_slice others c.iter.ensures.rest) (λ x b q k. search rules))
    c.unwrap_or-end.ensures in
    let word : vec_items c.push.new.self ≡ before ++ token_of (take (c.unwrap_or-end.result + 1) rest) ∷ [] = simp (c.in_ok-push.ensures.items, c.from.ensures, c.split_at.ensures.front) in
    (λ i. tokens_from (word i) [] (c.split_at.ensures.back i)) ∙ sym turn ∙ c.loop-rest.invariant
