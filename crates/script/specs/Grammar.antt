-- The call that a line makes.
use Rattle.std.specs.Prelude.{ℕ, cond, List, Ok, Err, Result}
use Rattle.rows.specs.Table.{actor_with, channel_with, placed}
use Rattle.session.specs.declared.calls.Ending.TheVariants as ending
use Rattle.tokens.specs.declared.token.Token.{Token}
use Rattle.tokens.specs.declared.token.Token.TheVariants.{Ticket, Open, Actor, Times, NotBefore, Pin, Channel, Writes, Reads, Ceiling, Cut, Keep, Withdraw, Rows}
use Rattle.tokens.specs.declared.expected.Expected.{Expected}
use Rattle.tokens.specs.declared.expected.Expected.TheVariants.{Call, Shown, Kind}
use Rattle.script.specs.Reading.{Reading, and_then, starts, tail, this_word, number_after, all_numbers, number_if}
use Rattle.script.specs.Reading.{ended as line_ended}
use Rattle.script.specs.Plain.{PlainEdit, PlainCall, actor_added, channel_added, actor_cut, channel_cut, opened, edited, ended, rows_shown}

-- after `actor`: times N .. [not-before N] [pin N]
abbrev pub actor_rest : List Token → Reading PlainEdit
actor_rest ts =
    and_then (this_word Times ts) (λ a.
    and_then (number_if NotBefore (all_numbers a.1).1) (λ b.
    and_then (number_if Pin b.1) (λ c.
    Ok (actor_added (actor_with (all_numbers a.1).0 b.0 (placed c.0)), c.1))))

-- after `channel W R`: writes N .. reads N .. [ceiling N]
abbrev pub rates_rest : ℕ → ℕ → List Token → Reading PlainEdit
rates_rest w r ts =
    and_then (this_word Writes ts) (λ a.
    and_then (this_word Reads (all_numbers a.1).1) (λ b.
    and_then (number_if Ceiling (all_numbers b.1).1) (λ c.
    Ok (channel_added (channel_with w r (all_numbers a.1).0 (all_numbers b.1).0 c.0), c.1))))

-- after `channel`: W R, and its rates
abbrev pub channel_rest : List Token → Reading PlainEdit
channel_rest ts = and_then (number_after Channel ts) (λ a. and_then (number_after Channel a.1) (λ b. rates_rest a.0 b.0 b.1))

-- after `cut`: actor N, or channel N
abbrev pub cut_rest : List Token → Reading PlainEdit
cut_rest ts =
    cond (starts Actor ts) (and_then (number_after Actor (tail ts)) (λ p. Ok (actor_cut p.0, p.1)))
    (cond (starts Channel ts) (and_then (number_after Channel (tail ts)) (λ p. Ok (channel_cut p.0, p.1)))
    (Err Kind))

abbrev pub edit_rest : Expected → List Token → Reading PlainEdit
edit_rest e ts =
    cond (starts Actor ts) (actor_rest (tail ts))
    (cond (starts Channel ts) (channel_rest (tail ts))
    (cond (starts Cut ts) (cut_rest (tail ts)) (Err e)))

-- a call that shows a ticket of this mark, or else e was expected
abbrev pub shown_rest : ℕ → Expected → List Token → Reading PlainCall
shown_rest mark e ts =
    cond (starts Keep ts) (Ok (ended mark ending.Keep, tail ts))
    (cond (starts Withdraw ts) (Ok (ended mark ending.Withdraw, tail ts))
    (and_then (edit_rest e ts) (λ p. Ok (edited mark p.0, p.1))))

-- a call; where it shows no ticket, it shows one of this mark
abbrev pub call_rest : ℕ → List Token → Reading PlainCall
call_rest mark ts =
    cond (starts Open ts) (Ok (opened, tail ts))
    (cond (starts Rows ts) (Ok (rows_shown, tail ts))
    (cond (starts Ticket ts) (and_then (number_after Ticket (tail ts)) (λ p. shown_rest p.0 Shown p.1))
    (shown_rest mark Call ts)))

abbrev pub call_of : ℕ → List Token → Result PlainCall Expected
call_of mark ts = and_then (call_rest mark ts) (λ p. and_then (line_ended p.1) (λ _. Ok p.0))
