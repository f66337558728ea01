-- The bytes that answers are printed as.
use Rattle.std.specs.Prelude.{ℕ, List, [], ◌∷◌, ◌++◌, Some, None, codes, decimal, Option}
use Rattle.std.specs.List.{flat_map}
use Rattle.rows.specs.declared.fault.Fault.{Fault}
use Rattle.rows.specs.Faults.{number_of, place_of}
use Rattle.rows.specs.Table.{ActorRow, ChannelRow, Table, pin_of}
use Rattle.session.specs.Calls.{Said, done, actor, channel, rows, refused}

-- a name and a number, on a line
abbrev pub numbered_text : List ℕ → ℕ → List ℕ
numbered_text name n = name ++ (decimal n ++ 10 ∷ [])

abbrev pub refusal_text : Fault → List ℕ
refusal_text f = codes "refused " ++ (decimal (number_of f) ++ numbered_text (codes " at ") (place_of f))

-- each number after a space
abbrev pub spaced_text : ℕ → List ℕ
spaced_text n = codes " " ++ decimal n

-- a name and the numbers of a list
abbrev pub list_text : List ℕ → List ℕ → List ℕ
list_text name ns = name ++ flat_map spaced_text ns

-- a name and a number, if there is a number
abbrev pub option_text : List ℕ → Option ℕ → List ℕ
option_text name None = []
option_text name (Some n) = name ++ decimal n

-- the last part of a row's line
abbrev pub last_text : List ℕ → Option ℕ → List ℕ
last_text name n = option_text name n ++ 10 ∷ []

abbrev pub actor_text : ActorRow → List ℕ
actor_text a =
    list_text (codes "actor times") a.times
    ++ (option_text (codes " not-before ") a.not_before ++ last_text (codes " pin ") (pin_of a.placement))

abbrev pub ends_text : ℕ → ℕ → List ℕ
ends_text w r = codes "channel " ++ (decimal w ++ (codes " " ++ decimal r))

abbrev pub channel_text : ChannelRow → List ℕ
channel_text c =
    ends_text c.writer c.reader
    ++ (list_text (codes " writes") c.writes ++ (list_text (codes " reads") c.reads ++ last_text (codes " ceiling ") c.ceiling))

-- each actor and then each channel, as the line that adds it
abbrev pub table_text : Table → List ℕ
table_text t = flat_map actor_text t.actors ++ flat_map channel_text t.channels

abbrev pub answer_text : Said → List ℕ
answer_text done = codes "ok" ++ 10 ∷ []
answer_text (actor n) = numbered_text (codes "actor ") n
answer_text (channel n) = numbered_text (codes "channel ") n
answer_text (rows t) = table_text t
answer_text (refused f) = refusal_text f
