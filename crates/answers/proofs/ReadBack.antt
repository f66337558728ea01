-- The printed rows of a lawful table, read as a script, add each row.
use Rattle.std.proofs.lemmas.Grind.{common_steps}
use Rattle.std.proofs.Common.{◌≡◌, ℕ, ◌+◌, ◌<◌, ◌≤◌, Bool, true, false, leb, List, [], ◌∷◌, ◌++◌, map, length, None, Ok, Option, Result, sym, refl, ap, ◌∙◌, append-nil, arith, rules}
use Rattle.std.specs.List.{flat_map, list_all}
use Rattle.std.proofs.lemmas.Bool.{and_parts, leb-true, lt-ltb}
use Rattle.rows.specs.declared.row.Placement.{Placement}
use Rattle.rows.specs.Table.{ActorRow, ChannelRow, Table, within, within_if_given, pin_within, pin_of, passes, actor_fault, channel_fault, lawful}
use Rattle.table.specs.declared.storage.Rows.{Rows}
use Rattle.table.specs.Tables.{table_of}
use Rattle.table.proofs.Lawful.{lawful_parts}
use Rattle.tokens.specs.declared.token.Token.{Token}
use Rattle.tokens.specs.declared.token.Token.TheVariants.{Mark, Channel}
use Rattle.tokens.specs.declared.expected.Expected.{Expected}
use Rattle.tokens.specs.Lines.{tokens_of, lines_from}
use Rattle.script.specs.Reading.{starts}
use Rattle.script.specs.Plain.{PlainCall}
use Rattle.script.specs.Grammar.{call_of}
use Rattle.script.specs.Scripts.{PlainScript, sofar_with, line_of, lines_read, script_of}
use Rattle.answers.specs.Texts.{actor_text, channel_text, table_text}
use Rattle.answers.specs.Adds.{adds_actor, adds_channel, adds_rows}
use Rattle.answers.proofs.Figures.{small, all_small}
use Rattle.answers.proofs.RowLines.{small_if, SmallActor, SmallChannel, actor_line, channel_line, after_channel, channel_tokens, actor_line_call, channel_line_call, actor_line_lem, channel_line_lem}

-- the numbers of an accepted row are small

under : (n high : ℕ) → leb n high ≡ true → high < 4294967296 → small n ≡ true
under n high h k = let l = leb-true n high h in lt-ltb n 4294967296 (omega arith)

within_small : (low high n : ℕ) → high < 4294967296 → within low high n ≡ true → small n ≡ true
within_small low high n k h = under n high (and_parts (leb low n) (leb n high) h).1 k

all_within_small : (low high : ℕ) (ns : List ℕ) → high < 4294967296 → list_all (within low high) ns ≡ true → all_small ns ≡ true
all_within_small low high [] k h = refl
all_within_small low high (n ∷ ns) k h = grind (arith, within_small low high n k, all_within_small low high ns k)

given_small : (low high : ℕ) (o : Option ℕ) → high < 4294967296 → within_if_given low high o ≡ true → small_if o ≡ true
given_small low high o k h = grind arith

pin_small : (p : Placement) → pin_within 15 p ≡ true → small_if (pin_of p) ≡ true
pin_small p h = grind arith

actor_small : (a : ActorRow) → passes (actor_fault a) ≡ true → SmallActor a
actor_small a h = grind (arith, all_within_small, given_small, pin_small)

channel_small : (rows : List ActorRow) (c : ChannelRow) → length rows ≤ 64 → passes (channel_fault rows c) ≡ true → SmallChannel c
channel_small rows c few h = grind (arith, all_within_small, given_small)

-- a line that makes a call

line_call : (calls : List PlainCall) (t : Token) (ts : List Token) (c : PlainCall) → starts Mark (t ∷ ts) ≡ false → call_of 0 (t ∷ ts) ≡ Ok c
    → line_of (sofar_with None calls) (t ∷ ts) ≡ Ok (sofar_with None (calls ++ c ∷ []))
line_call calls t ts c h e = grind (arith, common_steps)

-- lines of rows of one kind, and what follows them

module _ {R : Type 0} (text line : R → List ℕ) (call : R → PlainCall) (good : R → Bool)
    (ends : (r : R) → good r ≡ true → (rest : List ℕ) → lines_from [] (text r ++ rest) ≡ line r ∷ lines_from [] rest)
    (reads : (r : R) → good r ≡ true → (calls : List PlainCall) → line_of (sofar_with None calls) (tokens_of (line r)) ≡ Ok (sofar_with None (calls ++ call r ∷ []))) where
  rows_read : (rs : List R) (n : ℕ) (calls : List PlainCall) (rest : List ℕ) (answer : Result PlainScript (ℕ × Expected)) → list_all good rs ≡ true
      → ((k : ℕ) → lines_read k (sofar_with None (calls ++ map call rs)) (lines_from [] rest) ≡ answer)
      → lines_read n (sofar_with None calls) (lines_from [] (flat_map text rs ++ rest)) ≡ answer
  rows_read [] n calls rest answer h k = ap (λ l. lines_read n (sofar_with None l) (lines_from [] rest)) (sym (append-nil calls)) ∙ k n
  rows_read (r ∷ rs) n calls rest answer h k = grind (arith, common_steps, rows_read rs (n + 1) (calls ++ call r ∷ []) rest answer)

actor_reads : (a : ActorRow) → passes (actor_fault a) ≡ true → (calls : List PlainCall)
    → line_of (sofar_with None calls) (tokens_of (actor_line a)) ≡ Ok (sofar_with None (calls ++ adds_actor a ∷ []))
actor_reads a h calls = search (rules, actor_small, line_call, actor_line_call)

channel_reads : (rows : List ActorRow) → length rows ≤ 64 → (c : ChannelRow) → passes (channel_fault rows c) ≡ true → (calls : List PlainCall)
    → line_of (sofar_with None calls) (tokens_of (channel_line c)) ≡ Ok (sofar_with None (calls ++ adds_channel c ∷ []))
channel_reads rows few c h calls =
    let s = channel_small rows c few h in
    let e = channel_tokens c s in
    ap (line_of (sofar_with None calls)) e ∙ line_call calls Channel (after_channel c.writer c.reader c.writes c.reads c.ceiling) (adds_channel c) refl (ap (call_of 0) (sym e) ∙ channel_line_call c s 0)

pub table_reads : (t : Table) → lawful t ≡ true → script_of (table_text t) ≡ Ok (adds_rows t)
table_reads t l =
    let p = lawful_parts t l in
    let rest = flat_map channel_text t.channels in
    ap (λ k. script_of (flat_map actor_text t.actors ++ k)) (sym (append-nil rest))
    ∙ rows_read actor_text actor_line adds_actor (λ a. passes (actor_fault a)) (λ a h. actor_line_lem a (actor_small a h)) actor_reads
    t.actors 1 [] (rest ++ []) (Ok (adds_rows t)) p.good_actors
    (λ k. rows_read channel_text channel_line adds_channel (λ c. passes (channel_fault t.actors c))
    (λ c h. channel_line_lem c (channel_small t.actors c p.few_actors h)) (channel_reads t.actors p.few_actors)
    t.channels k (map adds_actor t.actors) [] (Ok (adds_rows t)) p.good_channels (λ j. refl))

-- the same of the program's rows
pub rows_read_back : (r : Rows) → script_of (table_text (table_of r)) ≡ Ok (adds_rows (table_of r))
rows_read_back r = table_reads (table_of r) r.accepted
