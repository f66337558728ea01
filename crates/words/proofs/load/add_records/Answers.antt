use Rattle.std.proofs.Common.{◌≡◌, ℕ, ◌+◌, ◌<◌, ◌≤◌, length, Ok, Err, Result, MatchResult, sym, refl, ap, ◌∙◌, arith, rules}
use Rattle.rows.specs.declared.fault.Fault.{Fault}
use Rattle.words.specs.declared.fault.LoadFault.{LoadFault}
use Rattle.words.specs.declared.fault.LoadFault.TheVariants.{Row}
use Rattle.std.proofs.lemmas.Result.{err_from_is_err_and}
use Rattle.table.specs.Tables.{table_of}
use Rattle.words.specs.Parts.{part_of}
use Rattle.words.specs.Records.{record_at, writes_in, reads_in, actor_part, channel_part}
use Rattle.words.proofs.Whole.{read_as, actor_within, channel_within}
use Rattle.words.proofs.Turns.{Adds, adds_actor_lem, adds_channel_lem, same_adds, stopped, finished, row_refused, row_taken, moves}
use Rattle.words.proofs.load.add_records.Goals.{in-Actor, in-Channel}
use Rattle.words.proofs.load.add_records.Goals as goal

pub returns-in_err-part : goal.returns-in_err-part
returns-in_err-part c =
    let p = err_from_is_err_and c.from_residual.result c.from_residual.ensures.1 in
    rw (p.1, p.2)
    (stopped _ _ _ _ c.loop-part.invariant _ (ap (λ b. record_at b c.args.words.now c.loop-part.head) (sym c.has_channels.ensures) ∙ c.in_err-part.ensures))

pub add_actor-requires : goal.add_actor-requires
add_actor-requires c =
    let ws = c.args.words.now in
    let read = read_as c.has_channels.result ws c.loop-part.head (actor_part c.in-Actor.part.now) (c.in_ok-part.ensures ∙ ap (λ r. Ok (part_of r)) c.in-Actor.is) in
    let w = actor_within ws c.loop-part.head c.in-Actor.part.now c.has_channels.result read in
    let few = read.few in
    let content = w.content_is in
    let long = w.long in
    (omega arith, omega arith)

pub add_channel-requires : goal.add_channel-requires
add_channel-requires c =
    let ws = c.args.words.now in
    let read = read_as c.has_channels.result ws c.loop-part.head (channel_part c.in-Channel.part.now) (c.in_ok-part.ensures ∙ ap (λ r. Ok (part_of r)) c.in-Channel.is) in
    let w = channel_within ws c.loop-part.head c.in-Channel.part.now read in
    let content = ap (λ n. writes_in n + reads_in n) w.content_is in
    let long = w.long in
    omega arith

pub returns-in-End : goal.returns-in-End
returns-in-End c =
    finished _ _ _ _ c.loop-part.invariant _
    (ap (λ b. record_at b c.args.words.now c.loop-part.head) (sym c.has_channels.ensures) ∙ c.in_ok-part.ensures ∙ ap (λ r. Ok (part_of r)) c.in-End.is)

-- the refusal of a row, once it is told with its head
refusal : (r : Result ℕ Fault) (out : LoadFault) (Q : Fault → Type 0) → MatchResult r (λ x. ◌≡◌ {A = Result ℕ LoadFault} (Err out) (Ok x)) Q → (f : Fault) × (r ≡ Err f) × Q f
refusal (Ok x) out Q e = absurd (cc)
refusal (Err f) out Q e = (f, refl, e)

granted : (r : Result ℕ Fault) (v : ℕ) → MatchResult r (λ x. ◌≡◌ {A = Result ℕ LoadFault} (Ok v) (Ok x)) (λ e. ⊥) → r ≡ Ok v
granted (Ok x) v e = cc
granted (Err f) v e = absurd e

-- the row that was added, by either way
added-err : (c : goal.After-from_residual-in_err-map_err) → (f : Fault) → c.match-branch-2.added.1 ≡ Err f → Adds (table_of c.loop-part.rows) (table_of c.match-branch-2.rows) (Err f) (part_of c.in_ok-part.field-0) (length c.match-branch-2.added.0.now)
added-err c f e = elim c.match-branch-2.branch [
  | in-Actor w ↦ same_adds _ _ _ _ _ _ _ _ _ (ap table_of w.rows-is) (sym e ∙ ap (λ p. p.1) w.added-is) (ap part_of w.in-Actor.is)
      (ap (λ p. length p.0.now) w.added-is) (adds_actor_lem _ w.add_actor.ensures)
  | in-Channel w ↦ same_adds _ _ _ _ _ _ _ _ _ (ap table_of w.rows-is) (sym e ∙ ap (λ p. p.1) w.added-is) (ap part_of w.in-Channel.is)
      (ap (λ p. length p.0.now) w.added-is) (adds_channel_lem _ w.add_channel.ensures)
]

added-ok : (c : goal.In_ok-map_err) → Adds (table_of c.loop-part.rows) (table_of c.match-branch-2.rows) (Ok c.in_ok-map_err.field-0) (part_of c.in_ok-part.field-0) (length c.match-branch-2.added.0.now)
added-ok c =
    let e = granted c.match-branch-2.added.1 c.in_ok-map_err.field-0 c.in_ok-map_err.ensures.cases in
    elim c.match-branch-2.branch [
      | in-Actor w ↦ same_adds _ _ _ _ _ _ _ _ _ (ap table_of w.rows-is) (sym e ∙ ap (λ p. p.1) w.added-is) (ap part_of w.in-Actor.is)
          (ap (λ p. length p.0.now) w.added-is) (adds_actor_lem _ w.add_actor.ensures)
      | in-Channel w ↦ same_adds _ _ _ _ _ _ _ _ _ (ap table_of w.rows-is) (sym e ∙ ap (λ p. p.1) w.added-is) (ap part_of w.in-Channel.is)
          (ap (λ p. length p.0.now) w.added-is) (adds_channel_lem _ w.add_channel.ensures)
    ]

pub returns-in_err-map_err : goal.returns-in_err-map_err
returns-in_err-map_err c =
    let p = err_from_is_err_and c.from_residual-in_err-map_err.result c.from_residual-in_err-map_err.ensures.1 in
    let q = refusal c.match-branch-2.added.1 c.in_err-map_err.field-0.0 _ c.in_err-map_err.ensures.cases in
    let z = q.2 in
    let told : c.in_err-map_err.field-0.0 ≡ Row c.loop-part.head q.0 = search rules in
    rw (p.1, p.2, told)
    (row_refused _ _ _ _ c.loop-part.invariant _ _ _ _
    (ap (λ b. record_at b c.args.words.now c.loop-part.head) (sym c.has_channels.ensures) ∙ c.in_ok-part.ensures) (added-err c q.0 q.1))

record_there : (c : goal.In_ok-map_err) → (0 < length c.match-branch-2.added.0.now) × (c.loop-part.head + length c.match-branch-2.added.0.now ≤ length c.args.words.now)
record_there c =
    moves _ _ _ _ c.loop-part.invariant _ _ _ _
    (ap (λ b. record_at b c.args.words.now c.loop-part.head) (sym c.has_channels.ensures) ∙ c.in_ok-part.ensures) (added-ok c)

pub overflow_add-head : goal.overflow_add-head
overflow_add-head c = grind (arith, record_there)

pub loop-part-smaller : goal.loop-part-smaller
loop-part-smaller c = grind (arith, record_there)

pub loop-part-preserved : goal.loop-part-preserved
loop-part-preserved c =
    row_taken _ _ _ _ c.loop-part.invariant _ _ _ _
    (ap (λ b. record_at b c.args.words.now c.loop-part.head) (sym c.has_channels.ensures) ∙ c.in_ok-part.ensures) (added-ok c)
