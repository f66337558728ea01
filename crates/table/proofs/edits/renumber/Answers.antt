use Rattle.std.proofs.Common.{◌≡◌, ◌<◌, ◌≤◌, map, length, refl, ap, ◌∙◌, arith}
use Rattle.std.proofs.lemmas.List.{length-map, take_at}
use Rattle.rows.specs.Table.{renumbered_ends}
use Rattle.rows.specs.Values.{channel_row}
use Rattle.table.proofs.Tables.{changed_more, changed_all}
use Rattle.table.proofs.edits.renumber.Goals as goal

pub loop-channel-init : goal.loop-channel-init
loop-channel-init c = refl

pub loop-channel-preserved : goal.loop-channel-preserved
loop-channel-preserved c =
    let h : c.loop-channel.channel-index < length (map channel_row c.deref_mut-channel-items.result.now) = simp length-map c.loop-channel-test.true in
    changed_more channel_row (renumbered_ends c.args.gone) _ _ _ c.channel-item.result _ h (omega (arith, c.loop-channel.auto.channel-items, c.loop-channel-test.true))
    c.loop-channel.invariant c.after_cut.ensures

pub returns : goal.returns
returns c =
    let was = c.deref_mut-channel-items.result.now in
    let same = c.deref_mut-channel-items.ensures.value in
    let all : length (map channel_row was) ≤ c.loop-channel.channel-index = simp length-map c.loop-channel-test.false in
    let made = changed_all (renumbered_ends c.args.gone) _ (map channel_row c.loop-channel.channel-items) _ all c.loop-channel.invariant in
    let long : length c.loop-channel.channel-items ≡ c.args.channels.now.len =
    let v = c.args.channels.now.ok.0 in omega (arith, c.loop-channel.auto.channel-items, ap length same) in
    record {
      rows = ap (map channel_row) (take_at c.loop-channel.channel-items _ _ long) ∙ made
          ∙ ap (λ l. map (renumbered_ends c.args.gone) (map channel_row l)) same;
      capacity = refl;
    }
