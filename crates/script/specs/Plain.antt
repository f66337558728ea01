-- A call as plain lists and numbers.
use Rattle.std.specs.Prelude.{ℕ, vec_items}
use Rattle.rows.specs.Table.{ActorRow, ChannelRow, actor_with, channel_with}
use Rattle.session.specs.declared.calls.Edit.{Edit}
use Rattle.session.specs.declared.calls.Edit.TheVariants.{AddActor, AddChannel, CutActor, CutChannel}
use Rattle.session.specs.declared.calls.Ending.{Ending}
use Rattle.session.specs.declared.calls.Call.{Call}
use Rattle.session.specs.declared.calls.Call.TheVariants.{Open, End, Edit as EditCall, Rows}

pub data PlainEdit : Type 0 where
  actor_added : ActorRow → PlainEdit
  channel_added : ChannelRow → PlainEdit
  actor_cut : ℕ → PlainEdit
  channel_cut : ℕ → PlainEdit

pub data PlainCall : Type 0 where
  opened : PlainCall
  edited : ℕ → PlainEdit → PlainCall
  ended : ℕ → Ending → PlainCall
  rows_shown : PlainCall

abbrev pub plain_edit : Edit → PlainEdit
plain_edit (AddActor times first placement) = actor_added (actor_with (vec_items times) first placement)
plain_edit (AddChannel writer reader writes reads ceiling) = channel_added (channel_with writer reader (vec_items writes) (vec_items reads) ceiling)
plain_edit (CutActor i) = actor_cut i
plain_edit (CutChannel i) = channel_cut i

abbrev pub plain_call : Call → PlainCall
plain_call Open = opened
plain_call (EditCall mark edit) = edited mark (plain_edit edit)
plain_call (End mark ending) = ended mark ending
plain_call Rows = rows_shown
