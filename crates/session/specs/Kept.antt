-- The rows that kept changes leave, told from the calls and their answers alone.
use Rattle.std.specs.Prelude.{Bool, true, false, cond, List, [], ◌∷◌, ◌++◌}
use Rattle.rows.specs.Table.{Table}
use Rattle.session.specs.declared.calls.Edit.{Edit}
use Rattle.session.specs.declared.calls.Ending.TheVariants.{Keep, Withdraw}
use Rattle.session.specs.declared.calls.Call.{Call}
use Rattle.session.specs.declared.calls.Call.TheVariants.{Open, End, Edit as EditCall, Rows as RowsCall}
use Rattle.session.specs.Calls.{Said, done, actor, channel, rows, refused, edit_step}

abbrev pub is_refused : Said → Bool
is_refused done = false
is_refused (actor n) = false
is_refused (channel n) = false
is_refused (rows t) = false
is_refused (refused f) = true

-- the edits that were granted in changes that were kept, in order, after those of the change that is open
abbrev pub kept_edits : List Edit → List Call → List Said → List Edit
kept_edits pending [] said = []
kept_edits pending (call ∷ more) [] = []
kept_edits pending (Open ∷ more) (s ∷ said) = kept_edits pending more said
kept_edits pending (EditCall shown e ∷ more) (s ∷ said) = kept_edits (cond (is_refused s) pending (pending ++ e ∷ [])) more said
kept_edits pending (End shown Keep ∷ more) (s ∷ said) = cond (is_refused s) (kept_edits pending more said) (pending ++ kept_edits [] more said)
kept_edits pending (End shown Withdraw ∷ more) (s ∷ said) = kept_edits (cond (is_refused s) pending []) more said
kept_edits pending (RowsCall ∷ more) (s ∷ said) = kept_edits pending more said

-- the table after these edits
abbrev pub edited : Table → List Edit → Table
edited t [] = t
edited t (e ∷ more) = edited ((edit_step e).made t) more
