-- The book that a draft stands for.
use Rattle.std.specs.Prelude.{cond}
use Rattle.table.specs.Tables.{table_of}
use Rattle.draft.specs.declared.draft.Draft.{Draft}
use Rattle.draft.specs.Book.{Book}

-- the rows that stand are the saved ones while a change is open, and else the rows themselves
abbrev pub book_of : Draft → Book
book_of d =
    record {
      mark = d.mark;
      standing = cond d.changing (table_of d.saved) (table_of d.working);
      working = table_of d.working;
      changing = d.changing;
    }
