-- The answers to a line that was read: short of room or too long, or accepted.
use Rattle.std.specs.Prelude.{ℕ, ◌+◌, Bool, Option, Some, None, List, Ok, ltb, length}
use Rattle.paper.specs.Bytes.{pick}
use Rattle.paper.specs.Names.{names_in}
use Rattle.refusals.specs.declared.Refusal.{Refusal}
use Rattle.refusals.specs.declared.Refusal.TheVariants.{NoNameRoom, LongLine}
use Rattle.store.specs.declared.Counts.{Counts}
use Rattle.editor_edit.specs.declared.Editor.{Editor}
use Rattle.editor_edit.specs.declared.Entered.{Entered}

-- the refusal that a line of some size gets wherever it is to stand, if any: 6 where its new names lack room, 7 where it is too long
unfoldable pub short_of : Bool → ℕ → Option Refusal
short_of lack size = pick lack (Some NoNameRoom) (pick (ltb 255 size) (Some LongLine) None)

-- an accepted line: its new names are added, and the store has these counts
abbrev pub accepting : List ℕ → Counts → Editor → Entered
accepting fresh after e =
    let added = length (names_in fresh) in record {
      added = Ok added;
      editor = record { used = after.used; lines = after.lines; greatest = after.greatest; name_count = e.name_count + added; name_bytes = e.name_bytes + length fresh };
    }
