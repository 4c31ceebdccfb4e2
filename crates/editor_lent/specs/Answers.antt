-- What a call with a lent record answered, as an outcome of `paper`.
use Rattle.std.specs.Prelude.{ℕ, List, Result}
use Rattle.paper.specs.Items.{span}
use Rattle.paper.specs.Calls.{Entered as Outcome}
use Rattle.paper.specs.Direct.{Typed}
use Rattle.refusals.specs.declared.RefusedItem.{RefusedItem}
use Rattle.editor_edit.specs.States.{state, number_in, place_in, added_in}
use Rattle.editor_edit.specs.declared.Editor.{Editor}

-- what a call answered, with what it left in names, values, store, the line buffer and the record
abbrev pub answered : Result ℕ RefusedItem → List ℕ → List ℕ → List ℕ → List ℕ → Editor → Typed
answered r names values store line e =
    let outcome : Outcome = record { number = number_in r; place = span (place_in r).start (place_in r).end; added = added_in r; after = state names values store e } in
    record { entered = outcome; line = line }
