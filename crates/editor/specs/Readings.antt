-- What a text was read as, and what comes of it, in the words of `paper`.
use Rattle.std.specs.Prelude.{ℕ, ◌≡◌, Bool, Result, Ok, Err, List, T, take}
use Rattle.paper.specs.Bytes.{pick}
use Rattle.paper.specs.Tokens.{Token}
use Rattle.paper.specs.Items.{span}
use Rattle.paper.specs.Names.{names_in}
use Rattle.paper.specs.Line.{line_number, direct_number?}
use Rattle.paper.specs.Calls.{State, names_of, sound_state, refusal, accept, delete, keep_line, enter_with}
use Rattle.paper.specs.Direct.{Typed, same_buffer, accept_direct, typed}
use Rattle.enter_line.specs.declared.Line.{Line}
use Rattle.enter_line.specs.declared.Reading.{Reading}
use Rattle.enter_line.specs.declared.Reading.TheVariants.{Read, Delete, Kept}
use Rattle.refusals.specs.Numbers.{number_of}
use Rattle.refusals.specs.declared.RefusedItem.{RefusedItem}
use Rattle.editor_edit.specs.declared.Editor.{Editor}
use Rattle.editor_edit.specs.States.{state}
use Rattle.editor_accept.specs.Lines.{Written, Readable}

-- the number of the line that a text is about; 0 of a text that is refused
unfoldable pub asked_number : Result Reading RefusedItem → ℕ
asked_number (Err i) = 0
asked_number (Ok (Delete n)) = n
asked_number (Ok (Read l)) = l.number
asked_number (Ok (Kept l i)) = l.number

-- where a line was read over some names, it and its new names stand in the two buffers; a line that is kept stands in the first
pub record Ready (ns : List (List ℕ)) (line fresh : List ℕ) (r : Result Reading RefusedItem) : Type 0 where
  pub read : (l : Line) → r ≡ Ok (Read l) → Readable ns l.number line l.size (take l.named fresh)
  pub kept : (l : Line) (i : RefusedItem) → r ≡ Ok (Kept l i) → line_number (take l.size line) ≡ l.number

-- a line accepted: the one without a number for the line buffer, any other for the store
unfoldable pub accept_read : State → List ℕ → ℕ → List Token → Typed
accept_read s buffer n ts = pick (direct_number? n) (accept_direct s buffer ts) (same_buffer buffer (accept s n ts))

-- an outcome is that of the refusal, the deletion, the line that was read, or the line that is kept
unfoldable pub Edits : State → List ℕ → List ℕ → List ℕ → Result Reading RefusedItem → Typed → Type 0
Edits s buffer line fresh (Err i) o = o ≡ same_buffer buffer (refusal (number_of i.refusal) (span i.place i.end) s)
Edits s buffer line fresh (Ok (Delete n)) o = o ≡ same_buffer buffer (delete s n)
Edits s buffer line fresh (Ok (Read l)) o = (ts : List Token) → Written (names_of s) l.number ts line l.size (take l.named fresh) → o ≡ accept_read s buffer l.number ts
Edits s buffer line fresh (Ok (Kept l i)) o = o ≡ same_buffer buffer (keep_line s (take l.size line) (span i.place i.end))

-- what a text is to give: one without a number is typed where such lines are read, and entered as any other where they are not
abbrev pub typed_if : Bool → Bool → List ℕ → State → List ℕ → Typed
typed_if keep direct text s buffer = pick direct (typed keep text s buffer) (same_buffer buffer (enter_with keep text s))

-- A text that was read over some names, before the store is looked at: it can be edited by, and what comes of that over any values and store is what
-- the text is to give.
pub record Prepared (keep direct : Bool) (names : List ℕ) (e : Editor) (text line fresh : List ℕ) (r : Result Reading RefusedItem) : Type 0 where
  pub ready : Ready (names_in (take e.name_bytes names)) line fresh r
  pub gives : (values store buffer : List ℕ) → T (sound_state (state names values store e)) → (o : Typed) → Edits (state names values store e) buffer line fresh r o
      → o ≡ typed_if keep direct text (state names values store e) buffer
