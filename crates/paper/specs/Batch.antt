-- A whole listing at once (document 02, §3): a text of many lines parted by 9B, entered line by line.
use Rattle.std.specs.Prelude.{ℕ, suc, ◌+◌, Bool, List, [], ◌∷◌, eqb}
use Rattle.paper.specs.Bytes.{pick}
use Rattle.paper.specs.Names.{in_front}
use Rattle.paper.specs.Items.{Span, no_span}
use Rattle.paper.specs.Calls.{State, Entered, enter_with}

-- the lines of a text: each 9B ends one, and bytes after the last 9B, if any, are one too
unfoldable pub text_lines : List ℕ → List (List ℕ)
text_lines [] = []
text_lines (b ∷ s) = let more = text_lines s in pick (eqb b 0x9b) ([] ∷ more) (in_front b more)

-- The answers to lines that are entered one after another by single calls, each over the state that the call before it left, whether that took its line
-- or refused it. (A line without a number is refused with 3: `enter_with` has no line buffer.) The switch says whether wrong lines are kept (§9).
unfoldable pub answers_to : Bool → List (List ℕ) → State → List Entered
answers_to keep [] s = []
answers_to keep (l ∷ ls) s = let e = enter_with keep l s in e ∷ answers_to keep ls e.after

-- a refusal among lines: its number, its place in the line, and the line, counted from 1; all 0 for none
pub record RefusedLine : Type 0 where
  pub number : ℕ
  pub place : Span
  pub line : ℕ

-- no refusal
unfoldable pub none_refused : RefusedLine
none_refused = record { number = 0; place = no_span; line = 0 }

-- what the call answers: how many lines were taken, how many refused, and the first refusal; and the state afterwards
pub record Batched : Type 0 where
  pub taken : ℕ
  pub refused : ℕ
  pub first : RefusedLine
  pub after : State

-- before any line
unfoldable pub no_lines : State → Batched
no_lines s = record { taken = 0; refused = 0; first = none_refused; after = s }

-- with one answer more
unfoldable pub with_answer : Batched → Entered → Batched
with_answer b e =
    let this : RefusedLine = record { number = e.number; place = e.place; line = suc (b.taken + b.refused) } in
    let taken : Batched = record { taken = suc b.taken; refused = b.refused; first = b.first; after = e.after } in
    let refused : Batched = record { taken = b.taken; refused = suc b.refused; first = pick (eqb b.refused 0) this b.first; after = e.after } in
    pick (eqb e.number 0) taken refused

-- with all of these, one after another
unfoldable pub with_answers : Batched → List Entered → Batched
with_answers b [] = b
with_answers b (e ∷ es) = with_answers (with_answer b e) es

-- a text of many lines entered
unfoldable pub batch : Bool → List ℕ → State → Batched
batch keep text s = with_answers (no_lines s) (answers_to keep (text_lines text) s)
