-- A line that was read from a text, and the outcome of accepting it.
use Rattle.std.specs.Prelude.{ℕ, ◌≤◌, ◌≡◌, true, List, length, take}
use Rattle.paper.specs.Tokens.{Token}
use Rattle.paper.specs.Names.{names_in, add_names, most_names}
use Rattle.paper.specs.Line.{line_bytes, direct_number}
use Rattle.paper.specs.Calls.{State, names_of, accept}
use Rattle.paper.specs.Calls.{Entered as Outcome}
use Rattle.paper.specs.Direct.{accept_direct}
use Rattle.laws.specs.Names.{names_added, closed?}
use Rattle.editor_edit.specs.declared.Editor.{Editor}
use Rattle.editor_edit.specs.declared.Entered.{Entered}
use Rattle.editor_edit.specs.States.{state, typed_outcome}

-- A line of `size` bytes at the front of a buffer and the bytes of its new names, as they were read from a text: the line of these tokens over
-- the names ns. The bytes are right unless the line is too long or has too many names; its length is right in any case.
pub record Written (ns : List (List ℕ)) (n : ℕ) (ts : List Token) (line : List ℕ) (size : ℕ) (fresh : List ℕ) : Type 0 where
  pub new : names_in fresh ≡ names_added ns ts
  pub closed : closed? fresh ≡ true
  pub length_is : size ≡ length (line_bytes (add_names ns ts) n ts)
  pub bytes : size ≤ 255 → length (add_names ns ts) ≤ most_names → take size line ≡ line_bytes (add_names ns ts) n ts

-- some tokens give this line
pub record Readable (ns : List (List ℕ)) (n : ℕ) (line : List ℕ) (size : ℕ) (fresh : List ℕ) : Type 0 where
  pub ts : List Token
  pub written : Written ns n ts line size fresh

-- an outcome is that of accepting a line that was read
abbrev pub Accepts : State → ℕ → List ℕ → ℕ → List ℕ → Outcome → Type 0
Accepts s n line size fresh o = (ts : List Token) → Written (names_of s) n ts line size fresh → o ≡ accept s n ts

-- what a call answered and left in names, values and line buffer is, over any store, that of accepting a line without a number that was read
abbrev pub AcceptsDirect : List ℕ → List ℕ → Editor → List ℕ → List ℕ → ℕ → List ℕ → Entered → List ℕ → List ℕ → List ℕ → Type 0
AcceptsDirect names values e buffer line size fresh r names' values' buffer' =
    (store : List ℕ) (ts : List Token) → Written (names_of (state names values store e)) direct_number ts line size fresh
    → typed_outcome r names' values' store buffer' ≡ accept_direct (state names values store e) buffer ts
