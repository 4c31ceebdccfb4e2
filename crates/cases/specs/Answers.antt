-- Calls with their whole answers, and the test that the definitions give them.
use Rattle.std.specs.Prelude.{ℕ, suc, Bool, true, false, ◌&&◌, List, [], ◌∷◌, eqb, length, take}
use Rattle.paper.specs.Bytes.{pick, same}
use Rattle.paper.specs.Store.{lines_in, greatest_number}
use Rattle.paper.specs.Calls.{State, Entered, enter, enter_with, Listed, list}
use Rattle.paper.specs.Direct.{typed, show}

pub data Call : Type 0 where
  -- a text entered; the answer's number, place, its end and names added, and the state afterwards
  enters : List ℕ → State → ℕ → ℕ → ℕ → ℕ → State → Call
  -- a line listed into a buffer; the answer's number and bytes written, and the buffer afterwards
  lists : ℕ → State → List ℕ → ℕ → ℕ → List ℕ → Call
  -- a text typed, with a line buffer; the answer's number, place, its end and names added, and state and line buffer afterwards
  types : List ℕ → State → List ℕ → ℕ → ℕ → ℕ → ℕ → State → List ℕ → Call
  -- a line buffer listed over the names and values of a state into a buffer; the answer's number and bytes written, and the buffer afterwards
  shows : List ℕ → State → List ℕ → ℕ → ℕ → List ℕ → Call
  -- a text entered with wrong lines kept; the answer's number, place and its end, no name added, and the state afterwards
  keeps : List ℕ → State → ℕ → ℕ → ℕ → State → Call

-- names, their bytes and count, values, store and the bytes used; the count of lines and the greatest number are what a walk of the store finds
unfoldable pub agreeing : List ℕ → ℕ → ℕ → List ℕ → List ℕ → ℕ → State
agreeing names size count values store used =
    let ls = lines_in (take used store) in
    record { names = names; name_size = size; name_count = count; values = values; store = store; used = used; line_count = length ls; greatest = greatest_number ls }

-- two states are equal
unfoldable pub same_state : State → State → Bool
same_state a b =
    same a.names b.names && (eqb a.name_size b.name_size && (eqb a.name_count b.name_count
    && (same a.values b.values && (same a.store b.store && (eqb a.used b.used
    && (eqb a.line_count b.line_count && eqb a.greatest b.greatest))))))

-- an answer to a text has this number, place, its end and names added, and leaves this state
abbrev pub answers : Entered → ℕ → ℕ → ℕ → ℕ → State → Bool
answers e number place end added after = eqb e.number number && (eqb e.place.start place && (eqb e.place.end end && (eqb e.added added && same_state e.after after)))

-- an answer to a listing has this number and count, and leaves this buffer
abbrev pub writes : Listed → ℕ → ℕ → List ℕ → Bool
writes l number written after = eqb l.number number && (eqb l.written written && same l.output after)

-- the definitions give the answer of a call
unfoldable pub meets : Call → Bool
meets (enters text s number place end added after) = answers (enter text s) number place end added after
meets (lists n s output number written after) = writes (list n s output) number written after
meets (types text s buffer number place end added after line) = let e = typed false text s buffer in answers e.entered number place end added after && same e.line line
meets (shows buffer s output number written after) = writes (show buffer s.names s.name_size s.name_count s.values output) number written after
meets (keeps text s number place end after) = answers (enter_with true text s) number place end 0 after

-- the places in a table, from i on, of the calls that they do not meet
unfoldable pub failing : ℕ → List Call → List ℕ
failing i [] = []
failing i (c ∷ cs) = let more = failing (suc i) cs in pick (meets c) more (i ∷ more)
