-- What an edit of the store answers, and what it leaves in the lent store.
use Rattle.std.specs.Prelude.{ℕ, Bool, Option, Some, None, List, ltb, length}
use Rattle.paper.specs.Bytes.{pick, joined}
use Rattle.paper.specs.Store.{room, stored?, take_out, overwritten}
use Rattle.store.specs.declared.Counts.{Counts}
use Rattle.store.specs.Answers.{counts_of}

-- ---- putting a line in

-- the lines afterwards would pass the room
unfoldable pub too_long : List ℕ → List (List ℕ) → Bool
too_long store ls = ltb (room store) (length (joined ls))

-- the answer, by the lines that the store would hold: none, for document 01's 8, or the counts afterwards, for its 0
unfoldable pub stored_answer : List ℕ → List (List ℕ) → Option Counts
stored_answer store ls = pick (too_long store ls) None (Some (counts_of ls))

-- what the store then holds
unfoldable pub stored_bytes : List ℕ → List (List ℕ) → List ℕ
stored_bytes store ls = pick (too_long store ls) store (overwritten (joined ls) store)

-- ---- taking a line out

-- the answer for a line number: the counts afterwards, for document 01's 0, or none, for its 9
unfoldable pub removed_answer : ℕ → List (List ℕ) → Option Counts
removed_answer n ls = pick (stored? n ls) (Some (counts_of (take_out n ls))) None

-- what the store then holds
unfoldable pub removed_bytes : ℕ → List ℕ → List (List ℕ) → List ℕ
removed_bytes n store ls = pick (stored? n ls) (overwritten (joined (take_out n ls)) store) store
