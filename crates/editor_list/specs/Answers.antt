-- What a listing answered and left, as an outcome of `paper`.
use Rattle.std.specs.Prelude.{ℕ, ◌≡◌, refl, List, Result, Ok, Err}
use Rattle.paper.specs.Calls.{Listed as WrittenOut}
use Rattle.refusals.specs.Numbers.{number_of}
use Rattle.refusals.specs.declared.Refusal.{Refusal}
use Rattle.list_outcome.specs.Outcomes.{answer}

-- an answer in two numbers: document 01's, 0 where nothing was refused; and how many bytes were written
abbrev pub listing_number : Result ℕ Refusal → ℕ
listing_number (Ok written) = 0
listing_number (Err k) = number_of k

abbrev pub written_in : Result ℕ Refusal → ℕ
written_in (Ok written) = written
written_in (Err k) = 0

-- what a listing answered, with what it left in the output buffer
abbrev pub listed : Result ℕ Refusal → List ℕ → WrittenOut
listed r out = record { number = listing_number r; written = written_in r; output = out }

-- it is what comes of listing a line
pub listed_as : (r : Result ℕ Refusal) (out : List ℕ) → listed r out ≡ answer r out
unfolding answer
listed_as (Ok written) out = refl
listed_as (Err k) out = refl
