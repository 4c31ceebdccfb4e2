-- What the search for a name answers.
use Rattle.std.specs.Prelude.{ℕ, ◌≡◌, List, length, true, false, Result, MatchResult}
use Rattle.paper.specs.Names.{number_of, known?}

-- the number of a name among some names, or how many they are where it is none of them
abbrev pub Finds : List (List ℕ) → List ℕ → Result ℕ ℕ → Type 0
Finds ns n r = MatchResult r (λ k. (k ≡ number_of ns n) × (known? ns n ≡ true)) (λ k. (k ≡ length ns) × (known? ns n ≡ false))
