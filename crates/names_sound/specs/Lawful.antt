-- Names that a sound table may hold.
use Rattle.std.specs.Prelude.{ℕ, ◌-◌, Bool, not, ◌&&◌, List, [], ◌∷◌, ◌++◌, ltb, eqb}
use Rattle.paper.specs.Words.{reserved?}
use Rattle.paper.specs.Names.{less_open, name?, known?}

-- a name that a sound table may hold after the names ns
unfoldable pub lawful : List ℕ → List (List ℕ) → Bool
lawful n ns = name? n && (not (reserved? (less_open n)) && not (known? ns n))

-- names that a sound table may hold after others, and this many
unfoldable pub sound_after : List (List ℕ) → List (List ℕ) → ℕ → Bool
sound_after before [] count = eqb count 0
sound_after before (n ∷ ns) count = ltb 0 count && (lawful n before && sound_after (before ++ n ∷ []) ns (count - 1))
