-- Marks: each name has a place and a sign, both made of its bytes, and the marks at the places of some names are set.
use Rattle.std.specs.Prelude.{ℕ, ◌+◌, ◌*◌, ◌/◌, ◌%◌, ◌≡◌, Bool, true, ◌||◌, List, [], ◌∷◌, eqb, length, get_or}
use Rattle.paper.specs.Bytes.{pick, every}

-- how many places there are
abbrev pub places : ℕ
places = 2048

-- how many mixes there are: 128 for each place
abbrev pub mixes : ℕ
mixes = 262144

-- the mix of some bytes with one byte more
abbrev pub mixed : ℕ → ℕ → ℕ
mixed mix b = (mix * 35 + b) % mixes

-- the mix of some bytes with others behind them
unfoldable pub mixed_on : ℕ → List ℕ → ℕ
mixed_on mix [] = mix
mixed_on mix (b ∷ bs) = mixed_on (mixed mix b) bs

-- the mix of a name
unfoldable pub mix_of : List ℕ → ℕ
mix_of n = mixed_on 0 n

-- its place
abbrev pub place_in : ℕ → ℕ
place_in mix = mix % places

-- its sign, which is not 0
abbrev pub sign_in : ℕ → ℕ
sign_in mix = mix / places + 1

-- the mark of a place with more than one name
abbrev pub many : ℕ
many = 255

-- a name's mark is set: at its place stands its sign, or the mark of many
unfoldable pub marked? : List ℕ → List ℕ → Bool
marked? marks n = let mark = get_or marks (place_in (mix_of n)) 0 in eqb mark (sign_in (mix_of n)) || eqb mark many

-- the mark of a place with one name more
unfoldable pub one_more : ℕ → ℕ → ℕ
one_more mark mix = pick (eqb mark 0) (sign_in mix) many

-- a mark for each place, and those of some names set
pub record Marks (marks : List ℕ) (ns : List (List ℕ)) : Type 0 where
  pub whole : length marks ≡ places
  pub set : every (marked? marks) ns ≡ true
