-- Names as they lie in a table.
use Rattle.std.specs.Prelude.{ℕ, suc, ◌-◌, List, [], ◌∷◌, leb}
use Rattle.paper.specs.Bytes.{pick}

-- a byte with its top bit cleared
unfoldable pub cleared : ℕ → ℕ
cleared b = pick (leb 128 b) (b - 128) b

-- the bytes of a name as it lies in a table, its last byte's top bit cleared
unfoldable pub unmarked : List ℕ → List ℕ
unmarked [] = []
unmarked (x ∷ []) = cleared x ∷ []
unmarked (x ∷ y ∷ ys) = x ∷ unmarked (y ∷ ys)

-- how many bytes the first name of some bytes has: to the first byte with its top bit set, or to the end
unfoldable pub first_size : List ℕ → ℕ
first_size [] = 0
first_size (b ∷ bs) = let more = suc (first_size bs) in pick (leb 128 b) 1 more
