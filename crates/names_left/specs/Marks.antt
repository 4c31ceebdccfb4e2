-- Names with a mark each, 0 for one that goes: what stays of the names and of their values, and the new numbers.
use Rattle.std.specs.Prelude.{ℕ, suc, Bool, not, List, [], ◌∷◌, ◌++◌, eqb, take, drop}
use Rattle.paper.specs.Bytes.{pick}

-- a mark says that its name stays
unfoldable pub stays? : ℕ → Bool
stays? m = not (eqb m 0)

-- the names that stay, in their order
unfoldable pub left_by : List ℕ → List (List ℕ) → List (List ℕ)
left_by [] ns = []
left_by (m ∷ ms) [] = []
left_by (m ∷ ms) (n ∷ ns) = let more = left_by ms ns in pick (stays? m) (n ∷ more) more

-- one value's eight bytes, with a number
unfoldable pub numbered : ℕ → List ℕ → List ℕ
numbered i vs = take 1 vs ++ i ∷ take 6 (drop 2 vs)

-- the values of the names that stay, numbered from i on
unfoldable pub values_by : ℕ → List ℕ → List (List ℕ) → List ℕ → List ℕ
values_by i [] ns vs = []
values_by i (m ∷ ms) [] vs = []
values_by i (m ∷ ms) (n ∷ ns) vs =
    let stays = numbered i vs ++ values_by (suc i) ms ns (drop 8 vs) in
    let goes = values_by i ms ns (drop 8 vs) in
    pick (stays? m) stays goes

-- the new numbers of the names, from i on; 0 for one that goes
unfoldable pub numbers_by : ℕ → List ℕ → List (List ℕ) → List ℕ
numbers_by i [] ns = []
numbers_by i (m ∷ ms) [] = []
numbers_by i (m ∷ ms) (n ∷ ns) =
    let stays = i ∷ numbers_by (suc i) ms ns in
    let goes : List ℕ = 0 ∷ numbers_by i ms ns in
    pick (stays? m) stays goes
