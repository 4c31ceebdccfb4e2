-- The name table (document 01, "Tables"): its bytes as names, what is sound, finding and adding; and the entries of the values' table.
use Rattle.std.specs.Prelude.{ℕ, suc, ◌+◌, ◌-◌, Bool, true, false, not, ◌&&◌, ◌||◌, List, [], ◌∷◌, ◌++◌, leb, ltb, eqb, length, take, drop, get_or}
use Rattle.paper.specs.Bytes.{pick, letter?, letter_or_digit?, run, same, every}
use Rattle.paper.specs.Words.{reserved?}
use Rattle.paper.specs.Tokens.{Token, statement, assigned, operator, variable, constant, string, raw, out_of_range, unreadable, by_kind}

-- a byte in front of the first of some names; where there is none it begins one
unfoldable pub in_front : ℕ → List (List ℕ) → List (List ℕ)
in_front b [] = (b ∷ []) ∷ []
in_front b (n ∷ ns) = (b ∷ n) ∷ ns

-- bytes as names: a byte with its top bit set is the last of its name
unfoldable pub names_in : List ℕ → List (List ℕ)
names_in [] = []
names_in (b ∷ bs) = let r = names_in bs in pick (leb 128 b) (((b - 128) ∷ []) ∷ r) (in_front b r)

-- a name as bytes: the top bit of the last one set
unfoldable pub marked : List ℕ → List ℕ
marked [] = []
marked (x ∷ []) = (x + 128) ∷ []
marked (x ∷ y ∷ ys) = x ∷ marked (y ∷ ys)

-- names end to end
unfoldable pub name_bytes : List (List ℕ) → List ℕ
name_bytes [] = []
name_bytes (n ∷ ns) = marked n ++ name_bytes ns

-- what may stand after a name's letters and digits: nothing, `$` or `(`
unfoldable pub name_end? : List ℕ → Bool
name_end? [] = true
name_end? (x ∷ []) = eqb x 36 || eqb x 40
name_end? (x ∷ y ∷ ys) = false

-- a letter, then letters or digits, then possibly `$` or `(`
unfoldable pub name? : List ℕ → Bool
name? n = letter? (get_or n 0 0) && name_end? (drop (run letter_or_digit? n) n)

-- a name less its `(`
unfoldable pub less_open : List ℕ → List ℕ
less_open [] = []
less_open (x ∷ []) = pick (eqb x 40) [] (x ∷ [])
less_open (x ∷ y ∷ ys) = x ∷ less_open (y ∷ ys)

-- the number of a name, from 0; the count of names if it is not there
unfoldable pub number_of : List (List ℕ) → List ℕ → ℕ
number_of [] n = 0
number_of (m ∷ ms) n = let r = suc (number_of ms n) in pick (same m n) 0 r

-- a name is in the table
unfoldable pub known? : List (List ℕ) → List ℕ → Bool
known? ns n = ltb (number_of ns n) (length ns)

-- no name twice
unfoldable pub all_different : List (List ℕ) → Bool
all_different [] = true
all_different (n ∷ ns) = not (known? ns n) && all_different ns

-- the most names that a table may hold (document 02, §11)
abbrev pub most_names : ℕ
most_names = 256

-- names that a sound table may hold
unfoldable pub sound_names : List (List ℕ) → Bool
sound_names ns = leb (length ns) most_names && (every name? ns && (all_different ns && every (λ n. not (reserved? (less_open n))) ns))

-- a sound table: the counted names, sound, end exactly at the byte count
unfoldable pub sound_table : List ℕ → ℕ → ℕ → Bool
sound_table table size count =
    let bs = take size table in
    let ns = names_in bs in
    leb size (length table) && (same (name_bytes ns) bs && (eqb (length ns) count && sound_names ns))

-- ---- adding names, in order of first appearance

-- a name that is not there goes to the end
unfoldable pub add_name : List (List ℕ) → List ℕ → List (List ℕ)
add_name ns n = pick (known? ns n) ns (ns ++ n ∷ [])

-- the names of a line's tokens, added in order
unfoldable pub add_names : List (List ℕ) → List Token → List (List ℕ)
add_names ns [] = ns
add_names ns (statement t ∷ ts) = add_names ns ts
add_names ns (assigned n ∷ ts) = add_names (add_name ns n) ts
add_names ns (operator t ∷ ts) = add_names ns ts
add_names ns (variable n ∷ ts) = add_names (add_name ns n) ts
add_names ns (constant b ∷ ts) = add_names ns ts
add_names ns (string b ∷ ts) = add_names ns ts
add_names ns (raw b ∷ ts) = add_names ns ts
add_names ns (out_of_range ∷ ts) = add_names ns ts
add_names ns (unreadable ∷ ts) = add_names ns ts

-- the value entries of names, from number i on: type, number, six zeros
unfoldable pub value_entries : ℕ → List (List ℕ) → List ℕ
value_entries i [] = []
value_entries i (n ∷ ns) = by_kind n 0x00 0x80 0x40 ∷ i ∷ 0 ∷ 0 ∷ 0 ∷ 0 ∷ 0 ∷ 0 ∷ value_entries (suc i) ns
