-- What a reader writes of tokens while the line is read: over the names known so far, and with the offsets still to come.
use Rattle.std.specs.Prelude.{ℕ, suc, ◌+◌, ◌/◌, ◌%◌, Bool, not, List, [], ◌∷◌, ◌++◌, length}
use Rattle.paper.specs.Bytes.{pick, every}
use Rattle.paper.specs.Tokens.{Token, statement, assigned, operator, variable, constant, string, raw, out_of_range, unreadable}
use Rattle.paper.specs.Names.{add_names}
use Rattle.paper.specs.Line.{variable_bytes, begins?}

-- the low byte of a number: what a byte of the line can hold of a variable's token, an offset or a length
unfoldable pub low : ℕ → ℕ
low n = n % 256

-- the low byte of each
unfoldable pub lows : List ℕ → List ℕ
lows [] = []
lows (n ∷ ns) = low n ∷ lows ns

-- the bytes of a token over the names known before it
unfoldable pub written : List (List ℕ) → Token → List ℕ
written ks (statement t) = t ∷ []
written ks (assigned n) = 0x36 ∷ lows (variable_bytes ks n)
written ks (operator t) = t ∷ []
written ks (variable n) = lows (variable_bytes ks n)
written ks (constant b) = 0x0e ∷ b
written ks (string b) = 0x0f ∷ length b ∷ b
written ks (raw b) = b
written ks out_of_range = []
written ks unreadable = []

-- the names known after a token
abbrev pub after : List (List ℕ) → Token → List (List ℕ)
after ks t = add_names ks (t ∷ [])

-- the bytes of tokens, one after the other, with a 0 where a statement's offset is to stand
unfoldable pub draft : List (List ℕ) → List Token → List ℕ
draft ks [] = []
draft ks (t ∷ ts) = let more = written ks t ++ draft (after ks t) ts in pick (begins? t) (0 ∷ more) more

-- how many of these bytes stand before the next statement, or the line's end
unfoldable pub until_next : List (List ℕ) → List Token → ℕ
until_next ks [] = 0
until_next ks (t ∷ ts) = let more = length (written ks t) + until_next (after ks t) ts in pick (begins? t) 0 more

-- the same with the offsets, from offset p of the line on
unfoldable pub with_offsets : List (List ℕ) → ℕ → List Token → List ℕ
with_offsets ks p [] = []
with_offsets ks p (t ∷ ts) =
    let own = written ks t in
    let within = own ++ with_offsets (after ks t) (p + length own) ts in
    let begun = low (suc p + length own + until_next (after ks t) ts) ∷ own ++ with_offsets (after ks t) (suc p + length own) ts in
    pick (begins? t) begun within

-- a whole line, over the names known before it
unfoldable pub written_line : List (List ℕ) → ℕ → List Token → List ℕ
written_line ks n ts = let body = with_offsets ks 3 ts in n % 256 ∷ n / 256 ∷ low (3 + length body) ∷ body

-- no statement begins
unfoldable pub still : List Token → Bool
still ts = every (λ t. not (begins? t)) ts
