-- Unused names taken back (document 02, §12): the names that no line uses are removed, the others keep their order, and every line and value gets
-- the new numbers.
use Rattle.std.specs.Prelude.{ℕ, suc, ◌*◌, Bool, false, not, ◌&&◌, ◌||◌, List, [], ◌∷◌, ◌++◌, map, length, take, drop}
use Rattle.paper.specs.Bytes.{pick, same, every, joined}
use Rattle.paper.specs.Tokens.{Token, statement, assigned, operator, variable, constant, string, raw, out_of_range, unreadable}
use Rattle.paper.specs.Names.{name_bytes}
use Rattle.paper.specs.Line.{line_bytes, line_number, lawful_number?, line_tokens}
use Rattle.paper.specs.Errors.{error_line?, listable?}
use Rattle.paper.specs.Store.{overwritten}
use Rattle.paper.specs.Calls.{State, names_of, lines_of, sound_state}

-- some entry of a list passes a test
unfoldable pub some : {A : Type 0} → (A → Bool) → List A → Bool
some p [] = false
some p (x ∷ xs) = p x || some p xs

-- a token is the variable with a name
unfoldable pub uses? : List ℕ → Token → Bool
uses? n (statement t) = false
uses? n (assigned m) = same m n
uses? n (operator t) = false
uses? n (variable m) = same m n
uses? n (constant b) = false
uses? n (string b) = false
uses? n (raw b) = false
uses? n out_of_range = false
uses? n unreadable = false

-- a line uses a name; an error line, and raw text, use none
unfoldable pub line_uses? : List (List ℕ) → List ℕ → List ℕ → Bool
line_uses? ns n l = not (error_line? l) && some (uses? n) (line_tokens ns l)

-- some line uses it
unfoldable pub used? : List (List ℕ) → List (List ℕ) → List ℕ → Bool
used? ns ls n = some (line_uses? ns n) ls

-- the names that pass a test, in their order
unfoldable pub names_left : (List ℕ → Bool) → List (List ℕ) → List (List ℕ)
names_left p [] = []
names_left p (n ∷ ns) = let more = names_left p ns in pick (p n) (n ∷ more) more

-- the eight-byte values of those names, from number i on: the number is new, the other seven bytes are as they were
unfoldable pub values_left : (List ℕ → Bool) → ℕ → List (List ℕ) → List ℕ → List ℕ
values_left p i [] vs = []
values_left p i (n ∷ ns) vs =
    let stays = take 1 vs ++ i ∷ (take 6 (drop 2 vs) ++ values_left p (suc i) ns (drop 8 vs)) in
    let goes = values_left p i ns (drop 8 vs) in
    pick (p n) stays goes

-- a line written again over other names; an error line stays
unfoldable pub renumbered : List (List ℕ) → List (List ℕ) → List ℕ → List ℕ
renumbered ns new l = let again = line_bytes new (line_number l) (line_tokens ns l) in pick (error_line? l) l again

-- the state with the names that its lines use
unfoldable pub collected : State → State
collected s =
    let ns = names_of s in
    let test = used? ns (lines_of s) in
    let new = names_left test ns in
    let values = values_left test 0 ns (take (8 * s.name_count) s.values) in
    let lines = joined (map (renumbered ns new) (lines_of s)) in
    record {
      names = overwritten (name_bytes new) s.names;
      name_size = length (name_bytes new);
      name_count = length new;
      values = overwritten values s.values;
      store = overwritten lines s.store;
      used = length lines;
      line_count = s.line_count;
      greatest = s.greatest;
    }

pub record Collected : Type 0 where
  pub number : ℕ
  pub after : State

-- 1; 10 for any line that is neither well-formed nor an error line; or the collection
unfoldable pub collect : State → Collected
collect s =
    let done : Collected = record { number = 0; after = collected s } in
    pick (not (sound_state s)) (record { number = 1; after = s }) (pick (not (every (listable? lawful_number? (names_of s)) (lines_of s))) (record { number = 10; after = s }) done)
