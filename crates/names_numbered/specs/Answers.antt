-- What the functions on tables answer.
use Rattle.std.specs.Prelude.{ℕ, ◌+◌, ◌*◌, ◌≤◌, ◌≡◌, Bool, true, ◌&&◌, ◌||◌, List, [], ◌∷◌, ◌++◌, ltb, length, take, get_or}
use Rattle.std.proofs.lemmas.List.Edits.{sets}
use Rattle.paper.specs.Bytes.{pick, joined}
use Rattle.paper.specs.Tokens.{variable, class}
use Rattle.paper.specs.Names.{names_in, name_bytes, number_of, less_open, most_names}
use Rattle.laws.specs.Names.{closed?, name_added}
use Rattle.names_numbered.specs.declared.Numbered.{Numbered}
use Rattle.names_numbered.specs.declared.Name.{Name}

-- a name from the text's bytes; a `(` belongs to an array's
unfoldable pub spelled : List ℕ → Bool → List ℕ
spelled w array = pick array (w ++ 40 ∷ []) w

-- A name's number among the names ns; if it is none of them it is the next, and its bytes stand at f in a buffer.
pub record Numbers (ns : List (List ℕ)) (n old : List ℕ) (f : ℕ) (r : Numbered) (new : List ℕ) : Type 0 where
  pub number : r.number ≡ number_of ns n
  pub size : r.size ≡ f + length (name_bytes (name_added ns n))
  pub fresh : new ≡ sets old f (name_bytes (name_added ns n))

-- New names would pass the limit, or lack room for their bytes or for their values; never when there is none.
unfoldable pub lacks : ℕ → ℕ → ℕ → ℕ → List (List ℕ) → Bool
lacks name_room size value_room count new =
    ltb 0 (length new)
    && (ltb most_names (count + length new) || (ltb name_room (size + length (name_bytes new)) || ltb value_room (8 * (count + length new))))

-- There is room for the names of some bytes, which are whole, and for their values.
pub record Room (names : List ℕ) (size : ℕ) (values : List ℕ) (count : ℕ) (fresh : List ℕ) : Type 0 where
  pub whole : closed? fresh ≡ true
  pub few : count + length (names_in fresh) ≤ most_names
  pub name_room : size + length fresh ≤ length names
  pub value_room : 8 * (count + length (names_in fresh)) ≤ length values

-- Where the name with a number begins in the bytes of the names ns, where it ends less its `(`, and its class as a variable; a number that no
-- name has is that of an empty name at the end.
pub record Stands (ns : List (List ℕ)) (number : ℕ) (r : Name) : Type 0 where
  pub from : r.from ≡ length (joined (take number ns))
  pub end : r.end ≡ length (joined (take number ns)) + length (less_open (get_or ns number []))
  pub class : r.class ≡ class (variable (get_or ns number []))
