-- What the walk over the names asks for, and what it answers.
use Rattle.std.specs.Prelude.{ℕ, ◌*◌, ◌≤◌, ◌≡◌, true, List, length, take}
use Rattle.paper.specs.Names.{names_in, name_bytes, most_names}
use Rattle.paper.specs.Store.{overwritten}
use Rattle.laws.specs.Names.{closed?}
use Rattle.names_left.specs.declared.Left.{Left}
use Rattle.names_left.specs.Marks.{left_by, values_by, numbers_by}

-- The first bytes of a table are whole names, no more than a table may hold, and there is a value for each.
pub record Tabled (names : List ℕ) (size : ℕ) (values : List ℕ) : Type 0 where
  pub within : size ≤ length names
  pub whole : closed? (take size names) ≡ true
  pub few : length (names_in (take size names)) ≤ most_names
  pub valued : 8 * length (names_in (take size names)) ≤ length values

-- What the walk leaves of the names of a table of so many bytes, of their values, and of their marks.
pub record Leaves (names : List ℕ) (size : ℕ) (values marks : List ℕ) (r : Left) (names₁ values₁ marks₁ : List ℕ) : Type 0 where
  pub bytes : r.name_bytes ≡ length (name_bytes (left_by marks (names_in (take size names))))
  pub count : r.name_count ≡ length (left_by marks (names_in (take size names)))
  pub named : names₁ ≡ overwritten (name_bytes (left_by marks (names_in (take size names)))) names
  pub valued : values₁ ≡ overwritten (values_by 0 marks (names_in (take size names)) values) values
  pub renumbered : marks₁ ≡ overwritten (numbers_by 0 marks (names_in (take size names))) marks
