-- The kinds of the names of a sound table, listed.
use Rattle.std.specs.Prelude.{ℕ, ◌≤◌, ◌≡◌, List, length, take, replicate}
use Rattle.std.proofs.lemmas.List.Edits.{sets}
use Rattle.paper.specs.Names.{names_in, most_names, sound_table}
use Rattle.laws.specs.Tests.{is_true}
use Rattle.laws.specs.Names.{sound_facts}
use Rattle.names_kinds.specs.Kinds.{Kinds, kinds_of, kinds_listed}
use Rattle.list_pieces.specs.Rest.{Sound}
use Rattle.list_pieces.specs.NameLaws.{sound_numbered}
use Rattle.list_check.specs.Walks.{Listed}

module _ (names : List ℕ) (size : ℕ) (s : Sound names size) where
  few_names : length (names_in (take size names)) ≤ most_names
  few_names = (sound_facts names size (length (names_in (take size names))) (is_true (sound_table names size (length (names_in (take size names)))) s)).few

  module _ {ks : List ℕ} (e : ks ≡ sets (replicate most_names 0) 0 (kinds_of (names_in (take size names)))) where
    -- they are those of its names
    pub sound_kinds : Kinds (names_in (take size names)) ks
    sound_kinds = kinds_listed (names_in (take size names)) most_names few_names e

    pub sound_listed : Listed ks
    sound_listed = record { names = names_in (take size names); numbered = sound_numbered names size s; kinds = sound_kinds }
