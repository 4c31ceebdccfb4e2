-- What other lines in a sound store give, in the words of `paper`.
use Prim.Native.Nat.{ℕ, ◌*◌, ◌≤◌}
use native.Mathlib.Nat.{add-zero}
use mathlib.Core.Path.{◌≡◌, sym, ap, ◌∙◌}
use mathlib.Core.Bool.{true, false}
use mathlib.Core.List.{List, [], ◌++◌, append-nil}
use lib.Dec.{T}
use lib.ListN.{length, take, drop, take-append-drop}
use lib.Seq.{length-take-le, drop-length}
use Rattle.paper.specs.Bytes.{joined}
use Rattle.paper.specs.Items.{no_span}
use Rattle.paper.specs.Names.{name_bytes, value_entries}
use Rattle.paper.specs.Store.{greatest_number, stored?, take_out, overwritten}
use Rattle.paper.specs.Calls.{State, names_of, lines_of, sound_state, refusal, with_names, stored, delete}
use Rattle.paper.specs.Calls.{Entered as Outcome}
use Rattle.editor_edit.specs.Sound.{table_sound, values_fit}

same_over : (k : ℕ) (l : List ℕ) → k ≤ length l → overwritten (take k l ++ []) l ≡ l
unfolding overwritten
same_over k l h =
    ap (λ (z : List ℕ). z ++ drop (length z) l) (append-nil (take k l)) ∙ ap (λ (z : ℕ). take k l ++ drop z l) (length-take-le k l h) ∙ take-append-drop k l

-- the state with other lines
abbrev pub with_lines : State → List (List ℕ) → State
with_lines s ls =
    record { names = s.names; name_size = s.name_size; name_count = s.name_count; values = s.values; store = overwritten (joined ls) s.store; used = length (joined ls); line_count = length ls; greatest = greatest_number ls }

-- where no name is new the tables stay
pub tables_stay : (s : State) → T (sound_state s) → (ls : List (List ℕ)) → stored s (names_of s) ls ≡ with_lines s ls
unfolding stored with_names name_bytes value_entries names_of
tables_stay s o ls =
    let t = table_sound s o in
    rw (drop-length (names_of s), same_over s.name_size s.names t.within, same_over (8 * s.name_count) s.values (values_fit s o), t.counted, add-zero s.name_size)

-- a line that is there
pub taken_out : (s : State) → T (sound_state s) → (n : ℕ) → stored? n (lines_of s) ≡ true
    → ◌≡◌ {A = Outcome} (record { number = 0; place = no_span; added = 0; after = with_lines s (take_out n (lines_of s)) }) (delete s n)
unfolding delete
taken_out s o n h = sym (rw (h, tables_stay s o (take_out n (lines_of s))))

-- a line that is not
pub not_there : (s : State) (n : ℕ) → stored? n (lines_of s) ≡ false → ◌≡◌ {A = Outcome} (record { number = 9; place = no_span; added = 0; after = s }) (delete s n)
unfolding delete refusal
not_there s n h = sym (rw (h))
