-- All answers that `list` and `show` give, each with what holds where it is given.
use Rattle.std.specs.Prelude.{ℕ, ◌*◌, ◌≤◌, ◌≡◌, Bool, not, ◌&&◌, List, [], ◌∷◌, T, leb, ltb, length, take}
use Rattle.std.proofs.Math.Path.{refl}
use Rattle.std.proofs.Common.{subst, sym, ◌∙◌, ltb-false}
use Rattle.std.proofs.Math.Bool.{true, false}
use Rattle.paper.specs.Bytes.{pick, among}
use Rattle.paper.specs.Names.{names_in, sound_table}
use Rattle.paper.specs.Line.{lawful_number?, direct_number?}
use Rattle.paper.specs.Errors.{listable?, line_text, line_listing}
use Rattle.paper.specs.Store.{stored?, line_at, overwritten}
use Rattle.paper.specs.Calls.{State, names_of, lines_of, sound_state, Listed, not_listed, listed_if, list_sound, list}
use Rattle.paper.specs.Direct.{line_in, show_sound, show}
use Rattle.laws.specs.Tests.{as_T}
use Rattle.promises.specs.Terms.{Listable, Written}
use Rattle.promises.proofs.Stored.{at_front}
use Rattle.promises.proofs.ErrorLines.{listable_says}

-- ---- every answer

-- what a listing answers: a refusal, or the text of a line of which this is so
pub data ListAnswer (So : Type 0) (text output : List ℕ) : Listed → Type 0 where
  not_written : (k : ℕ) → T (among k (1 ∷ 9 ∷ 10 ∷ 11 ∷ [])) → ListAnswer So text output (not_listed k output)
  written_out : So → length text ≤ length output → ListAnswer So text output (record { number = 0; written = length text; output = overwritten text output })

-- 10, 11, or the text
listable_answer : {So : Type 0} (listable : Bool) (text output : List ℕ) → (T listable → So) → ListAnswer So text output (listed_if listable text output)
unfolding listed_if among
listable_answer {So = So} listable text output so = go listable so (ltb (length output) (length text)) refl
  where
    go : (a : Bool) → (T a → So) → (b : Bool) → ltb (length output) (length text) ≡ b
        → ListAnswer So text output (pick (not a) (not_listed 10 output) (pick b (not_listed 11 output) (record { number = 0; written = length text; output = overwritten text output })))
    go false h b e = not_written 10 tt
    go true h true e = not_written 11 tt
    go true h false e = written_out (h tt) (ltb-false _ _ e)

-- what is so of a line of the store that is listed
abbrev pub ListedLine : ℕ → State → Type 0
ListedLine n s = T (sound_state s) × T (stored? n (lines_of s)) × Listable lawful_number? (names_of s) (line_at n (lines_of s))

module _ (n : ℕ) (s : State) (output : List ℕ) where
  abbrev text : List ℕ
  text = line_listing (names_of s) (line_at n (lines_of s))

  list_go : (a : Bool) → sound_state s ≡ a → (b : Bool) → stored? n (lines_of s) ≡ b
      → ListAnswer (ListedLine n s) text output (pick a (pick (not b) (not_listed 9 output) (listed_if (listable? lawful_number? (names_of s) (line_at n (lines_of s))) text output)) (not_listed 1 output))
  unfolding among
  list_go false x b y = not_written 1 tt
  list_go true x false y = not_written 9 tt
  list_go true x true y = listable_answer _ text output (λ w. (as_T _ x, as_T _ y, listable_says (names_of s) (line_at n (lines_of s)) w))

  -- every answer of `list` is one of these
  pub list_answer : ListAnswer (ListedLine n s) (line_listing (names_of s) (line_at n (lines_of s))) output (list n s output)
  unfolding list list_sound
  list_answer = list_go (sound_state s) refl (stored? n (lines_of s)) refl

-- what is so of a line buffer that is listed over these names
abbrev pub ShownLine : List ℕ → List (List ℕ) → Type 0
ShownLine buffer ns = Listable direct_number? ns (line_in buffer)

show_go : (buffer : List ℕ) (ns : List (List ℕ)) (output : List ℕ) (a : Bool) → ListAnswer (ShownLine buffer ns) (line_text ns (line_in buffer)) output (pick a (show_sound buffer ns output) (not_listed 1 output))
unfolding show_sound among
show_go buffer ns output true = listable_answer _ (line_text ns (line_in buffer)) output (listable_says ns (line_in buffer))
show_go buffer ns output false = not_written 1 tt

-- every answer of `show` is one of these
pub show_answer : (buffer names : List ℕ) (size count : ℕ) (values output : List ℕ)
    → ListAnswer (ShownLine buffer (names_in (take size names))) (line_text (names_in (take size names)) (line_in buffer)) output (show buffer names size count values output)
unfolding show
show_answer buffer names size count values output = show_go buffer (names_in (take size names)) output (sound_table names size count && leb (8 * count) (length values))

-- ---- what the answers have in common

not_listed_is : (k : ℕ) (output : List ℕ) → ((not_listed k output).number ≡ k) × ((not_listed k output).written ≡ 0) × ((not_listed k output).output ≡ output)
unfolding not_listed
not_listed_is k output = (refl, refl, refl)

-- no refusal has number 0
pub not_listed_so : (k : ℕ) (output : List ℕ) → T (among k (1 ∷ 9 ∷ 10 ∷ 11 ∷ [])) → (not_listed k output).number ≡ 0 → ⊥
unfolding among
not_listed_so k output h e = subst (λ (z : ℕ). T (among z (1 ∷ 9 ∷ 10 ∷ 11 ∷ []))) (sym (not_listed_is k output).0 ∙ e) h

module _ {So : Type 0} (text output : List ℕ) where
  -- a refused listing writes nothing
  pub unwritten : (e : Listed) → ListAnswer So text output e → (e.number ≡ 0 → ⊥) → (e.output ≡ output) × (e.written ≡ 0)
  unwritten e (not_written k h) x = ((not_listed_is k output).2, (not_listed_is k output).1)
  unwritten e (written_out so fits) x = absurd (x refl)

  -- an accepted one writes the text, and no other byte
  pub writes : (e : Listed) → ListAnswer So text output e → e.number ≡ 0 → Written text output e
  writes e (not_written k h) z = absurd (not_listed_so k output h z)
  writes e (written_out so fits) z = record { count = refl; there = at_front text output fits }

  -- and what is asked of its line is so
  pub written_so : (e : Listed) → ListAnswer So text output e → e.number ≡ 0 → So
  written_so e (not_written k h) z = absurd (not_listed_so k output h z)
  written_so e (written_out so fits) z = so
