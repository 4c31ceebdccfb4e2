-- The record's count of lines and greatest number (document 02, §6): what every call leaves agrees with the store, and a record that does not is refused.
use Rattle.std.specs.Prelude.{ℕ, ◌≡◌, refl, Bool, true, false, List, [], ◌∷◌, length, take}
use Rattle.std.proofs.Common.{subst, ap, sym, ◌∙◌}
use Rattle.paper.specs.Store.{lines_in, lines_from, greatest_number}
use Rattle.paper.specs.Calls.{State, lines_of, sound_state, Entered, refusal, enter, enter_with, not_listed, list}
use Rattle.paper.specs.Direct.{typed}
use Rattle.laws.specs.Tests.{as_T}
use Rattle.promises.specs.Terms.{Agrees, Edited, LineKept}
use Rattle.requested.specs.RequestTerms.{Reached, empty_record, after_typed, state_after, after_batch, after_file, after_collection}
use Rattle.promises.proofs.States.{state_says}
use Rattle.promises.proofs.Editing.{sound_after}
use Rattle.promises.proofs.KeptLines.{after_any_with}
use Rattle.promises.proofs.DirectLines.{after_any_typed}
use Rattle.paper.specs.Batch.{text_lines, answers_to, batch}
use Rattle.requested.proofs.Batches.{batch_answers}
use Rattle.paper.specs.Files.{Loaded, not_loaded, load}
use Rattle.requested.proofs.Loading.{LoadAnswer, refused, held, load_answer}
use Rattle.paper.specs.Collect.{collect}
use Rattle.requested.proofs.Collecting.{collected_agrees}

-- an empty record agrees
empty_agrees : (s : State) → s.used ≡ 0 → s.line_count ≡ 0 → s.greatest ≡ 0 → Agrees s
unfolding lines_of lines_in lines_from greatest_number
empty_agrees s u n g =
    let none = ap (λ (k : ℕ). lines_in (take k s.store)) u in
    record { counted = n ∙ ap length (sym none); greatest = g ∙ ap greatest_number (sym none) }

-- what an edit leaves agrees
edit_agrees : (text : List ℕ) (s : State) (e : Entered) → Edited text s e → Agrees e.after
edit_agrees text s e d = (state_says e.after (sound_after text s e d)).agrees

-- and so does what a line that is kept leaves
kept_agrees : (text : List ℕ) (s : State) (e : Entered) → LineKept text s e → Agrees e.after
kept_agrees text s e k = (state_says e.after k.carried.sound).agrees

-- a record that agrees stays so
pub stays_agreeing : (keep : Bool) (text : List ℕ) (s : State) → Agrees s → Agrees (enter_with keep text s).after
stays_agreeing keep text s a = after_any_with text s Agrees keep a (edit_agrees text s) (kept_agrees text s)

-- whatever is typed
pub typed_stays_agreeing : (keep : Bool) (text : List ℕ) (s : State) (buffer : List ℕ) → Agrees s → Agrees (typed keep text s buffer).entered.after
typed_stays_agreeing keep text s buffer a = after_any_typed keep text s buffer Agrees a (edit_agrees text s) (kept_agrees text s) (λ t m. (state_says t.entered.after m.carried.sound).agrees)

lines_agreeing : (keep : Bool) (ls : List (List ℕ)) (s : State) → Agrees s → Agrees (state_after s (answers_to keep ls s))
unfolding answers_to state_after
lines_agreeing keep [] s a = a
lines_agreeing keep (l ∷ ls) s a = lines_agreeing keep ls (enter_with keep l s).after (stays_agreeing keep l s a)

-- so many lines leave it
batch_agrees : (keep : Bool) (text : List ℕ) (s : State) → Agrees s → Agrees (batch keep text s).after
batch_agrees keep text s a = subst Agrees (sym (batch_answers keep text s).after) (lines_agreeing keep (text_lines text) s a)

-- and so does a file, loaded or refused
load_agrees : (file : List ℕ) (s : State) → Agrees s → Agrees (load file s).after
unfolding not_loaded
load_agrees file s a = go (load file s) (load_answer file s)
  where
    go : (e : Loaded) → LoadAnswer file s e → Agrees e.after
    go e (refused k n) = a
    go e (held o h) = (state_says _ h.sound).agrees

-- a record reached from an empty one agrees
pub reached_agrees : (s : State) → Reached s → Agrees s
reached_agrees s (empty_record t u n g) = empty_agrees t u n g
reached_agrees s (after_typed keep text t buffer r) = typed_stays_agreeing keep text t buffer (reached_agrees t r)
reached_agrees s (after_batch keep text t r) = batch_agrees keep text t (reached_agrees t r)
reached_agrees s (after_file file t r) = load_agrees file t (reached_agrees t r)
reached_agrees s (after_collection t r) = collected_agrees t (reached_agrees t r)

-- ---- a record that disagrees

not_sound : (s : State) → (Agrees s → ⊥) → sound_state s ≡ false
not_sound s h = go (sound_state s) refl
  where
    go : (b : Bool) → sound_state s ≡ b → b ≡ false
    go true e = absurd (h (state_says s (as_T (sound_state s) e)).agrees)
    go false e = refl

-- its text is refused with 1
pub text_refused : (text : List ℕ) (s : State) → (Agrees s → ⊥) → (enter text s).number ≡ 1
unfolding enter refusal
text_refused text s h = rw (not_sound s h) refl

-- and so is its listing
pub listing_refused : (n : ℕ) (s : State) (output : List ℕ) → (Agrees s → ⊥) → (list n s output).number ≡ 1
unfolding list not_listed
listing_refused n s output h = rw (not_sound s h) refl

-- and so is a collection
pub collection_refused : (s : State) → (Agrees s → ⊥) → (collect s).number ≡ 1
unfolding collect
collection_refused s h = rw (not_sound s h) refl
