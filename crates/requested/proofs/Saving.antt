-- Writing the saved program file (document 02, §7): every answer, and exactly when each number is given.
use Prim.Native.Nat.{ℕ}
use Rattle.std.proofs.Common.{arith, ltb-false}
use Rattle.std.specs.Prelude.{◌≡◌, Bool, true, false, not, List, T, ltb, length, get_or}
use Rattle.std.proofs.Math.Path.{refl}
use Rattle.paper.specs.Bytes.{pick}
use Rattle.paper.specs.Store.{overwritten}
use Rattle.paper.specs.Calls.{State, sound_state}
use Rattle.paper.specs.Files.{saved_words, saved_file, Saved, not_saved, too_long?, save}
use Rattle.laws.specs.Tests.{as_T}
use Rattle.promises.specs.Terms.{Exactly, none_holds}
use Rattle.requested.specs.RequestTerms.{save_refusals, SavedWritten}
use Rattle.grounds.specs.Lists.{or_false_right}
use Rattle.promises.proofs.Stored.{at_front}
use Rattle.promises.proofs.Tested.{exactly, says_less, says_either, tested}
use Rattle.promises.proofs.Exactly.{says_unsound}

-- the file stands at the front of a buffer
abbrev filed : State → List ℕ → Saved
filed s output = record { number = 0; written = length (saved_file s); output = overwritten (saved_file s) output }

-- what `save` answers: a refusal, or the file of a sound program that fits
pub data SaveAnswer (s : State) (output : List ℕ) : Saved → Type 0 where
  refused : (k : ℕ) → (k ≡ 0 → ⊥) → SaveAnswer s output (not_saved k output)
  written : T (sound_state s) → too_long? s output ≡ false → SaveAnswer s output (filed s output)

module _ (s : State) (output : List ℕ) where
  answer_go : (a : Bool) → sound_state s ≡ a → (b : Bool) → too_long? s output ≡ b → SaveAnswer s output (pick (not a) (not_saved 1 output) (pick b (not_saved 8 output) (filed s output)))
  answer_go false e b f = refused 1 (λ z. omega arith)
  answer_go true e true f = refused 8 (λ z. omega arith)
  answer_go true e false f = written (as_T _ e) f

  -- every answer is one of these
  pub save_answer : SaveAnswer s output (save s output)
  unfolding save
  save_answer = answer_go (sound_state s) refl (too_long? s output) refl

  written_go : (e : Saved) → SaveAnswer s output e → e.number ≡ 0 → SavedWritten s output e
  unfolding not_saved too_long?
  written_go e (refused k n) z = absurd (n z)
  written_go e (written o f) z = record { sound = o; count = refl; there = at_front (saved_file s) output (ltb-false _ _ (or_false_right (ltb 65535 (get_or (saved_words s) 6 0)) _ f)) }

  -- an accepted call writes the file, and no other byte
  pub file_written : (save s output).number ≡ 0 → SavedWritten s output (save s output)
  file_written z = written_go (save s output) save_answer z

  unwritten_go : (e : Saved) → SaveAnswer s output e → (e.number ≡ 0 → ⊥) → (e.output ≡ output) × (e.written ≡ 0)
  unfolding not_saved
  unwritten_go e (refused k n) x = (refl, refl)
  unwritten_go e (written o f) x = absurd (x refl)

  -- a refused one writes nothing
  pub nothing_written : ((save s output).number ≡ 0 → ⊥) → ((save s output).output ≡ output) × ((save s output).written ≡ 0)
  nothing_written x = unwritten_go (save s output) save_answer x

  -- 1, 8
  pub saved_exactly : Exactly (save_refusals s output) (save s output).number
  unfolding save not_saved too_long?
  saved_exactly =
      exactly _ _ tt
      (tested saved_number _ _ _ (says_unsound s) (λ e. tested saved_number _ _ _ (says_either _ _ (says_less 65535 (get_or (saved_words s) 6 0)) (says_less (length output) (length (saved_file s)))) (λ f. none_holds)))
    where
      saved_number : Saved → ℕ
      saved_number e = e.number
