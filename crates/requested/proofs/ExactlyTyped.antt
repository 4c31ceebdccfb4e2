-- Exactly when each number is answered to a text that is typed, and to the listing of a line buffer (document 02, §1).
use Rattle.std.specs.Prelude.{ℕ, ◌*◌, ◌<◌, ◌≡◌, Bool, not, ◌&&◌, ◌↔◌, ◌⊎◌, List, T, eqb, leb, length, take, drop}
use Rattle.std.proofs.Math.Path.{refl}
use Rattle.std.proofs.Common.{subst, sym, ap, ◌∙◌, inl, inr, leb→le, le→leb, eqb-true}
use Rattle.std.proofs.Math.Bool.{true, false}
use Rattle.std.proofs.Math.Seq.{drop-length}
use Rattle.paper.specs.Bytes.{pick, blank?, digit?, run, every}
use Rattle.paper.specs.Names.{names_in, sound_table}
use Rattle.paper.specs.Items.{no_span, items}
use Rattle.paper.specs.Line.{direct_number, direct_number?}
use Rattle.paper.specs.Errors.{listable?, line_text}
use Rattle.paper.specs.Calls.{State, sound_state, refusal, not_listed}
use Rattle.paper.specs.Direct.{Typed, same_buffer, accept_direct, answered_direct, typed, line_in, show_sound, show}
use Rattle.laws.specs.Tests.{and_left, and_right, and_both, is_true, as_T}
use Rattle.promises.specs.Terms.{after_blanks, digit_count, number_in, direct?, FirstHolding, Exactly, NoLineNumber, line_with, text_refusals}
use Rattle.requested.specs.RequestTerms.{BufferTooShort, direct_refusals, typed_refusals, show_refusals}
use Rattle.grounds.specs.Lists.{run_whole}
use Rattle.promises.proofs.ErrorLines.{listable_says, says_listable}
use Rattle.promises.proofs.States.{table_says, says_table}
use Rattle.promises.proofs.DirectLines.{other_typed, direct_typed}
use Rattle.promises.proofs.Tested.{exactly, says_less, says_not, tested, passed}
use Rattle.promises.proofs.Exactly.{says_unsound, short_first, answered_first, listed_number, listed_first}
use Rattle.promises.proofs.ExactlyKept.{text_exactly_with}

-- ---- a text that is typed

-- the number of its answer
abbrev typed_number : Typed → ℕ
typed_number e = e.entered.number

module _ (keep : Bool) (text : List ℕ) (s : State) (buffer : List ℕ) where
  -- of a line without a number
  direct_first : T (direct? text) → FirstHolding (direct_refusals text s buffer) (typed keep text s buffer).entered.number
  unfolding answered_direct accept_direct same_buffer refusal
  direct_first d =
      rw (direct_typed keep text s buffer d)
      (passed typed_number (sound_state s) _ _ (says_unsound s)
      (λ o. tested typed_number _ _ _ (says_less 120 (length text))
      (λ e. answered_first s direct_number (BufferTooShort buffer s) 0 text (λ r. typed_number (answered_direct s buffer r)) (λ k q. refl)
      (λ ts l. short_first s direct_number (BufferTooShort buffer s) typed_number (λ k. same_buffer buffer (refusal k no_span s)) _ _ o (items 0 text) ts l (says_less (length buffer) (length (line_with s direct_number ts))) refl))))

  -- of every text
  pub typed_exactly : Exactly (typed_refusals keep text s buffer) (typed keep text s buffer).entered.number
  unfolding same_buffer
  typed_exactly = go (direct? text) refl
    where
      go : (b : Bool) → direct? text ≡ b → Exactly (pick b (direct_refusals text s buffer) (text_refusals keep text s)) (typed keep text s buffer).entered.number
      go true e = exactly _ _ tt (direct_first (as_T _ e))
      go false e = rw (other_typed keep text s buffer e) (text_exactly_with text s keep)

-- a blank text has no digit
blank_none : (text : List ℕ) → T (every blank? text) → digit_count text ≡ 0
unfolding digit_count after_blanks run
blank_none text t = ap (λ (n : ℕ). run digit? (drop n text)) (eqb-true (run blank? text) (length text) (run_whole blank? text ∙ is_true _ t)) ∙ ap (run digit?) (drop-length text)

-- 3, of a text that is no line without a number: it is blank, or its number is above 32767
pub no_number : (text : List ℕ) → direct? text ≡ false → NoLineNumber text ↔ (T (every blank? text) ⊎ (32767 < number_in text))
unfolding direct?
no_number text d = (to, from)
  where
    blank_so : (b : Bool) → every blank? text ≡ b → digit_count text ≡ 0 → T (every blank? text)
    blank_so true e z = as_T _ e
    blank_so false e z = absurd (subst T (ap (λ (n : ℕ). eqb n 0 && not false) (sym z) ∙ ap (λ (b : Bool). eqb (digit_count text) 0 && not b) (sym e) ∙ d) tt)

    to : NoLineNumber text → T (every blank? text) ⊎ (32767 < number_in text)
    to (inl z) = inl (blank_so (every blank? text) refl z)
    to (inr h) = inr h

    from : T (every blank? text) ⊎ (32767 < number_in text) → NoLineNumber text
    from (inl t) = inl (blank_none text t)
    from (inr h) = inr h

-- ---- the listing of a line buffer

pub show_exactly : (buffer names : List ℕ) (size count : ℕ) (values output : List ℕ) → Exactly (show_refusals buffer names size count values output) (show buffer names size count values output).number
unfolding show show_sound not_listed
show_exactly buffer names size count values output =
    let ns : List (List ℕ) = names_in (take size names) in
    let l : List ℕ = line_in buffer in
    let sound : Bool = sound_table names size count in
    let room : Bool = leb (8 * count) (length values) in
    exactly _ _ tt
    (passed listed_number (sound && room) _ _
    (says_not (sound && room) (λ t. (table_says names size count (and_left sound room t), leb→le _ _ (and_right sound room t))) (λ o. and_both sound room (says_table names size count o.0) (le→leb _ _ o.1)))
    (λ t. listed_first (listable? direct_number? ns l) (line_text ns l) output (says_not (listable? direct_number? ns l) (listable_says ns l) (says_listable ns l)) (says_less (length output) (length (line_text ns l)))))
