-- A whole listing at once (document 02, §3): the lines of a text, the answers to them, what the one call makes of these, and its one test of the tables.
use Rattle.std.specs.Prelude.{ℕ, zero, suc, ◌+◌, ◌≤◌, ◌≡◌, refl, Bool, true, false, not, ◌⊎◌, List, [], ◌∷◌, ◌++◌, T, eqb, length, take, drop}
use Rattle.std.proofs.Common.{zero-add, add-zero, add-suc, suc-add, arith, sym, ap, ◌∙◌, inl, inr, eqb-true, eq-eqb, ne_eqb, le-ltb}
use Rattle.std.proofs.lemmas.Bool.{eqb-false}
use Rattle.paper.specs.Bytes.{pick, run, every, blank?}
use Rattle.paper.specs.Names.{in_front}
use Rattle.paper.specs.Items.{no_span, raw_byte?}
use Rattle.paper.specs.Calls.{State, sound_state, Entered, refusal, at_head, head_of, enter_sound, enter, only_blanks, unnumbered, enter_with}
use Rattle.paper.specs.Batch.{text_lines, answers_to, RefusedLine, none_refused, Batched, no_lines, with_answer, with_answers, batch}
use Rattle.laws.specs.Tests.{and_left, and_right, and_both, is_true, is_false, as_T}
use Rattle.promises.specs.Terms.{digit_count, after_blanks}
use Rattle.requested.specs.RequestTerms.{Parting, EachExactly, no_answer, answer_and, takes?, how_many, state_after, FirstRefused, Summed, one_then, all_unsound}
use Rattle.promises.proofs.KeptLines.{same_unless_4, stays_sound_with}
use Rattle.promises.proofs.ExactlyKept.{text_exactly_with}

-- ---- the lines of a text

-- the first line of some bytes, and the lines of what stands after it
abbrev FirstLine : List ℕ → Type 0
FirstLine s = text_lines s ≡ take (run raw_byte? s) s ∷ text_lines (drop (suc (run raw_byte? s)) s)

-- the first line of a text ends at its first 9B or, if it has none, at the text's end; the other lines are those of what stands after that
pub first_line : (b : ℕ) (s : List ℕ) → FirstLine (b ∷ s)
unfolding text_lines run raw_byte? in_front
first_line b [] = go (eqb b 0x9b) refl
  where
    go : (x : Bool) → eqb b 0x9b ≡ x → FirstLine (b ∷ [])
    go true e = rw e
    go false e = rw e
first_line b (c ∷ s) = go (eqb b 0x9b) refl (first_line c s)
  where
    go : (x : Bool) → eqb b 0x9b ≡ x → FirstLine (c ∷ s) → FirstLine (b ∷ c ∷ s)
    go true e h = rw e
    go false e h = rw e (ap (in_front b) h)

ended_line : (l rest : List ℕ) → T (every raw_byte? l) → text_lines (l ++ 0x9b ∷ rest) ≡ l ∷ text_lines rest
unfolding text_lines every raw_byte? in_front
ended_line [] rest t = refl
ended_line (b ∷ l) rest t = rw (is_false (eqb b 0x9b) (and_left (not (eqb b 0x9b)) _ t)) (ap (in_front b) (ended_line l rest (and_right (not (eqb b 0x9b)) _ t)))

last_line : (b : ℕ) (l : List ℕ) → T (every raw_byte? (b ∷ l)) → text_lines (b ∷ l) ≡ (b ∷ l) ∷ []
unfolding text_lines every raw_byte? in_front
last_line b [] t = rw (is_false (eqb b 0x9b) (and_left (not (eqb b 0x9b)) true t))
last_line b (c ∷ l) t = rw (is_false (eqb b 0x9b) (and_left (not (eqb b 0x9b)) _ t)) (ap (in_front b) (last_line c l (and_right (not (eqb b 0x9b)) _ t)))

-- a text is parted as it should be
pub lines_of_text : Parting text_lines
unfolding text_lines
lines_of_text = record { none = refl; ended = ended_line; last = last_line }

-- ---- each line by itself

each_exactly : (keep : Bool) (ls : List (List ℕ)) (s : State) → EachExactly keep ls s (answers_to keep ls s)
unfolding answers_to
each_exactly keep [] s = no_answer s
each_exactly keep (l ∷ ls) s = answer_and (text_exactly_with l s keep) (each_exactly keep ls (enter_with keep l s).after)

-- the answers to a text's lines
pub lines_exactly : (keep : Bool) (text : List ℕ) (s : State) → EachExactly keep (text_lines text) s (answers_to keep (text_lines text) s)
lines_exactly keep text s = each_exactly keep (text_lines text) s

-- ---- what the one call says of the answers

-- more answers after some that are summed up
pub with_more : (es fs : List Entered) (b : Batched) → with_answers b (es ++ fs) ≡ with_answers (with_answers b es) fs
unfolding with_answers
with_more [] fs b = refl
with_more (e ∷ es) fs b = with_more es fs (with_answer b e)

-- what one more answer does, by whether it takes its line
with_taken : (b : Batched) (e : Entered) → eqb e.number 0 ≡ true → with_answer b e ≡ record { taken = suc b.taken; refused = b.refused; first = b.first; after = e.after }
unfolding with_answer
with_taken b e h = rw h

with_refused : (b : Batched) (e : Entered) → eqb e.number 0 ≡ false
    → with_answer b e ≡ record { taken = b.taken; refused = suc b.refused; first = pick (eqb b.refused 0) (record { number = e.number; place = e.place; line = suc (b.taken + b.refused) }) b.first; after = e.after }
unfolding with_answer
with_refused b e h = rw h

-- no count of refusals without a refusal
some : (n : ℕ) → eqb (suc n) 0 ≡ false
some n = ne_eqb (suc n) 0 (λ e. omega arith)

-- the counts and the state
taken_so : (es : List Entered) (b : Batched) → (with_answers b es).taken ≡ b.taken + how_many takes? es
unfolding with_answers how_many takes?
taken_so [] b = omega arith
taken_so (e ∷ es) b = go (eqb e.number 0) refl (taken_so es (with_answer b e))
  where
    go : (x : Bool) → eqb e.number 0 ≡ x → (with_answers (with_answer b e) es).taken ≡ (with_answer b e).taken + how_many takes? es → (with_answers (with_answer b e) es).taken ≡ b.taken + pick (eqb e.number 0) (suc (how_many takes? es)) (how_many takes? es)
    go true h k = rw h (omega (arith, k, ap (λ (z : Batched). z.taken) (with_taken b e h)))
    go false h k = rw h (omega (arith, k, ap (λ (z : Batched). z.taken) (with_refused b e h)))

-- an answer that does not take its line
abbrev refuses? : Entered → Bool
refuses? e = not (takes? e)

refused_so : (es : List Entered) (b : Batched) → (with_answers b es).refused ≡ b.refused + how_many refuses? es
unfolding with_answers how_many takes?
refused_so [] b = omega arith
refused_so (e ∷ es) b = go (eqb e.number 0) refl (refused_so es (with_answer b e))
  where
    go : (x : Bool) → eqb e.number 0 ≡ x → (with_answers (with_answer b e) es).refused ≡ (with_answer b e).refused + how_many refuses? es → (with_answers (with_answer b e) es).refused ≡ b.refused + pick (not (eqb e.number 0)) (suc (how_many refuses? es)) (how_many refuses? es)
    go true h k = rw h (omega (arith, k, ap (λ (z : Batched). z.refused) (with_taken b e h)))
    go false h k = rw h (omega (arith, k, ap (λ (z : Batched). z.refused) (with_refused b e h)))

-- one more answer leaves what its line left
pub answer_after : (b : Batched) (e : Entered) → (with_answer b e).after ≡ e.after
answer_after b e = go (eqb e.number 0) refl
  where
    go : (x : Bool) → eqb e.number 0 ≡ x → (with_answer b e).after ≡ e.after
    go true h = ap (λ (z : Batched). z.after) (with_taken b e h)
    go false h = ap (λ (z : Batched). z.after) (with_refused b e h)

-- and counts one line more
pub answer_counted : (b : Batched) (e : Entered) → (with_answer b e).taken + (with_answer b e).refused ≡ suc (b.taken + b.refused)
answer_counted b e = go (eqb e.number 0) refl
  where
    go : (x : Bool) → eqb e.number 0 ≡ x → (with_answer b e).taken + (with_answer b e).refused ≡ suc (b.taken + b.refused)
    go true h = ap (λ (z : Batched). z.taken + z.refused) (with_taken b e h) ∙ suc-add b.taken b.refused
    go false h = ap (λ (z : Batched). z.taken + z.refused) (with_refused b e h) ∙ add-suc b.taken b.refused

after_so : (es : List Entered) (b : Batched) → (with_answers b es).after ≡ state_after b.after es
unfolding with_answers state_after
after_so [] b = refl
after_so (e ∷ es) b = after_so es (with_answer b e) ∙ ap (λ (z : State). state_after z es) (answer_after b e)

-- once a line is refused, the first refusal stays
first_stays : (es : List Entered) (b : Batched) (n : ℕ) → b.refused ≡ suc n → (with_answers b es).first ≡ b.first
unfolding with_answers
first_stays [] b n h = refl
first_stays (e ∷ es) b n h = go (eqb e.number 0) refl (first_stays es (with_answer b e))
  where
    go : (x : Bool) → eqb e.number 0 ≡ x → ((m : ℕ) → (with_answer b e).refused ≡ suc m → (with_answers (with_answer b e) es).first ≡ (with_answer b e).first) → (with_answers (with_answer b e) es).first ≡ b.first
    go true k ih = let w = with_taken b e k in ih n (ap (λ (z : Batched). z.refused) w ∙ h) ∙ ap (λ (z : Batched). z.first) w
    go false k ih =
        let w = with_refused b e k in
        ih (suc n) (ap (λ (z : Batched). z.refused) w ∙ ap suc h) ∙ ap (λ (z : Batched). z.first) w ∙ rw (h, some n)

-- none of some answers is a refusal, or one is the first; the first of them is that of line i
abbrev First : ℕ → List Entered → RefusedLine → Type 0
First i es first = (T (every takes? es) × (first ≡ none_refused)) ⊎ FirstRefused i es first

-- where none was refused before
first_so : (es : List Entered) (b : Batched) → b.refused ≡ 0 → b.first ≡ none_refused → First (suc b.taken) es (with_answers b es).first
unfolding with_answers every takes?
first_so [] b r f = inl (tt, f)
first_so (e ∷ es) b r f = go (eqb e.number 0) refl (first_so es (with_answer b e))
  where
    later : eqb e.number 0 ≡ true → (i : ℕ) → i ≡ suc (suc b.taken) → First i es (with_answers (with_answer b e) es).first → First (suc b.taken) (e ∷ es) (with_answers (with_answer b e) es).first
    later h i k (inl x) = inl (and_both (eqb e.number 0) _ (as_T _ h) x.0, x.1)
    later h i k (inr x) =
        inr
        (record {
          before = e ∷ x.before;
          here = x.here;
          rest = x.rest;
          answers = ap (λ (z : List Entered). e ∷ z) x.answers;
          none_before = and_both (eqb e.number 0) _ (as_T _ h) x.none_before;
          refuses = x.refuses;
          is = x.is ∙ ap (λ (z : ℕ). record { number = x.here.number; place = x.here.place; line = z }) (omega arith);
        })

    go : (x : Bool) → eqb e.number 0 ≡ x → ((with_answer b e).refused ≡ 0 → (with_answer b e).first ≡ none_refused → First (suc (with_answer b e).taken) es (with_answers (with_answer b e) es).first)
        → First (suc b.taken) (e ∷ es) (with_answers (with_answer b e) es).first
    go true h ih =
        let w = with_taken b e h in
        later h (suc (with_answer b e).taken) (ap (λ (z : Batched). suc z.taken) w) (ih (ap (λ (z : Batched). z.refused) w ∙ r) (ap (λ (z : Batched). z.first) w ∙ f))
    go false h ih =
        let w = with_refused b e h in
        inr
        (record {
          before = [];
          here = e;
          rest = es;
          answers = refl;
          none_before = tt;
          refuses = eqb-false _ _ h;
          is =
              first_stays es (with_answer b e) 0 (ap (λ (z : Batched). z.refused) w ∙ ap suc r)
              ∙ ap (λ (z : Batched). z.first) w
              ∙ rw r (ap (λ (z : ℕ). record { number = e.number; place = e.place; line = z }) (omega arith));
        })

-- what is answered of all lines
pub batch_answers : (keep : Bool) (text : List ℕ) (s : State) → Summed s (answers_to keep (text_lines text) s) (batch keep text s)
unfolding batch no_lines
batch_answers keep text s =
    let es : List Entered = answers_to keep (text_lines text) s in
    record { taken = taken_so es (no_lines s) ∙ zero-add _; refused = refused_so es (no_lines s) ∙ zero-add _; first = first_so es (no_lines s) refl refl; after = after_so es (no_lines s) }

one_each : (es : List Entered) → how_many takes? es + how_many refuses? es ≡ length es
unfolding how_many takes?
one_each [] = refl
one_each (e ∷ es) = go (eqb e.number 0) refl (one_each es)
  where
    go : (x : Bool) → eqb e.number 0 ≡ x → how_many takes? es + how_many refuses? es ≡ length es → how_many takes? (e ∷ es) + how_many refuses? (e ∷ es) ≡ suc (length es)
    go true h k = rw h (omega arith)
    go false h k = rw h (omega arith)

an_answer_each : (keep : Bool) (ls : List (List ℕ)) (s : State) → length (answers_to keep ls s) ≡ length ls
unfolding answers_to
an_answer_each keep [] s = refl
an_answer_each keep (l ∷ ls) s = ap suc (an_answer_each keep ls (enter_with keep l s).after)

-- every line is taken or refused
pub batch_counts : (keep : Bool) (text : List ℕ) (s : State) → (batch keep text s).taken + (batch keep text s).refused ≡ length (text_lines text)
batch_counts keep text s =
    let sum = batch_answers keep text s in
    omega (arith, sum.taken, sum.refused, one_each (answers_to keep (text_lines text) s), an_answer_each keep (text_lines text) s)

-- ---- one text after another

-- what holds a 9B has a line
some_line : (a : List ℕ) → (l : List ℕ) × (ls : List (List ℕ)) × (text_lines (a ++ 0x9b ∷ []) ≡ l ∷ ls)
unfolding text_lines
some_line [] = ([], [], refl)
some_line (y ∷ a) = (_, _, first_line y (a ++ 0x9b ∷ []))

-- the lines of two texts with a 9B between: those of the first with its 9B, and those of the second
two_texts : (a b : List ℕ) → text_lines (a ++ 0x9b ∷ b) ≡ text_lines (a ++ 0x9b ∷ []) ++ text_lines b
unfolding text_lines in_front
two_texts [] b = refl
two_texts (x ∷ a) b = go (eqb x 0x9b) refl (two_texts a b) (some_line a)
  where
    go : (y : Bool) → eqb x 0x9b ≡ y → text_lines (a ++ 0x9b ∷ b) ≡ text_lines (a ++ 0x9b ∷ []) ++ text_lines b → (l : List ℕ) × (ls : List (List ℕ)) × (text_lines (a ++ 0x9b ∷ []) ≡ l ∷ ls)
        → text_lines (x ∷ a ++ 0x9b ∷ b) ≡ text_lines (x ∷ a ++ 0x9b ∷ []) ++ text_lines b
    go true e h f = rw e (ap (λ (z : List (List ℕ)). [] ∷ z) h)
    go false e h (l, ls, f) = rw (e, h, f)

two_answers : (keep : Bool) (ls ms : List (List ℕ)) (s : State) → answers_to keep (ls ++ ms) s ≡ answers_to keep ls s ++ answers_to keep ms (state_after s (answers_to keep ls s))
unfolding answers_to state_after
two_answers keep [] ms s = refl
two_answers keep (l ∷ ls) ms s = ap (λ (z : List Entered). enter_with keep l s ∷ z) (two_answers keep ls ms (enter_with keep l s).after)

-- one answer more in the second text
then_answer : (x y : Batched) (e : Entered) → with_answer (one_then x y) e ≡ one_then x (with_answer y e)
unfolding with_answer one_then
then_answer x y e = go (eqb e.number 0) refl (eqb x.refused 0) refl (eqb y.refused 0) refl
  where
    go : (a : Bool) → eqb e.number 0 ≡ a → (b : Bool) → eqb x.refused 0 ≡ b → (c : Bool) → eqb y.refused 0 ≡ c → with_answer (one_then x y) e ≡ one_then x (with_answer y e)
    go true h b k c m = rw (h, add-suc x.taken y.taken)
    go false h true k true m =
        let none : eqb (x.refused + y.refused) 0 ≡ true = eq-eqb (x.refused + y.refused) 0 (omega (arith, eqb-true x.refused 0 k, eqb-true y.refused 0 m)) in
        let there : x.taken + x.refused + suc (y.taken + y.refused) ≡ suc (x.taken + y.taken + (x.refused + y.refused)) = omega arith in
        rw (h, k, m, none, some y.refused, there, add-suc x.refused y.refused)
    go false h true k false m =
        let other : eqb (x.refused + y.refused) 0 ≡ false = ne_eqb (x.refused + y.refused) 0 (λ z. eqb-false y.refused 0 m (omega arith)) in
        rw (h, k, m, other, some y.refused, add-suc x.refused y.refused)
    go false h false k c m =
        let other : eqb (x.refused + y.refused) 0 ≡ false = ne_eqb (x.refused + y.refused) 0 (λ z. eqb-false x.refused 0 k (omega arith)) in
        rw (h, k, other, add-suc x.refused y.refused)

then_answers : (es : List Entered) (x y : Batched) → with_answers (one_then x y) es ≡ one_then x (with_answers y es)
unfolding with_answers
then_answers [] x y = refl
then_answers (e ∷ es) x y = ap (λ (z : Batched). with_answers z es) (then_answer x y e) ∙ then_answers es x (with_answer y e)

-- a call that has refused no line answers no refusal
none_first : (es : List Entered) (b : Batched) → (with_answers b es).refused ≡ 0 → (with_answers b es).first ≡ b.first
unfolding with_answers
none_first [] b r = refl
none_first (e ∷ es) b r = go (eqb e.number 0) refl (none_first es (with_answer b e) r)
  where
    go : (x : Bool) → eqb e.number 0 ≡ x → (with_answers (with_answer b e) es).first ≡ (with_answer b e).first → (with_answers (with_answer b e) es).first ≡ b.first
    go true h k = k ∙ ap (λ (z : Batched). z.first) (with_taken b e h)
    go false h k = absurd (omega (arith, r, refused_so es (with_answer b e), ap (λ (z : Batched). z.refused) (with_refused b e h)))

-- no line after some
then_none : (b : Batched) → (b.refused ≡ 0 → b.first ≡ none_refused) → b ≡ one_then b (no_lines b.after)
unfolding one_then no_lines
then_none b f = go (eqb b.refused 0) refl
  where
    go : (x : Bool) → eqb b.refused 0 ≡ x → b ≡ one_then b (no_lines b.after)
    go true h =
        let same : RefusedLine → Batched = λ z. record { taken = b.taken; refused = b.refused; first = z; after = b.after } in
        rw (h, add-zero b.taken, add-zero b.refused) (ap same (f (eqb-true _ _ h)))
    go false h = rw (h, add-zero b.taken, add-zero b.refused)

-- two texts, one after the other: answers and state
pub batch_in_two : (keep : Bool) (a b : List ℕ) (s : State) → batch keep (a ++ 0x9b ∷ b) s ≡ one_then (batch keep (a ++ 0x9b ∷ []) s) (batch keep b (batch keep (a ++ 0x9b ∷ []) s).after)
unfolding batch no_lines
batch_in_two keep a b s =
    let text : List ℕ = a ++ 0x9b ∷ [] in
    let x : Batched = batch keep text s in
    let es : List Entered = answers_to keep (text_lines b) (state_after s (answers_to keep (text_lines text) s)) in
    ap (λ (z : List (List ℕ)). with_answers (no_lines s) (answers_to keep z s)) (two_texts a b)
    ∙ ap (with_answers (no_lines s)) (two_answers keep (text_lines text) (text_lines b) s)
    ∙ with_more (answers_to keep (text_lines text) s) es (no_lines s)
    ∙ ap (λ (z : Batched). with_answers z es) (then_none x (none_first (answers_to keep (text_lines text) s) (no_lines s)))
    ∙ then_answers es x (no_lines x.after)
    ∙ ap (λ (z : State). one_then x (with_answers (no_lines x.after) (answers_to keep (text_lines b) z))) (sym (batch_answers keep text s).after)

-- ---- one test of the tables is enough

one_so : (text : List ℕ) (s : State) → sound_state s ≡ false → enter text s ≡ refusal 1 no_span s
unfolding enter
one_so text s u = rw u

-- a text that is refused with a number other than 4 is refused so with the switch
with_switch : (keep : Bool) (text : List ℕ) (s : State) (k : ℕ) → (k ≡ 4 → ⊥) → enter text s ≡ refusal k no_span s → enter_with keep text s ≡ refusal k no_span s
unfolding refusal
with_switch keep text s k n e = same_unless_4 text s keep (λ z. n (sym (ap (λ (x : Entered). x.number) e) ∙ z)) ∙ e

-- over unsound tables a text is refused with 1
pub unsound_entered : (keep : Bool) (text : List ℕ) (s : State) → sound_state s ≡ false → enter_with keep text s ≡ refusal 1 no_span s
unsound_entered keep text s u = with_switch keep text s 1 (λ e. omega arith) (one_so text s u)

-- the tables are sound after a text exactly when they were before it
pub same_soundness : (keep : Bool) (text : List ℕ) (s : State) → sound_state (enter_with keep text s).after ≡ sound_state s
unfolding refusal
same_soundness keep text s = go (sound_state s) refl
  where
    go : (b : Bool) → sound_state s ≡ b → sound_state (enter_with keep text s).after ≡ b
    go true e = is_true _ (stays_sound_with text s keep (as_T (sound_state s) e))
    go false e = ap (λ (z : Entered). sound_state z.after) (unsound_entered keep text s e) ∙ e

soundness_after : (keep : Bool) (ls : List (List ℕ)) (s : State) → sound_state (state_after s (answers_to keep ls s)) ≡ sound_state s
unfolding answers_to state_after
soundness_after keep [] s = refl
soundness_after keep (l ∷ ls) s = soundness_after keep ls (enter_with keep l s).after ∙ same_soundness keep l s

-- and after many lines
pub batch_soundness : (keep : Bool) (text : List ℕ) (s : State) → sound_state (batch keep text s).after ≡ sound_state s
batch_soundness keep text s = ap sound_state (batch_answers keep text s).after ∙ soundness_after keep (text_lines text) s

-- n answers 1
refusals : ℕ → State → List Entered
refusals zero s = []
refusals (suc n) s = refusal 1 no_span s ∷ refusals n s

unsound_answers : (keep : Bool) (ls : List (List ℕ)) (s : State) → sound_state s ≡ false → answers_to keep ls s ≡ refusals (length ls) s
unfolding answers_to refusal refusals
unsound_answers keep [] s u = refl
unsound_answers keep (l ∷ ls) s u = ap (λ (z : Entered). z ∷ answers_to keep ls z.after) (unsound_entered keep l s u) ∙ ap (λ (z : List Entered). refusal 1 no_span s ∷ z) (unsound_answers keep ls s u)

one_refusal : (n : ℕ) (s : State) → with_answer (all_unsound (suc n) s) (refusal 1 no_span s) ≡ all_unsound (suc (suc n)) s
unfolding with_answer all_unsound refusal
one_refusal n s = rw (some n)

more_refusals : (n m : ℕ) (s : State) → with_answers (all_unsound (suc n) s) (refusals m s) ≡ all_unsound (suc n + m) s
unfolding with_answers refusals
more_refusals n zero s = ap (λ (k : ℕ). all_unsound k s) (sym (add-zero (suc n)))
more_refusals n (suc m) s =
    ap (λ (z : Batched). with_answers z (refusals m s)) (one_refusal n s) ∙ more_refusals (suc n) m s ∙ ap (λ (k : ℕ). all_unsound k s) (omega arith)

all_refusals : (n : ℕ) (s : State) → with_answers (no_lines s) (refusals n s) ≡ all_unsound n s
unfolding with_answers with_answer no_lines all_unsound refusal refusals
all_refusals zero s = refl
all_refusals (suc n) s = let k : 1 + n ≡ suc n = omega arith in more_refusals 0 n s ∙ ap (λ (z : ℕ). all_unsound z s) k

-- over unsound tables every line is refused with 1
pub batch_unsound : (keep : Bool) (text : List ℕ) (s : State) → sound_state s ≡ false → batch keep text s ≡ all_unsound (length (text_lines text)) s
unfolding batch
batch_unsound keep text s u = ap (with_answers (no_lines s)) (unsound_answers keep (text_lines text) s u) ∙ all_refusals (length (text_lines text)) s

-- ---- a line without a number

without_number : (s : State) (blank : Bool) → at_head s (pick blank only_blanks unnumbered) ≡ refusal 3 no_span s
unfolding at_head
without_number s true = refl
without_number s false = refl

three_so : (l : List ℕ) (s : State) → T (sound_state s) → length l ≤ 120 → digit_count l ≡ 0 → enter l s ≡ refusal 3 no_span s
unfolding enter enter_sound at_head head_of digit_count after_blanks
three_so l s o h d = rw (is_true (sound_state s) o, le-ltb 120 (length l) h, d) (without_number s (eqb (run blank? l) (length l)))

-- it is refused with 3
pub unnumbered_line : (keep : Bool) (l : List ℕ) (s : State) → T (sound_state s) → length l ≤ 120 → digit_count l ≡ 0 → enter_with keep l s ≡ refusal 3 no_span s
unnumbered_line keep l s o h d = with_switch keep l s 3 (λ e. omega arith) (three_so l s o h d)
