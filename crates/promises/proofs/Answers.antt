-- All answers that `enter` gives, each with what holds where it is given.
use Rattle.std.specs.Prelude.{ℕ, ◌-◌, ◌≤◌, ◌≡◌, Bool, not, ◌⊎◌, List, [], ◌∷◌, T, ltb, length, drop}
use Rattle.std.proofs.Common.{arith, subst, ◌∙◌, inl, inr, T_not, drop-drop, ltb-false}
use Rattle.std.proofs.Math.Path.{refl, sym}
use Rattle.std.proofs.Math.Bool.{true, false}
use Rattle.std.proofs.Math.Dec.{eqb}
use Rattle.paper.specs.Bytes.{pick, blank?, run, every, among, joined}
use Rattle.paper.specs.Tokens.{Token}
use Rattle.paper.specs.Items.{Span, no_span}
use Rattle.paper.specs.Line.{lawful_number?}
use Rattle.paper.specs.Store.{room, stored?, put_line, take_out}
use Rattle.paper.specs.Calls.{State, names_of, lines_of, sound_state, Entered, refusal, Translated, tokens, refused_at, translate, stored, lacks_room, unless_short, accept, answered, delete, numbered, too_great, only_blanks, unnumbered, head_of, at_head, enter_sound, enter}
use Rattle.laws.specs.Tests.{as_T}
use Rattle.promises.specs.Terms.{after_blanks, digit_count, number_in, number_end, past_number, items_in, NoReading, OutOfRange, EndsThere, names_with, line_with}
use Rattle.grounds.specs.Lists.{run_whole}
use Rattle.promises.proofs.Refusals.{Refusal, is_four, is_five, four_or_five, translation_refused, translation_ends}

-- what is so of the refusals 6, 7 and 8, and of what comes of a line that has room, is so of the answer
pub unless_short_says : {A : Type 0} (P : A → Type 0) (refuse : ℕ → A) (lacking : Bool) (line : List ℕ) (unfitting : Bool) (accepted : A) → P (refuse 6) → P (refuse 7) → P (refuse 8) → (lacking ≡ false → unfitting ≡ false → P accepted)
    → P (unless_short refuse lacking line unfitting accepted)
unfolding unless_short
unless_short_says P refuse lacking line unfitting accepted six seven eight h = go lacking refl (ltb 255 (length line)) unfitting refl
  where
    go : (a : Bool) → lacking ≡ a → (b c : Bool) → unfitting ≡ c → P (pick a (refuse 6) (pick b (refuse 7) (pick c (refuse 8) accepted)))
    go true x b c z = six
    go false x true c z = seven
    go false x false true z = eight
    go false x false false z = h x z

-- the refusals that have no place
abbrev pub placeless : List ℕ
placeless = 1 ∷ 2 ∷ 3 ∷ 6 ∷ 7 ∷ 8 ∷ 9 ∷ []

-- a text with a number, over a sound state
pub record Numbered (text : List ℕ) (s : State) : Type 0 where
  pub sound : T (sound_state s)
  pub digits : eqb (digit_count text) 0 ≡ false
  pub lawful : T (lawful_number? (number_in text))

-- What `enter` answers: a refusal with no place; a refusal with 4 or 5; the line put in; the line deleted
pub data Answer (text : List ℕ) (s : State) : Entered → Type 0 where
  refused_outright : (k : ℕ) → T (among k placeless) → Answer text s (refusal k no_span s)
  refused_there : Numbered text s → (k : ℕ) (q : Span) → Refusal (items_in text) k q → EndsThere text q → Answer text s (refusal k q s)
  puts_line : Numbered text s → (ts : List Token) → translate (number_end text) (past_number text) ≡ tokens ts → lacks_room s (names_with s ts) ≡ false
      → length (joined (put_line (line_with s (number_in text) ts) (lines_of s))) ≤ room s.store
      → Answer text s (record { number = 0; place = no_span; added = length (names_with s ts) - length (names_of s); after = stored s (names_with s ts) (put_line (line_with s (number_in text) ts) (lines_of s)) })
  drops_line : Numbered text s → T (every blank? (past_number text)) → T (stored? (number_in text) (lines_of s))
      → Answer text s (record { number = 0; place = no_span; added = 0; after = stored s (names_of s) (take_out (number_in text) (lines_of s)) })

module _ (text : List ℕ) (s : State) where
  outright : (k : ℕ) → T (among k placeless) → Answer text s (refusal k no_span s)
  outright k t = refused_outright k t

  accept_says : Numbered text s → (ts : List Token) → translate (number_end text) (past_number text) ≡ tokens ts → Answer text s (accept s (number_in text) ts)
  unfolding accept among
  accept_says t ts e = unless_short_says (Answer text s) _ _ _ _ _ (outright 6 tt) (outright 7 tt) (outright 8 tt) (λ x z. puts_line t ts e x (ltb-false _ _ z))

  -- what stands after the number stands in the text at the number's end
  stands_there : drop (number_end text) text ≡ past_number text
  unfolding number_end past_number after_blanks
  stands_there = sym (drop-drop (digit_count text) (run blank? text) text)

  translation_says : Numbered text s → (r : Translated) → translate (number_end text) (past_number text) ≡ r → Answer text s (answered s (number_in text) r)
  unfolding answered
  translation_says t (tokens ts) e = accept_says t ts e
  translation_says t (refused_at k q) e =
      refused_there t k q (translation_refused (number_end text) (past_number text) k q e) (translation_ends text (number_end text) (past_number text) k q stands_there e)

  delete_go : Numbered text s → T (every blank? (past_number text)) → (b : Bool) → stored? (number_in text) (lines_of s) ≡ b
      → Answer text s (pick b (record { number = 0; place = no_span; added = 0; after = stored s (names_of s) (take_out (number_in text) (lines_of s)) }) (refusal 9 no_span s))
  unfolding among
  delete_go t e true x = drops_line t e (as_T _ x)
  delete_go t e false x = outright 9 tt

  number_go : Numbered text s → (b : Bool) → every blank? (past_number text) ≡ b → Answer text s (pick b (delete s (number_in text)) (answered s (number_in text) (translate (number_end text) (past_number text))))
  unfolding delete
  number_go t true e = delete_go t (as_T _ e) (stored? (number_in text) (lines_of s)) refl
  number_go t false e = translation_says t (translate (number_end text) (past_number text)) refl

  head_says : T (sound_state s) → Answer text s (at_head s (head_of text))
  unfolding at_head head_of after_blanks digit_count number_in number_end past_number among
  head_says o = go (eqb (digit_count text) 0) refl (eqb (run blank? text) (length text)) (lawful_number? (number_in text)) refl
    where
      go : (a : Bool) → eqb (digit_count text) 0 ≡ a → (b c : Bool) → lawful_number? (number_in text) ≡ c → Answer text s (at_head s (pick a (pick b only_blanks unnumbered) (pick c (numbered (number_in text) (number_end text) (past_number text)) too_great)))
      go true d true c e = outright 3 tt
      go true d false c e = outright 3 tt
      go false d b false e = outright 3 tt
      go false d b true e = rw (run_whole blank? (past_number text)) (number_go (record { sound = o; digits = d; lawful = as_T _ e }) (every blank? (past_number text)) refl)

  short_go : T (sound_state s) → (b : Bool) → Answer text s (pick b (refusal 2 no_span s) (at_head s (head_of text)))
  unfolding among
  short_go o true = outright 2 tt
  short_go o false = head_says o

  sound_go : (b : Bool) → sound_state s ≡ b → Answer text s (pick b (enter_sound text s) (refusal 1 no_span s))
  unfolding enter_sound among
  sound_go true e = short_go (as_T (sound_state s) e) (ltb 120 (length text))
  sound_go false e = outright 1 tt

  -- every answer of `enter` is one of these
  pub answer : Answer text s (enter text s)
  unfolding enter
  answer = sound_go (sound_state s) refl

-- ---- what the answers of `enter` have in common

-- what a refusal answers and leaves
pub refused_is : (k : ℕ) (q : Span) (s : State) → ((refusal k q s).number ≡ k) × ((refusal k q s).place ≡ q) × ((refusal k q s).added ≡ 0) × ((refusal k q s).after ≡ s)
unfolding refusal
refused_is k q s = (refl, refl, refl, refl)

-- a number that no refusal without a place has
pub not_outright : (k m : ℕ) → T (among k placeless) → T (not (among m placeless)) → k ≡ m → ⊥
not_outright k m h n e = T_not (among m placeless) n (subst (λ (z : ℕ). T (among z placeless)) e h)

four_so : (text : List ℕ) (s : State) (e : Entered) → Answer text s e → e.number ≡ 4 → NoReading (items_in text) e.place
unfolding among
four_so text s e (refused_outright k h) z = absurd (not_outright k 4 h tt (sym (refused_is k no_span s).0 ∙ z))
four_so text s e (refused_there t k q h w) z = subst (NoReading (items_in text)) (sym (refused_is k q s).1) (is_four (items_in text) k q h (sym (refused_is k q s).0 ∙ z))
four_so text s e (puts_line t ts tr lacks fits) z = absurd (omega arith)
four_so text s e (drops_line t b st) z = absurd (omega arith)

-- the place of refusal 4
pub place_four : (text : List ℕ) (s : State) → (enter text s).number ≡ 4 → NoReading (items_in text) (enter text s).place
place_four text s z = four_so text s (enter text s) (answer text s) z

five_so : (text : List ℕ) (s : State) (e : Entered) → Answer text s e → e.number ≡ 5 → OutOfRange (items_in text) e.place
unfolding among
five_so text s e (refused_outright k h) z = absurd (not_outright k 5 h tt (sym (refused_is k no_span s).0 ∙ z))
five_so text s e (refused_there t k q h w) z = subst (OutOfRange (items_in text)) (sym (refused_is k q s).1) (is_five (items_in text) k q h (sym (refused_is k q s).0 ∙ z))
five_so text s e (puts_line t ts tr lacks fits) z = absurd (omega arith)
five_so text s e (drops_line t b st) z = absurd (omega arith)

-- refusal 4 is answered only to a text with a number
pub four_numbered : (text : List ℕ) (s : State) → (enter text s).number ≡ 4 → Numbered text s
unfolding among
four_numbered text s z = go (enter text s) (answer text s) z
  where
    go : (e : Entered) → Answer text s e → e.number ≡ 4 → Numbered text s
    go e (refused_outright k h) z = absurd (not_outright k 4 h tt (sym (refused_is k no_span s).0 ∙ z))
    go e (refused_there t k q h w) z = t
    go e (puts_line t ts tr lacks fits) z = t
    go e (drops_line t b st) z = t

-- the place of refusal 5
pub place_five : (text : List ℕ) (s : State) → (enter text s).number ≡ 5 → OutOfRange (items_in text) (enter text s).place
place_five text s z = five_so text s (enter text s) (answer text s) z

place_so : (text : List ℕ) (s : State) (e : Entered) → Answer text s e → (e.number ≡ 4 → ⊥) → (e.number ≡ 5 → ⊥) → e.place ≡ no_span
place_so text s e (refused_outright k h) x y = (refused_is k no_span s).1
place_so text s e (refused_there t k q h w) x y = absurd (four_or_five (items_in text) k q h (λ z. x ((refused_is k q s).0 ∙ z)) (λ z. y ((refused_is k q s).0 ∙ z)))
place_so text s e (puts_line t ts tr lacks fits) x y = refl
place_so text s e (drops_line t b st) x y = refl

ends_so : (text : List ℕ) (s : State) (e : Entered) → Answer text s e → (e.number ≡ 4) ⊎ (e.number ≡ 5) → EndsThere text e.place
unfolding among
ends_so text s e (refused_outright k h) (inl z) = absurd (not_outright k 4 h tt (sym (refused_is k no_span s).0 ∙ z))
ends_so text s e (refused_outright k h) (inr z) = absurd (not_outright k 5 h tt (sym (refused_is k no_span s).0 ∙ z))
ends_so text s e (refused_there t k q h w) z = subst (EndsThere text) (sym (refused_is k q s).1) w
ends_so text s e (puts_line t ts tr lacks fits) (inl z) = absurd (omega arith)
ends_so text s e (puts_line t ts tr lacks fits) (inr z) = absurd (omega arith)
ends_so text s e (drops_line t b st) (inl z) = absurd (omega arith)
ends_so text s e (drops_line t b st) (inr z) = absurd (omega arith)

-- where the item at the place ends
pub place_ends : (text : List ℕ) (s : State) → ((enter text s).number ≡ 4) ⊎ ((enter text s).number ≡ 5) → EndsThere text (enter text s).place
place_ends text s z = ends_so text s (enter text s) (answer text s) z

-- any other answer has no place
pub no_place : (text : List ℕ) (s : State) → ((enter text s).number ≡ 4 → ⊥) → ((enter text s).number ≡ 5 → ⊥) → (enter text s).place ≡ no_span
no_place text s x y = place_so text s (enter text s) (answer text s) x y

-- a refused text changes nothing
pub unchanged : (text : List ℕ) (s : State) → ((enter text s).number ≡ 0 → ⊥) → ((enter text s).after ≡ s) × ((enter text s).added ≡ 0)
unchanged text s n = go (enter text s) (answer text s) n
  where
    go : (e : Entered) → Answer text s e → (e.number ≡ 0 → ⊥) → (e.after ≡ s) × (e.added ≡ 0)
    go e (refused_outright k h) n = ((refused_is k no_span s).3, (refused_is k no_span s).2)
    go e (refused_there t k q h w) n = ((refused_is k q s).3, (refused_is k q s).2)
    go e (puts_line t ts tr lacks fits) n = absurd (n refl)
    go e (drops_line t b st) n = absurd (n refl)
