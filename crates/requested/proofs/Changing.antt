-- What an accepted text changes, by what stands in it and the names: an edit of the lines at its number (document 02, §14).
use Rattle.std.specs.Prelude.{ℕ, ◌-◌, ◌≤◌, ◌≡◌, refl, Bool, true, false, List, [], ◌∷◌, ◌++◌, T, length}
use Rattle.std.proofs.Common.{arith, subst, sym, ap, ◌∙◌, append-nil}
use Rattle.paper.specs.Bytes.{pick, blank?, every, among, joined}
use Rattle.paper.specs.Tokens.{Token}
use Rattle.paper.specs.Names.{add_names}
use Rattle.paper.specs.Items.{no_span}
use Rattle.paper.specs.Line.{lawful_number?, line_bytes, line_tokens}
use Rattle.paper.specs.WellFormed.{WellFormed}
use Rattle.paper.specs.Store.{room, stored?, put_line, take_out}
use Rattle.paper.specs.Calls.{State, names_of, lines_of, sound_state, Entered, refusal, Translated, tokens, refused_at, translate, with_names, stored, lacks_room, enter, enter_with}
use Rattle.laws.specs.Tests.{is_true}
use Rattle.laws.specs.Names.{names_added, adds_front}
use Rattle.promises.specs.Terms.{number_in, number_end, past_number, items_in, names_with, line_with, Carried, with_lines}
use Rattle.grounds.specs.Decoding.{line_number_of}
use Rattle.grounds.proofs.RoundTrip.{decoded}
use Rattle.promises.proofs.Stored.{edited_lines, put_is, out_is, written_lines, put_sound, out_sound, Holds, holds}
use Rattle.requested.proofs.LineEdits.{Edit, no_edit, line_edit}
use Rattle.promises.proofs.Refusals.{four_or_five}
use Rattle.promises.proofs.Answers.{not_outright, Numbered, Answer, refused_outright, refused_there, puts_line, drops_line, answer}
use Rattle.promises.proofs.Accepted.{stored_well_formed, stored_tokens}
use Rattle.promises.proofs.Beginning.{not_blank}
use Rattle.promises.proofs.States.{state_says}
use Rattle.promises.proofs.Editing.{well_formed_whole, lines_are, names_carried, count_added, edited_so, sound_after}
use Rattle.promises.proofs.ReEntry.{tables_stay}
use Rattle.promises.proofs.KeptLines.{accepted_alike}

-- ---- what a text makes

-- nothing but blanks stands after its number
abbrev pub only_number? : List ℕ → Bool
only_number? text = every blank? (past_number text)

-- the tokens of a translation, none if it is refused
tokens_at : Translated → List Token
tokens_at (tokens ts) = ts
tokens_at (refused_at k q) = []

-- the tokens of a text, none if it has only its number
pub text_tokens : List ℕ → List Token
text_tokens text = pick (only_number? text) [] (tokens_at (translate (number_end text) (past_number text)))

-- the line that it puts in, over some names; none if it has only its number
pub new_line : List (List ℕ) → List ℕ → List (List ℕ)
new_line ns text = pick (only_number? text) [] (line_bytes ns (number_in text) (text_tokens text) ∷ [])

module _ (ns : List (List ℕ)) (text : List ℕ) where
  -- one with more than its number
  pub line_there : only_number? text ≡ false → new_line ns text ≡ line_bytes ns (number_in text) (text_tokens text) ∷ []
  unfolding new_line
  line_there b = rw b

  -- and one without
  pub none_there : only_number? text ≡ true → new_line ns text ≡ []
  unfolding new_line
  none_there b = rw b

-- the line of a text's tokens: well-formed over the names, and read as these tokens
pub record MadeOf (ns : List (List ℕ)) (n : ℕ) (ts : List Token) : Type 0 where
  pub formed : WellFormed ns (line_bytes ns n ts)
  pub reads : line_tokens ns (line_bytes ns n ts) ≡ ts

-- ---- the change

-- names and values, and their counts, are the same
pub record SameTables (x y : State) : Type 0 where
  pub names : x.names ≡ y.names
  pub values : x.values ≡ y.values
  pub name_size : x.name_size ≡ y.name_size
  pub name_count : x.name_count ≡ y.name_count

-- other lines alone leave them
same_with : (s : State) (ls : List (List ℕ)) → SameTables s (with_lines s ls)
unfolding with_lines
same_with s ls = record { names = refl; values = refl; name_size = refl; name_count = refl }

-- so are then the names
pub names_same : (x y : State) → SameTables x y → names_of x ≡ names_of y
unfolding names_of
names_same x y h = rw (h.names, h.name_size)

-- What an accepted text did: the names are those of the table and of its tokens, the lines are edited at its number, with the line that it makes over these
-- names, and where no name is added the tables stay.
pub record Change (text : List ℕ) (s : State) (e : Entered) : Type 0 where
  pub sound : T (sound_state s)
  pub sound_after : T (sound_state e.after)
  pub names : names_of e.after ≡ names_with s (text_tokens text)
  pub lines : lines_of e.after ≡ edited_lines (number_in text) (new_line (names_of e.after) text) (lines_of s)
  pub made : only_number? text ≡ false → MadeOf (names_of e.after) (number_in text) (text_tokens text)
  pub tables : e.added ≡ 0 → SameTables s e.after

none_of : (xs : List (List ℕ)) → length xs ≡ 0 → xs ≡ []
none_of [] e = refl
none_of (x ∷ xs) e = absurd (omega arith)

-- no name added, the same names
names_stay : (s : State) (ts : List Token) → length (names_with s ts) - length (names_of s) ≡ 0 → names_with s ts ≡ names_of s
names_stay s ts z =
    adds_front (names_of s) ts ∙ ap (λ (z : List (List ℕ)). names_of s ++ z) (none_of (names_added (names_of s) ts) (sym (count_added s ts) ∙ z)) ∙ append-nil (names_of s)

no_two : ◌≡◌ {A = Bool} true false → ⊥
no_two e = let z : ◌≡◌ {A = ℕ} 0 1 = cc in omega arith

-- a line put in
put_change : (text : List ℕ) (s : State) → Numbered text s → (ts : List Token) → translate (number_end text) (past_number text) ≡ tokens ts → lacks_room s (names_with s ts) ≡ false
    → length (joined (put_line (line_with s (number_in text) ts) (lines_of s))) ≤ room s.store
    → Change text s (record { number = 0; place = no_span; added = length (names_with s ts) - length (names_of s); after = stored s (names_with s ts) (put_line (line_with s (number_in text) ts) (lines_of s)) })
unfolding text_tokens tokens_at
put_change text s t ts tr lacks fits =
    let n : ℕ = number_in text in
    let ns : List (List ℕ) = names_with s ts in
    let l : List ℕ = line_with s n ts in
    let old : List (List ℕ) = lines_of s in
    let ls : List (List ℕ) = put_line l old in
    let b : only_number? text ≡ false = not_blank (number_end text) (past_number text) ts tr in
    let are : text_tokens text ≡ ts = rw (b, tr) in
    let wf : WellFormed ns l = stored_well_formed (names_of s) n (number_end text) (past_number text) ts t.lawful tr in
    let h : Holds ls s.store = holds ls s.store (put_sound l old (well_formed_whole ns l wf) (state_says s t.sound).lines) fits in
    let k : Carried s (stored s ns ls) (names_added (names_of s) ts) = names_carried s t.sound (number_end text) (past_number text) ts tr ns refl lacks ls h in
    let names : names_of (stored s ns ls) ≡ ns = k.names ∙ sym (adds_front (names_of s) ts) in
    let made : MadeOf ns n ts = record { formed = wf; reads = decoded ns l wf ∙ stored_tokens lawful_number? (names_of s) n (number_end text) (past_number text) ts t.lawful tr } in
    let line : l ∷ [] ≡ new_line (names_of (stored s ns ls)) text = ap (λ (us : List Token). line_bytes ns n us ∷ []) (sym are) ∙ ap (λ (ms : List (List ℕ)). line_bytes ms n (text_tokens text) ∷ []) (sym names) ∙ sym (line_there (names_of (stored s ns ls)) text b) in
    record {
      sound = t.sound;
      sound_after = k.sound;
      names = names ∙ ap (names_with s) (sym are);
      lines = lines_are s ns ls h ∙ put_is l old ∙ ap (λ (i : ℕ). edited_lines i (l ∷ []) old) (line_number_of ns n ts) ∙ ap (λ (x : List (List ℕ)). edited_lines n x old) line;
      made = (λ _. subst (λ (ms : List (List ℕ)). MadeOf ms n (text_tokens text)) (sym names) (subst (MadeOf ns n) (sym are) made));
      tables = (λ z. subst (SameTables s) (sym (ap (λ (ms : List (List ℕ)). stored s ms ls) (names_stay s ts z) ∙ tables_stay s (state_says s t.sound) ls)) (same_with s ls));
    }

-- a line taken out
gone_change : (text : List ℕ) (s : State) → Numbered text s → T (every blank? (past_number text)) → T (stored? (number_in text) (lines_of s))
    → Change text s (record { number = 0; place = no_span; added = 0; after = stored s (names_of s) (take_out (number_in text) (lines_of s)) })
unfolding text_tokens add_names stored with_names lines_of
gone_change text s t b st =
    let n : ℕ = number_in text in
    let old : List (List ℕ) = lines_of s in
    let ls : List (List ℕ) = take_out n old in
    let only : only_number? text ≡ true = is_true (only_number? text) b in
    let are : text_tokens text ≡ [] = rw only in
    let stays : SameTables s (stored s (names_of s) ls) = subst (SameTables s) (sym (tables_stay s (state_says s t.sound) ls)) (same_with s ls) in
    let names : names_of s ≡ names_of (stored s (names_of s) ls) = names_same s (stored s (names_of s) ls) stays in
    record {
      sound = t.sound;
      sound_after = sound_after text s _ (edited_so text s _ (drops_line t b st) refl);
      names = sym names ∙ ap (names_with s) (sym are);
      lines = written_lines ls s.store (out_sound n old (state_says s t.sound).lines) ∙ out_is n old ∙ ap (λ (x : List (List ℕ)). edited_lines n x old) (sym (none_there _ text only));
      made = (λ x. absurd (no_two (sym only ∙ x)));
      tables = (λ z. stays);
    }

change_so : (text : List ℕ) (s : State) (e : Entered) → Answer text s e → e.number ≡ 0 → Change text s e
unfolding refusal among
change_so text s e (refused_outright k h) z = absurd (not_outright k 0 h tt z)
change_so text s e (refused_there t k q h w) z = absurd (four_or_five (items_in text) k q h (λ x. omega arith) (λ x. omega arith))
change_so text s e (puts_line t ts tr lacks fits) z = put_change text s t ts tr lacks fits
change_so text s e (drops_line t b st) z = gone_change text s t b st

-- every accepted text makes such a change
pub change : (keep : Bool) (text : List ℕ) (s : State) → (enter_with keep text s).number ≡ 0 → Change text s (enter_with keep text s)
change keep text s z =
    let same : enter_with keep text s ≡ enter text s = accepted_alike text s keep z in
    subst (Change text s) (sym same) (change_so text s (enter text s) (answer text s) (sym (ap (λ (e : Entered). e.number) same) ∙ z))

-- what it puts in is an edit at its number
pub change_edit : (text : List ℕ) (s : State) (e : Entered) → Change text s e → Edit (number_in text) (new_line (names_of e.after) text)
change_edit text s e c = go (only_number? text) refl
  where
    ns : List (List ℕ)
    ns = names_of e.after

    go : (b : Bool) → only_number? text ≡ b → Edit (number_in text) (new_line ns text)
    go true x = subst (Edit (number_in text)) (sym (none_there ns text x)) (no_edit (number_in text))
    go false x =
        let l : List ℕ = line_bytes ns (number_in text) (text_tokens text) in
        subst (Edit (number_in text)) (sym (line_there ns text x)) (line_edit (number_in text) l (line_number_of ns (number_in text) (text_tokens text)) (well_formed_whole ns l (c.made x).formed))
