-- An accepted text has put in a line that is whole and well-formed, or taken one out; every other line is the same, and the state is sound.
use Rattle.std.specs.Prelude.{ℕ, suc, ◌+◌, ◌-◌, ◌/◌, ◌%◌, ◌≤◌, ◌≡◌, refl, Bool, true, false, List, [], ◌∷◌, ◌++◌, map, T, eqb, leb, length, take, drop}
use Rattle.std.proofs.Common.{le_trans, arith, subst, sym, ap, ◌∙◌, append-nil, eqb→eq, le→leb, length-append, length-take, eq-eqb, eqb-true}
use Rattle.paper.specs.Bytes.{pick, blank?, every, among, joined}
use Rattle.paper.specs.Classes.{colon, line_end, raw_end}
use Rattle.paper.specs.Tokens.{Token, class}
use Rattle.paper.specs.Names.{number_of}
use Rattle.paper.specs.Items.{no_span}
use Rattle.paper.specs.Machine.{Taken, left, read}
use Rattle.paper.specs.Grammar.{Gives, start}
use Rattle.paper.specs.Line.{number_bytes, variable_bytes, own_bytes, begins?, to_next, token_bytes, line_bytes, line_number, lawful_number?}
use Rattle.paper.specs.WellFormed.{WellFormed, right_token?}
use Rattle.paper.specs.Store.{whole_line?, sound_lines, room, first_is?, lines_below, lines_not_below, lines_above, stored?, put_line, take_out}
use Rattle.paper.specs.Calls.{State, names_of, lines_of, sound_state, Entered, refusal, tokens, translate, stored, lacks_room, enter}
use Rattle.laws.specs.Tests.{and_left, and_both, or_else, is_true}
use Rattle.laws.specs.Lines.{bytes_back, both_sides}
use Rattle.laws.specs.Names.{names_added, adds_front}
use Rattle.laws.specs.Variables.{number_some}
use Rattle.grounds.specs.Place.{sources}
use Rattle.grounds.specs.TokenRuns.{on_taken, on_run}
use Rattle.grounds.specs.Given.{look_token, tokens_given}
use Rattle.grounds.specs.Neighbours.{Apart, first_class?}
use Rattle.grounds.proofs.Closed.{closed, end_class?}
use Rattle.grounds.proofs.Reading.{side}
use Rattle.grounds.specs.Decoding.{Shapes, no_tokens, a_statement, a_text, a_target, an_operator, a_variable, a_constant, a_string, line_number_of}
use Rattle.grounds.proofs.Shaped.{shapes, starts_statement, first_only}
use Rattle.grounds.proofs.RoundTrip.{token_of, as_tokens, tokens_same, Known, known}
use Rattle.promises.proofs.Accepted.{translated_lawful, names_new, stored_well_formed}
use Rattle.promises.proofs.NameTable.{NamesGood, adds_good}
use Rattle.promises.proofs.Refusals.{four_or_five}
use Rattle.promises.proofs.Stored.{put_sound, out_sound, out_less, Holds, holds}
use Rattle.promises.proofs.States.{state_says, names_good, Room, no_more, room_for, made, stored_made, carried}
use Rattle.promises.proofs.Answers.{not_outright, Numbered, Answer, refused_outright, refused_there, puts_line, drops_line, answer}
use Rattle.promises.specs.Terms.{number_in, number_end, past_number, items_in, names_with, line_with, SoundState, Carried, AtMostOne, no_line, one_line, PutIn, TakenOut, Edited, line_put, line_gone}

-- ---- a well-formed line is a whole line

size_some : (ns : List (List ℕ)) (ts : List Token) → Shapes ns ts → 1 ≤ length ts → (p : ℕ) → 1 ≤ length (token_bytes ns p ts)
unfolding token_bytes own_bytes begins? variable_bytes
size_some ns ts no_tokens h p = absurd (omega arith)
size_some ns ts (a_statement k r x y s) h p = omega arith
size_some ns ts (a_text k b x y a) h p = omega arith
size_some ns ts (a_target n r x s) h p = omega arith
size_some ns ts (an_operator j r x y z s) h p = omega arith
size_some ns ts (a_variable n r x s) h p = omega (arith, length-append (number_bytes (number_of ns n)) (token_bytes ns (p + length (number_bytes (number_of ns n))) r), (number_some (number_of ns n)).0)
size_some ns ts (a_constant b r x s) h p = omega arith
size_some ns ts (a_string b r s) h p = omega arith

size_three : (ns : List (List ℕ)) (ts : List Token) → Shapes ns ts → to_next ns ts ≡ 0 → 2 ≤ length ts → (p : ℕ) → 3 ≤ length (token_bytes ns p ts)
unfolding token_bytes to_next own_bytes begins? variable_bytes
size_three ns ts no_tokens e h p = absurd (omega arith)
size_three ns ts (a_statement k r x y s) e h p = omega (arith, size_some ns r s (omega arith) (suc p + 1))
size_three ns ts (a_text k b x y a) e h p = omega (arith, length-append b (0x9b ∷ []))
size_three ns ts (a_target n r x s) e h p =
    let q : ℕ = suc p + suc (length (number_bytes (number_of ns n))) in
    omega (arith, length-append (number_bytes (number_of ns n)) (token_bytes ns q r), (number_some (number_of ns n)).0)
size_three ns ts (an_operator j r x y z s) e h p = absurd (omega arith)
size_three ns ts (a_variable n r x s) e h p = absurd (omega (arith, (number_some (number_of ns n)).0))
size_three ns ts (a_constant b r x s) e h p = absurd (omega arith)
size_three ns ts (a_string b r s) e h p = absurd (omega arith)

end_not_first : (c : ℕ) → T (end_class? c) → T (first_class? c) → ⊥
unfolding end_class? first_class? among
end_not_first c e f = or_else (eqb c line_end) (eqb c raw_end) e (λ h. subst (λ (z : ℕ). T (first_class? z)) (eqb→eq c line_end h) f) (λ h. subst (λ (z : ℕ). T (first_class? z)) (eqb→eq c raw_end h) f)

two_tokens : (es : List (Taken Gives Token)) → Apart colon (sources es) → T (closed (map class (sources es))) → 2 ≤ length (tokens_given es)
unfolding sources tokens_given closed
two_tokens [] a c = absurd c
two_tokens (x ∷ []) a c = absurd (end_not_first (class x.from) c (first_only (class x.from) (side colon (class x.from) a.0)))
two_tokens (x ∷ y ∷ xs) a c = omega arith

pub number_is : (n c : ℕ) (b : List ℕ) → line_number (n % 256 ∷ n / 256 ∷ c ∷ b) ≡ n
unfolding line_number
number_is n c b = omega arith

whole : (ns : List (List ℕ)) (n : ℕ) (ts : List Token) → T (lawful_number? n) → 3 ≤ length (token_bytes ns 3 ts) → T (whole_line? (line_bytes ns n ts))
unfolding whole_line? line_bytes
whole ns n ts h t =
    let b : List ℕ = token_bytes ns 3 ts in
    let six : 6 ≤ suc (suc (suc (length b))) = omega arith in
    let e : eqb (3 + length b) (suc (suc (suc (length b)))) ≡ true = eq-eqb (3 + length b) (suc (suc (suc (length b)))) (omega arith) in
    let m : T (lawful_number? (line_number (n % 256 ∷ n / 256 ∷ (3 + length b) ∷ b))) = subst (λ (z : ℕ). T (lawful_number? z)) (sym (number_is n (3 + length b) b)) h in
    and_both (leb 6 (suc (suc (suc (length b))))) _ (le→leb 6 (suc (suc (suc (length b)))) six)
    (and_both (eqb (3 + length b) (suc (suc (suc (length b))))) _ (subst T (sym e) tt) m)

-- a well-formed line is a whole line
pub well_formed_whole : (ns : List (List ℕ)) (l : List ℕ) → WellFormed ns l → T (whole_line? l)
unfolding on_run
well_formed_whole ns l w =
    let es : List (Taken Gives Token) = on_taken token_of w.lawful.taken in
    let js : List Token = map token_of w.items in
    let e : read look_token start js ≡ left es [] = sym (as_tokens w.items) ∙ ap (on_run token_of) w.lawful.reads in
    let g : tokens_given es ≡ w.tokens = sym (tokens_same w.lawful.taken) ∙ w.lawful.gives in
    let k : Known ns js es = known ns js es e (subst (λ (z : List Token). T (every (right_token? ns) z)) (sym g) w.right) in
    let sh : Shapes ns (tokens_given es) = shapes ns es k.fit colon k.side_by_side k.fine k.ended tt tt in
    let three : 3 ≤ length (token_bytes ns 3 (tokens_given es)) = size_three ns (tokens_given es) sh (starts_statement ns es k.fit k.side_by_side k.fine) (two_tokens es k.side_by_side k.ended) 3 in
    subst (λ (z : List ℕ). T (whole_line? z)) w.bytes (whole ns w.number w.tokens w.lawful_number (subst (λ (z : List Token). 3 ≤ length (token_bytes ns 3 z)) g three))

-- ---- the lines of a store, cut at a number

-- what stands where a number belongs, and what stands above it
record CutAt (n : ℕ) (r : List (List ℕ)) (above : List (List ℕ)) : Type 0 where
  pub there : List (List ℕ)
  pub are : r ≡ there ++ above
  pub one : AtMostOne n there

cut_go : (n : ℕ) (l : List ℕ) (ls : List (List ℕ)) (b : Bool) → eqb (line_number l) n ≡ b → CutAt n (l ∷ ls) (pick b ls (l ∷ ls))
cut_go n l ls true e = record { there = l ∷ []; are = refl; one = one_line l (eqb-true (line_number l) n e) }
cut_go n l ls false e = record { there = []; are = refl; one = no_line }

cut_at : (n : ℕ) (r : List (List ℕ)) → CutAt n r (pick (first_is? n r) (drop 1 r) r)
unfolding first_is?
cut_at n [] = record { there = []; are = refl; one = no_line }
cut_at n (l ∷ ls) = cut_go n l ls (eqb (line_number l) n) refl

cut_lines : (n : ℕ) (ls : List (List ℕ)) → CutAt n (lines_not_below n ls) (lines_above n ls)
unfolding lines_above
cut_lines n ls = cut_at n (lines_not_below n ls)

pub put_in : (l : List ℕ) (ls : List (List ℕ)) → PutIn (line_number l) l ls (put_line l ls)
unfolding put_line
put_in l ls =
    let n : ℕ = line_number l in
    let c = cut_lines n ls in
    record {
      below = lines_below n ls;
      replaced = c.there;
      above = lines_above n ls;
      was = sym (both_sides n ls) ∙ ap (λ (z : List (List ℕ)). lines_below n ls ++ z) c.are;
      is = refl;
      number = refl;
      same_number = c.one;
    }

removed_go : (n : ℕ) (ls r : List (List ℕ)) → T (first_is? n r) → lines_below n ls ++ r ≡ ls → TakenOut n ls (lines_below n ls ++ pick (first_is? n r) (drop 1 r) r)
unfolding first_is?
removed_go n ls [] t e = absurd t
removed_go n ls (l ∷ r) t e =
    rw (is_true (eqb (line_number l) n) t)
    (record { below = lines_below n ls; line = l; above = r; was = sym e; is = refl; number = eqb→eq (line_number l) n t })

taken_out : (n : ℕ) (ls : List (List ℕ)) → T (stored? n ls) → TakenOut n ls (take_out n ls)
unfolding take_out lines_above stored?
taken_out n ls t = removed_go n ls (lines_not_below n ls) t (both_sides n ls)

-- what the old lines take is what is used
pub used_bytes : (s : State) → T (sound_state s) → joined (lines_of s) ≡ take s.used s.store
unfolding lines_of sound_lines
used_bytes s t = bytes_back (take s.used s.store) (and_left (every whole_line? (lines_of s)) _ (state_says s t).lines)

-- ---- an accepted text

pub lines_are : (s : State) (ns ls : List (List ℕ)) → Holds ls s.store → lines_of (stored s ns ls) ≡ ls
unfolding stored lines_of
lines_are s ns ls h = h.lines

-- the names that a translated text adds, with these lines in the store
pub names_carried : (s : State) → T (sound_state s) → (p : ℕ) (rest : List ℕ) (ts : List Token) → translate p rest ≡ tokens ts → (ns : List (List ℕ)) → names_with s ts ≡ ns → lacks_room s ns ≡ false → (ls : List (List ℕ)) → Holds ls s.store
    → Carried s (stored s ns ls) (names_added (names_of s) ts)
names_carried s sound p rest ts tr ns en lacks ls h =
    let o : SoundState s = state_says s sound in
    let new : List (List ℕ) = names_added (names_of s) ts in
    let is : ns ≡ names_of s ++ new = sym en ∙ adds_front (names_of s) ts in
    let good : NamesGood (names_of s ++ new) = subst NamesGood (en ∙ is) (adds_good ts (names_of s) (names_new p rest ts tr) (names_good (names_of s) o.table.names)) in
    let r : Room s new = room_for s new o (subst (λ (z : List (List ℕ)). lacks_room s z ≡ false) is lacks) in
    let made_so : stored s ns ls ≡ made s new ls = ap (λ (z : List (List ℕ)). stored s z ls) is ∙ stored_made s new ls in
    subst (λ (z : State). Carried s z new) (sym made_so) (carried s new ls o good r h)

-- how many they are
pub count_added : (s : State) (ts : List Token) → length (names_with s ts) - length (names_of s) ≡ length (names_added (names_of s) ts)
count_added s ts = let new : List (List ℕ) = names_added (names_of s) ts in omega (arith, ap length (adds_front (names_of s) ts), length-append (names_of s) new)

put_done : (text : List ℕ) (s : State) → Numbered text s → (ts : List Token) → translate (number_end text) (past_number text) ≡ tokens ts → (ns : List (List ℕ)) → names_with s ts ≡ ns → lacks_room s ns ≡ false
    → length (joined (put_line (line_bytes ns (number_in text) ts) (lines_of s))) ≤ room s.store
    → Edited text s (record { number = 0; place = no_span; added = length ns - length (names_of s); after = stored s ns (put_line (line_bytes ns (number_in text) ts) (lines_of s)) })
put_done text s t ts tr ns en lacks fits =
    let new : List (List ℕ) = names_added (names_of s) ts in
    let n : ℕ = number_in text in
    let l : List ℕ = line_bytes ns n ts in
    let ls : List (List ℕ) = put_line l (lines_of s) in
    let a : State = stored s ns ls in
    let p : ℕ = number_end text in
    let wf : WellFormed ns l = subst (λ (z : List (List ℕ)). WellFormed z (line_bytes z n ts)) en (stored_well_formed (names_of s) n p (past_number text) ts t.lawful tr) in
    let h : Holds ls s.store = holds ls s.store (put_sound l (lines_of s) (well_formed_whole ns l wf) (state_says s t.sound).lines) fits in
    let k : Carried s a new = names_carried s t.sound p (past_number text) ts tr ns en lacks ls h in
    let names : names_of a ≡ ns = k.names ∙ sym (adds_front (names_of s) ts) ∙ en in
    let put : PutIn n l (lines_of s) ls = subst (λ (z : ℕ). PutIn z l (lines_of s) ls) (line_number_of ns n ts) (put_in l (lines_of s)) in
    let line : l ≡ line_with s n ts = ap (λ (z : List (List ℕ)). line_bytes z n ts) (sym en) in
    line_put ts new (translated_lawful p (past_number text) ts tr) (names ∙ sym en) (ap (λ (z : List (List ℕ)). length z - length (names_of s)) (sym en) ∙ count_added s ts) k
    (subst (λ (z : List ℕ). PutIn n z (lines_of s) (lines_of a)) line (subst (PutIn n l (lines_of s)) (sym (lines_are s ns ls h)) put))
    (subst (λ (z : List (List ℕ)). WellFormed z (line_with s n ts)) (sym names) (subst (WellFormed ns) line wf))

gone_done : (text : List ℕ) (s : State) → Numbered text s → T (every blank? (past_number text)) → T (stored? (number_in text) (lines_of s))
    → Edited text s (record { number = 0; place = no_span; added = 0; after = stored s (names_of s) (take_out (number_in text) (lines_of s)) })
gone_done text s t b st =
    let o : SoundState s = state_says s t.sound in
    let n : ℕ = number_in text in
    let ls : List (List ℕ) = take_out n (lines_of s) in
    let a : State = stored s (names_of s) ls in
    let is : names_of s ≡ names_of s ++ [] = sym (append-nil (names_of s)) in
    let used : length (joined (lines_of s)) ≤ room s.store = omega (arith, ap length (used_bytes s t.sound), length-take s.used s.store, o.used_fits) in
    let fits : length (joined ls) ≤ room s.store = le_trans (out_less n (lines_of s)) used in
    let h : Holds ls s.store = holds ls s.store (out_sound n (lines_of s) o.lines) fits in
    let made_so : a ≡ made s [] ls = ap (λ (z : List (List ℕ)). stored s z ls) is ∙ stored_made s [] ls in
    let k : Carried s a [] = subst (λ (z : State). Carried s z []) (sym made_so) (carried s [] ls o (subst NamesGood is (names_good (names_of s) o.table.names)) (no_more s o) h) in
    line_gone b refl k (subst (TakenOut n (lines_of s)) (sym (lines_are s (names_of s) ls h)) (taken_out n (lines_of s) st))

-- an answer with number 0 is one of the two edits
pub edited_so : (text : List ℕ) (s : State) (e : Entered) → Answer text s e → e.number ≡ 0 → Edited text s e
unfolding refusal among
edited_so text s e (refused_outright k h) z = absurd (not_outright k 0 h tt z)
edited_so text s e (refused_there t k q h w) z = absurd (four_or_five (items_in text) k q h (λ x. omega arith) (λ x. omega arith))
edited_so text s e (puts_line t ts tr lacks fits) z = put_done text s t ts tr (names_with s ts) refl lacks fits
edited_so text s e (drops_line t b st) z = gone_done text s t b st

-- every accepted text did one of the two edits
pub edited : (text : List ℕ) (s : State) → (enter text s).number ≡ 0 → Edited text s (enter text s)
edited text s z = edited_so text s (enter text s) (answer text s) z

-- what is kept by the edits is so after every text, since a refused one leaves the state as it is
pub after_any : (P : State → Type 0) (text : List ℕ) (s : State) → P s → ((e : Entered) → Edited text s e → P e.after) → P (enter text s).after
unfolding refusal
after_any P text s h k = go (enter text s) (answer text s)
  where
    go : (e : Entered) → Answer text s e → P e.after
    go e (refused_outright n x) = h
    go e (refused_there t n q x w) = h
    go e (puts_line t ts tr lacks fits) = k e (edited_so text s e (puts_line t ts tr lacks fits) refl)
    go e (drops_line t b st) = k e (edited_so text s e (drops_line t b st) refl)

-- the state after an edit is sound
pub sound_after : (text : List ℕ) (s : State) (e : Entered) → Edited text s e → T (sound_state e.after)
sound_after text s e (line_put ts new lawful names added k put wf) = k.sound
sound_after text s e (line_gone b added k out) = k.sound

-- a sound state stays sound
pub stays_sound : (text : List ℕ) (s : State) → T (sound_state s) → T (sound_state (enter text s).after)
stays_sound text s o = after_any (λ z. T (sound_state z)) text s o (sound_after text s)
