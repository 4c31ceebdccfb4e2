-- Entering a text, from what reading it told.
use Prim.Native.Nat.{ℕ, ◌+◌, ◌≤◌, ◌<◌}
use native.Mathlib.Omega.{arith}
use mathlib.Core.Path.{◌≡◌, refl, sym, ap, ◌∙◌, subst}
use mathlib.Core.Bool.{Bool, true, false, ◌&&◌}
use mathlib.Core.List.{List}
use lib.Dec.{T, ltb, eqb, leb}
use lib.ListN.{length, take, drop}
use lib.Seq.{drop-drop}
use borrow.Author.Tests.{lt-ltb, le-ltb, lt-leb, le-leb, leb-true, ne_eqb}
use Rattle.paper.specs.Bytes.{pick, blank?, digit?, run}
use Rattle.paper.specs.Tokens.{Token}
use Rattle.paper.specs.Constants.{value}
use Rattle.paper.specs.Items.{Span, span, no_span}
use Rattle.paper.specs.Names.{names_in, name_bytes, add_names}
use Rattle.paper.specs.Line.{line_bytes, line_number, lawful_number?, direct_number?, direct_number}
use Rattle.paper.specs.Errors.{error_line, keepable?}
use Rattle.paper.specs.Store.{stored?}
use Rattle.paper.specs.Calls.{State, names_of, lines_of, sound_state, Entered, refusal, Translated, tokens, refused_at, translate, unless_short, accept, answered, delete, Head, numbered, too_great, only_blanks, unnumbered, head_of, at_head, enter_sound, enter, keep_line, kept, enter_with}
use Rattle.paper.specs.Direct.{Typed, same_buffer, answered_direct, unnumbered?, typed}
use Rattle.laws.specs.Names.{names_added, closed?, closed_names}
use Rattle.laws.specs.Tests.{is_true}
use Rattle.buffers.specs.Sets.{front}
use Rattle.enter_item.specs.Draft.{written_line}
use Rattle.enter_item.specs.DraftLaws.{line_fits, line_size}
use Rattle.enter_line.specs.Reading.{Start, statements, number_alone, nothing, start_at, keeps?, error_of, of_refused, of_translated, of_start, gives_line, gives_deletion, gives_refusal, gives_kept, as_answer, Accepted, Told}
use Rattle.enter_line.specs.declared.Line.{Line}
use Rattle.enter_line.specs.declared.Reading.{Reading}
use Rattle.enter_line.specs.declared.Reading.TheVariants.{Read, Delete, Kept}
use Rattle.std.specs.Prelude.{Result, Ok, Err}
use Rattle.refusals.specs.Numbers.{number_of}
use Rattle.refusals.specs.declared.Refusal.TheVariants.{LongText}
use Rattle.refusals.specs.declared.RefusedItem.{RefusedItem}
use Rattle.editor_edit.specs.declared.Editor.{Editor}
use Rattle.editor_edit.specs.States.{state}
use Rattle.editor_accept.specs.Lines.{Written}
use Rattle.editor.specs.Readings.{Ready, accept_read, Edits, typed_if, Prepared}

-- ---- what is to come of a text, by what it is to be read as

module _ (s : State) (keep : Bool) (text : List ℕ) where
  -- what the switch makes of an answer to a text with this head
  abbrev pub switched : Head → Entered → Entered
  switched h e = pick keep (kept text s h e) e

  either_same : (b : Bool) (e : Entered) → pick b e e ≡ e
  either_same true e = refl
  either_same false e = refl

  -- only 4 is kept
  pub not_four : (h : Head) (e : Entered) → eqb e.number 4 ≡ false → switched h e ≡ e
  unfolding kept
  not_four (numbered n p rest) e f = rw f (either_same keep e)
  not_four too_great e f = either_same keep e
  not_four only_blanks e f = either_same keep e
  not_four unnumbered e f = either_same keep e

short_not_four : (s : State) (lacking : Bool) (line : List ℕ) (unfitting : Bool) (e : Entered) → e.number ≡ 0 → eqb (unless_short (λ k. refusal k no_span s) lacking line unfitting e).number 4 ≡ false
unfolding unless_short refusal
short_not_four s lacking line unfitting e h = go lacking (ltb 255 (length line)) unfitting
  where
    go : (a b c : Bool) → eqb (pick a (refusal 6 no_span s) (pick b (refusal 7 no_span s) (pick c (refusal 8 no_span s) e))).number 4 ≡ false
    go true b c = refl
    go false true c = refl
    go false false true = refl
    go false false false = rw h

accept_not_four : (s : State) (n : ℕ) (ts : List Token) → eqb (accept s n ts).number 4 ≡ false
unfolding accept
accept_not_four s n ts = short_not_four s _ _ _ _ refl

delete_not_four : (s : State) (n : ℕ) → eqb (delete s n).number 4 ≡ false
unfolding delete refusal
delete_not_four s n = go (stored? n (lines_of s)) _ refl
  where
    go : (b : Bool) (e : Entered) → e.number ≡ 0 → eqb (pick b e (refusal 9 no_span s)).number 4 ≡ false
    go true e h = rw h
    go false e h = refl

module _ (s : State) (buffer : List ℕ) (keep : Bool) (text : List ℕ) where
  -- the answer to a translation of the line n, whose digits end at p
  abbrev answered_read : ℕ → ℕ → Translated → Typed
  answered_read n p (tokens ts) = accept_read s buffer n ts
  answered_read n p (refused_at k there) = same_buffer buffer (pick (keeps? keep text n k there.start) (keep_line s (error_of text n p there.start) there) (refusal k there s))

  abbrev by_start : Start → Typed
  by_start (statements n p) = answered_read n p (translate p (drop p text))
  by_start (number_alone n) = same_buffer buffer (delete s n)
  by_start nothing = same_buffer buffer (refusal 3 no_span s)

  -- statements after a number are for the store
  answered_numbered : (n p : ℕ) (rest : List ℕ) → n ≤ 32767 → (t : Translated) → answered_read n p t ≡ same_buffer buffer (switched s keep text (numbered n p rest) (answered s n t))
  unfolding answered accept_read direct_number? keeps? kept refusal
  answered_numbered n p rest h (tokens ts) =
      rw (ne_eqb n direct_number (λ z. omega arith)) (ap (same_buffer buffer) (sym (not_four s keep text (numbered n p rest) (accept s n ts) (accept_not_four s n ts))))
  answered_numbered n p rest h (refused_at k there) = rw (ne_eqb n direct_number (λ z. omega arith)) (ap (same_buffer buffer) (go keep (eqb k 4 && keepable? there.start text) _ _))
    where
      go : (b c : Bool) (x y : Entered) → pick (b && c) x y ≡ pick b (pick c x y) y
      go true c x y = refl
      go false c x y = refl

  -- those without one for the line buffer
  answered_without : (t : Translated) → answered_read direct_number 0 t ≡ answered_direct s buffer t
  unfolding answered_direct accept_read direct_number? keeps?
  answered_without (tokens ts) = refl
  answered_without (refused_at k there) = ap (same_buffer buffer) (go keep _ _)
    where
      go : (b : Bool) (x y : Entered) → pick (b && false) x y ≡ y
      go true x y = refl
      go false x y = refl

  -- what is to come of a text with this head
  abbrev by_head : Bool → Head → Typed
  by_head direct h = pick (unnumbered? h && direct) (answered_direct s buffer (translate 0 text)) (same_buffer buffer (switched s keep text h (at_head s h)))

  numbered_so : (direct : Bool) (n b d : ℕ) → n ≤ 32767
      → by_start (start_at direct (numbered n (b + d) (drop d (drop b text)))) ≡ same_buffer buffer (switched s keep text (numbered n (b + d) (drop d (drop b text))) (at_head s (numbered n (b + d) (drop d (drop b text)))))
  unfolding start_at at_head
  numbered_so direct n b d h = go (eqb (run blank? (drop d (drop b text))) (length (drop d (drop b text))))
    where
      go : (alone : Bool) → by_start (pick alone (number_alone n) (statements n (b + d)))
          ≡ same_buffer buffer (switched s keep text (numbered n (b + d) (drop d (drop b text))) (pick alone (delete s n) (answered s n (translate (b + d) (drop d (drop b text))))))
      go true = ap (same_buffer buffer) (sym (not_four s keep text (numbered n (b + d) (drop d (drop b text))) (delete s n) (delete_not_four s n)))
      go false = ap (λ (l : List ℕ). answered_read n (b + d) (translate (b + d) l)) (sym (drop-drop d b text)) ∙ answered_numbered n (b + d) (drop d (drop b text)) h (translate (b + d) (drop d (drop b text)))

  refused_so : (h : Head) → same_buffer buffer (refusal 3 no_span s) ≡ same_buffer buffer (switched s keep text h (refusal 3 no_span s))
  unfolding refusal
  refused_so h = ap (same_buffer buffer) (sym (not_four s keep text h (refusal 3 no_span s) refl))

  -- the start of a text gives what its head gives
  start_so : (direct : Bool) → by_start (start_at direct (head_of text)) ≡ by_head direct (head_of text)
  unfolding head_of lawful_number? start_at at_head unnumbered?
  start_so direct =
      let b = run blank? text in
      let d = run digit? (drop b text) in
      let n = value 0 (take d (drop b text)) in
      go n b d (eqb d 0) (eqb b (length text)) (leb n 32767) refl
    where
      without : (b : Bool) → by_start (pick b (statements direct_number 0) nothing) ≡ pick b (answered_direct s buffer (translate 0 text)) (same_buffer buffer (switched s keep text unnumbered (refusal 3 no_span s)))
      without true = answered_without (translate 0 text)
      without false = refused_so unnumbered

      go : (n b d : ℕ) (none blanks small : Bool) → leb n 32767 ≡ small
          → (let h = pick none (pick blanks only_blanks unnumbered) (pick small (numbered n (b + d) (drop d (drop b text))) too_great) in by_start (start_at direct h) ≡ by_head direct h)
      go n b d true true small e = refused_so only_blanks
      go n b d true false small e = without direct
      go n b d false blanks true e = numbered_so direct n b d (leb-true n 32767 e)
      go n b d false blanks false e = refused_so too_great

-- ---- a line that was read

module _ {ks : List (List ℕ)} {n : ℕ} {ts : List Token} {line fresh line' fresh' : List ℕ} (a : Accepted ks n ts line fresh line' fresh') (named : ℕ) (is : named ≡ length (name_bytes (names_added ks ts)))
    (room : 240 ≤ length fresh) (part : List ℕ) (whole : part ≡ take named fresh') where
  -- the new names' bytes
  part_is : part ≡ name_bytes (names_added ks ts)
  part_is =
      whole ∙ ap (λ (k : ℕ). take k fresh') is ∙ ap (take (length (name_bytes (names_added ks ts)))) a.names_put ∙ front fresh (name_bytes (names_added ks ts)) (omega (arith, a.few))

  part_closed : closed? part ≡ true
  part_closed = ap closed? part_is ∙ closed_names (names_added ks ts)

  line_is : (size : ℕ) → size ≡ length (line_bytes (add_names ks ts) n ts) → 255 ≤ length line → size ≤ 255 → length (add_names ks ts) ≤ 256 → take size line' ≡ line_bytes (add_names ks ts) n ts
  line_is size e fits short few =
      let k : size ≡ length (written_line ks n ts) = e ∙ sym (line_size ks n ts) in
      ap (λ (x : ℕ). take x line') k
      ∙ ap (take (length (written_line ks n ts))) a.line_put
      ∙ front line (written_line ks n ts) (omega (arith, k))
      ∙ line_fits ks n ts few (omega (arith, e))

  -- they are a line as it was read
  written : (size : ℕ) → size ≡ length (line_bytes (add_names ks ts) n ts) → 255 ≤ length line → Written ks n ts line' size part
  written size e fits = record { new = ap names_in part_is ∙ a.told_apart; closed = part_closed; length_is = e; bytes = line_is size e fits }

-- ---- the answers

-- the tokens of a line that was read, and its lengths
record Tokens (ks : List (List ℕ)) (text : List ℕ) (st : Start) (l : Line) : Type 0 where
  p : ℕ
  ts : List Token
  start : st ≡ statements l.number p
  translated : translate p (drop p text) ≡ tokens ts
  size : l.size ≡ length (line_bytes (add_names ks ts) l.number ts)
  named : l.named ≡ length (name_bytes (names_added ks ts))

-- the error line of a text that is kept, and its place
record Wrong (keep : Bool) (text : List ℕ) (st : Start) (l : Line) (a b : ℕ) : Type 0 where
  p : ℕ
  k : ℕ
  there : Span
  start : st ≡ statements l.number p
  translated : translate p (drop p text) ≡ refused_at k there
  keeps : keeps? keep text l.number k there.start ≡ true
  size : l.size ≡ length (error_of text l.number p there.start)
  stands : span a b ≡ there

module _ (keep : Bool) (ks : List (List ℕ)) (text : List ℕ) where
  tokens_go : (l : Line) (n p : ℕ) (t : Translated) → translate p (drop p text) ≡ t → gives_line l ≡ of_translated keep ks text n p t → Tokens ks text (statements n p) l
  unfolding of_translated of_refused
  tokens_go l n p (refused_at k there) et e = go (keeps? keep text n k there.start) e
    where
      go : (c : Bool) → gives_line l ≡ pick c (gives_kept (record { number = n; size = length (error_of text n p there.start); named = 0 }) 4 there.start there.end) (gives_refusal k there.start there.end) → Tokens ks text (statements n p) l
      go true e = let z : ◌≡◌ {A = ℕ} 0 1 = cc in absurd (omega arith)
      go false e = let z : ◌≡◌ {A = ℕ} 0 1 = cc in absurd (omega arith)
  tokens_go l n p (tokens ts) et e =
      let same : ◌≡◌ {A = Line} (record { number = n; size = length (line_bytes (add_names ks ts) n ts); named = length (name_bytes (names_added ks ts)) }) l = cc in
      subst (Tokens ks text (statements n p)) same (record { p = p; ts = ts; start = refl; translated = et; size = refl; named = refl })

  tokens_of_start : (st : Start) (l : Line) → gives_line l ≡ of_start keep ks text st → Tokens ks text st l
  unfolding of_start
  tokens_of_start (statements n p) l e = tokens_go l n p (translate p (drop p text)) refl e
  tokens_of_start (number_alone n) l e = let z : ◌≡◌ {A = ℕ} 0 1 = cc in absurd (omega arith)
  tokens_of_start nothing l e = let z : ◌≡◌ {A = ℕ} 0 1 = cc in absurd (omega arith)

  wrong_go : (l : Line) (m a b n p : ℕ) (t : Translated) → translate p (drop p text) ≡ t → gives_kept l m a b ≡ of_translated keep ks text n p t → Wrong keep text (statements n p) l a b
  unfolding of_translated of_refused
  wrong_go l m a b n p (tokens ts) et e = let z : ◌≡◌ {A = ℕ} 0 1 = cc in absurd (omega arith)
  wrong_go l m a b n p (refused_at k there) et e = go (keeps? keep text n k there.start) refl e
    where
      go : (c : Bool) → keeps? keep text n k there.start ≡ c
          → gives_kept l m a b ≡ pick c (gives_kept (record { number = n; size = length (error_of text n p there.start); named = 0 }) 4 there.start there.end) (gives_refusal k there.start there.end) → Wrong keep text (statements n p) l a b
      go false f e = let z : ◌≡◌ {A = ℕ} 0 1 = cc in absurd (omega arith)
      go true f e =
          let same : ◌≡◌ {A = Line} (record { number = n; size = length (error_of text n p there.start); named = 0 }) l = cc in
          let i : a ≡ there.start = cc in
          let j : b ≡ there.end = cc in
          subst (λ (x : Line). Wrong keep text (statements n p) x a b) same (record { p = p; k = k; there = there; start = refl; translated = et; keeps = f; size = refl; stands = rw (i, j) })

  wrong_of_start : (st : Start) (l : Line) (m a b : ℕ) → gives_kept l m a b ≡ of_start keep ks text st → Wrong keep text st l a b
  unfolding of_start
  wrong_of_start (statements n p) l m a b e = wrong_go l m a b n p (translate p (drop p text)) refl e
  wrong_of_start (number_alone n) l m a b e = let z : ◌≡◌ {A = ℕ} 0 1 = cc in absurd (omega arith)
  wrong_of_start nothing l m a b e = let z : ◌≡◌ {A = ℕ} 0 1 = cc in absurd (omega arith)

module _ (s : State) (buffer : List ℕ) (keep : Bool) (ks : List (List ℕ)) (text : List ℕ) where
  refused_go : (n p k a b : ℕ) (t : Translated) → gives_refusal k a b ≡ of_translated keep ks text n p t → same_buffer buffer (refusal k (span a b) s) ≡ answered_read s buffer keep text n p t
  unfolding of_translated of_refused
  refused_go n p k a b (tokens ts) e = let z : ◌≡◌ {A = ℕ} 0 1 = cc in absurd (omega arith)
  refused_go n p k a b (refused_at k' there) e = go (keeps? keep text n k' there.start) e
    where
      go : (c : Bool) → gives_refusal k a b ≡ pick c (gives_kept (record { number = n; size = length (error_of text n p there.start); named = 0 }) 4 there.start there.end) (gives_refusal k' there.start there.end)
          → same_buffer buffer (refusal k (span a b) s) ≡ same_buffer buffer (pick c (keep_line s (error_of text n p there.start) there) (refusal k' there s))
      go true e = let z : ◌≡◌ {A = ℕ} 0 1 = cc in absurd (omega arith)
      go false e =
          let i : k ≡ k' = cc in
          let j : a ≡ there.start = cc in
          let l : b ≡ there.end = cc in
          rw (i, j, l)

  -- what reading refuses is refused
  refused_start : (k a b : ℕ) (st : Start) → gives_refusal k a b ≡ of_start keep ks text st → same_buffer buffer (refusal k (span a b) s) ≡ by_start s buffer keep text st
  unfolding of_start
  refused_start k a b (statements n p) e = refused_go n p k a b (translate p (drop p text)) e
  refused_start k a b (number_alone n) e = let z : ◌≡◌ {A = ℕ} 0 1 = cc in absurd (omega arith)
  refused_start k a b nothing e =
      let i : k ≡ 3 = cc in
      let j : a ≡ 0 = cc in
      let l : b ≡ 0 = cc in
      rw (i, j, l)

  delete_go : (n p m : ℕ) (t : Translated) → gives_deletion m ≡ of_translated keep ks text n p t → same_buffer buffer (delete s m) ≡ answered_read s buffer keep text n p t
  unfolding of_translated of_refused
  delete_go n p m (tokens ts) e = let z : ◌≡◌ {A = ℕ} 0 1 = cc in absurd (omega arith)
  delete_go n p m (refused_at k there) e = absurd (go (keeps? keep text n k there.start) e)
    where
      go : (c : Bool) → gives_deletion m ≡ pick c (gives_kept (record { number = n; size = length (error_of text n p there.start); named = 0 }) 4 there.start there.end) (gives_refusal k there.start there.end) → ⊥
      go true e = let z : ◌≡◌ {A = ℕ} 0 1 = cc in omega arith
      go false e = let z : ◌≡◌ {A = ℕ} 0 1 = cc in omega arith

  -- what is read as a number alone deletes
  delete_start : (m : ℕ) (st : Start) → gives_deletion m ≡ of_start keep ks text st → same_buffer buffer (delete s m) ≡ by_start s buffer keep text st
  unfolding of_start
  delete_start m (statements n p) e = delete_go n p m (translate p (drop p text)) e
  delete_start m (number_alone n) e = let i : m ≡ n = cc in rw i
  delete_start m nothing e = let z : ◌≡◌ {A = ℕ} 0 1 = cc in absurd (omega arith)

  -- what is read as a line is accepted
  accept_start : (st : Start) (l : Line) (x : Tokens ks text st l) → accept_read s buffer l.number x.ts ≡ by_start s buffer keep text st
  accept_start st l x = sym (ap (by_start s buffer keep text) x.start ∙ ap (answered_read s buffer keep text l.number x.p) x.translated)

  -- what is read as a wrong line is kept
  keep_start : (st : Start) (l : Line) (a b : ℕ) (x : Wrong keep text st l a b) → same_buffer buffer (keep_line s (error_of text l.number x.p x.there.start) (span a b)) ≡ by_start s buffer keep text st
  keep_start st l a b x =
      ap (λ (there : Span). same_buffer buffer (keep_line s (error_of text l.number x.p x.there.start) there)) x.stands
      ∙ sym (ap (by_start s buffer keep text) x.start ∙ ap (answered_read s buffer keep text l.number x.p) x.translated ∙ rw x.keeps)

-- the number of an error line
error_number : (n : ℕ) (text : List ℕ) → line_number (error_line n text) ≡ n
unfolding line_number error_line
error_number n text = omega arith

module _ (names : List ℕ) (e : Editor) (keep direct : Bool) (text line fresh line' fresh' : List ℕ) (r : Result Reading RefusedItem) (fits : 255 ≤ length line) (room : 240 ≤ length fresh)
    (told : Told (names_in (take e.name_bytes names)) keep direct text line fresh line' fresh' r) where
  abbrev ks : List (List ℕ)
  ks = names_in (take e.name_bytes names)

  abbrev begun : Start
  begun = start_at direct (head_of text)

  tokens_read : (l : Line) → r ≡ Ok (Read l) → Tokens ks text begun l
  tokens_read l q = tokens_of_start keep ks text begun l (ap as_answer (sym q) ∙ told.answer)

  line_written : (l : Line) (q : r ≡ Ok (Read l)) → Written ks l.number (tokens_read l q).ts line' l.size (take l.named fresh')
  line_written l q =
      let x = tokens_read l q in
      written (told.accepted l.number x.p x.ts x.start x.translated) l.named x.named room (take l.named fresh') refl l.size x.size fits

  wrong_read : (l : Line) (i : RefusedItem) → r ≡ Ok (Kept l i) → Wrong keep text begun l i.place i.end
  wrong_read l i q = wrong_of_start keep ks text begun l (number_of i.refusal) i.place i.end (ap as_answer (sym q) ∙ told.answer)

  error_written : (l : Line) (i : RefusedItem) (q : r ≡ Ok (Kept l i)) → (let x = wrong_read l i q in take l.size line' ≡ error_of text l.number x.p x.there.start)
  error_written l i q =
      let x = wrong_read l i q in
      ap (λ (n : ℕ). take n line') x.size ∙ told.kept l.number x.p x.k x.there x.start x.translated x.keeps

  -- a line can be edited by
  reads_line : Ready ks line' fresh' r
  reads_line = record {
    read = λ l q. record { ts = (tokens_read l q).ts; written = line_written l q };
    kept = λ l i q. ap line_number (error_written l i q) ∙ error_number l.number _;
  }

  -- and what comes of the edit is what the text's start gives
  edits_so : (values store buffer : List ℕ) (q : Result Reading RefusedItem) → r ≡ q → (o : Typed) → Edits (state names values store e) buffer line' fresh' q o → o ≡ by_start (state names values store e) buffer keep text begun
  unfolding Edits names_of
  edits_so values store buffer (Err i) q o h = h ∙ refused_start (state names values store e) buffer keep ks text (number_of i.refusal) i.place i.end begun (ap as_answer (sym q) ∙ told.answer)
  edits_so values store buffer (Ok (Delete n)) q o h = h ∙ delete_start (state names values store e) buffer keep ks text n begun (ap as_answer (sym q) ∙ told.answer)
  edits_so values store buffer (Ok (Read l)) q o h =
      h (tokens_read l q).ts (line_written l q) ∙ accept_start (state names values store e) buffer keep ks text begun l (tokens_read l q)
  edits_so values store buffer (Ok (Kept l i)) q o h =
      h
      ∙ ap (λ (x : List ℕ). same_buffer buffer (keep_line (state names values store e) x (span i.place i.end))) (error_written l i q)
      ∙ keep_start (state names values store e) buffer keep ks text begun l i.place i.end (wrong_read l i q)

-- ---- a text of any length

module _ (s : State) (sound : T (sound_state s)) (buffer : List ℕ) (keep direct : Bool) (text : List ℕ) where
  -- 2
  long_so : 120 < length text → same_buffer buffer (refusal 2 no_span s) ≡ typed_if keep direct text s buffer
  unfolding typed enter_with enter enter_sound refusal
  long_so h = sym (go direct)
    where
      two : same_buffer buffer (switched s keep text (head_of text) (refusal 2 no_span s)) ≡ same_buffer buffer (refusal 2 no_span s)
      two = ap (same_buffer buffer) (not_four s keep text (head_of text) (refusal 2 no_span s) refl)

      go : (b : Bool) → typed_if keep b text s buffer ≡ same_buffer buffer (refusal 2 no_span s)
      go true = rw (is_true (sound_state s) sound, lt-leb (length text) 120 h, lt-ltb 120 (length text) h) two
      go false = rw (is_true (sound_state s) sound, lt-ltb 120 (length text) h) two

  -- a text that is not too long
  short_so : length text ≤ 120 → by_head s buffer keep text direct (head_of text) ≡ typed_if keep direct text s buffer
  unfolding typed enter_with enter enter_sound
  short_so h = go direct
    where
      not_read : (u : Bool) (x y : Typed) → pick (u && false) x y ≡ y
      not_read true x y = refl
      not_read false x y = refl

      is_read : (u : Bool) → u && true ≡ u
      is_read true = refl
      is_read false = refl

      go : (b : Bool) → by_head s buffer keep text b (head_of text) ≡ typed_if keep b text s buffer
      go true = sym (rw (is_true (sound_state s) sound, le-leb (length text) 120 h, le-ltb 120 (length text) h, is_read (unnumbered? (head_of text))))
      go false = not_read (unnumbered? (head_of text)) _ _ ∙ sym (rw (is_true (sound_state s) sound, le-ltb 120 (length text) h))

pub long_text : (keep direct : Bool) (names : List ℕ) (e : Editor) (text line fresh : List ℕ) → 120 < length text → Prepared keep direct names e text line fresh (Err (record { refusal = LongText; place = 0; end = 0 }))
unfolding Edits
long_text keep direct names e text line fresh h =
    record {
      ready = record {
        read = λ l q. let z : ◌≡◌ {A = ℕ} 0 1 = cc in absurd (omega arith);
        kept = λ l i q. let z : ◌≡◌ {A = ℕ} 0 1 = cc in absurd (omega arith);
      };
      gives = λ values store buffer t o q. q ∙ long_so (state names values store e) t buffer keep direct text h;
    }

pub short_text : (keep direct : Bool) (names : List ℕ) (e : Editor) (text line fresh line' fresh' : List ℕ) (r : Result Reading RefusedItem) → length text ≤ 120 → 255 ≤ length line → 240 ≤ length fresh
    → Told (names_in (take e.name_bytes names)) keep direct text line fresh line' fresh' r → Prepared keep direct names e text line' fresh' r
short_text keep direct names e text line fresh line' fresh' r h fits room told =
    record {
      ready = reads_line names e keep direct text line fresh line' fresh' r fits room told;
      gives = λ values store buffer t o q.
          edits_so names e keep direct text line fresh line' fresh' r fits room told values store buffer r refl o q
          ∙ start_so (state names values store e) buffer keep text direct
          ∙ short_so (state names values store e) t buffer keep direct text h;
    }
