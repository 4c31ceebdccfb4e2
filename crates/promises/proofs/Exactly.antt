-- Exactly when each number is answered to a text, and to a listing (document 01, "Numbers returned").
use Rattle.std.specs.Prelude.{ℕ, ◌+◌, ◌<◌, ◌≡◌, Bool, not, T, ltb}
use Rattle.std.proofs.Common.{arith, sym, ap, ◌∙◌, T_not, ltb→lt, eqb→eq, length-append, length-take-le}
use Rattle.std.proofs.Math.Path.{refl, subst}
use Rattle.std.proofs.Math.Bool.{true, false}
use Rattle.std.proofs.Math.Logic.{inl, inr, ⊎_elim}
use mathlib.Core.List.Memᴰ
use mathlib.Core.List.{List, [], ◌∷◌, ◌++◌, Memᴰ}
use Rattle.std.proofs.Math.Dec.{eqb, leb}
use Rattle.std.proofs.Math.ListN.{length}
use Rattle.std.proofs.Math.Seq.{drop-append_seam}
use borrow.Author.Tests.{leb-true, leb-false, eqb-true, eqb-false, lt-ltb, le-ltb, eq-eqb, not-false}
use Rattle.paper.specs.Bytes.{pick, blank?, run, every, joined}
use Rattle.paper.specs.Tokens.{Token}
use Rattle.paper.specs.Names.{most_names, name_bytes}
use Rattle.paper.specs.Items.{Item, Span, no_span, items}
use Rattle.paper.specs.Line.{line_number, lawful_number?}
use Rattle.paper.specs.WellFormed.{Lawful}
use Rattle.paper.specs.Errors.{listable?, line_listing}
use Rattle.paper.specs.Store.{whole_line?, rising_above, rising, sound_lines, room, lines_not_below, first_is?, first_line, stored?, line_at, put_line}
use Rattle.paper.specs.Calls.{State, names_of, lines_of, sound_state, Entered, refusal, Translated, tokens, refused_at, translate, lacks_room, unless_short, accept, answered, delete, numbered, too_great, only_blanks, unnumbered, head_of, at_head, enter_sound, enter, Listed, not_listed, listed_if, list_sound, list}
use Rattle.laws.specs.Tests.{and_left, and_right, as_T, or_else}
use Rattle.laws.specs.Names.{names_added, adds_front, name_bytes_append}
use Rattle.promises.specs.Terms.{after_blanks, digit_count, number_in, number_end, past_number, FirstHolding, none_holds, this_holds, later_holds, Exactly, SoundState, Unsound, TextTooLong, NoLineNumber, Unread, TooFar, Giving, names_with, NamesLackRoom, line_with, LineTooLong, old_size, StoreLacksRoom, NoSuchLine, OfLine, entry_refusals, deletion_refusals, text_refusals, listing_refusals}
use Rattle.promises.proofs.ErrorLines.{listable_says, says_listable}
use Rattle.grounds.specs.Decoding.{line_number_of}
use Rattle.promises.proofs.Stored.{no_lower}
use Rattle.promises.proofs.States.{state_says, says_state, room_for}
use Rattle.promises.proofs.Refusals.{Refusal, no_reading, too_far, translation_refused}
use Rattle.promises.proofs.Accepted.{translated_lawful}
use Rattle.grounds.specs.Lists.{run_whole}
use Rattle.promises.proofs.ReEntry.{put_size}
use Rattle.promises.proofs.OnePlace.{not_both, one_tokens, translated_readable, not_refused}
use Rattle.promises.proofs.Tested.{exactly, Says, says_less, says_not, tested, passed}

-- ---- 1

-- the test of sound tables and store
pub says_unsound : (s : State) → Says (not (sound_state s)) (Unsound s)
says_unsound s = says_not (sound_state s) (state_says s) (says_state s)

-- ---- 6: names

module _ (s : State) (o : SoundState s) (new : List (List ℕ)) where
  -- how many bytes all names take
  names_size : length (name_bytes (names_of s ++ new)) ≡ s.name_size + length (name_bytes new)
  names_size =
      let front : length (name_bytes (names_of s)) ≡ s.name_size = ap length o.table.bytes ∙ length-take-le s.name_size s.names o.table.fits in
      omega (arith, ap length (name_bytes_append (names_of s) new), length-append (name_bytes (names_of s)) (name_bytes new))

  lacks_so : lacks_room s (names_of s ++ new) ≡ true → NamesLackRoom s (names_of s ++ new)
  unfolding lacks_room
  lacks_so e =
      let ns : List (List ℕ) = names_of s ++ new in
      let t = and_right (ltb (length (names_of s)) (length ns)) _ (as_T _ (rw (drop-append_seam (names_of s) new) at e)) in
      or_else (ltb most_names (length ns)) _ t (λ a. inl (ltb→lt most_names (length ns) a))
      (λ r. or_else (ltb (length s.names) (s.name_size + length (name_bytes new))) _ r (λ b. inr (inl (subst (λ (z : ℕ). length s.names < z) (sym names_size) (ltb→lt _ _ b))))
      (λ c. inr (inr (ltb→lt _ _ c))))

  room_so : lacks_room s (names_of s ++ new) ≡ false → NamesLackRoom s (names_of s ++ new) → ⊥
  room_so e =
      let r = room_for s new o e in
      let l = length-append (names_of s) new in
      ⊎_elim (λ h. omega (arith, r.count)) (⊎_elim (λ h. omega (arith, r.bytes, names_size)) (λ h. omega (arith, r.values)))

-- the test of the new names says it of the whole table
says_lacking : (s : State) → SoundState s → (ts : List Token) → Says (lacks_room s (names_with s ts)) (NamesLackRoom s (names_with s ts))
says_lacking s o ts =
    let new : List (List ℕ) = names_added (names_of s) ts in
    subst (λ (ns : List (List ℕ)). Says (lacks_room s ns) (NamesLackRoom s ns)) (sym (adds_front (names_of s) ts)) (lacks_so s o new, room_so s o new)

-- ---- 8: store room

-- the test of all lines says it of the one put in
says_full : (s : State) → T (sound_state s) → (n : ℕ) (ts : List Token) → Says (ltb (room s.store) (length (joined (put_line (line_with s n ts) (lines_of s))))) (StoreLacksRoom s n ts)
says_full s o n ts =
    let l : List ℕ = line_with s n ts in
    let new : ℕ = length (joined (put_line l (lines_of s))) in
    let z : new + old_size n s ≡ s.used + length l = subst (λ (m : ℕ). new + old_size m s ≡ s.used + length l) (line_number_of (names_with s ts) n ts) (put_size s o l) in
    let t = says_less (room s.store) new in ((λ e. let h = t.0 e in omega arith), (λ e h. t.1 e (omega arith)))

-- ---- 4 to 8

-- a test of tokens says whether items that give them have such tokens
says_giving : {b : Bool} {P : List Token → Type 0} (is : List Item) (ts : List Token) → Lawful is ts → Says b (P ts) → Says b (Giving is P)
says_giving {P = P} is ts l t = ((λ e. (ts, l, t.0 e)), (λ e g. t.1 e (subst P (one_tokens is g.0 ts g.1 l) g.2)))

-- the number of an answer
abbrev number_of : Entered → ℕ
number_of e = e.number

module _ (s : State) (n : ℕ) (Unfitting : List Token → Type 0) where
  -- what is asked of tokens, where 8 is asked so
  abbrev pub token_refusals : List Item → List (ℕ × Type 0)
  token_refusals is = (6, Giving is (λ ts. NamesLackRoom s (names_with s ts))) ∷ (7, Giving is (LineTooLong s n)) ∷ (8, Giving is Unfitting) ∷ []

  -- and of a text's items
  abbrev pub item_refusals : List Item → List (ℕ × Type 0)
  item_refusals is = (4, Unread is) ∷ (5, TooFar is) ∷ token_refusals is

  -- 6, 7 and 8
  pub short_first : {A : Type 0} (number : A → ℕ) (refuse : ℕ → A) (unfitting : Bool) (accepted : A) → T (sound_state s) → (is : List Item) (ts : List Token) → Lawful is ts → Says unfitting (Unfitting ts) → number accepted ≡ 0
      → FirstHolding ((number (refuse 6), Giving is (λ ts. NamesLackRoom s (names_with s ts))) ∷ (number (refuse 7), Giving is (LineTooLong s n)) ∷ (number (refuse 8), Giving is Unfitting) ∷ []) (number (unless_short refuse (lacks_room s (names_with s ts)) (line_with s n ts) unfitting accepted))
  unfolding unless_short
  short_first number refuse unfitting accepted o is ts l says none =
      tested number _ _ _ (says_giving is ts l (says_lacking s (state_says s o) ts))
      (λ e. tested number _ _ _ (says_giving is ts l (says_less 255 (length (line_with s n ts)))) (λ e. tested number _ _ _ (says_giving is ts l says) (λ e. subst (FirstHolding []) (sym none) none_holds)))

  -- 4 and 5
  refused_first : (is : List Item) (k : ℕ) (q : Span) → Refusal is k q → FirstHolding (item_refusals is) k
  refused_first is k q (no_reading h) = let u : Unread is = (q, h) in this_holds u
  refused_first is k q (too_far h) = let f : TooFar is = (q, h) in later_holds (λ (u : Unread is). not_both is u.0 q u.1 h) (this_holds f)

  -- all five
  pub answered_first : (p : ℕ) (rest : List ℕ) (number : Translated → ℕ) → ((k : ℕ) (q : Span) → number (refused_at k q) ≡ k) → ((ts : List Token) → Lawful (items p rest) ts → FirstHolding (token_refusals (items p rest)) (number (tokens ts)))
      → FirstHolding (item_refusals (items p rest)) (number (translate p rest))
  answered_first p rest number there first = go (translate p rest) refl
    where
      go : (r : Translated) → translate p rest ≡ r → FirstHolding (item_refusals (items p rest)) (number r)
      go (tokens ts) e = let r = not_refused (items p rest) (translated_readable p rest ts e) in later_holds r.0 (later_holds r.1 (first ts (translated_lawful p rest ts e)))
      go (refused_at k q) e = subst (FirstHolding (item_refusals (items p rest))) (sym (there k q)) (refused_first (items p rest) k q (translation_refused p rest k q e))

-- of a line for the store
stored_first : (s : State) → T (sound_state s) → (n p : ℕ) (rest : List ℕ) → FirstHolding (item_refusals s n (StoreLacksRoom s n) (items p rest)) (answered s n (translate p rest)).number
unfolding answered accept refusal
stored_first s o n p rest =
    answered_first s n (StoreLacksRoom s n) p rest (λ r. (answered s n r).number) (λ k q. refl)
    (λ ts l. short_first s n (StoreLacksRoom s n) number_of (λ k. refusal k no_span s) _ _ o (items p rest) ts l (says_full s o n ts) refl)

-- ---- 9: the line with a number

-- all lines of a rising run stand above the number before it
all_above : (k : ℕ) (ls : List (List ℕ)) → T (rising_above k ls) → (l : List ℕ) → Memᴰ l ls → k < line_number l
unfolding rising_above
all_above k [] t l m = absurd (Memᴰ.not-nil m)
all_above k (x ∷ ls) t l m =
    let h : k < line_number x = ltb→lt k (line_number x) (and_left (ltb k (line_number x)) _ t) in
    ⊎_elim (λ e. subst (λ (z : List ℕ). k < line_number z) (sym e) h) (λ i. let j = all_above (line_number x) ls (and_right (ltb k (line_number x)) _ t) l i in omega arith) (Memᴰ.cases_cons m)

-- a line with a number is what a search of rising lines finds
found : (n : ℕ) (ls : List (List ℕ)) → T (rising ls) → (l : List ℕ) → Memᴰ l ls → line_number l ≡ n → T (stored? n ls) × (line_at n ls ≡ l)
unfolding stored? line_at lines_not_below first_is? first_line rising
found n [] t l m e = absurd (Memᴰ.not-nil m)
found n (x ∷ ls) t l m e =
    ⊎_elim
    (λ h.
    let k : line_number x ≡ n = ap line_number (sym h) ∙ e in
    let b : ltb (line_number x) n ≡ false = le-ltb (line_number x) n (omega arith) in
    (rw (b, eq-eqb (line_number x) n k) tt, rw b (sym h)))
    (λ i.
    let j = all_above (line_number x) ls t l i in
    let b : ltb (line_number x) n ≡ true = lt-ltb (line_number x) n (omega arith) in
    let f = found n ls (no_lower (line_number x) ls t) l i e in
    (rw b f.0, rw b f.1))
    (Memᴰ.cases_cons m)

-- and what it finds is such a line
finds : (n : ℕ) (ls : List (List ℕ)) → T (stored? n ls) → Memᴰ (line_at n ls) ls × (line_number (line_at n ls) ≡ n)
unfolding stored? line_at lines_not_below first_is? first_line
finds n [] h = absurd h
finds n (x ∷ ls) h = go (ltb (line_number x) n) h (finds n ls)
  where
    go : (b : Bool) → T (first_is? n (pick b (lines_not_below n ls) (x ∷ ls))) → (T (stored? n ls) → Memᴰ (line_at n ls) ls × (line_number (line_at n ls) ≡ n))
        → Memᴰ (first_line (pick b (lines_not_below n ls) (x ∷ ls))) (x ∷ ls) × (line_number (first_line (pick b (lines_not_below n ls) (x ∷ ls))) ≡ n)
    go true h f = let r = f h in (Memᴰ.tail r.0, r.1)
    go false h f = (Memᴰ.head refl, eqb→eq _ _ h)

module _ (s : State) (o : T (sound_state s)) (n : ℕ) where
  -- lines of a sound store rise
  rises : T (rising (lines_of s))
  unfolding sound_lines
  rises = and_right (every whole_line? (lines_of s)) _ (state_says s o).lines

  -- the search for a line
  says_missing : Says (not (stored? n (lines_of s))) (NoSuchLine n s)
  says_missing = (
    (λ e l m h. T_not (stored? n (lines_of s)) (as_T _ e) (found n (lines_of s) rises l m h).0),
    (λ e h. let f = finds n (lines_of s) (as_T (stored? n (lines_of s)) (not-false _ e)) in h (line_at n (lines_of s)) f.0 f.1),
  )

  -- a test of the line that is found says whether the line with the number is such
  says_line : {b : Bool} {P : List ℕ → Type 0} → T (stored? n (lines_of s)) → Says b (P (line_at n (lines_of s))) → Says b (OfLine n s P)
  says_line {P = P} h t =
      let f = finds n (lines_of s) h in (
        (λ e. (line_at n (lines_of s), f.0, f.1, t.0 e)),
        (λ e g. t.1 e (subst P (sym (found n (lines_of s) rises g.0 g.1 g.2).1) g.3)),
      )

-- ---- a text

module _ (text : List ℕ) (s : State) where
  -- nothing but blanks stands after the number
  abbrev alone : Bool
  alone = every blank? (past_number text)

  -- 3, and then what is asked of a text with a number
  number_first : (cs : List (ℕ × Type 0)) → FirstHolding cs (pick alone (delete s (number_in text)) (answered s (number_in text) (translate (number_end text) (past_number text)))).number
      → FirstHolding ((3, NoLineNumber text) ∷ cs) (at_head s (head_of text)).number
  unfolding at_head head_of refusal after_blanks digit_count number_in number_end past_number lawful_number?
  number_first cs f = go (eqb (digit_count text) 0) refl (eqb (run blank? text) (length text)) (leb (number_in text) 32767) refl
    where
      go : (a : Bool) → eqb (digit_count text) 0 ≡ a → (b c : Bool) → leb (number_in text) 32767 ≡ c
          → FirstHolding ((3, NoLineNumber text) ∷ cs) (at_head s (pick a (pick b only_blanks unnumbered) (pick c (numbered (number_in text) (number_end text) (past_number text)) too_great))).number
      go true x true c y = this_holds (inl (eqb-true _ _ x))
      go true x false c y = this_holds (inl (eqb-true _ _ x))
      go false x b false y = this_holds (inr (leb-false _ _ y))
      go false x b true y = let k = leb-true (number_in text) 32767 y in
          let n : NoLineNumber text → ⊥ = ⊎_elim (eqb-false _ _ x) (λ h. omega arith) in
          rw (run_whole blank? (past_number text)) (later_holds n f)

  -- 1 and 2 before it
  begin_first : (cs : List (ℕ × Type 0)) → (T (sound_state s) → FirstHolding cs (pick alone (delete s (number_in text)) (answered s (number_in text) (translate (number_end text) (past_number text)))).number)
      → FirstHolding ((1, Unsound s) ∷ (2, TextTooLong text) ∷ (3, NoLineNumber text) ∷ cs) (enter text s).number
  unfolding enter enter_sound refusal
  begin_first cs f = passed number_of (sound_state s) _ _ (says_unsound s) (λ o. tested number_of _ _ _ (says_less 120 (length text)) (λ e. number_first cs (f o)))

  -- then those of a deletion or an entry
  pub text_exactly : Exactly (text_refusals false text s) (enter text s).number
  unfolding delete refusal
  text_exactly = go alone refl
    where
      go : (b : Bool) → alone ≡ b → Exactly (pick b (deletion_refusals text s) (entry_refusals text s)) (enter text s).number
      go true e = exactly _ _ tt (begin_first _ (λ o. rw e (passed number_of (stored? (number_in text) (lines_of s)) _ _ (says_missing s o (number_in text)) (λ h. none_holds))))
      go false e = exactly _ _ tt (begin_first _ (λ o. rw e (stored_first s o (number_in text) (number_end text) (past_number text))))

-- ---- a listing

-- the number of a listing's answer
abbrev pub listed_number : Listed → ℕ
listed_number e = e.number

-- 10 and 11
pub listed_first : {P Q : Type 0} (listable : Bool) (text output : List ℕ) → Says (not listable) P → Says (ltb (length output) (length text)) Q → FirstHolding ((10, P) ∷ (11, Q) ∷ []) (listed_if listable text output).number
unfolding listed_if not_listed
listed_first listable text output p q = tested listed_number _ _ _ p (λ e. tested listed_number _ _ _ q (λ e. none_holds))

-- 1, 9, 10, 11
pub listing_exactly : (n : ℕ) (s : State) (output : List ℕ) → Exactly (listing_refusals n s output) (list n s output).number
unfolding list list_sound not_listed
listing_exactly n s output =
    let l : List ℕ = line_at n (lines_of s) in
    exactly _ _ tt
    (passed listed_number (sound_state s) _ _ (says_unsound s)
    (λ o. tested listed_number _ _ _ (says_missing s o n)
    (λ e. let st : T (stored? n (lines_of s)) = as_T (stored? n (lines_of s)) (not-false _ e) in
    listed_first _ _ output (says_line s o n st (says_not (listable? lawful_number? (names_of s) l) (listable_says (names_of s) l) (says_listable (names_of s) l))) (says_line s o n st (says_less (length output) (length (line_listing (names_of s) l)))))))
