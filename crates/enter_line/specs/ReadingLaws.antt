-- The answer to a text, from its head and from what the reader of statements tells.
use Rattle.std.specs.Prelude.{ℕ, suc, ◌+◌, ◌-◌, ◌/◌, ◌%◌, ◌≤◌, ◌<◌, Bool, true, false, eqb, leb, take, drop, set, Option, Result, Ok, Err}
use Rattle.std.proofs.Common.{arith, ◌∙◌, zero-add, drop-drop}
use Rattle.std.proofs.Math.Path.{◌≡◌, refl, subst, sym, ap}
use mathlib.Core.List.{List, [], ◌∷◌, ◌++◌, append-nil}
use borrow.Author.Tests.{eq-eqb, ne_eqb, le-leb, lt-leb, leb-true}
use Rattle.std.proofs.Math.ListN.{length, length-drop}
use Rattle.std.proofs.lemmas.List.Edits.{sets}
use Rattle.std.specs.Bool.{then_some}
use Rattle.std.proofs.Math.Seq.{drop-append_seam}
use Rattle.paper.specs.Bytes.{pick, digit?, blank?, run}
use Rattle.paper.specs.Tokens.{Token}
use Rattle.paper.specs.Constants.{value}
use Rattle.paper.specs.Names.{names_in, name_bytes, add_names}
use Rattle.paper.specs.Items.{Item as Scanned, item, span, size_at, scan, items}
use Rattle.paper.specs.Machine.{bad, read}
use Rattle.paper.specs.Grammar.{look_in_range, start}
use Rattle.paper.specs.Line.{line_bytes, lawful_number?, direct_number}
use Rattle.paper.specs.WellFormed.{tokens_of}
use Rattle.paper.specs.Calls.{tokens, refused_at, place_of, outcome, translate, Head, numbered, too_great, only_blanks, unnumbered, head_of}
use Rattle.laws.specs.Names.{names_added, closed?}
use Rattle.laws.specs.Ends.{Ends, refused_ends, end_in}
use Rattle.buffers.specs.Runs.{run_within}
use Rattle.buffers.specs.Sets.{front}
use Rattle.enter_scan.specs.declared.Item.{Item}
use Rattle.enter_scan.specs.Kinds.{shape_at, item_with}
use Rattle.enter_scan.proofs.Shapes.{item_shape}
use Rattle.enter_item.specs.Draft.{low, with_offsets, written_line}
use Rattle.enter_item.specs.DraftLaws.{line_size, sets_set}
use Rattle.enter_item.specs.Says.{env, Mem, mem, spot, known, items_at, Asks}
use Rattle.enter_item.specs.declared.Spot.{Spot}
use Rattle.enter_statement.specs.Ends.{Halts}
use Rattle.enter_statements.specs.Lines.{Finishes}
use Rattle.enter_line.specs.Reading.{as_head, as_start, statements, number_alone, nothing, start_at, standing, gives_line, Refuses, of_translated, of_start, Accepted, Told}
use Rattle.enter_line.specs.Places.{refused_within}
use Rattle.enter_line.specs.declared.Numbered.{Numbered}
use Rattle.enter_line.specs.declared.NoNumber.{NoNumber}
use Rattle.enter_line.specs.declared.NoNumber.TheVariants.{TooGreat, OnlyBlanks, Unnumbered}
use Rattle.enter_line.specs.declared.Start.{Start as Begun}
use Rattle.enter_line.specs.declared.Start.TheVariants.{Statements}
use Rattle.enter_line.specs.declared.Reading.{Reading}
use Rattle.enter_line.specs.declared.Reading.TheVariants.{Read, Delete}
use Rattle.refusals.specs.declared.Refusal.TheVariants.{NoNumber as No_number}
use Rattle.refusals.specs.declared.RefusedItem.{RefusedItem}

-- ---- the head

module _ (text : List ℕ) (b e : ℕ) (blanks : b ≡ run blank? text) (digits : e ≡ b + run digit? (drop b text)) where
  head_as : head_of text
      ≡ (let d = run digit? (drop b text) in
      let n = value 0 (take d (drop b text)) in
      pick (eqb d 0) (pick (eqb b (length text)) only_blanks unnumbered) (pick (lawful_number? n) (numbered n (b + d) (drop d (drop b text))) too_great))
  unfolding head_of
  head_as = rw blanks

  pub head_blanks : e ≡ b → b ≡ length text → head_of text ≡ only_blanks
  head_blanks h k = head_as ∙ rw (eq-eqb (run digit? (drop b text)) 0 (omega arith), eq-eqb b (length text) k)

  pub head_none : e ≡ b → (b ≡ length text → ⊥) → head_of text ≡ unnumbered
  head_none h k = head_as ∙ rw (eq-eqb (run digit? (drop b text)) 0 (omega arith), ne_eqb b (length text) k)

  size : e - b ≡ run digit? (drop b text)
  size = omega arith

  pub head_great : (e ≡ b → ⊥) → 32767 < value 0 (take (e - b) (drop b text)) → head_of text ≡ too_great
  unfolding lawful_number?
  head_great h k =
      let z : 32767 < value 0 (take (run digit? (drop b text)) (drop b text)) = subst (λ (n : ℕ). 32767 < value 0 (take n (drop b text))) size k in
      head_as ∙ rw (ne_eqb (run digit? (drop b text)) 0 (λ y. h (omega arith)), lt-leb (value 0 (take (run digit? (drop b text)) (drop b text))) 32767 z)

  pub head_number : (n : ℕ) → (e ≡ b → ⊥) → n ≡ value 0 (take (e - b) (drop b text)) → n ≤ 32767 → head_of text ≡ numbered n e (drop e text)
  unfolding lawful_number?
  head_number n h w k =
      let v : n ≡ value 0 (take (run digit? (drop b text)) (drop b text)) = w ∙ ap (λ (x : ℕ). value 0 (take x (drop b text))) size in
      let z : value 0 (take (run digit? (drop b text)) (drop b text)) ≤ 32767 = subst (λ (x : ℕ). x ≤ 32767) v k in
      head_as
      ∙ rw (ne_eqb (run digit? (drop b text)) 0 (λ y. h (omega arith)), le-leb (value 0 (take (run digit? (drop b text)) (drop b text))) 32767 z)
      (ap (λ (x : ℕ). numbered x (b + run digit? (drop b text)) (drop (run digit? (drop b text)) (drop b text))) (sym v)
      ∙ ap (λ (l : List ℕ). numbered n (b + run digit? (drop b text)) l) (drop-drop (run digit? (drop b text)) b text)
      ∙ ap (λ (x : ℕ). numbered n x (drop x text)) (sym digits))

-- a line's number is lawful, and its digits end within the text
numbered_within : {n p : ℕ} {rest : List ℕ} (text : List ℕ) → head_of text ≡ numbered n p rest → (n ≤ 32767) × (p ≤ length text)
unfolding head_of lawful_number?
numbered_within {n} {p} {rest} text h =
    let t = drop (run blank? text) text in
    let d = run digit? t in
    let v = value 0 (take d t) in
    go t (run blank? text) d v (eqb d 0) (eqb (run blank? text) (length text)) (leb v 32767) (run_within digit? t) (omega (arith, run_within blank? text, length-drop (run blank? text) text)) refl h
  where
    go : (t : List ℕ) (b d v : ℕ) (none blanks small : Bool) → d ≤ length t → b + length t ≤ length text → leb v 32767 ≡ small
        → pick none (pick blanks only_blanks unnumbered) (pick small (numbered v (b + d) (drop d t)) too_great) ≡ numbered n p rest → (n ≤ 32767) × (p ≤ length text)
    go t b d v true true small k l e y = let z : ◌≡◌ {A = ℕ} 0 1 = cc in absurd (omega arith)
    go t b d v true false small k l e y = let z : ◌≡◌ {A = ℕ} 0 1 = cc in absurd (omega arith)
    go t b d v false blanks false k l e y = let z : ◌≡◌ {A = ℕ} 0 1 = cc in absurd (omega arith)
    go t b d v false blanks true k l e y =
        let i : v ≡ n = cc in
        let j : b + d ≡ p = cc in
        (omega (arith, leb-true v 32767 e), omega arith)

-- the number of a line to be read fits two bytes, and its statements start within the text
pub statements_within : {n p : ℕ} (direct : Bool) (text : List ℕ) → start_at direct (head_of text) ≡ statements n p → (n ≤ direct_number) × (p ≤ length text)
unfolding start_at
statements_within {n} {p} direct text h = go (head_of text) refl h
  where
    past : {m q : ℕ} {rest : List ℕ} (alone : Bool) → head_of text ≡ numbered m q rest → pick alone (number_alone m) (statements m q) ≡ statements n p → (n ≤ direct_number) × (p ≤ length text)
    past true e y = let z : ◌≡◌ {A = ℕ} 0 1 = cc in absurd (omega arith)
    past {m} {q} false e y =
        let i : m ≡ n = cc in
        let j : q ≡ p = cc in
        (omega (arith, (numbered_within text e).0), omega (arith, (numbered_within text e).1))

    without : (b : Bool) → pick b (statements direct_number 0) nothing ≡ statements n p → (n ≤ direct_number) × (p ≤ length text)
    without true y =
        let i : direct_number ≡ n = cc in
        let j : 0 ≡ p = cc in
        (omega arith, omega arith)
    without false y = let z : ◌≡◌ {A = ℕ} 0 1 = cc in absurd (omega arith)

    go : (h : Head) → head_of text ≡ h → start_at direct h ≡ statements n p → (n ≤ direct_number) × (p ≤ length text)
    go (numbered m q rest) e y = past (eqb (run blank? rest) (length rest)) e y
    go too_great e y = let z : ◌≡◌ {A = ℕ} 0 1 = cc in absurd (omega arith)
    go only_blanks e y = let z : ◌≡◌ {A = ℕ} 0 1 = cc in absurd (omega arith)
    go unnumbered e y = without direct y

-- ---- the start

module _ {r : Result Numbered NoNumber} (direct : Bool) (text : List ℕ) (h : head_of text ≡ as_head text r) where
  start_head : {f : Result Numbered NoNumber} → r ≡ f → start_at direct (head_of text) ≡ start_at direct (as_head text f)
  start_head e = ap (start_at direct) (h ∙ ap (as_head text) e)

  module _ {l : Numbered} {e : ℕ} (q : r ≡ Ok l) (a : e ≡ l.from + run blank? (drop l.from text)) where
    -- blanks alone stand after the number
    pub start_alone : e ≡ length text → start_at direct (head_of text) ≡ number_alone l.number
    unfolding start_at
    start_alone b = start_head q ∙ rw (eq-eqb (run blank? (drop l.from text)) (length (drop l.from text)) (omega (arith, length-drop l.from text)))

    -- more stands there
    pub start_number : (e ≡ length text → ⊥) → start_at direct (head_of text) ≡ statements l.number l.from
    unfolding start_at
    start_number b =
        let fits = numbered_within text (h ∙ ap (as_head text) q) in
        start_head q ∙ rw (ne_eqb (run blank? (drop l.from text)) (length (drop l.from text)) (λ z. b (omega (arith, fits.1, length-drop l.from text))))

  -- no number that a line can have
  pub start_great : r ≡ Err TooGreat → start_at direct (head_of text) ≡ nothing
  unfolding start_at
  start_great q = start_head q

  pub start_blanks : r ≡ Err OnlyBlanks → start_at direct (head_of text) ≡ nothing
  unfolding start_at
  start_blanks q = start_head q

  -- no number
  pub start_direct : r ≡ Err Unnumbered → direct ≡ true → start_at direct (head_of text) ≡ statements direct_number 0
  unfolding start_at
  start_direct q t = start_head q ∙ rw t

  pub start_none : r ≡ Err Unnumbered → direct ≡ false → start_at direct (head_of text) ≡ nothing
  unfolding start_at
  start_none q t = start_head q ∙ rw t

  pub start_without : {o : Option Begun} → r ≡ Err Unnumbered → o ≡ then_some direct (Statements (record { number = direct_number; from = 0 })) → start_at direct (head_of text) ≡ as_start o
  unfolding start_at
  start_without q e = start_head q ∙ go direct ∙ sym (ap as_start e)
    where
      go : (b : Bool) → pick b (statements direct_number 0) nothing ≡ as_start (then_some b (Statements (record { number = direct_number; from = 0 })))
      go true = refl
      go false = refl

-- ---- the answer

module _ {ks : List (List ℕ)} {keep direct : Bool} {text line fresh line' fresh' : List ℕ} where
  -- nothing
  pub told_nothing : start_at direct (head_of text) ≡ nothing → Told ks keep direct text line fresh line' fresh' (Err (record { refusal = No_number; place = 0; end = 0 }))
  unfolding of_start
  told_nothing h = record {
    answer = sym (ap (of_start keep ks text) h);
    accepted = λ n p ts e t. let z : ◌≡◌ {A = ℕ} 0 1 = cc in absurd (omega arith);
    kept = λ n p k there e t. let z : ◌≡◌ {A = ℕ} 0 1 = cc in absurd (omega arith);
  }

  -- a number alone
  pub told_delete : {n : ℕ} → start_at direct (head_of text) ≡ number_alone n → Told ks keep direct text line fresh line' fresh' (Ok (Delete n))
  unfolding of_start
  told_delete h = record {
    answer = sym (ap (of_start keep ks text) h);
    accepted = λ n p ts e t. let z : ◌≡◌ {A = ℕ} 0 1 = cc in absurd (omega arith);
    kept = λ n p k there e t. let z : ◌≡◌ {A = ℕ} 0 1 = cc in absurd (omega arith);
  }

  module _ {n p : ℕ} (h : start_at direct (head_of text) ≡ statements n p) where
    -- statements, one of which is refused
    pub told_refused : {k q : ℕ} {r : Result Reading RefusedItem} → translate p (drop p text) ≡ refused_at k (standing text q) → Refuses keep text n p k q line' r → Told ks keep direct text line fresh line' fresh' r
    unfolding of_start of_translated
    told_refused {k} {q} t w = record {
      answer = w.answer ∙ sym (ap (of_start keep ks text) h ∙ ap (of_translated keep ks text n p) t);
      accepted = λ n' p' ts e u.
          let i : p ≡ p' = cc in
          let y : refused_at k (standing text q) ≡ tokens ts = sym t ∙ ap (λ (x : ℕ). translate x (drop x text)) i ∙ u in
          let z : ◌≡◌ {A = ℕ} 0 1 = cc in absurd (omega arith);
      kept = λ n' p' k' there e u.
          let i : p ≡ p' = cc in
          let o : n ≡ n' = cc in
          let y : refused_at k (standing text q) ≡ refused_at k' there = sym t ∙ ap (λ (x : ℕ). translate x (drop x text)) i ∙ u in
          let j : k ≡ k' = cc in
          let v : standing text q ≡ there = cc in
          rw (← o, ← i, ← j, ← v) w.there;
    }

    -- statements that are accepted
    pub told_read : {size named : ℕ} {us : List Token} → translate p (drop p text) ≡ tokens us
        → (Accepted ks n us line fresh line' fresh') × (size ≡ length (line_bytes (add_names ks us) n us)) × (named ≡ length (name_bytes (names_added ks us)))
        → Told ks keep direct text line fresh line' fresh' (Ok (Read (record { number = n; size = size; named = named })))
    unfolding of_start of_translated
    told_read {size} {named} {us} t w = record {
      answer =
          ap (λ (x : ℕ). gives_line (record { number = n; size = x; named = named })) w.1
          ∙ ap (λ (x : ℕ). gives_line (record { number = n; size = length (line_bytes (add_names ks us) n us); named = x })) w.2
          ∙ sym (ap (of_start keep ks text) h ∙ ap (of_translated keep ks text n p) t);
      accepted = λ n' p' ts e u.
          let i : p ≡ p' = cc in
          let o : n ≡ n' = cc in
          let y : tokens us ≡ tokens ts = sym t ∙ ap (λ (x : ℕ). translate x (drop x text)) i ∙ u in
          let v : us ≡ ts = cc in
          subst (λ (x : ℕ). Accepted ks x ts line fresh line' fresh') o (subst (λ (x : List Token). Accepted ks n x line fresh line' fresh') v w.0);
      kept = λ n' p' k there e u.
          let i : p ≡ p' = cc in
          let y : tokens us ≡ refused_at k there = sym t ∙ ap (λ (x : ℕ). translate x (drop x text)) i ∙ u in
          let z : ◌≡◌ {A = ℕ} 0 1 = cc in absurd (omega arith);
    }

-- ---- where a refused item ends

-- past the item that the item reader sees at its place
pub ends_seen : {place end : ℕ} {it : Item} (text : List ℕ) → it ≡ item_with (shape_at false (drop place text)) place → end ≡ it.end → span place end ≡ standing text place
unfolding item_with shape_at size_at item
ends_seen {place} {end} {it} text h e = ap (span place) (e ∙ ap (λ (i : Item). i.end) h ∙ ap (λ (n : ℕ). place + n) (go (drop place text)))
  where
    go : (s : List ℕ) → (shape_at false s).size ≡ size_at s
    go [] = refl
    go (b ∷ s) = ap (λ (i : Scanned). i.size) (item_shape false 0 b s)

-- ---- from the statements

items_from : (text n : List ℕ) (e : ℕ) → items e (drop e text) ≡ items_at (env text 0 n) true e
unfolding items
items_from text n e = let z : e ≡ 0 + e = omega arith in ap (λ (p : ℕ). scan 0 true p (drop e text)) z

pub translated_left : {m m' : Mem} {q' : Spot} (text n : List ℕ) (e w f : ℕ) → (x : Finishes (env text 0 n) (spot e w f) m q' m') → translate e (drop e text) ≡ tokens (tokens_of x.ts)
unfolding translate outcome start
translated_left text n e w f x = ap outcome (ap (read look_in_range start) (items_from text n e) ∙ x.ran)

module _ {k p : ℕ} (text n : List ℕ) (e : ℕ) (x : Halts start (items_at (env text 0 n) true e) k p) where
  ran_bad : read look_in_range start (items e (drop e text)) ≡ bad k x.ts (x.item ∷ x.rest)
  ran_bad = ap (read look_in_range start) (items_from text n e) ∙ x.ran

  ends_so : Ends e (drop e text) x.item
  ends_so = refused_ends e (drop e text) k x.ts x.item x.rest ran_bad

  pub translated_bad : translate e (drop e text) ≡ refused_at k (standing text p)
  unfolding translate outcome place_of
  translated_bad =
      let end = end_in text e (drop e text) x.item refl ends_so in
      ap outcome ran_bad ∙ ap (λ (z : ℕ). refused_at k (span x.item.place z)) end ∙ ap (λ (z : ℕ). refused_at k (standing text z)) (sym x.place)

  -- the place of the refusal stands in the statements or at their end
  pub place_within : e ≤ length text → (e ≤ p) × (p ≤ length text)
  place_within h =
      (omega (arith, x.place, ends_so.stands), omega (arith, x.place, refused_within e (drop e text) k x.ts x.item x.rest ran_bad, length-drop e text))

no_names : (names fresh : List ℕ) (q : Spot) (m : Mem) → q.named ≡ 0 → names_in names ++ names_in (take q.named m.fresh) ≡ names_in names
unfolding names_in
no_names names fresh q m h = ap (λ (k : ℕ). names_in names ++ names_in (take k m.fresh)) h ∙ append-nil (names_in names)

-- what is asked at the start
pub first_asks : (text names line fresh : List ℕ) (e : ℕ) → e ≤ length text → length text ≤ 120 → 240 ≤ length fresh → Asks (env text 0 names) (spot e 3 0) (mem line fresh)
unfolding closed?
first_asks text names line fresh e h k r = record { within = h; short = omega arith; few = omega arith; added = omega arith; room = r; closed = refl }

sizes : (ks : List (List ℕ)) (n : ℕ) (us : List Token) → 3 + length (with_offsets ks 3 us) ≡ length (line_bytes (add_names ks us) n us)
unfolding written_line
sizes ks n us = let z : 3 + length (with_offsets ks 3 us) ≡ suc (suc (suc (length (with_offsets ks 3 us)))) = omega arith in z ∙ line_size ks n us

-- the names that were added are those that stand at the front of the buffer
apart : {f' : List ℕ} (ks : List (List ℕ)) (fresh : List ℕ) (us : List Token) (named : ℕ) → f' ≡ sets fresh 0 (name_bytes (names_added ks us)) → named ≡ length (name_bytes (names_added ks us)) → named ≤ length fresh
    → ks ++ names_in (take named f') ≡ add_names ks us → names_in (name_bytes (names_added ks us)) ≡ names_added ks us
unfolding names_added
apart {f'} ks fresh us named fw aw room knows =
    let new = name_bytes (names_added ks us) in
    let t : take named f' ≡ new = ap (λ (k : ℕ). take k f') aw ∙ ap (take (length new)) fw ∙ front fresh new (omega (arith, aw)) in
    let w : ks ++ names_in new ≡ add_names ks us = ap (λ (l : List ℕ). ks ++ names_in l) (sym t) ∙ knows in
    sym (drop-append_seam ks (names_in new)) ∙ ap (drop (length ks)) w

-- the head of the line was put before its statements, and its length after them
pub line_whole : {l₁ l₂ l₃ line' : List ℕ} {a b c : ℕ} (line names fresh : List ℕ) (text : List ℕ) (n e : ℕ) {q' : Spot} {f' : List ℕ} → 240 ≤ length fresh → l₁ ≡ set line 0 a → a ≡ n % 256 → l₂ ≡ set l₁ 1 b
    → b ≡ n / 256 → (x : Finishes (env text 0 names) (spot e 3 0) (mem l₂ fresh) q' (mem l₃ f')) → line' ≡ set l₃ 2 c → c ≡ low q'.written
    → (Accepted (names_in names) n (tokens_of x.ts) line fresh line' f') × (q'.written ≡ length (line_bytes (add_names (names_in names) (tokens_of x.ts)) n (tokens_of x.ts)))
    × (q'.named ≡ length (name_bytes (names_added (names_in names) (tokens_of x.ts))))
unfolding written_line
line_whole {l₁} {l₂} {l₃} {line'} {a} {b} {c} line names fresh text n e {q'} {f'} room p₁ ea p₂ eb f p₃ ec =
    let ks = names_in names in
    let us = tokens_of f.ts in
    let x = f.lined in
    let k0 : known (env text 0 names) (spot e 3 0) (mem l₂ fresh) ≡ ks = no_names names fresh (spot e 3 0) (mem l₂ fresh) refl in
    let body = with_offsets ks 3 us in
    let lw : l₃ ≡ sets l₂ 3 body = x.line ∙ ap (λ (k : List (List ℕ)). sets l₂ 3 (with_offsets k 3 us)) k0 in
    let cw : q'.written ≡ 3 + length body = x.count ∙ ap (λ (k : List (List ℕ)). 3 + length (with_offsets k 3 us)) k0 in
    let v : c ≡ low (3 + length body) = ec ∙ ap low cw in
    let fw : f' ≡ sets fresh 0 (name_bytes (names_added ks us)) = x.fresh ∙ ap (λ (k : List (List ℕ)). sets fresh 0 (name_bytes (names_added k us))) k0 in
    let aw : q'.named ≡ length (name_bytes (names_added ks us)) =
    x.added ∙ ap (λ (k : List (List ℕ)). 0 + length (name_bytes (names_added k us))) k0 ∙ zero-add (length (name_bytes (names_added ks us))) in (
      record {
        line_put =
            p₃ ∙ ap (λ (l : List ℕ). set l 2 c) lw ∙ sets_set l₂ 2 3 c body (omega arith)
            ∙ ap (λ (l : List ℕ). sets (set l 2 c) 3 body) (p₂ ∙ ap (λ (l : List ℕ). set l 1 b) p₁)
            ∙ ap (λ (y : ℕ). sets (set (set (set line 0 y) 1 b) 2 c) 3 body) ea
            ∙ ap (λ (y : ℕ). sets (set (set (set line 0 (n % 256)) 1 y) 2 c) 3 body) eb
            ∙ ap (λ (y : ℕ). sets (set (set (set line 0 (n % 256)) 1 (n / 256)) 2 y) 3 body) v;
        names_put = fw;
        told_apart = apart ks fresh us q'.named fw aw (omega (arith, f.named)) (x.knows ∙ ap (λ (k : List (List ℕ)). add_names k us) k0);
        few = omega (arith, f.named, aw);
      },
      cw ∙ sizes ks n us,
      aw,
    )
