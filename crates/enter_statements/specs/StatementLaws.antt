-- A statement's first item, the raw text after REM and DATA, and the rest that follows the first item.
use Rattle.std.specs.Prelude.{ℕ, suc, ◌+◌, ◌*◌, ◌-◌, ◌≤◌, ◌<◌, ◌≡◌, refl, Bool, true, false, List, [], ◌∷◌, eqb, length, take, drop, get_or, set, Option, Some, None, Result, Ok, Err}
use Rattle.std.proofs.Common.{arith, subst, sym, ap, ◌∙◌, append-nil, ne_eqb, eq-eqb, eqb-true, length-drop, length-take-le}
use Rattle.std.proofs.lemmas.Bool.{eqb-false}
use Rattle.std.proofs.lemmas.List.Edits.{sets}
use Rattle.paper.specs.Bytes.{pick}
use Rattle.paper.specs.Classes.{raw_end, raw_text, unfit, remark}
use Rattle.paper.specs.Tokens.{Token, statement, assigned, operator, raw, unreadable, class}
use Rattle.paper.specs.Names.{add_name, add_names}
use Rattle.paper.specs.Items.{Item, item, opens, raw_at, variable_at}
use Rattle.paper.specs.Machine.{refuse, refused, step_act, left, bad, and_taken, step, go_on, read}
use Rattle.paper.specs.Machine.{take as takes_item}
use Rattle.paper.specs.Frames.{want_statement, want_raw_text, want_raw_end}
use Rattle.paper.specs.Grammar.{Gives, itself, given, look, look_in_range}
use Rattle.paper.specs.Line.{variable_bytes, begins?}
use Rattle.paper.specs.WellFormed.{tokens_of}
use Rattle.paper.specs.Open.{all_Bytes, all_Words, all_Tokens}
use Rattle.enter_scan.specs.Sees.{Sees, token_at}
use Rattle.enter_scan.specs.Kinds.{raw_seen}
use Rattle.enter_scan.proofs.ScanLaws.{items_of_raw, raw_within, raw_ending}
use Rattle.enter_scan.specs.declared.Item.{Item as Found}
use Rattle.enter_scan.specs.declared.RawText.{RawText}
use Rattle.names_numbered.specs.Answers.{Numbers}
use Rattle.names_numbered.specs.declared.Numbered.{Numbered}
use Rattle.enter_item.specs.Draft.{lows, written, after, draft}
use Rattle.enter_item.specs.DraftLaws.{still_more, still_none}
use Rattle.enter_item.specs.ClassLaws.{own_of, statement_by_class}
use Rattle.enter_item.specs.Says.{Env, env, Mem, mem, spot, known, items_at, taken, item_of, Asks, Next, Wrote, VariableWritten}
use Rattle.enter_item.specs.Laws.{wrote_then, row_take, row_refuse}
use Rattle.enter_item.specs.TookLaws.{wrote_bytes, asks_after, one_byte, no_name, no_start}
use Rattle.enter_item.specs.SeesLaws.{next_of}
use Rattle.enter_item.specs.LeafLaws.{spelling, name_facts, wrote_name, asks_name, assigned_draft, assigned_after}
use Rattle.enter_item.specs.declared.Spot.{Spot}
use Rattle.enter_statement.specs.Ends.{Closes, Halts, Reads, Ends}
use Rattle.enter_statement.specs.EndLaws.{reads_last, reads_stop, ends_refuse}
use Rattle.enter_statement.specs.Stacks.{Begins, begins_with, begins_not, step_refused}
use Rattle.grammar.specs.Stack.{stack, gives_of, Steps}
use Rattle.grammar.specs.declared.Taken.{Taken}
use Rattle.enter_statements.specs.Lines.{Began, rest_items}
use Rattle.enter_statements.specs.LineLaws.{part_items, part_asks}
use Rattle.enter_statement.specs.Rows.{raw_text_row, raw_end_row, raw_end_unfit}
use Rattle.enter_statement.specs.declared.Ended.{Ended}
use Rattle.enter_statement.specs.declared.Ended.TheVariants.{Last}
use Rattle.refusals.specs.declared.Refusal.TheVariants.{NoReading}
use Rattle.refusals.specs.declared.RefusedAt.{RefusedAt}

-- ---- raw text

raw_class : (b : List ℕ) → class (raw b) ≡ raw_text
unfolding class
raw_class b = refl

raw_end_class : class (operator 0x9b) ≡ raw_end
unfolding all_Bytes all_Words all_Tokens
raw_end_class = refl

unreadable_class : class unreadable ≡ unfit
unfolding class
unreadable_class = refl

raw_draft : (ks : List (List ℕ)) (b : List ℕ) → draft ks (raw b ∷ []) ≡ b
unfolding draft written begins?
raw_draft ks b = append-nil b

raw_after : (ks : List (List ℕ)) (b : List ℕ) → after ks (raw b) ≡ ks
unfolding add_names
raw_after ks b = refl

raw_plain : (b : List ℕ) → begins? (raw b) ≡ false
unfolding begins?
raw_plain b = refl

read_two : (i j : Item) → look_in_range want_raw_text i ≡ takes_item itself [] → look_in_range want_raw_end j ≡ takes_item itself []
    → read look_in_range (want_raw_text ∷ want_raw_end ∷ []) (i ∷ j ∷ []) ≡ left (taken itself i ∷ taken itself j ∷ []) []
unfolding read step step_act go_on and_taken
read_two i j h k = rw (h, k)

read_bad : (i j : Item) → look_in_range want_raw_text i ≡ takes_item itself [] → look_in_range want_raw_end j ≡ refuse 4
    → read look_in_range (want_raw_text ∷ want_raw_end ∷ []) (i ∷ j ∷ []) ≡ bad 4 (taken itself i ∷ []) (j ∷ [])
unfolding read step step_act go_on and_taken
read_bad i j h k = rw (h, k)

abbrev raw_item : ℕ → ℕ → List ℕ → Item
raw_item p n b = record { place = p; size = n; token = raw b }

abbrev raw_stop_item : ℕ → Item
raw_stop_item p = record { place = p; size = 0; token = operator 0x9b }

abbrev raw_bad_item : ℕ → Item
raw_bad_item p = record { place = p; size = 1; token = unreadable }

ending_last : (s : List ℕ) (o e : ℕ) → e ≡ length s → raw_ending s o e ≡ raw_stop_item (o + e)
unfolding item
ending_last s o e h = rw (eq-eqb e (length s) h)

ending_bad : (s : List ℕ) (o e : ℕ) → (e ≡ length s → ⊥) → raw_ending s o e ≡ raw_bad_item (o + e)
unfolding item
ending_bad s o e h = rw (ne_eqb e (length s) h)

raw_here : (s : List ℕ) (o at : ℕ) (r : RawText) (j : Item) → at ≤ length s → r ≡ raw_seen s at → raw_ending s o r.end ≡ j
    → raw_at (o + at) (drop at s) ≡ raw_item (o + r.from) (r.end - r.from) (take (r.end - r.from) (drop r.from s)) ∷ j ∷ []
unfolding item
raw_here s o at r j h e k =
    items_of_raw s at o h e ∙ ap (λ (x : Item). raw_item (o + r.from) (r.end - r.from) (take (r.end - r.from) (drop r.from s)) ∷ x ∷ []) k

-- all of it was copied, and its end put behind
pub raw_last : {s names : List ℕ} {o : ℕ} {q : Spot} {m : Mem} {r : RawText} {l new : List ℕ} → Asks (env s o names) q m → r ≡ raw_seen s q.at → length s ≤ r.end
    → l ≡ sets m.line q.written (take (r.end - r.from) (drop r.from s)) → new ≡ set l (q.written + (r.end - r.from)) 0x9b
    → Reads (want_raw_text ∷ want_raw_end ∷ []) (raw_at (o + q.at) (drop q.at s)) (env s o names) q m (mem new m.fresh) (Ok (Last (spot r.end (q.written + (r.end - r.from) + 1) q.named)))
unfolding tokens_of given
raw_last {s} {names} {o} {q} {m} {r} {l} {new} g e h p₁ p₂ =
    let E = env s o names in
    let b = take (r.end - r.from) (drop r.from s) in
    let w = raw_within s q.at g.within e in
    let end : r.end ≡ length s = omega (arith, w.2) in
    let i = raw_item (o + r.from) (r.end - r.from) b in
    let j = raw_stop_item (o + r.end) in
    let len : length b ≡ r.end - r.from = length-take-le (r.end - r.from) (drop r.from s) (omega (arith, length-drop r.from s)) in
    let w₁ : Wrote E q m (raw b ∷ []) (spot r.end (q.written + length b) q.named) (mem l m.fresh) = wrote_bytes (raw b) b r.end (λ ks. raw_draft ks b) (λ ks. raw_after ks b) p₁ in
    let place : q.written + length b ≡ q.written + (r.end - r.from) = omega (arith, len) in
    let w₂ : Wrote E (spot r.end (q.written + length b) q.named) (mem l m.fresh) (operator 0x9b ∷ []) (spot r.end (q.written + length b + 1) q.named) (mem new m.fresh) =
    wrote_bytes (operator 0x9b) (0x9b ∷ []) r.end (λ ks. one_byte ks (operator 0x9b) 0x9b refl) (λ ks. no_name ks (operator 0x9b) 0x9b refl)
    (p₂ ∙ ap (λ (n : ℕ). set l n 0x9b) (sym place)) in
    let both = wrote_then w₁ w₂ in
    let stands : spot r.end (q.written + length b + 1) q.named ≡ spot r.end (q.written + (r.end - r.from) + 1) q.named = ap (λ (n : ℕ). spot r.end (n + 1) q.named) place in
    let closes : Closes (want_raw_text ∷ want_raw_end ∷ []) (raw_at (o + q.at) (drop q.at s)) E q m (spot r.end (q.written + length b + 1) q.named) (mem new m.fresh) = record {
      ts = taken itself i ∷ taken itself j ∷ [];
      ran =
          ap (read look_in_range (want_raw_text ∷ want_raw_end ∷ [])) (raw_here s o q.at r j g.within e (ending_last s o r.end end))
          ∙ read_two i j (row_take want_raw_text raw_text itself [] i (raw_class b) raw_text_row refl) (row_take want_raw_end raw_end itself [] j raw_end_class raw_end_row refl);
      wrote = both;
      few = omega (arith, g.few, g.short, g.within, len, w.0, w.1);
      named = omega (arith, g.added, g.short, g.within);
      plain = still_more (raw b) (operator 0x9b ∷ []) (raw_plain b) (still_more (operator 0x9b) [] (no_start (operator 0x9b) 0x9b refl) still_none);
    } in
    reads_last (subst (λ (x : Spot). Closes (want_raw_text ∷ want_raw_end ∷ []) (raw_at (o + q.at) (drop q.at s)) E q m x (mem new m.fresh)) stands closes)

-- a 9B stands in it
pub raw_stop : {s names : List ℕ} {o p : ℕ} {q : Spot} {r : RawText} (m m' : Mem) → Asks (env s o names) q m → r ≡ raw_seen s q.at → r.end < length s → p ≡ o + r.end
    → Reads (want_raw_text ∷ want_raw_end ∷ []) (raw_at (o + q.at) (drop q.at s)) (env s o names) q m m' (Err (record { refusal = NoReading; place = p }))
raw_stop {s} {names} {o} {p} {q} {r} m m' g e h w =
    let b = take (r.end - r.from) (drop r.from s) in
    let i = raw_item (o + r.from) (r.end - r.from) b in
    let j = raw_bad_item (o + r.end) in
    reads_stop (record { refusal = NoReading; place = p }) (env s o names) q m m'
    (record {
      ts = taken itself i ∷ [];
      item = j;
      rest = [];
      ran =
          ap (read look_in_range (want_raw_text ∷ want_raw_end ∷ [])) (raw_here s o q.at r j g.within e (ending_bad s o r.end (λ z. omega arith)))
          ∙ read_bad i j (row_take want_raw_text raw_text itself [] i (raw_class b) raw_text_row refl) (row_refuse want_raw_end 4 j (ap (look want_raw_end) unreadable_class ∙ raw_end_unfit));
      place = w;
    })

-- ---- a statement's first item

word_draft : (ks : List (List ℕ)) (t : Token) (x : ℕ) → t ≡ statement x → draft ks (t ∷ []) ≡ 0 ∷ x ∷ []
unfolding draft written begins?
word_draft ks t x e = ap (λ (u : Token). draft ks (u ∷ [])) e

word_after : (ks : List (List ℕ)) (t : Token) (x : ℕ) → t ≡ statement x → after ks t ≡ ks
unfolding add_names
word_after ks t x e = ap (after ks) e

word_begins : (t : Token) (x : ℕ) → t ≡ statement x → begins? t ≡ true
unfolding begins?
word_begins t x e = ap begins? e

-- a statement's word
pub began_word : {s names : List ℕ} {o : ℕ} {q : Spot} {m : Mem} {it : Found} {b : ℕ} {l new : List ℕ} → Asks (env s o names) q m → Sees s q.at true it → remark ≤ class (token_at s true it) → b ≡ own_of (token_at s true it)
    → l ≡ set m.line q.written 0 → new ≡ set l (q.written + 1) b
    → Began (env s o names) q m (token_at s true it) it.end (spot it.end (q.written + 2) q.named) (mem new m.fresh)
began_word {s} {names} {o} {q} {m} {it} {b} {l} {new} g v h e p₁ p₂ =
    let E = env s o names in
    let t : token_at s true it ≡ statement b = statement_by_class (token_at s true it) h ∙ ap statement (sym e) in
    let w1 : q.written + 1 ≡ suc q.written = omega arith in
    let wrote : new ≡ sets m.line q.written (0 ∷ b ∷ []) = p₂ ∙ ap (λ (x : List ℕ). set x (q.written + 1) b) p₁ ∙ ap (λ (n : ℕ). set (set m.line q.written 0) n b) w1 in
    record {
      wrote = wrote_bytes (token_at s true it) (0 ∷ b ∷ []) it.end (λ ks. word_draft ks (token_at s true it) b t) (λ ks. word_after ks (token_at s true it) b t) wrote;
      begins = word_begins (token_at s true it) b t;
      asks = asks_after 2 new g (next_of v o names) (omega (arith, v.moves (λ z. omega arith)));
      stands = refl;
    }

name_begins : (t : Token) (n : List ℕ) → t ≡ assigned n → begins? t ≡ true
unfolding begins?
name_begins t n e = ap begins? e

-- a variable: LET without the word
pub began_name : {s names : List ℕ} {o k : ℕ} {q : Spot} {m : Mem} {it : Found} {r : Numbered} {l₁ l₂ new fresh : List ℕ} → Asks (env s o names) q m → Sees s q.at true it → 8 ≤ class (token_at s true it)
    → class (token_at s true it) ≤ 10 → Numbers (known (env s o names) q m) (spelling s it) m.fresh q.named r fresh
    → l₁ ≡ set m.line q.written 0 → l₂ ≡ set l₁ (q.written + 1) 0x36 → VariableWritten r.number l₂ (q.written + 2) new k
    → Began (env s o names) q m (token_at s true it) it.end (spot it.end (q.written + 2 + k) r.size) (mem new fresh)
unfolding variable_at
began_name {s} {names} {o} {k} {q} {m} {it} {r} {l₁} {l₂} {new} {fresh} g v lo hi d p₁ p₂ w =
    let E = env s o names in
    let n = spelling s it in
    let x = name_facts (record { at = q.at; first = true; sees = v; least = omega arith; most = hi }) in
    let ks = known E q m in
    let token = lows (variable_bytes ks n) in
    let bs : List ℕ = 0 ∷ 0x36 ∷ token in
    let size : q.written + 2 + k ≡ q.written + length bs = omega (arith, w.size ks n d.number) in
    let t : token_at s true it ≡ assigned n = x.token in
    let dr : draft ks (token_at s true it ∷ []) ≡ bs = ap (λ (z : Token). draft ks (z ∷ [])) t ∙ assigned_draft ks n in
    let af : after ks (token_at s true it) ≡ add_name ks n = ap (after ks) t ∙ assigned_after ks n in
    let sz : length n ≤ 2 * it.end - 2 * q.at = omega (arith, x.short, x.some, v.after, v.spans) in
    let fw : length bs ≤ 7 * it.end - 7 * q.at = omega (arith, x.some, v.after, v.spans, w.size ks n d.number, w.few) in
    let lt : q.at ≤ it.end = omega (arith, v.after, v.spans) in
    let w1 : q.written + 1 ≡ suc q.written = omega arith in
    let w2 : q.written + 2 ≡ suc (suc q.written) = omega arith in
    let wrote : new ≡ sets m.line q.written bs =
    w.line ks n d.number ∙ ap (λ (y : List ℕ). sets y (q.written + 2) token) (p₂ ∙ ap (λ (y : List ℕ). set y (q.written + 1) 0x36) p₁)
    ∙ ap (λ (i : ℕ). sets (set (set m.line q.written 0) (q.written + 1) 0x36) i token) w2
    ∙ ap (λ (i : ℕ). sets (set (set m.line q.written 0) i 0x36) (suc (suc q.written)) token) w1 in
    subst (λ (z : ℕ). Began E q m (token_at s true it) it.end (spot it.end z r.size) (mem new fresh)) (sym size)
    record {
      wrote = wrote_name (token_at s true it) n bs it.end g x.plain sz lt v.within af dr fw d wrote;
      begins = name_begins (token_at s true it) n t;
      asks = asks_name (token_at s true it) n bs it.end g x.plain sz lt v.within af dr fw d wrote;
      stands = refl;
    }

-- what the stack of a statement alone says of its first item
pub begun : {old new : List ℕ} {c : ℕ} {t : Taken} {r : Option Taken} → get_or old 0 0 ≡ want_statement → Steps old 1 c r new → r ≡ Some t
    → (look want_statement c ≡ takes_item itself (stack new t.depth)) × Begins c itself (stack new t.depth)
unfolding stack
begun {old} {new} {c} {t} z h e =
    let x = begins_with c (gives_of t.gives) (stack new t.depth) (ap (λ (f : ℕ). step look (f ∷ []) c) (sym z) ∙ (h.takes t e).0) in
    (x.0 ∙ ap (λ (w : Gives). takes_item w (stack new t.depth)) x.1.own, record { own = refl; starts = x.1.starts; raw = x.1.raw; good = x.1.good })

pub begun_row : {c : ℕ} {ws : List ℕ} (i : Item) → (look want_statement c ≡ takes_item itself ws) × Begins c itself ws → class i.token ≡ c → look_in_range want_statement i ≡ takes_item itself ws
begun_row {c} {ws} i b h = row_take want_statement c itself ws i h b.0 (ne_eqb c 3 (λ y. omega (arith, (b.1.starts (omega (arith, y))).0, y)))

pub begun_moves : {E : Env} {at : ℕ} {t : Token} {a e c : ℕ} → Next E true at t a e → class t ≡ c → (c < remark → (8 ≤ c) × (c ≤ 10)) → at < e
begun_moves s h k = omega (arith, s.after, s.moves (λ z. omega (arith, (k (omega (arith, h, z))).0, h, z)))

-- an item that begins no statement
pub not_begun : {old new : List ℕ} {c : ℕ} {r : Option Taken} {E : Env} {at : ℕ} {t : Token} {a e p : ℕ} → get_or old 0 0 ≡ want_statement → Steps old 1 c r new → r ≡ None → Next E true at t a e → class t ≡ c → p ≡ E.from + a
    → Halts (want_statement ∷ []) (items_at E true at) 4 p
unfolding stack
not_begun {old} {new} {c} {r} {E} {at} {t} {a} {e} {p} z n y s h w =
    let m : Mem = mem [] [] in
    let u : step look (want_statement ∷ []) c ≡ refused 4 = begins_not c (λ g gs x. n.refuses y g gs (ap (λ (f : ℕ). step look (f ∷ []) c) z ∙ x)) in
    (ends_refuse {q = spot at 0 0} (record { refusal = NoReading; place = p }) (want_statement ∷ []) m m s (step_refused (want_statement ∷ []) (item_of E t a e) 4 (ap (step look (want_statement ∷ [])) h ∙ u)) w).stop _ refl

-- ---- the items that follow it

after_go : (E : Env) (t : Token) (a e c : ℕ) (rest : List Item) (b : Bool) → eqb c remark ≡ b → (b ≡ true → rest ≡ raw_at (E.from + e) (drop e E.text)) → (b ≡ false → rest ≡ items_at E false e)
    → rest ≡ pick b (raw_at (E.from + e) (drop e E.text)) (items_at E false e)
after_go E t a e c rest true h f g = f refl
after_go E t a e c rest false h f g = g refl

calm_opens : (E : Env) (c e : ℕ) → eqb c 14 ≡ false → eqb c 25 ≡ false → items_at E (opens c) e ≡ items_at E false e
unfolding opens
calm_opens E c e p q = rw (p, q)

-- after the first item of a statement comes its rest
pub after_first : {E : Env} {at : ℕ} {t : Token} {a e : ℕ} (c : ℕ) → Next E true at t a e → class t ≡ c → (c < remark → (8 ≤ c) × (c ≤ 10)) → items_at E true at ≡ item_of E t a e ∷ rest_items E c e
unfolding rest_items
after_first {E} {at} {t} {a} {e} c s h k =
    s.here
    ∙ ap (λ (r : List Item). item_of E t a e ∷ r)
    (after_go E t a e c s.rest (eqb c remark) refl
    (λ z. s.text (h ∙ eqb-true c remark z))
    (λ z.
    s.on (λ y. absurd (omega (arith, (k (omega (arith, h, y))).0, h, y))) (λ y. eqb-false c remark z (sym h ∙ y)) ∙ ap (λ (x : ℕ). items_at E (opens x) e) h
    ∙ calm_opens E c e (ne_eqb c 14 (λ y. omega (arith, (k (omega (arith, y))).1, y))) (ne_eqb c 25 (λ y. omega (arith, (k (omega (arith, y))).1, y)))))

-- ---- the rest by the class of the first item

-- raw text
pub rest_raw : {E : Env} {q : Spot} {m m' : Mem} {r : Result Ended RefusedAt} {fs : List ℕ} (c : ℕ) → c ≡ remark → fs ≡ want_raw_text ∷ want_raw_end ∷ []
    → Reads (want_raw_text ∷ want_raw_end ∷ []) (raw_at (E.from + q.at) (drop q.at E.text)) E q m m' r → Reads fs (rest_items E c q.at) E q m m' r
unfolding rest_items
rest_raw {E} {q} {m} {m'} {r} c h e a =
    rw (eq-eqb c remark h) (subst (λ (l : List ℕ). Reads l (raw_at (E.from + q.at) (drop q.at E.text)) E q m m' r) (sym e) a)

-- any other
pub rest_other : {E : Env} {q : Spot} {m m' : Mem} {r : Result Ended RefusedAt} {fs : List ℕ} (c : ℕ) → (c ≡ remark → ⊥) → Ends fs E q m m' r → Reads fs (rest_items E c q.at) E q m m' r
unfolding rest_items
rest_other c h a = rw (ne_eqb c remark h) a

-- ---- a whole statement

-- the part of the text after the first item
part_rest : (s n : List ℕ) (o e c : ℕ) → rest_items (env (drop e s) (o + e) n) c 0 ≡ rest_items (env s o n) c e
unfolding rest_items
part_rest s n o e c =
    let z : o + e + 0 ≡ o + e = omega arith in
    let y : e + 0 ≡ e = omega arith in
    ap (λ (p : ℕ). pick (eqb c remark) (raw_at p (drop e s)) (items_at (env (drop e s) (o + e) n) false 0)) z
    ∙ ap (λ (is : List Item). pick (eqb c remark) (raw_at (o + e) (drop e s)) is) (part_items s n o e false 0 ∙ ap (items_at (env s o n) false) y)

-- what was said of the part holds of the text after a place
pub rest_of : {fs : List ℕ} {q : Spot} {m m' : Mem} {r : Result Ended RefusedAt} (s s' n : List ℕ) (o f e c : ℕ) → s' ≡ drop e s → f ≡ o + e
    → Reads fs (rest_items (env s' f n) c 0) (env s' f n) q m m' r → Reads fs (rest_items (env s o n) c e) (env (drop e s) (o + e) n) q m m' r
rest_of {fs} {q} {m} {m'} {r} s s' n o f e c h k a =
    let b : Reads fs (rest_items (env (drop e s) (o + e) n) c 0) (env (drop e s) (o + e) n) q m m' r =
    subst (λ (x : ℕ). Reads fs (rest_items (env (drop e s) x n) c 0) (env (drop e s) x n) q m m' r) k (subst (λ (l : List ℕ). Reads fs (rest_items (env l f n) c 0) (env l f n) q m m' r) h a) in
    subst (λ (is : List Item). Reads fs is (env (drop e s) (o + e) n) q m m' r) (part_rest s n o e c) b

-- what is asked after the first item is asked in the part
pub rest_asks : {q : Spot} {m : Mem} (s s' n : List ℕ) (o f e : ℕ) → s' ≡ drop e s → f ≡ o + e → q.at ≡ e → Asks (env s o n) q m → Asks (env s' f n) (spot 0 q.written q.named) m
rest_asks {q} {m} s s' n o f e h k z g =
    subst (λ (l : List ℕ). Asks (env l f n) (spot 0 q.written q.named) m) (sym h)
    (subst (λ (x : ℕ). Asks (env (drop e s) x n) (spot 0 q.written q.named) m) (sym k)
    (part_asks {s = s} {n = n} {o = o} {e = e} {w = q.written} {f = q.named} {m = m} (subst (λ (x : ℕ). Asks (env s o n) (spot x q.written q.named) m) z g)))
