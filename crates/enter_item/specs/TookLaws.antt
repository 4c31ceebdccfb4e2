-- Single items: passed, and written as their rows give them.
use Rattle.std.specs.Prelude.{ℕ, ◌+◌, ◌*◌, ◌-◌, ◌≤◌, ◌<◌, ◌≡◌, refl, Bool, true, false, ◌||◌, List, [], ◌∷◌, eqb, leb, ltb, length, set, Err}
use Rattle.std.proofs.Common.{add-zero, arith, subst, sym, ap, ◌∙◌, leb-true, ne_eqb, lt-ltb}
use Rattle.std.proofs.lemmas.List.Edits.{sets}
use Rattle.paper.specs.Bytes.{pick}
use Rattle.paper.specs.Classes.{line_end, number, open_sign, colon, then_word, channel_sign, remark}
use Rattle.paper.specs.Tokens.{Token, operator, class}
use Rattle.paper.specs.Names.{name_bytes, add_names}
use Rattle.paper.specs.Items.{Item, opens}
use Rattle.paper.specs.Machine.{take, refuse}
use Rattle.paper.specs.Grammar.{Gives, itself, for_strings, as_prefix, put, given, moved, look}
use Rattle.paper.specs.Line.{begins?}
use Rattle.laws.specs.Names.{names_added}
use Rattle.enter_item.specs.Draft.{written, after, draft}
use Rattle.enter_item.specs.NameLaws.{new_same}
use Rattle.tokens.specs.Same.{no_bool}
use Rattle.enter_item.specs.ClassLaws.{own_of, operator_by_class, small_operator}
use Rattle.enter_item.specs.Says.{Env, Mem, mem, Answer, spot, known, items_at, Asks, Next, item_of, Wrote, Passed, Took, Stop, Says, Hit, Expects}
use Rattle.enter_item.specs.Laws.{takes_last, says_stop, refused_at, row_refuse}
use Rattle.enter_item.specs.declared.Spot.{Spot}
use Rattle.refusals.specs.declared.RefusedAt.{RefusedAt}

-- a class whose item is no end and no REM or DATA, and after which no statement position comes
abbrev pub calm? : ℕ → Bool
calm? c = pick (eqb c line_end) false (pick (eqb c colon) false (pick (eqb c then_word) false (pick (eqb c remark) false true)))

-- a class of operators and functions within a statement
abbrev pub sign? : ℕ → Bool
sign? c = pick (leb open_sign c) (pick (leb c channel_sign) (pick (eqb c colon) false (pick (eqb c then_word) false true)) false) false

calm_opens : (c : ℕ) → calm? c ≡ true → opens c ≡ false
unfolding opens
calm_opens c h = go (eqb c line_end) (eqb c colon) (eqb c then_word) (eqb c remark) h
  where
    go : (a b d e : Bool) → pick a false (pick b false (pick d false (pick e false true))) ≡ true → (b || d) ≡ false
    go true b d e z = no_bool z
    go false true d e z = no_bool z
    go false false true e z = no_bool z
    go false false false e z = refl

pub calm_end : (c : ℕ) → calm? c ≡ true → c ≡ line_end → ⊥
calm_end c h e = no_bool (subst (λ (x : ℕ). calm? x ≡ true) e h)

calm_remark : (c : ℕ) → calm? c ≡ true → c ≡ remark → ⊥
calm_remark c h e = no_bool (subst (λ (x : ℕ). calm? x ≡ true) e h)

-- a calm item, and what comes after it
pub next_calm : {E : Env} {first : Bool} {at : ℕ} {t : Token} {a e : ℕ} → Next E first at t a e → calm? (class t) ≡ true → items_at E first at ≡ item_of E t a e ∷ items_at E false e
next_calm {E} {first} {at} {t} {a} {e} s k =
    s.here
    ∙ ap (λ (r : List Item). item_of E t a e ∷ r) (s.on (calm_end (class t) k) (calm_remark (class t) k) ∙ ap (λ (b : Bool). items_at E b e) (calm_opens (class t) k))

-- a token that adds no name was written as some bytes
pub wrote_bytes : {E : Env} {q : Spot} {m : Mem} {new : List ℕ} (u : Token) (bs : List ℕ) (a : ℕ) → ((ks : List (List ℕ)) → draft ks (u ∷ []) ≡ bs) → ((ks : List (List ℕ)) → after ks u ≡ ks)
    → new ≡ sets m.line q.written bs → Wrote E q m (u ∷ []) (spot a (q.written + length bs) q.named) (mem new m.fresh)
unfolding name_bytes
wrote_bytes {E} {q} {m} {new} u bs a w na n =
    let ks = known E q m in
    let none : name_bytes (names_added ks (u ∷ [])) ≡ [] = ap name_bytes (new_same ks u (na ks)) in
    record {
      marks = record { line = n ∙ ap (sets m.line q.written) (sym (w ks)); fresh = ap (sets m.fresh q.named) (sym none) };
      count = ap (λ (l : List ℕ). q.written + length l) (sym (w ks));
      added = sym (add-zero q.named) ∙ ap (λ (l : List ℕ). q.named + length l) (sym none);
      knows = sym (na ks);
    }

-- what is asked after an item that is written as some bytes
pub asks_after : {E : Env} {first : Bool} {q : Spot} {m : Mem} {t : Token} {a e : ℕ} (n : ℕ) (new : List ℕ) → Asks E q m → Next E first q.at t a e → n ≤ 7 * (e - a)
    → Asks E (spot e (q.written + n) q.named) (mem new m.fresh)
asks_after n new k s few =
    record { within = s.within; short = k.short; few = omega (arith, k.few, s.after, s.spans); added = omega (arith, k.added, s.after, s.spans); room = k.room; closed = k.closed }

-- an item that adds no name, and is written as some bytes
pub passed_bytes : {E : Env} {first : Bool} {q : Spot} {m : Mem} {t : Token} {a e : ℕ} {new : List ℕ} {then : Bool} (g : Gives) (bs : List ℕ) → Asks E q m → Next E first q.at t a e
    → items_at E first q.at ≡ item_of E t a e ∷ items_at E then e → a < e → ((ks : List (List ℕ)) → draft ks (given g t ∷ []) ≡ bs) → ((ks : List (List ℕ)) → after ks (given g t) ≡ ks)
    → new ≡ sets m.line q.written bs → length bs ≤ 7 * (e - a)
    → Passed E first q m g (item_of E t a e) then (spot e (q.written + length bs) q.named) (mem new m.fresh)
passed_bytes {E} {first} {q} {m} {t} {a} {e} {new} {then} g bs k s h mv w na n few =
    record { here = h; wrote = wrote_bytes (given g t) bs e w na n; asks = asks_after (length bs) new k s few; ahead = omega (arith, s.after) }

pub one_byte : (ks : List (List ℕ)) (u : Token) (b : ℕ) → u ≡ operator b → draft ks (u ∷ []) ≡ b ∷ []
unfolding draft written begins?
one_byte ks u b e = ap (λ (x : Token). draft ks (x ∷ [])) e

pub no_name : (ks : List (List ℕ)) (u : Token) (b : ℕ) → u ≡ operator b → after ks u ≡ ks
unfolding add_names
no_name ks u b e = ap (after ks) e

pub no_start : (u : Token) (b : ℕ) → u ≡ operator b → begins? u ≡ false
unfolding begins?
no_start u b e = ap begins? e

-- an item that gives an operator's token
pub passed_operator : {E : Env} {first : Bool} {q q' : Spot} {m m' : Mem} {t : Token} {a e : ℕ} {then : Bool} {b : ℕ} (g : Gives) → Asks E q m → Next E first q.at t a e
    → items_at E first q.at ≡ item_of E t a e ∷ items_at E then e → a < e → given g t ≡ operator b
    → m' ≡ mem (set m.line q.written b) m.fresh → q' ≡ spot e (q.written + 1) q.named → Took E first q m g (item_of E t a e) then q' m'
passed_operator {E} {first} {q} {q'} {m} {m'} {t} {a} {e} {then} {b} g k s h mv u n st =
    subst (λ (x : Spot). Took E first q m g (item_of E t a e) then x m') (sym st)
    (subst (λ (x : Mem). Took E first q m g (item_of E t a e) then (spot e (q.written + 1) q.named) x) (sym n)
    (record {
      pass = passed_bytes g (b ∷ []) k s h mv (λ ks. one_byte ks (given g t) b u) (λ ks. no_name ks (given g t) b u) refl (omega arith);
      plain = no_start (given g t) b u;
    }))

-- the same for a calm item of the class c
took_operator : {E : Env} {q q' : Spot} {m m' : Mem} {t : Token} {a e : ℕ} {b : ℕ} (g : Gives) (c : ℕ) → calm? c ≡ true → Asks E q m → Next E false q.at t a e → class t ≡ c
    → given g t ≡ operator b → m' ≡ mem (set m.line q.written b) m.fresh → q' ≡ spot e (q.written + 1) q.named → Took E false q m g (item_of E t a e) false q' m'
took_operator {t = t} g c k ask s h u n st =
    let cm : calm? (class t) ≡ true = ap calm? h ∙ k in
    passed_operator g ask s (next_calm s cm) (s.moves (calm_end (class t) cm)) u n st

pub record Sign (c : ℕ) : Type 0 where
  pub low : open_sign ≤ c
  pub high : c ≤ channel_sign
  pub calm : calm? c ≡ true
  pub range : eqb c number ≡ false

-- what the test says
pub sign : (c : ℕ) → sign? c ≡ true → Sign c
sign c h = go (leb open_sign c) (leb c channel_sign) (eqb c colon) (eqb c then_word) refl refl refl refl h
  where
    go : (a b d e : Bool) → leb open_sign c ≡ a → leb c channel_sign ≡ b → eqb c colon ≡ d → eqb c then_word ≡ e → pick a (pick b (pick d false (pick e false true)) false) false ≡ true → Sign c
    go true true false false p q r s z =
        let l = leb-true open_sign c p in
        let u = leb-true c channel_sign q in
        record {
          low = l;
          high = u;
          calm = rw (ne_eqb c line_end (λ x. omega arith), r, s, ne_eqb c remark (λ x. omega arith));
          range = ne_eqb c number (λ x. omega arith);
        }
    go true true false true p q r s z = no_bool z
    go true true true e p q r s z = no_bool z
    go true false d e p q r s z = no_bool z
    go false b d e p q r s z = no_bool z

operator_at : (t : Token) (c : ℕ) → sign? c ≡ true → class t ≡ c → t ≡ operator (own_of t)
operator_at t c k h = let x = sign c k in operator_by_class t (omega (arith, x.low)) (omega (arith, x.high))

-- written as another operator
pub took_put : {E : Env} {q q' : Spot} {m m' : Mem} {t : Token} {a e : ℕ} (c b : ℕ) → sign? c ≡ true → Asks E q m → Next E false q.at t a e → class t ≡ c
    → m' ≡ mem (set m.line q.written b) m.fresh → q' ≡ spot e (q.written + 1) q.named → Took E false q m (put b) (item_of E t a e) false q' m'
unfolding given
took_put c b k ask s h n st = took_operator (put b) c (sign c k).calm ask s h refl n st

-- written as it is
pub took_own : {E : Env} {q q' : Spot} {m m' : Mem} {t : Token} {a e : ℕ} {b : ℕ} (c : ℕ) → sign? c ≡ true → Asks E q m → Next E false q.at t a e → class t ≡ c
    → b ≡ own_of t → m' ≡ mem (set m.line q.written b) m.fresh → q' ≡ spot e (q.written + 1) q.named → Took E false q m itself (item_of E t a e) false q' m'
unfolding given
took_own {t = t} c k ask s h o n st = took_operator itself c (sign c k).calm ask s h (operator_at t c k h ∙ ap operator (sym o)) n st

moved_operator : (n : ℕ) (t : Token) (b : ℕ) → t ≡ operator (own_of t) → b ≡ own_of t + n → moved n t ≡ operator b
unfolding moved
moved_operator n t b h e = ap (moved n) h ∙ ap operator (sym e)

-- an operator's token that many on
unfoldable pub shifted : ℕ → ℕ → ℕ
shifted n t = pick (ltb t 128) (t + n) t

shifted_small : (n : ℕ) (t : Token) (c : ℕ) → sign? c ≡ true → class t ≡ c → shifted n (own_of t) ≡ own_of t + n
unfolding shifted
shifted_small n t c k h =
    let x = sign c k in
    let e : 3 ≤ class (operator (own_of t)) = subst (λ (u : Token). 3 ≤ class u) (operator_at t c k h) (omega (arith, x.low)) in
    rw (lt-ltb (own_of t) 128 (omega (arith, small_operator (own_of t) e)))

-- written as a prefix
pub took_prefix : {E : Env} {q q' : Spot} {m m' : Mem} {t : Token} {a e : ℕ} {b : ℕ} (c : ℕ) → sign? c ≡ true → Asks E q m → Next E false q.at t a e → class t ≡ c
    → b ≡ shifted 0x10 (own_of t) → m' ≡ mem (set m.line q.written b) m.fresh → q' ≡ spot e (q.written + 1) q.named → Took E false q m as_prefix (item_of E t a e) false q' m'
unfolding given
took_prefix {t = t} {b = b} c k ask s h o n st =
    took_operator as_prefix c (sign c k).calm ask s h (moved_operator 0x10 t b (operator_at t c k h) (o ∙ shifted_small 0x10 t c k h)) n st

-- written as a comparison of strings
pub took_compare : {E : Env} {q q' : Spot} {m m' : Mem} {t : Token} {a e : ℕ} {b : ℕ} (c : ℕ) → sign? c ≡ true → Asks E q m → Next E false q.at t a e → class t ≡ c
    → b ≡ shifted 0x12 (own_of t) → m' ≡ mem (set m.line q.written b) m.fresh → q' ≡ spot e (q.written + 1) q.named → Took E false q m for_strings (item_of E t a e) false q' m'
unfolding given
took_compare {t = t} {b = b} c k ask s h o n st =
    took_operator for_strings c (sign c k).calm ask s h (moved_operator 0x12 t b (operator_at t c k h) (o ∙ shifted_small 0x12 t c k h)) n st

-- ---- an expected symbol

pub hit_put : {c b : ℕ} {E : Env} {q q' : Spot} {m m' : Mem} → sign? c ≡ true → Asks E q m → (h : Hit c b E q m m' q')
    → Took E false q m (put b) (item_of E h.t h.a h.e) false q' m'
hit_put {c} {b} k g h = took_put c b k g h.next h.class h.wrote h.stands

pub missed : {c b : ℕ} {E : Env} {q : Spot} {m m' : Mem} {r₁ : Answer} {x : RefusedAt} (f : ℕ) → ((d : ℕ) → (d ≡ c → ⊥) → look f d ≡ refuse 4)
    → Expects c b E q m m' r₁ → r₁ ≡ Err x → Says (f ∷ []) E q m m' (Err x)
missed {c} {b} {E} {q} {m} {m'} {r₁} {x} f l h e =
    let y = h.miss x e in
    subst (λ (n : Mem). Says (f ∷ []) E q m n (Err x)) (sym y.kept)
    (says_stop (subst (λ (n : ℕ). Stop (f ∷ []) E q m n x.place m) (sym y.number) (refused_at m f 4 y.next (row_refuse f 4 (item_of E y.t y.a y.e) (l _ y.class)) y.place)))

-- a frame that wants the symbol, and nothing after it
expects : {c b : ℕ} {E : Env} {q : Spot} {m m' : Mem} {r : Answer} (f : ℕ) (g : Gives) → look f c ≡ take g [] → sign? c ≡ true → ((d : ℕ) → (d ≡ c → ⊥) → look f d ≡ refuse 4)
    → ((q' : Spot) (h : Hit c b E q m m' q') → Took E false q m g (item_of E h.t h.a h.e) false q' m')
    → Expects c b E q m m' r → Says (f ∷ []) E q m m' r
expects {c} {b} {E} {q} {m} {m'} {r} f g l k o t x = record {
  got = λ q' e. let h = x.hit q' e in (takes_last f c l (sign c k).range h.class (t q' h)).got q' refl;
  stop = λ y e. (missed f o x e).stop y refl;
}

pub expects_put : {c b : ℕ} {E : Env} {q : Spot} {m m' : Mem} {r : Answer} (f : ℕ) → look f c ≡ take (put b) [] → sign? c ≡ true → ((d : ℕ) → (d ≡ c → ⊥) → look f d ≡ refuse 4) → Asks E q m
    → Expects c b E q m m' r → Says (f ∷ []) E q m m' r
expects_put {b = b} f l k o g x = expects f (put b) l k o (λ q' h. hit_put k g h) x

-- the same, where no other symbol has the class
pub expects_own : {c b : ℕ} {E : Env} {q : Spot} {m m' : Mem} {r : Answer} (f : ℕ) → look f c ≡ take itself [] → sign? c ≡ true → ((d : ℕ) → (d ≡ c → ⊥) → look f d ≡ refuse 4)
    → ((t : Token) → class t ≡ c → b ≡ own_of t) → Asks E q m → Expects c b E q m m' r → Says (f ∷ []) E q m m' r
expects_own {c} f l k o s g x = expects f itself l k o (λ q' h. took_own c k g h.next h.class (s h.t h.class) h.wrote h.stands) x
