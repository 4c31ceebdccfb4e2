-- How the promises of readers make the promise of the reader that calls them.
use Rattle.std.specs.Prelude.{ℕ, zero, suc, pred, ◌+◌, ◌≡◌, refl, Bool, true, false, not, List, [], ◌∷◌, ◌++◌, eqb, length, drop, Ok, Err}
use Rattle.std.proofs.Common.{add-zero, arith, subst, sym, ap, ◌∙◌, append-nil, length-append}
use Rattle.std.proofs.lemmas.List.Edits.{sets}
use Rattle.paper.specs.Bytes.{pick, blank?}
use Rattle.paper.specs.Classes.{remark, number}
use Rattle.paper.specs.Tokens.{Token, class, out_of_range?}
use Rattle.paper.specs.Names.{name_bytes, add_names}
use Rattle.paper.specs.Items.{Item, item_at, opens, raw_at, scan}
use Rattle.paper.specs.Machine.{take, leave, refuse, step_act, Taken, Run, done, bad, and_taken, step, go_on, read}
use Rattle.paper.specs.MachineLaws.{all_taken, seq, read_append}
use Rattle.paper.specs.Grammar.{Gives, itself, given, look, look_item, if_in_range, look_in_range}
use Rattle.paper.specs.WellFormed.{tokens_of}
use Rattle.laws.specs.Names.{names_added, name_bytes_append, adds_append}
use Rattle.buffers.specs.Sets.{sets_append}
use Rattle.enter_item.specs.Draft.{draft, still}
use Rattle.enter_item.specs.NameLaws.{new_append, new_none}
use Rattle.enter_item.specs.DraftLaws.{draft_append, still_append, still_more, still_none}
use Rattle.enter_item.specs.ClassLaws.{in_range_by_class}
use Rattle.enter_item.specs.Says.{Env, Mem, Answer, refused, known, items_at, taken, Asks, Next, item_of, Marks, Wrote, Took, Got, Stop, Says, Counts}
use Rattle.enter_item.specs.ExpectLaws.{no_done}
use Rattle.enter_item.specs.declared.Spot.{Spot}
use Rattle.refusals.specs.Numbers.{number_of}
use Rattle.refusals.specs.declared.Refusal.TheVariants.{NoReading}
use Rattle.refusals.specs.declared.RefusedAt.{RefusedAt}

-- ---- bytes written one after another

pub out_then : {o₁ o₂ : List ℕ} (o : List ℕ) (n n₁ : ℕ) (a b c : List ℕ) → o₁ ≡ sets o n a → n₁ ≡ n + length a → o₂ ≡ sets o₁ n₁ b → c ≡ a ++ b → o₂ ≡ sets o n c
out_then o n n₁ a b c p q r e =
    r ∙ ap (λ (l : List ℕ). sets l n₁ b) p ∙ ap (λ (k : ℕ). sets (sets o n a) k b) q ∙ sym (sets_append o n a b) ∙ ap (sets o n) (sym e)

pub count_then : (n n₁ n₂ : ℕ) (a b c : List ℕ) → n₁ ≡ n + length a → n₂ ≡ n₁ + length b → c ≡ a ++ b → n₂ ≡ n + length c
count_then n n₁ n₂ a b c p q e = omega (arith, length-append a b, ap length e)

pub tokens_append : (ts us : List (Taken Gives Item)) → tokens_of (ts ++ us) ≡ tokens_of ts ++ tokens_of us
unfolding tokens_of
tokens_append [] us = refl
tokens_append (t ∷ ts) us = ap (λ (l : List Token). given t.gave t.from.token ∷ l) (tokens_append ts us)

draft_then : {E : Env} {q q₁ : Spot} {m m₁ : Mem} {us : List Token} (vs : List Token) → Wrote E q m us q₁ m₁ → draft (known E q m) (us ++ vs) ≡ draft (known E q m) us ++ draft (known E q₁ m₁) vs
draft_then {E} {q} {q₁} {m} {m₁} {us} vs a =
    draft_append (known E q m) us vs ∙ ap (λ (k : List (List ℕ)). draft (known E q m) us ++ draft k vs) (sym a.knows)

names_then : {E : Env} {q q₁ : Spot} {m m₁ : Mem} {us : List Token} (vs : List Token) → Wrote E q m us q₁ m₁
    → name_bytes (names_added (known E q m) (us ++ vs)) ≡ name_bytes (names_added (known E q m) us) ++ name_bytes (names_added (known E q₁ m₁) vs)
names_then {E} {q} {q₁} {m} {m₁} {us} vs a =
    ap name_bytes (new_append (known E q m) us vs) ∙ name_bytes_append (names_added (known E q m) us) (names_added (add_names (known E q m) us) vs)
    ∙ ap (λ (k : List (List ℕ)). name_bytes (names_added (known E q m) us) ++ name_bytes (names_added k vs)) (sym a.knows)

pub marks_then : {E : Env} {q q₁ : Spot} {m m₁ m₂ : Mem} {us vs : List Token} → Wrote E q m us q₁ m₁ → Marks E q₁ m₁ vs m₂ → Marks E q m (us ++ vs) m₂
marks_then {E} {q} {q₁} {m} {m₁} {m₂} {us} {vs} a b =
    let ks = known E q m in
    let ks₁ = known E q₁ m₁ in
    record {
      line = out_then m.line q.written q₁.written (draft ks us) (draft ks₁ vs) (draft ks (us ++ vs)) a.marks.line a.count b.line (draft_then vs a);
      fresh = out_then m.fresh q.named q₁.named (name_bytes (names_added ks us)) (name_bytes (names_added ks₁ vs)) (name_bytes (names_added ks (us ++ vs))) a.marks.fresh a.added b.fresh (names_then vs a);
    }

pub wrote_then : {E : Env} {q q₁ q₂ : Spot} {m m₁ m₂ : Mem} {us vs : List Token} → Wrote E q m us q₁ m₁ → Wrote E q₁ m₁ vs q₂ m₂ → Wrote E q m (us ++ vs) q₂ m₂
wrote_then {E} {q} {q₁} {q₂} {m} {m₁} {m₂} {us} {vs} a b =
    let ks = known E q m in
    let ks₁ = known E q₁ m₁ in
    record {
      marks = marks_then a b.marks;
      count = count_then q.written q₁.written q₂.written (draft ks us) (draft ks₁ vs) (draft ks (us ++ vs)) a.count b.count (draft_then vs a);
      added = count_then q.named q₁.named q₂.named (name_bytes (names_added ks us)) (name_bytes (names_added ks₁ vs)) (name_bytes (names_added ks (us ++ vs))) a.added b.added (names_then vs a);
      knows = b.knows ∙ ap (λ (k : List (List ℕ)). add_names k vs) a.knows ∙ sym (adds_append ks us vs);
    }

none_bytes : (ks : List (List ℕ)) → name_bytes (names_added ks []) ≡ []
unfolding name_bytes
none_bytes ks = ap name_bytes (new_none ks)

pub marks_none : (E : Env) (q : Spot) (m : Mem) → Marks E q m [] m
unfolding draft
marks_none E q m = record { line = refl; fresh = ap (sets m.fresh q.named) (sym (none_bytes (known E q m))) }

pub wrote_none : (E : Env) (q : Spot) (m : Mem) → Wrote E q m [] q m
unfolding draft add_names
wrote_none E q m = record {
  marks = marks_none E q m;
  count = sym (add-zero q.written);
  added = sym (add-zero q.named) ∙ ap (λ (l : List ℕ). q.named + length l) (sym (none_bytes (known E q m)));
  knows = refl;
}

-- ---- runs, one reader after another

pub taken_done : (ts us : List (Taken Gives Item)) (r : List Item) → all_taken ts (done us r) ≡ done (ts ++ us) r
unfolding all_taken and_taken
taken_done [] us r = refl
taken_done (t ∷ ts) us r = ap (and_taken t) (taken_done ts us r)

pub taken_bad : (ts : List (Taken Gives Item)) (k : ℕ) (us : List (Taken Gives Item)) (r : List Item) → all_taken ts (bad k us r) ≡ bad k (ts ++ us) r
unfolding all_taken and_taken
taken_bad [] k us r = refl
taken_bad (t ∷ ts) k us r = ap (and_taken t) (taken_bad ts k us r)

-- frames read, and then others
pub ran_then : {fs : List ℕ} {E : Env} {q q₁ : Spot} {m m₁ : Mem} (gs : List ℕ) → (a : Got fs E q m q₁ m₁)
    → read look_in_range (fs ++ gs) (items_at E false q.at) ≡ all_taken a.ts (read look_in_range gs (items_at E false q₁.at))
unfolding seq
ran_then {fs} {E} {q} gs a = read_append look_in_range fs gs (items_at E false q.at) ∙ ap (λ (x : Run Gives Item). seq look_in_range x gs) a.ran

pub got_then : {fs gs : List ℕ} {E : Env} {q q₁ q₂ : Spot} {m m₁ m₂ : Mem} → Got fs E q m q₁ m₁ → Got gs E q₁ m₁ q₂ m₂ → Got (fs ++ gs) E q m q₂ m₂
got_then {fs} {gs} {E} {q} {q₁} {q₂} {m} {m₁} {m₂} a b =
    let e = tokens_append a.ts b.ts in
    record {
      ts = a.ts ++ b.ts;
      ran = ran_then gs a ∙ ap (all_taken a.ts) b.ran ∙ taken_done a.ts b.ts (items_at E false q₂.at);
      wrote = subst (λ (l : List Token). Wrote E q m l q₂ m₂) (sym e) (wrote_then a.wrote b.wrote);
      asks = b.asks;
      ahead = omega (arith, a.ahead, b.ahead);
      plain = subst (λ (l : List Token). still l ≡ true) (sym e) (still_append (tokens_of a.ts) (tokens_of b.ts) a.plain b.plain);
    }

pub stop_then : {fs gs : List ℕ} {E : Env} {q q₁ : Spot} {m m₁ m₂ : Mem} {k p : ℕ} → Got fs E q m q₁ m₁ → Stop gs E q₁ m₁ k p m₂ → Stop (fs ++ gs) E q m k p m₂
stop_then {fs} {gs} {E} {q} {q₁} {m} {m₁} {m₂} {k} {p} a b = record {
  ts = a.ts ++ b.ts;
  item = b.item;
  rest = b.rest;
  ran = ran_then gs a ∙ ap (all_taken a.ts) b.ran ∙ taken_bad a.ts k b.ts (b.item ∷ b.rest);
  place = b.place;
  marks = subst (λ (l : List Token). Marks E q m l m₂) (sym (tokens_append a.ts b.ts)) (marks_then a.wrote b.marks);
}

pub stop_first : {fs : List ℕ} {E : Env} {q : Spot} {m m' : Mem} {k p : ℕ} (gs : List ℕ) → Stop fs E q m k p m' → Stop (fs ++ gs) E q m k p m'
unfolding seq
stop_first {fs} {E} {q} gs a = record {
  ts = a.ts;
  item = a.item;
  rest = a.rest;
  ran = read_append look_in_range fs gs (items_at E false q.at) ∙ ap (λ (x : Run Gives Item). seq look_in_range x gs) a.ran;
  place = a.place;
  marks = a.marks;
}

-- ---- what a reader says

-- a reader, and then the rest
pub says_then : {fs gs : List ℕ} {E : Env} {q q₁ : Spot} {m m₁ m₂ : Mem} {r : Answer} → Got fs E q m q₁ m₁ → Says gs E q₁ m₁ m₂ r → Says (fs ++ gs) E q m m₂ r
says_then a b = record { got = λ z e. got_then a (b.got z e); stop = λ x e. stop_then a (b.stop x e) }

pub says_done : {fs : List ℕ} {E : Env} {q q' : Spot} {m m' : Mem} → Got fs E q m q' m' → Says fs E q m m' (Ok q')
says_done {fs} {E} {q} {q'} {m} {m'} a = record {
  got = λ z e. let h : q' ≡ z = cc in subst (λ (x : Spot). Got fs E q m x m') h a;
  stop = λ x e. no_done e;
}

pub says_stop : {fs : List ℕ} {E : Env} {q : Spot} {m m' : Mem} {x : RefusedAt} → Stop fs E q m (number_of x.refusal) x.place m' → Says fs E q m m' (Err x)
says_stop {fs} {E} {q} {m} {m'} {x} a = record {
  got = λ z e. no_done (sym e);
  stop = λ y e. let h : x ≡ y = cc in subst (λ (z : RefusedAt). Stop fs E q m (number_of z.refusal) z.place m') h a;
}

-- a refusal of the first reader is the refusal of the whole
pub says_first : {fs : List ℕ} {E : Env} {q : Spot} {m m' : Mem} {r : Answer} {x : RefusedAt} (gs : List ℕ) → Says fs E q m m' r → r ≡ Err x → Says (fs ++ gs) E q m m' (Err x)
says_first {x = x} gs a e = says_stop (stop_first gs (a.stop x e))

-- ---- one frame

pub read_front : (f : ℕ) (e : Gives) (p u : List ℕ) (i : Item) (is : List Item) → look_in_range f i ≡ take e p
    → read look_in_range (f ∷ u) (i ∷ is) ≡ and_taken (taken e i) (read look_in_range (p ++ u) is)
unfolding read step step_act go_on
read_front f e p u i is h = rw h

pub read_take : (f : ℕ) (e : Gives) (p : List ℕ) (i : Item) (is : List Item) → look_in_range f i ≡ take e p
    → read look_in_range (f ∷ []) (i ∷ is) ≡ and_taken (taken e i) (read look_in_range p is)
read_take f e p i is h = read_front f e p [] i is h ∙ ap (λ (l : List ℕ). and_taken (taken e i) (read look_in_range l is)) (append-nil p)

read_leave : (f : ℕ) (i : Item) (is : List Item) → look_in_range f i ≡ leave → read look_in_range (f ∷ []) (i ∷ is) ≡ done [] (i ∷ is)
unfolding read step step_act go_on
read_leave f i is h = rw h

pub read_refuse : (f k : ℕ) (i : Item) (is : List Item) → look_in_range f i ≡ refuse k → read look_in_range (f ∷ []) (i ∷ is) ≡ bad k [] (i ∷ is)
unfolding read step step_act go_on
read_refuse f k i is h = rw h

read_none : (is : List Item) (j : Item) (r : List Item) → is ≡ j ∷ r → read look_in_range [] is ≡ done [] is
unfolding read step go_on
read_none is j r e = rw e

-- some item stands at every place
some_go : (x : Bool) (a b : List Item) → ((j : Item) × ((r : List Item) × (a ≡ j ∷ r))) → ((j : Item) × ((r : List Item) × (b ≡ j ∷ r))) → (j : Item) × ((r : List Item) × (pick x a b ≡ j ∷ r))
some_go true a b h k = h
some_go false a b h k = k

some_item : (n : ℕ) (first : Bool) (p : ℕ) (s : List ℕ) → (j : Item) × ((r : List Item) × (scan n first p s ≡ j ∷ r))
unfolding scan
some_item n first p [] = (_, (_, refl))
some_item (suc n) first p (b ∷ s) = some_item n first (suc p) s
some_item zero first p (b ∷ s) =
    let i = item_at first p (b ∷ s) in
    let r = pick (eqb (class i.token) remark) (raw_at (p + i.size) (drop i.size (b ∷ s))) (scan (pred i.size) (opens (class i.token)) (suc p) s) in
    some_go (blank? b) (scan zero first (suc p) s) (i ∷ r) (some_item zero first (suc p) s) (i, (r, refl))

pub got_none : {E : Env} {q : Spot} {m : Mem} → Asks E q m → Got [] E q m q m
unfolding tokens_of
got_none {E} {q} {m} g =
    let s = some_item 0 false (E.from + q.at) (drop q.at E.text) in
    record { ts = []; ran = read_none (items_at E false q.at) s.0 s.1.0 s.1.1; wrote = wrote_none E q m; asks = g; ahead = omega arith; plain = still_none }

-- an item taken, and then the frames that its row wants
took_got : {f : ℕ} {p : List ℕ} {E : Env} {q q₁ q₂ : Spot} {m m₁ m₂ : Mem} {e : Gives} {i : Item} → look_in_range f i ≡ take e p → Took E false q m e i false q₁ m₁
    → Got p E q₁ m₁ q₂ m₂ → Got (f ∷ []) E q m q₂ m₂
unfolding and_taken tokens_of
took_got {f} {p} {E} {q} {q₁} {q₂} {m} {m₁} {m₂} {e} {i} l t b = record {
  ts = taken e i ∷ b.ts;
  ran = ap (read look_in_range (f ∷ [])) t.pass.here ∙ read_take f e p i (items_at E false q₁.at) l ∙ ap (and_taken (taken e i)) b.ran;
  wrote = wrote_then t.pass.wrote b.wrote;
  asks = b.asks;
  ahead = omega (arith, t.pass.ahead, b.ahead);
  plain = still_more (given e i.token) (tokens_of b.ts) t.plain b.plain;
}

took_stop : {f k r : ℕ} {p : List ℕ} {E : Env} {q q₁ : Spot} {m m₁ m₂ : Mem} {e : Gives} {i : Item} → look_in_range f i ≡ take e p → Took E false q m e i false q₁ m₁
    → Stop p E q₁ m₁ k r m₂ → Stop (f ∷ []) E q m k r m₂
unfolding and_taken tokens_of
took_stop {f} {k} {r} {p} {E} {q} {q₁} {m} {m₁} {m₂} {e} {i} l t b = record {
  ts = taken e i ∷ b.ts;
  item = b.item;
  rest = b.rest;
  ran = ap (read look_in_range (f ∷ [])) t.pass.here ∙ read_take f e p i (items_at E false q₁.at) l ∙ ap (and_taken (taken e i)) b.ran;
  place = b.place;
  marks = marks_then t.pass.wrote b.marks;
}

-- ---- rows of the table, on items

pub row_take : (f c : ℕ) (e : Gives) (p : List ℕ) (i : Item) → class i.token ≡ c → look f c ≡ take e p → eqb c number ≡ false → look_in_range f i ≡ take e p
unfolding look_in_range look_item if_in_range
row_take f c e p i h l z = rw (in_range_by_class i.token (ap (λ (x : ℕ). eqb x number) h ∙ z), h, l)

pub row_near : (f : ℕ) (e : Gives) (p : List ℕ) (i : Item) → class i.token ≡ number → look f number ≡ take e p → out_of_range? i.token ≡ false → look_in_range f i ≡ take e p
unfolding look_in_range look_item if_in_range
row_near f e p i h l z = rw (z, h, l)

pub row_far : (f : ℕ) (e : Gives) (p : List ℕ) (i : Item) → class i.token ≡ number → look f number ≡ take e p → out_of_range? i.token ≡ true → look_in_range f i ≡ refuse 5
unfolding look_in_range look_item if_in_range
row_far f e p i h l z = rw (z, h, l)

if_leave : (b : Bool) → if_in_range b leave ≡ leave
unfolding if_in_range
if_leave true = refl
if_leave false = refl

if_refuse : (b : Bool) (k : ℕ) → if_in_range b (refuse k) ≡ refuse k
unfolding if_in_range
if_refuse true k = refl
if_refuse false k = refl

pub row_leave : (f : ℕ) (i : Item) → look f (class i.token) ≡ leave → look_in_range f i ≡ leave
unfolding look_in_range look_item
row_leave f i l = ap (if_in_range (not (out_of_range? i.token))) l ∙ if_leave (not (out_of_range? i.token))

pub row_refuse : (f k : ℕ) (i : Item) → look f (class i.token) ≡ refuse k → look_in_range f i ≡ refuse k
unfolding look_in_range look_item
row_refuse f k i l = ap (if_in_range (not (out_of_range? i.token))) l ∙ if_refuse (not (out_of_range? i.token)) k

-- an item is taken, and then the frames that its row wants are read
pub takes : {E : Env} {q q₁ : Spot} {m m₁ m₂ : Mem} {e : Gives} {i : Item} {r : Answer} (f c : ℕ) (p : List ℕ) → look f c ≡ take e p → eqb c number ≡ false → class i.token ≡ c
    → Took E false q m e i false q₁ m₁ → Says p E q₁ m₁ m₂ r → Says (f ∷ []) E q m m₂ r
takes {E} {q} {q₁} {m} {m₁} {m₂} {e} {i} {r} f c p l z h t b =
    let w = row_take f c e p i h l z in
    record { got = λ x y. took_got w t (b.got x y); stop = λ x y. took_stop w t (b.stop x y) }

-- an item is taken, and nothing is wanted
pub takes_last : {E : Env} {q q₁ : Spot} {m m₁ : Mem} {e : Gives} {i : Item} (f c : ℕ) → look f c ≡ take e [] → eqb c number ≡ false → class i.token ≡ c
    → Took E false q m e i false q₁ m₁ → Says (f ∷ []) E q m m₁ (Ok q₁)
takes_last f c l z h t = takes f c [] l z h t (says_done (got_none t.pass.asks))

pub leaves : {E : Env} {q : Spot} {t : Token} {a e : ℕ} {m : Mem} (f : ℕ) → Asks E q m → Next E false q.at t a e → look f (class t) ≡ leave → Says (f ∷ []) E q m m (Ok q)
unfolding tokens_of
leaves {E} {q} {t} {a} {e} {m} f g s l =
    let i = item_of E t a e in
    says_done (record {
      ts = [];
      ran = ap (read look_in_range (f ∷ [])) s.here ∙ read_leave f i s.rest (row_leave f i l) ∙ ap (done []) (sym s.here);
      wrote = wrote_none E q m;
      asks = g;
      ahead = omega arith;
      plain = still_none;
    })

pub refused_at : {E : Env} {q : Spot} {t : Token} {a e p : ℕ} (m : Mem) (f k : ℕ) → Next E false q.at t a e → look_in_range f (item_of E t a e) ≡ refuse k → p ≡ E.from + a → Stop (f ∷ []) E q m k p m
unfolding tokens_of
refused_at {E} {q} {t} {a} {e} {p} m f k s l w =
    record { ts = []; item = item_of E t a e; rest = s.rest; ran = ap (read look_in_range (f ∷ [])) s.here ∙ read_refuse f k (item_of E t a e) s.rest l; place = w; marks = marks_none E q m }

pub refuses : {E : Env} {q : Spot} {t : Token} {a e p : ℕ} (f : ℕ) (m : Mem) → Next E false q.at t a e → look f (class t) ≡ refuse 4 → p ≡ E.from + a → Says (f ∷ []) E q m m (refused NoReading p)
refuses {E} {q} {t} {a} {e} {p} f m s l w = says_stop (refused_at m f 4 s (row_refuse f 4 (item_of E t a e) l) w)

read_both : (f g : ℕ) (e : Gives) (p u : List ℕ) (i : Item) (is : List Item) → look_in_range f i ≡ take e (p ++ u) → look_in_range g i ≡ take e p
    → read look_in_range (f ∷ []) (i ∷ is) ≡ read look_in_range (g ∷ u) (i ∷ is)
read_both f g e p u i is h k = read_take f e (p ++ u) i is h ∙ sym (read_front g e p u i is k)

says_same : {fs gs : List ℕ} {E : Env} {q : Spot} {m m' : Mem} {r : Answer} → read look_in_range fs (items_at E false q.at) ≡ read look_in_range gs (items_at E false q.at)
    → Says gs E q m m' r → Says fs E q m m' r
says_same same a = record {
  got = λ x y. let b = a.got x y in record { ts = b.ts; ran = same ∙ b.ran; wrote = b.wrote; asks = b.asks; ahead = b.ahead; plain = b.plain };
  stop = λ x y. let b = a.stop x y in record { ts = b.ts; item = b.item; rest = b.rest; ran = same ∙ b.ran; place = b.place; marks = b.marks };
}

-- two frames that take an item of a class in the same way, but for what follows
pub alike : {E : Env} {q : Spot} {t : Token} {a x : ℕ} {m m' : Mem} {r : Answer} (f g c : ℕ) (e : Gives) (p u : List ℕ) → look f c ≡ take e (p ++ u) → look g c ≡ take e p → eqb c number ≡ false
    → Next E false q.at t a x → class t ≡ c → Says (g ∷ u) E q m m' r → Says (f ∷ []) E q m m' r
alike {E} {q} {t} {a} {x} {m} {m'} {r} f g c e p u lf lg z s h b =
    let i = item_of E t a x in
    says_same
    (ap (read look_in_range (f ∷ [])) s.here ∙ read_both f g e p u i s.rest (row_take f c e (p ++ u) i h lf z) (row_take g c e p i h lg z)
    ∙ ap (read look_in_range (g ∷ u)) (sym s.here))
    b

-- a constant: in range it is taken, else refused with 5
pub counts : {E : Env} {q : Spot} {t : Token} {a e : ℕ} {m m' : Mem} {r : Answer} (f : ℕ) → look f number ≡ take itself [] → Next E false q.at t a e → class t ≡ number
    → Counts E false t a e q m m' r → Says (f ∷ []) E q m m' r
unfolding given
counts {E} {q} {t} {a} {e} {m} {m'} {r} f l s h x = record {
  got = λ q' y. let z = x.inside q' y in took_got (row_near f itself [] (item_of E t a e) h l z.near) z.took (got_none z.took.pass.asks);
  stop = λ k y. let z = x.outside k y in
      subst (λ (n : Mem). Stop (f ∷ []) E q m (number_of k.refusal) k.place n) (sym z.kept)
      (subst (λ (n : ℕ). Stop (f ∷ []) E q m n k.place m) (sym z.number)
      (refused_at m f 5 s (row_far f itself [] (item_of E t a e) h l z.far) z.place));
}
