-- How a statement is read: one law for a reader before the rest, one for an item before the rest, one for the end itself.
use Rattle.std.specs.Prelude.{ℕ, ◌+◌, ◌≤◌, ◌≡◌, refl, Bool, true, false, List, [], ◌∷◌, ◌++◌, set, Result, Ok, Err}
use Rattle.std.proofs.Common.{arith, subst, sym, ap, ◌∙◌}
use Rattle.paper.specs.Classes.{line_end, open_sign, channel_sign}
use Rattle.paper.specs.Tokens.{Token, operator, class}
use Rattle.paper.specs.Items.{Item, opens}
use Rattle.paper.specs.Machine.{took, refused, Taken, Run, left, bad, and_taken, step, go_on, read}
use Rattle.paper.specs.MachineLaws.{all_taken, seq, read_append}
use Rattle.paper.specs.Frames.{want_statement, want_after_then}
use Rattle.paper.specs.Grammar.{Gives, itself, given, look, look_item, look_in_range}
use Rattle.paper.specs.WellFormed.{tokens_of}
use Rattle.enter_item.specs.Draft.{still}
use Rattle.enter_item.specs.DraftLaws.{still_append, still_more, still_none}
use Rattle.enter_item.specs.Says.{Env, Mem, mem, spot, items_at, taken, item_of, Asks, Next, Wrote, Took, Got, Says}
use Rattle.enter_item.specs.Laws.{tokens_append, wrote_none, wrote_then, ran_then, taken_bad}
use Rattle.enter_item.specs.TookLaws.{passed_operator, wrote_bytes, one_byte, no_name, no_start}
use Rattle.enter_item.specs.ClassLaws.{own_of, operator_by_class, end_by_class}
use Rattle.enter_statement.specs.Ends.{Goes, Closes, Halts, Reads, Ends}
use Rattle.enter_item.specs.declared.Spot.{Spot}
use Rattle.enter_statement.specs.declared.Ended.{Ended}
use Rattle.enter_statement.specs.declared.Ended.TheVariants.{More, Last}
use Rattle.refusals.specs.Numbers.{number_of}
use Rattle.refusals.specs.declared.RefusedAt.{RefusedAt}

pub taken_append : (ts us : List (Taken Gives Item)) (x : Run Gives Item) → all_taken ts (all_taken us x) ≡ all_taken (ts ++ us) x
unfolding all_taken
taken_append [] us x = refl
taken_append (t ∷ ts) us x = ap (and_taken t) (taken_append ts us x)

pub taken_left : (ts us : List (Taken Gives Item)) (s : List ℕ) → all_taken ts (left us s) ≡ left (ts ++ us) s
unfolding all_taken and_taken
taken_left [] us s = refl
taken_left (t ∷ ts) us s = ap (and_taken t) (taken_left ts us s)

-- ---- the three answers

pub reads_more : {fs : List ℕ} {is : List Item} {E : Env} {q q' : Spot} {m m' : Mem} → Goes fs is E q m q' m' → Reads fs is E q m m' (Ok (More q'))
reads_more {fs} {is} {E} {q} {q'} {m} {m'} g = record {
  more = λ z e. let i : q' ≡ z = cc in subst (λ (x : Spot). Goes fs is E q m x m') i g;
  last = λ z e. let x : ◌≡◌ {A = ℕ} 0 1 = cc in absurd (omega arith);
  stop = λ z e. let x : ◌≡◌ {A = ℕ} 0 1 = cc in absurd (omega arith);
}

pub reads_last : {fs : List ℕ} {is : List Item} {E : Env} {q q' : Spot} {m m' : Mem} → Closes fs is E q m q' m' → Reads fs is E q m m' (Ok (Last q'))
reads_last {fs} {is} {E} {q} {q'} {m} {m'} g = record {
  more = λ z e. let x : ◌≡◌ {A = ℕ} 0 1 = cc in absurd (omega arith);
  last = λ z e. let i : q' ≡ z = cc in subst (λ (x : Spot). Closes fs is E q m x m') i g;
  stop = λ z e. let x : ◌≡◌ {A = ℕ} 0 1 = cc in absurd (omega arith);
}

pub reads_stop : {fs : List ℕ} {is : List Item} (r : RefusedAt) (E : Env) (q : Spot) (m m' : Mem) → Halts fs is (number_of r.refusal) r.place → Reads fs is E q m m' (Err r)
reads_stop {fs} {is} r E q m m' g = record {
  more = λ z e. let x : ◌≡◌ {A = ℕ} 0 1 = cc in absurd (omega arith);
  last = λ z e. let x : ◌≡◌ {A = ℕ} 0 1 = cc in absurd (omega arith);
  stop = λ z e. let i : r ≡ z = cc in subst (λ (x : RefusedAt). Halts fs is (number_of x.refusal) x.place) i g;
}

-- other frames that read the same
pub reads_same : {fs gs : List ℕ} {is : List Item} {E : Env} {q : Spot} {m m' : Mem} {r : Result Ended RefusedAt} → read look_in_range fs is ≡ read look_in_range gs is → Reads gs is E q m m' r → Reads fs is E q m m' r
reads_same same a = record {
  more = λ z e. let c = a.more z e in record { ts = c.ts; ran = same ∙ c.ran; wrote = c.wrote; asks = c.asks; ahead = c.ahead; plain = c.plain };
  last = λ z e. let c = a.last z e in record { ts = c.ts; ran = same ∙ c.ran; wrote = c.wrote; few = c.few; named = c.named; plain = c.plain };
  stop = λ x e. let c = a.stop x e in record { ts = c.ts; item = c.item; rest = c.rest; ran = same ∙ c.ran; place = c.place };
}

-- ---- a reader, and then the rest

pub ends_then : {fs gs : List ℕ} {E : Env} {q q₁ : Spot} {m m₁ m₂ : Mem} {r : Result Ended RefusedAt} → Got fs E q m q₁ m₁ → Ends gs E q₁ m₁ m₂ r → Ends (fs ++ gs) E q m m₂ r
ends_then {fs} {gs} {E} {q} {q₁} {m} {m₁} {m₂} {r} a b =
    let w = ran_then gs a in
    record {
      more = λ z e.
          let c = b.more z e in
          let y = tokens_append a.ts c.ts in
          record {
            ts = a.ts ++ c.ts;
            ran = w ∙ ap (all_taken a.ts) c.ran ∙ taken_append a.ts c.ts (read look_in_range (want_statement ∷ []) (items_at E true z.at));
            wrote = subst (λ (l : List Token). Wrote E q m l z m₂) (sym y) (wrote_then a.wrote c.wrote);
            asks = c.asks;
            ahead = omega (arith, a.ahead, c.ahead);
            plain = subst (λ (l : List Token). still l ≡ true) (sym y) (still_append (tokens_of a.ts) (tokens_of c.ts) a.plain c.plain);
          };
      last = λ z e.
          let c = b.last z e in
          let y = tokens_append a.ts c.ts in
          record {
            ts = a.ts ++ c.ts;
            ran = w ∙ ap (all_taken a.ts) c.ran ∙ taken_left a.ts c.ts [];
            wrote = subst (λ (l : List Token). Wrote E q m l z m₂) (sym y) (wrote_then a.wrote c.wrote);
            few = c.few;
            named = c.named;
            plain = subst (λ (l : List Token). still l ≡ true) (sym y) (still_append (tokens_of a.ts) (tokens_of c.ts) a.plain c.plain);
          };
      stop = λ x e.
          let c = b.stop x e in
          record { ts = a.ts ++ c.ts; item = c.item; rest = c.rest; ran = w ∙ ap (all_taken a.ts) c.ran ∙ taken_bad a.ts (number_of x.refusal) c.ts (c.item ∷ c.rest); place = c.place };
    }

-- a refusal of the first reader is the refusal of the whole
pub ends_first : {fs : List ℕ} {E : Env} {q : Spot} {m m₁ : Mem} {r : Result Spot RefusedAt} (h : RefusedAt) (gs : List ℕ) (m' : Mem) → Says fs E q m m₁ r → r ≡ Err h → Ends (fs ++ gs) E q m m' (Err h)
unfolding seq
ends_first {fs} {E} {q} {m} {m₁} {r} h gs m' a e =
    let c = a.stop h e in
    reads_stop h E q m m'
    (record {
      ts = c.ts;
      item = c.item;
      rest = c.rest;
      ran = read_append look_in_range fs gs (items_at E false q.at) ∙ ap (λ (x : Run Gives Item). seq look_in_range x gs) c.ran;
      place = c.place;
    })

-- ---- an item, and then the rest

read_step : (fs gs : List ℕ) (e : Gives) (i : Item) (is : List Item) → step look_in_range fs i ≡ took e gs → read look_in_range fs (i ∷ is) ≡ and_taken (taken e i) (read look_in_range gs is)
unfolding read go_on
read_step fs gs e i is h = rw h

-- a stack takes the item i, and what it is then reads on
pub ends_step : {E : Env} {first then : Bool} {q q₁ : Spot} {m m₁ m₂ : Mem} {e : Gives} {i : Item} {r : Result Ended RefusedAt} (fs gs : List ℕ) → step look_in_range fs i ≡ took e gs
    → Took E first q m e i then q₁ m₁ → Reads gs (items_at E then q₁.at) E q₁ m₁ m₂ r → Reads fs (items_at E first q.at) E q m m₂ r
unfolding all_taken and_taken tokens_of
ends_step {E} {first} {then} {q} {q₁} {m} {m₁} {m₂} {e} {i} {r} fs gs l t b =
    let w : read look_in_range fs (items_at E first q.at) ≡ and_taken (taken e i) (read look_in_range gs (items_at E then q₁.at)) =
    ap (read look_in_range fs) t.pass.here ∙ read_step fs gs e i (items_at E then q₁.at) l in
    record {
      more = λ x y.
          let d = b.more x y in
          record {
            ts = taken e i ∷ d.ts;
            ran = w ∙ ap (and_taken (taken e i)) d.ran;
            wrote = wrote_then t.pass.wrote d.wrote;
            asks = d.asks;
            ahead = omega (arith, t.pass.ahead, d.ahead);
            plain = still_more (given e i.token) (tokens_of d.ts) t.plain d.plain;
          };
      last = λ x y.
          let d = b.last x y in
          record {
            ts = taken e i ∷ d.ts;
            ran = w ∙ ap (and_taken (taken e i)) d.ran;
            wrote = wrote_then t.pass.wrote d.wrote;
            few = d.few;
            named = d.named;
            plain = still_more (given e i.token) (tokens_of d.ts) t.plain d.plain;
          };
      stop = λ x y. let d = b.stop x y in record { ts = taken e i ∷ d.ts; item = d.item; rest = d.rest; ran = w ∙ ap (and_taken (taken e i)) d.ran; place = d.place };
    }

read_stop : (fs : List ℕ) (k : ℕ) (i : Item) (is : List Item) → step look_in_range fs i ≡ refused k → read look_in_range fs (i ∷ is) ≡ bad k [] (i ∷ is)
unfolding read go_on
read_stop fs k i is h = rw h

-- a stack refuses the next item
pub ends_refuse : {E : Env} {first : Bool} {q : Spot} {t : Token} {a e : ℕ} (r : RefusedAt) (fs : List ℕ) (m m' : Mem) → Next E first q.at t a e → step look_in_range fs (item_of E t a e) ≡ refused (number_of r.refusal)
    → r.place ≡ E.from + a → Reads fs (items_at E first q.at) E q m m' (Err r)
ends_refuse {E} {first} {q} {t} {a} {e} r fs m m' s l w =
    reads_stop r E q m m'
    (record { ts = []; item = item_of E t a e; rest = s.rest; ran = ap (read look_in_range fs) s.here ∙ read_stop fs (number_of r.refusal) (item_of E t a e) s.rest l; place = w })

-- ---- a colon, the line's end, THEN

-- a statement is to follow, and nothing more is read
pub reads_none : {E : Env} {q : Spot} {m : Mem} → Asks E q m → Reads (want_statement ∷ []) (items_at E true q.at) E q m m (Ok (More q))
unfolding all_taken tokens_of
reads_none {E} {q} {m} g = reads_more (record { ts = []; ran = refl; wrote = wrote_none E q m; asks = g; ahead = omega arith; plain = still_none })

-- a colon or THEN, after which statement position comes
pub took_opener : {E : Env} {q q' : Spot} {m m' : Mem} {t : Token} {a e b : ℕ} (c : ℕ) → opens c ≡ true → open_sign ≤ c → c ≤ channel_sign → Asks E q m → Next E false q.at t a e → class t ≡ c → b ≡ own_of t
    → m' ≡ mem (set m.line q.written b) m.fresh → q' ≡ spot e (q.written + 1) q.named → Took E false q m itself (item_of E t a e) true q' m'
unfolding given
took_opener {E} {q} {q'} {m} {m'} {t} {a} {e} {b} c o l u g s h w n st =
    let k : t ≡ operator b = operator_by_class t (omega (arith, h)) (omega (arith, h)) ∙ ap operator (sym w) in
    let here : items_at E false q.at ≡ item_of E t a e ∷ items_at E true e =
    s.here
    ∙ ap (λ (r : List Item). item_of E t a e ∷ r) (s.on (λ z. absurd (omega (arith, h))) (λ z. absurd (omega (arith, h))) ∙ ap (λ (x : Bool). items_at E x e) (ap opens h ∙ o)) in
    passed_operator itself g s here (s.moves (λ z. absurd (omega (arith, h)))) k n st

read_last : (fs : List ℕ) (i : Item) (is : List Item) → is ≡ [] → step look_in_range fs i ≡ took itself [] → read look_in_range fs (i ∷ is) ≡ left (taken itself i ∷ []) []
unfolding read go_on and_taken
read_last fs i is e h = rw (e, h)

-- the line's end
pub ends_last : {E : Env} {q q' : Spot} {m m' : Mem} {t : Token} {a e b : ℕ} (fs : List ℕ) → step look_in_range fs (item_of E t a e) ≡ took itself [] → Asks E q m → Next E false q.at t a e
    → class t ≡ line_end → b ≡ own_of t → m' ≡ mem (set m.line q.written b) m.fresh → q' ≡ spot e (q.written + 1) q.named → Ends fs E q m m' (Ok (Last q'))
unfolding tokens_of given
ends_last {E} {q} {q'} {m} {m'} {t} {a} {e} {b} fs l g s h o n st =
    let u : t ≡ operator b = end_by_class t h ∙ ap operator (sym o) in
    let i = item_of E t a e in
    let closes : Closes fs (items_at E false q.at) E q m (spot e (q.written + 1) q.named) (mem (set m.line q.written b) m.fresh) = record {
      ts = taken itself i ∷ [];
      ran = ap (read look_in_range fs) s.here ∙ read_last fs i s.rest (s.over h) l;
      wrote = wrote_bytes t (b ∷ []) e (λ ks. one_byte ks t b u) (λ ks. no_name ks t b u) refl;
      few = omega (arith, g.few, g.short, g.within);
      named = omega (arith, g.added, g.short, g.within);
      plain = still_more t [] (no_start t b u) still_none;
    } in
    reads_last
    (subst (λ (x : Spot). Closes fs (items_at E false q.at) E q m x m') (sym st)
    (subst (λ (x : Mem). Closes fs (items_at E false q.at) E q m (spot e (q.written + 1) q.named) x) (sym n) closes))

step_alike : (f g : ℕ) (i : Item) → look f (class i.token) ≡ look g (class i.token) → step look_in_range (f ∷ []) i ≡ step look_in_range (g ∷ []) i
unfolding step look_in_range look_item
step_alike f g i h = rw h

read_alike : (f g : ℕ) (i : Item) (is : List Item) → step look_in_range (f ∷ []) i ≡ step look_in_range (g ∷ []) i → read look_in_range (f ∷ []) (i ∷ is) ≡ read look_in_range (g ∷ []) (i ∷ is)
unfolding read
read_alike f g i is h = rw h

-- after THEN what is no number is read as a statement is anywhere
pub then_statement : {E : Env} {at : ℕ} {t : Token} {a e : ℕ} → Next E true at t a e → look want_after_then (class t) ≡ look want_statement (class t)
    → read look_in_range (want_after_then ∷ []) (items_at E true at) ≡ read look_in_range (want_statement ∷ []) (items_at E true at)
then_statement {E} {at} {t} {a} {e} s h =
    let i = item_of E t a e in
    ap (read look_in_range (want_after_then ∷ [])) s.here ∙ read_alike want_after_then want_statement i s.rest (step_alike want_after_then want_statement i h) ∙ ap (read look_in_range (want_statement ∷ [])) (sym s.here)
