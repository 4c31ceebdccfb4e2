-- A statement from its first item and its rest, and a line from its statements.
use Rattle.std.specs.Prelude.{ℕ, ◌+◌, ◌≤◌, ◌<◌, ◌≡◌, Bool, drop, set, Result, Ok, Err}
use Rattle.std.proofs.Common.{arith, subst, sym, ◌∙◌, length-drop, drop-drop}
use Rattle.std.proofs.Math.Path.{ap}
use Rattle.std.proofs.Math.Bool.{true}
use mathlib.Core.List.{List, [], ◌∷◌, ◌++◌}
use Rattle.std.proofs.Math.ListN.{length}
use Rattle.std.proofs.lemmas.List.Edits.{sets}
use Rattle.paper.specs.Tokens.{Token}
use Rattle.paper.specs.Names.{name_bytes, add_names}
use Rattle.paper.specs.Items.{Item, scan}
use Rattle.paper.specs.Machine.{Run, and_taken, read}
use Rattle.paper.specs.Machine.{take as takes_item}
use Rattle.paper.specs.MachineLaws.{all_taken}
use Rattle.paper.specs.Frames.{want_statement}
use Rattle.paper.specs.Grammar.{Gives, itself, given, look_in_range}
use Rattle.paper.specs.Line.{begins?}
use Rattle.paper.specs.WellFormed.{tokens_of}
use Rattle.laws.specs.Names.{names_added, name_bytes_append, adds_append}
use Rattle.enter_item.specs.Draft.{low, written, after, draft, still, with_offsets}
use Rattle.enter_item.specs.NameLaws.{new_append}
use Rattle.enter_item.specs.DraftLaws.{Starts, statement_offsets, statement_draft, offsets_append, patched}
use Rattle.enter_item.specs.Says.{Env, env, Mem, mem, spot, known, items_at, taken, Asks, Wrote}
use Rattle.enter_item.specs.Laws.{out_then, count_then, tokens_append, wrote_then, taken_bad, read_take}
use Rattle.enter_statement.specs.Ends.{Halts, Reads}
use Rattle.enter_statement.specs.EndLaws.{taken_left}
use Rattle.enter_statements.specs.Lines.{Lined, Began, Follows, Finishes, States, Tells}
use Rattle.enter_item.specs.declared.Spot.{Spot}
use Rattle.enter_statement.specs.declared.Ended.{Ended}
use Rattle.enter_statement.specs.declared.Ended.TheVariants.{More, Last}
use Rattle.refusals.specs.Numbers.{number_of}
use Rattle.refusals.specs.declared.RefusedAt.{RefusedAt}

-- ---- the part of a text after a place

-- the items of the part are those of the text
pub part_items : (s n : List ℕ) (o e : ℕ) (first : Bool) (at : ℕ) → items_at (env (drop e s) (o + e) n) first at ≡ items_at (env s o n) first (e + at)
part_items s n o e first at =
    let z : o + e + at ≡ o + (e + at) = omega arith in
    ap (λ (p : ℕ). scan 0 first p (drop at (drop e s))) z ∙ ap (scan 0 first (o + (e + at))) (drop-drop at e s)

-- what is asked in the text is asked in the part
pub part_asks : {s n : List ℕ} {o e w f : ℕ} {m : Mem} → Asks (env s o n) (spot e w f) m → Asks (env (drop e s) (o + e) n) (spot 0 w f) m
part_asks {s} {n} {o} {e} {w} {f} {m} g =
    record { within = omega arith; short = omega (arith, g.short, g.within, length-drop e s); few = omega (arith, g.few); added = omega (arith, g.added); room = g.room; closed = g.closed }

whole_asks : {s n : List ℕ} {o e : ℕ} {q : Spot} {m : Mem} → e ≤ length s → Asks (env (drop e s) (o + e) n) q m → o + length s ≤ 120 → (l : List ℕ) → Asks (env s o n) (spot (e + q.at) q.written q.named) (mem l m.fresh)
whole_asks {s} {n} {o} {e} {q} {m} h g k l =
    record { within = omega (arith, g.within, length-drop e s); short = k; few = omega (arith, g.few); added = omega (arith, g.added); room = g.room; closed = g.closed }

-- what is written does not depend on the text
part_wrote : {s s' n : List ℕ} {o o' : ℕ} {q q₁ : Spot} {m m₁ : Mem} {us : List Token} (a : ℕ) → Wrote (env s' o' n) (spot a q.written q.named) m us q₁ m₁ → Wrote (env s o n) q m us q₁ m₁
part_wrote a w = record { marks = record { line = w.marks.line; fresh = w.marks.fresh }; count = w.count; added = w.added; knows = w.knows }

-- ---- one statement

-- a statement's tokens with their offset
pub lined_one : {E : Env} {q q₂ : Spot} {m m₂ : Mem} {new : List ℕ} {b : ℕ} (t : Token) (us : List Token) (a : ℕ) → begins? t ≡ true → still us ≡ true → Wrote E q m (t ∷ us) q₂ m₂
    → b ≡ low q₂.written → new ≡ set m₂.line q.written b → Lined E q m (t ∷ us) (spot a q₂.written q₂.named) (mem new m₂.fresh)
lined_one {E} {q} {q₂} {m} {m₂} {new} {b} t us a h k w e p =
    let ks = known E q m in
    let xs = written ks t ++ draft (after ks t) us in
    let d : draft ks (t ∷ us) ≡ 0 ∷ xs = statement_draft ks t us h in
    let o : with_offsets ks q.written (t ∷ us) ≡ low (q.written + length (draft ks (t ∷ us))) ∷ xs = statement_offsets ks q.written t us h k in
    let v : b ≡ low (q.written + length (draft ks (t ∷ us))) = e ∙ ap low w.count in
    record {
      line =
          patched m.line q.written 0 b xs (w.marks.line ∙ ap (sets m.line q.written) d) p
          ∙ ap (λ (x : ℕ). sets m.line q.written (x ∷ xs)) v
          ∙ ap (sets m.line q.written) (sym o);
      count = omega (arith, w.count, ap length d, ap length o);
      fresh = w.marks.fresh;
      added = w.added;
      knows = w.knows;
    }

-- ---- statements one after another

pub lined_then : {E : Env} {q q₁ q₂ : Spot} {m m₁ m₂ : Mem} {us vs : List Token} → Starts vs → Lined E q m us q₁ m₁ → Lined E q₁ m₁ vs q₂ m₂ → Lined E q m (us ++ vs) q₂ m₂
lined_then {E} {q} {q₁} {q₂} {m} {m₁} {m₂} {us} {vs} h a b =
    let ks = known E q m in
    let ks₁ = known E q₁ m₁ in
    let p = q.written in
    let eb : with_offsets ks p (us ++ vs) ≡ with_offsets ks p us ++ with_offsets ks₁ q₁.written vs =
    offsets_append ks p us vs h
    ∙ ap (λ (k : List (List ℕ)). with_offsets ks p us ++ with_offsets k (p + length (with_offsets ks p us)) vs) (sym a.knows)
    ∙ ap (λ (n : ℕ). with_offsets ks p us ++ with_offsets ks₁ n vs) (sym a.count) in
    let ef : name_bytes (names_added ks (us ++ vs)) ≡ name_bytes (names_added ks us) ++ name_bytes (names_added ks₁ vs) =
    ap name_bytes (new_append ks us vs) ∙ name_bytes_append (names_added ks us) (names_added (add_names ks us) vs)
    ∙ ap (λ (k : List (List ℕ)). name_bytes (names_added ks us) ++ name_bytes (names_added k vs)) (sym a.knows) in
    record {
      line = out_then m.line p q₁.written (with_offsets ks p us) (with_offsets ks₁ q₁.written vs) (with_offsets ks p (us ++ vs)) a.line a.count b.line eb;
      count = count_then p q₁.written q₂.written (with_offsets ks p us) (with_offsets ks₁ q₁.written vs) (with_offsets ks p (us ++ vs)) a.count b.count eb;
      fresh = out_then m.fresh q.named q₁.named (name_bytes (names_added ks us)) (name_bytes (names_added ks₁ vs)) (name_bytes (names_added ks (us ++ vs))) a.fresh a.added b.fresh ef;
      added = count_then q.named q₁.named q₂.named (name_bytes (names_added ks us)) (name_bytes (names_added ks₁ vs)) (name_bytes (names_added ks (us ++ vs))) a.added b.added ef;
      knows = b.knows ∙ ap (λ (k : List (List ℕ)). add_names k vs) a.knows ∙ sym (adds_append ks us vs);
    }

starts_append : (ts us : List Token) → Starts ts → Starts us → Starts (ts ++ us)
unfolding Starts
starts_append [] us h k = k
starts_append (t ∷ ts) us h k = h

-- a statement, and then all others
pub tells_more : {E : Env} {q q₁ : Spot} {m m₁ m₂ : Mem} {r : Result Spot RefusedAt} → Follows E q m q₁ m₁ → Tells E q₁ m₁ m₂ r → Tells E q m m₂ r
tells_more {E} {q} {q₁} {m} {m₁} {m₂} {r} a b = record {
  done = λ z e.
      let c = b.done z e in
      let y = tokens_append a.ts c.ts in
      record {
        ts = a.ts ++ c.ts;
        ran = a.ran ∙ ap (all_taken a.ts) c.ran ∙ taken_left a.ts c.ts [];
        starts = subst Starts (sym y) (starts_append (tokens_of a.ts) (tokens_of c.ts) a.starts c.starts);
        lined = subst (λ (l : List Token). Lined E q m l z m₂) (sym y) (lined_then c.starts a.lined c.lined);
        few = c.few;
        named = c.named;
      };
  stop = λ x e.
      let c = b.stop x e in
      record { ts = a.ts ++ c.ts; item = c.item; rest = c.rest; ran = a.ran ∙ ap (all_taken a.ts) c.ran ∙ taken_bad a.ts (number_of x.refusal) c.ts (c.item ∷ c.rest); place = c.place };
}

pub tells_done : {E : Env} {q q' : Spot} {m m' : Mem} → Finishes E q m q' m' → Tells E q m m' (Ok q')
tells_done {E} {q} {q'} {m} {m'} a = record {
  done = λ z e. let i : q' ≡ z = cc in subst (λ (x : Spot). Finishes E q m x m') i a;
  stop = λ z e. let x : ◌≡◌ {A = ℕ} 0 1 = cc in absurd (omega arith);
}

pub tells_stop : {E : Env} {q : Spot} {r : RefusedAt} (m m' : Mem) → Halts (want_statement ∷ []) (items_at E true q.at) (number_of r.refusal) r.place → Tells E q m m' (Err r)
tells_stop {E} {q} {r} m m' g = record {
  done = λ z e. let x : ◌≡◌ {A = ℕ} 0 1 = cc in absurd (omega arith);
  stop = λ z e. let h : r ≡ z = cc in subst (λ (x : RefusedAt). Halts (want_statement ∷ []) (items_at E true q.at) (number_of x.refusal) x.place) h g;
}

-- ---- a statement from its first item and its rest

module _ {s n : List ℕ} {o e : ℕ} {q q₁ : Spot} {m m₁ m₂ : Mem} {i : Item} {is : List Item} {r : Result Ended RefusedAt} (fs : List ℕ)
    (here : items_at (env s o n) true q.at ≡ i ∷ is) (row : look_in_range want_statement i ≡ takes_item itself fs)
    (began : Began (env s o n) q m i.token e q₁ m₁) (ahead : q.at < e) (rest : Reads fs is (env (drop e s) (o + e) n) (spot 0 q₁.written q₁.named) m₁ m₂ r) where
  ran_first : (x : Run Gives Item) → read look_in_range fs is ≡ x → read look_in_range (want_statement ∷ []) (items_at (env s o n) true q.at) ≡ and_taken (taken itself i) x
  ran_first x h = ap (read look_in_range (want_statement ∷ [])) here ∙ read_take want_statement itself fs i is row ∙ ap (and_taken (taken itself i)) h

  pub states_more : {q₂ : Spot} {b : ℕ} {new : List ℕ} → r ≡ Ok (More q₂) → b ≡ low q₂.written → new ≡ set m₂.line q.written b
      → Follows (env s o n) q m (spot (e + q₂.at) q₂.written q₂.named) (mem new m₂.fresh)
  unfolding all_taken and_taken tokens_of given Starts
  states_more {q₂} {b} {new} x v w =
      let c = rest.more q₂ x in
      record {
        ts = taken itself i ∷ c.ts;
        ran = ran_first _ c.ran ∙ ap (λ (l : List Item). and_taken (taken itself i) (all_taken c.ts (read look_in_range (want_statement ∷ []) l))) (part_items s n o e true q₂.at);
        starts = began.begins;
        lined = lined_one i.token (tokens_of c.ts) (e + q₂.at) began.begins c.plain (wrote_then began.wrote (part_wrote 0 c.wrote)) v w;
        asks = whole_asks (subst (λ (k : ℕ). k ≤ length s) began.stands began.asks.within) c.asks began.asks.short new;
        ahead = omega arith;
      }

  pub states_last : {q₂ : Spot} {b : ℕ} {new : List ℕ} (z : ℕ) → r ≡ Ok (Last q₂) → b ≡ low q₂.written → new ≡ set m₂.line q.written b
      → Finishes (env s o n) q m (spot z q₂.written q₂.named) (mem new m₂.fresh)
  unfolding and_taken tokens_of given Starts
  states_last {q₂} {b} {new} z x v w =
      let c = rest.last q₂ x in
      record {
        ts = taken itself i ∷ c.ts;
        ran = ran_first _ c.ran;
        starts = began.begins;
        lined = lined_one i.token (tokens_of c.ts) z began.begins c.plain (wrote_then began.wrote (part_wrote 0 c.wrote)) v w;
        few = c.few;
        named = c.named;
      }

  pub states_halt : {h : RefusedAt} → r ≡ Err h → Halts (want_statement ∷ []) (items_at (env s o n) true q.at) (number_of h.refusal) h.place
  unfolding and_taken
  states_halt {h} x =
      let c = rest.stop h x in
      record { ts = taken itself i ∷ c.ts; item = c.item; rest = c.rest; ran = ran_first _ c.ran; place = c.place }

-- ---- the three answers

pub says_more : {E : Env} {q q' : Spot} {m m' : Mem} → Follows E q m q' m' → States E q m m' (Ok (More q'))
says_more {E} {q} {q'} {m} {m'} a = record {
  more = λ z e. let i : q' ≡ z = cc in subst (λ (x : Spot). Follows E q m x m') i a;
  last = λ z e. let x : ◌≡◌ {A = ℕ} 0 1 = cc in absurd (omega arith);
  stop = λ z e. let x : ◌≡◌ {A = ℕ} 0 1 = cc in absurd (omega arith);
}

pub says_last : {E : Env} {q q' : Spot} {m m' : Mem} → Finishes E q m q' m' → States E q m m' (Ok (Last q'))
says_last {E} {q} {q'} {m} {m'} a = record {
  more = λ z e. let x : ◌≡◌ {A = ℕ} 0 1 = cc in absurd (omega arith);
  last = λ z e. let i : q' ≡ z = cc in subst (λ (x : Spot). Finishes E q m x m') i a;
  stop = λ z e. let x : ◌≡◌ {A = ℕ} 0 1 = cc in absurd (omega arith);
}

pub says_halt : {E : Env} {q : Spot} {r : RefusedAt} (m m' : Mem) → Halts (want_statement ∷ []) (items_at E true q.at) (number_of r.refusal) r.place → States E q m m' (Err r)
says_halt {E} {q} {r} m m' g = record {
  more = λ z e. let x : ◌≡◌ {A = ℕ} 0 1 = cc in absurd (omega arith);
  last = λ z e. let x : ◌≡◌ {A = ℕ} 0 1 = cc in absurd (omega arith);
  stop = λ z e. let h : r ≡ z = cc in subst (λ (x : RefusedAt). Halts (want_statement ∷ []) (items_at E true q.at) (number_of x.refusal) x.place) h g;
}
