-- One step of reading a statement: a term, or an item that the stack of frames takes.
use Rattle.std.specs.Prelude.{ℕ, zero, suc, ◌+◌, ◌*◌, ◌-◌, ◌≤◌, ◌<◌, ◌≡◌, refl, Bool, true, false, List, [], ◌∷◌, T, eqb, get_or, set, Result, Ok, Err}
use Rattle.std.proofs.Common.{arith, subst, sym, ap, ◌∙◌, append-nil, ne_eqb}
use Rattle.paper.specs.Bytes.{same, among}
use Rattle.paper.specs.Classes.{line_end, colon, then_word, number}
use Rattle.paper.specs.Frames.{want_statement, want_after_then, want_end, want_operand}
use Rattle.paper.specs.Tokens.{Token, operator, out_of_range?, class}
use Rattle.paper.specs.Items.{Item, opens}
use Rattle.paper.specs.Machine.{take, took, refused, step_act, step}
use Rattle.paper.specs.Grammar.{Gives, itself, given, look, look_in_range}
use Rattle.laws.specs.Classes.{class_low}
use Rattle.laws.specs.Counts.{class_count}
use Rattle.enter_scan.specs.Sees.{token_at}
use Rattle.grammar.specs.Stack.{stack, gives_of}
use Rattle.enter_item.specs.ClassLaws.{own_of, in_range_by_class, operator_by_class, small_operator}
use Rattle.enter_item.specs.Says.{Env, env, Mem, mem, spot, items_at, item_of, Asks, Next, Took, Says, Counts}
use Rattle.enter_item.specs.Sees.{Shows}
use Rattle.enter_item.specs.TookLaws.{calm?, calm_end, next_calm, sign?, sign, passed_operator}
use Rattle.enter_item.specs.declared.Spot.{Spot}
use Rattle.enter_item.specs.declared.Seen.{Seen}
use Rattle.enter_statement.specs.Ends.{Reads, Ends}
use Rattle.enter_statement.specs.EndLaws.{reads_same, ends_then, ends_first, ends_step, ends_refuse, ends_last, reads_none, took_opener, then_statement}
use Rattle.enter_statement.specs.Stacks.{inner?, final?, good?, fine?, stepped?, stepped, not_taken, at_colon, at_end, at_then, at_other, good_below, step_near, step_far, step_refused}
use Rattle.enter_statement.specs.Rows.{after_then_number, after_then_same}
use Rattle.enter_statement.specs.declared.Ended.{Ended}
use Rattle.enter_statement.specs.declared.Ended.TheVariants.{More, Last}
use Rattle.enter_statement.specs.declared.Moved.{Moved}
use Rattle.enter_statement.specs.declared.Moved.TheVariants.{On, End}
use Rattle.refusals.specs.Numbers.{number_of}
use Rattle.refusals.specs.declared.Refusal.TheVariants.{NoReading}
use Rattle.refusals.specs.declared.RefusedAt.{RefusedAt}

-- ---- an item that is taken, written

-- the token of an item that is seen within a statement
abbrev pub token_of : List ℕ → Seen → Token
token_of s v = token_at s false v.item

-- the item was written as is given for it; or it is a constant out of range
pub record Passes (s : List ℕ) (o : ℕ) (n : List ℕ) (v : Seen) (g : Gives) (q : Spot) (m m' : Mem) (r : Result Spot RefusedAt) : Type 0 where
  pub done : (q' : Spot) → r ≡ Ok q'
      → (out_of_range? (token_of s v) ≡ false) × Took (env s o n) false q m g (item_of (env s o n) (token_of s v) v.item.at v.item.end) false q' m'
  pub stop : (x : RefusedAt) → r ≡ Err x → (number_of x.refusal ≡ 5) × ((out_of_range? (token_of s v) ≡ true) × (x.place ≡ o + v.item.at))

-- a constant
pub passes_constant : {s n : List ℕ} {o : ℕ} {v : Seen} {g : Gives} {q : Spot} {m m' : Mem} {r : Result Spot RefusedAt} → g ≡ itself
    → Counts (env s o n) false (token_of s v) v.item.at v.item.end q m m' r → Passes s o n v g q m m' r
passes_constant {s} {n} {o} {v} {g} {q} {m} {m'} e x = record {
  done = λ q' y. let z = x.inside q' y in
      (z.near, subst (λ (h : Gives). Took (env s o n) false q m h (item_of (env s o n) (token_of s v) v.item.at v.item.end) false q' m') (sym e) z.took);
  stop = λ h y. let z = x.outside h y in (z.number, (z.far, z.place));
}

-- anything else
pub passes_other : {s n : List ℕ} {o : ℕ} {v : Seen} {g : Gives} {q q' : Spot} {m m' : Mem} → (class (token_of s v) ≡ number → ⊥)
    → Took (env s o n) false q m g (item_of (env s o n) (token_of s v) v.item.at v.item.end) false q' m' → Passes s o n v g q m m' (Ok q')
passes_other {s} {n} {o} {v} {g} {q} {q'} {m} {m'} h t = record {
  done = λ z e. let i : q' ≡ z = cc in
      (in_range_by_class (token_of s v) (ne_eqb (class (token_of s v)) number h), subst (λ (x : Spot). Took (env s o n) false q m g (item_of (env s o n) (token_of s v) v.item.at v.item.end) false x m') i t);
  stop = λ x e. let z : ◌≡◌ {A = ℕ} 0 1 = cc in absurd (omega arith);
}

pub given_itself : {E : Env} {q q' : Spot} {m m' : Mem} {i : Item} {g : Gives} → g ≡ itself → Took E false q m itself i false q' m' → Took E false q m g i false q' m'
given_itself {E} {q} {q'} {m} {m'} {i} h x = subst (λ (g : Gives). Took E false q m g i false q' m') (sym h) x

-- a symbol or a word, written as what is given for it
pub took_given : {E : Env} {q q' : Spot} {m m' : Mem} {t : Token} {a e : ℕ} {b : ℕ} (g c own : ℕ) → sign? c ≡ true → Asks E q m → Next E false q.at t a e → class t ≡ c → own ≡ own_of t
    → (own < 128 → operator b ≡ given (gives_of g) (operator own)) → m' ≡ mem (set m.line q.written b) m.fresh → q' ≡ spot e (q.written + 1) q.named → Took E false q m (gives_of g) (item_of E t a e) false q' m'
took_given {t = t} {b = b} g c own k ask s h o w n st =
    let x = sign c k in
    let cm : calm? (class t) ≡ true = ap calm? h ∙ x.calm in
    let u : t ≡ operator (own_of t) = operator_by_class t (omega (arith, x.low)) (omega (arith, x.high)) in
    let low = small_operator (own_of t) (subst (λ (z : Token). 3 ≤ class z) u (omega (arith, x.low))) in
    let v : given (gives_of g) t ≡ operator b = ap (given (gives_of g)) (u ∙ ap operator (sym o)) ∙ sym (w (omega (arith, low, o))) in
    passed_operator (gives_of g) ask s (next_calm s cm) (s.moves (calm_end (class t) cm)) v n st

-- ---- what a step says

-- a step was taken: what the frames gs read from there on, the frames fs read from before it
pub record Onward (fs gs : List ℕ) (first : Bool) (E : Env) (q : Spot) (m : Mem) (p : Spot) (m' : Mem) : Type 0 where
  pub asks : Asks E p m'
  pub good : T (good? gs)
  pub goes : (n : Mem) (r : Result Ended RefusedAt) → Ends gs E p m' n r → Reads fs (items_at E first q.at) E q m n r

-- what a step of the frames fs says: it goes on with the frames of a stack, or the rest is read
pub record Moves (fs : List ℕ) (first : Bool) (depth : ℕ) (E : Env) (q : Spot) (m m' : Mem) (new : List ℕ) (r : Result Moved RefusedAt) : Type 0 where
  pub on : (p : Spot) (k : ℕ) → r ≡ Ok (On p k) → Onward fs (stack new k) first E q m p m' × (k + 9 * q.at < depth + 9 * p.at)
  pub over : (x : Ended) → r ≡ Ok (End x) → Reads fs (items_at E first q.at) E q m m' (Ok x)
  pub stop : (x : RefusedAt) → r ≡ Err x → Reads fs (items_at E first q.at) E q m m' (Err x)

pub moves_on : {fs : List ℕ} {first : Bool} {depth : ℕ} {E : Env} {q p : Spot} {m m' : Mem} {new : List ℕ} {k : ℕ} → Onward fs (stack new k) first E q m p m' → k + 9 * q.at < depth + 9 * p.at
    → Moves fs first depth E q m m' new (Ok (On p k))
moves_on {fs} {first} {depth} {E} {q} {p} {m} {m'} {new} {k} o f = record {
  on = λ z j e. let h : p ≡ z = cc in let i : k ≡ j = cc in
      (subst (λ (x : ℕ). Onward fs (stack new x) first E q m z m') i (subst (λ (x : Spot). Onward fs (stack new k) first E q m x m') h o), omega (arith, f, i, ap (λ (x : Spot). x.at) h));
  over = λ z e. let x : ◌≡◌ {A = ℕ} 0 1 = cc in absurd (omega arith);
  stop = λ z e. let x : ◌≡◌ {A = ℕ} 0 1 = cc in absurd (omega arith);
}

pub moves_over : {fs : List ℕ} {first : Bool} {depth : ℕ} {E : Env} {q : Spot} {m m' : Mem} {r : Ended} (new : List ℕ) → Reads fs (items_at E first q.at) E q m m' (Ok r) → Moves fs first depth E q m m' new (Ok (End r))
moves_over {fs} {first} {depth} {E} {q} {m} {m'} {r} new o = record {
  on = λ z j e. let x : ◌≡◌ {A = ℕ} 0 1 = cc in absurd (omega arith);
  over = λ z e. let h : r ≡ z = cc in subst (λ (x : Ended). Reads fs (items_at E first q.at) E q m m' (Ok x)) h o;
  stop = λ z e. let x : ◌≡◌ {A = ℕ} 0 1 = cc in absurd (omega arith);
}

pub moves_more : {fs : List ℕ} {first : Bool} {depth : ℕ} {E : Env} {q p : Spot} {m m' : Mem} (new : List ℕ) → Reads fs (items_at E first q.at) E q m m' (Ok (More p)) → Moves fs first depth E q m m' new (Ok (End (More p)))
moves_more new o = moves_over new o

pub moves_last : {fs : List ℕ} {first : Bool} {depth : ℕ} {E : Env} {q p : Spot} {m m' : Mem} (new : List ℕ) → Reads fs (items_at E first q.at) E q m m' (Ok (Last p)) → Moves fs first depth E q m m' new (Ok (End (Last p)))
moves_last new o = moves_over new o

pub moves_stop : {fs : List ℕ} {first : Bool} {depth : ℕ} {E : Env} {q : Spot} {m m' : Mem} {r : RefusedAt} (new : List ℕ) → Reads fs (items_at E first q.at) E q m m' (Err r) → Moves fs first depth E q m m' new (Err r)
moves_stop {fs} {first} {depth} {E} {q} {m} {m'} {r} new o = record {
  on = λ z j e. let x : ◌≡◌ {A = ℕ} 0 1 = cc in absurd (omega arith);
  over = λ z e. let x : ◌≡◌ {A = ℕ} 0 1 = cc in absurd (omega arith);
  stop = λ z e. let h : r ≡ z = cc in subst (λ (x : RefusedAt). Reads fs (items_at E first q.at) E q m m' (Err x)) h o;
}

-- ---- after THEN

then_step : (i : ℕ) → i ≡ number → look want_after_then i ≡ take itself (want_end ∷ [])
then_step i h = ap (look want_after_then) h ∙ after_then_number

one_step : (f c : ℕ) (e : Gives) (ws : List ℕ) → look f c ≡ take e ws → step look (f ∷ []) c ≡ took e ws
unfolding step step_act
one_step f c e ws h = rw h (ap (took e) (append-nil ws))

end_alone : T (good? (want_end ∷ []))
unfolding good? inner? final? among same
end_alone = tt

pub one_frame : (l : List ℕ) (f : ℕ) → get_or l 0 0 ≡ f → stack l 1 ≡ f ∷ []
unfolding stack
one_frame l f h = ap (λ (x : ℕ). x ∷ []) h

-- a constant after THEN
pub moves_number : {E : Env} {q p : Spot} {m m' : Mem} {t : Token} {a e : ℕ} {r : Result Spot RefusedAt} (new : List ℕ) → class t ≡ number → get_or new 0 0 ≡ want_end → Counts E true t a e q m m' r → r ≡ Ok p
    → Moves (want_after_then ∷ []) true 1 E q m m' new (Ok (On p 1))
moves_number {E} {q} {p} {m} {m'} {t} {a} {e} new h w x y =
    let z = x.inside p y in
    let st : step look_in_range (want_after_then ∷ []) (item_of E t a e) ≡ took itself (want_end ∷ []) =
    step_near (want_after_then ∷ []) (item_of E t a e) z.near ∙ one_step want_after_then (class t) itself (want_end ∷ []) (then_step (class t) h) in
    moves_on
    (subst (λ (l : List ℕ). Onward (want_after_then ∷ []) l true E q m p m') (sym (one_frame new want_end w))
    (record { asks = z.took.pass.asks; good = end_alone; goes = λ n u b. ends_step (want_after_then ∷ []) (want_end ∷ []) st z.took b }))
    (omega (arith, z.took.pass.ahead))

-- one out of range
pub moves_far : {E : Env} {q : Spot} {m m' : Mem} {t : Token} {a e : ℕ} {r : Result Spot RefusedAt} {h : RefusedAt} (new : List ℕ) → class t ≡ number → Next E true q.at t a e → Counts E true t a e q m m' r → r ≡ Err h
    → Moves (want_after_then ∷ []) true 1 E q m m' new (Err h)
moves_far {E} {q} {m} {m'} {t} {a} {e} {r} {h} new i s x y =
    let z = x.outside h y in
    moves_stop new
    (ends_refuse h (want_after_then ∷ []) m m' s
    (step_far (want_after_then ∷ []) (item_of E t a e) itself (want_end ∷ []) z.far (one_step want_after_then (class t) itself (want_end ∷ []) (then_step (class t) i)) ∙ ap refused (sym z.number)) z.place)

-- another statement
pub moves_statement : {E : Env} {q : Spot} {m : Mem} {t : Token} {a e : ℕ} (new : List ℕ) → Asks E q m → (class t ≡ number → ⊥) → Next E true q.at t a e → Moves (want_after_then ∷ []) true 1 E q m m new (Ok (End (More q)))
moves_statement {t = t} new g h s = moves_more new (reads_same (then_statement s (after_then_same (class t) h)) (reads_none g))

-- ---- an item that the stack took

-- an item within a statement, and what a good stack does with it
pub record Taking (E : Env) (q : Spot) (m : Mem) (t : Token) (a e c : ℕ) (g : Gives) (fs gs : List ℕ) : Type 0 where
  pub asks : Asks E q m
  pub next : Next E false q.at t a e
  pub class : class t ≡ c
  pub good : T (good? fs)
  pub stepped : step look fs c ≡ took g gs

pub taking : {s n : List ℕ} {o : ℕ} {v : Seen} {q : Spot} {m : Mem} {g : Gives} {fs gs : List ℕ} → Asks (env s o n) q m → Shows s q.at false v → T (good? fs) → step look fs v.class ≡ took g gs
    → Taking (env s o n) q m (token_of s v) v.item.at v.item.end v.class g fs gs
taking {s} {n} {o} a v g t = record { asks = a; next = v.next o n; class = sym v.class; good = g; stepped = t }

left_so : {E : Env} {q : Spot} {m : Mem} {t : Token} {a e c : ℕ} {g : Gives} {fs gs : List ℕ} → Taking E q m t a e c g fs gs → T (stepped? c g gs)
left_so {c = c} {g = g} {fs = fs} {gs = gs} x = stepped fs c g gs x.good x.stepped

near_step : {E : Env} {q : Spot} {m : Mem} {t : Token} {a e c : ℕ} {g : Gives} {fs gs : List ℕ} → Taking E q m t a e c g fs gs → out_of_range? t ≡ false → step look_in_range fs (item_of E t a e) ≡ took g gs
near_step {E} {q} {m} {t} {a} {e} {c} {g} {fs} {gs} x n = step_near fs (item_of E t a e) n ∙ ap (step look fs) x.class ∙ x.stepped

in_range : {E : Env} {q : Spot} {m : Mem} {t : Token} {a e c : ℕ} {g : Gives} {fs gs : List ℕ} → Taking E q m t a e c g fs gs → (c ≡ number → ⊥) → out_of_range? t ≡ false
in_range {t = t} {c = c} x n = in_range_by_class t (ap (λ (y : ℕ). eqb y number) x.class ∙ ne_eqb c number n)

-- an item after which the stack is known
known_step : {E : Env} {q : Spot} {m : Mem} {t : Token} {a e c : ℕ} {g : Gives} {fs gs hs : List ℕ} → Taking E q m t a e c g fs gs → (c ≡ number → ⊥) → (g ≡ itself) × (gs ≡ hs)
    → step look_in_range fs (item_of E t a e) ≡ took itself hs
known_step {gs = gs} x n z = near_step x (in_range x n) ∙ ap (λ (y : Gives). took y gs) z.0 ∙ ap (took itself) z.1

-- a colon
pub taken_colon : {E : Env} {q q' : Spot} {m m' : Mem} {t : Token} {a e c b : ℕ} {g : Gives} {fs gs : List ℕ} (depth : ℕ) (new : List ℕ) → Taking E q m t a e c g fs gs → c ≡ colon → b ≡ own_of t
    → m' ≡ mem (set m.line q.written b) m.fresh → q' ≡ spot e (q.written + 1) q.named → Moves fs false depth E q m m' new (Ok (End (More q')))
unfolding opens
taken_colon {g = g} {fs = fs} {gs = gs} depth new x k w n z =
    let tk = took_opener colon refl (omega arith) (omega arith) x.asks x.next (x.class ∙ k) w n z in
    moves_more new
    (ends_step fs (want_statement ∷ []) (known_step x (λ y. absurd (omega (arith, k))) (at_colon g gs (subst (λ (y : ℕ). T (stepped? y g gs)) k (left_so x)))) tk (reads_none tk.pass.asks))

-- the line's end
pub taken_last : {E : Env} {q q' : Spot} {m m' : Mem} {t : Token} {a e c b : ℕ} {g : Gives} {fs gs : List ℕ} (depth : ℕ) (new : List ℕ) → Taking E q m t a e c g fs gs → c ≡ line_end → b ≡ own_of t
    → m' ≡ mem (set m.line q.written b) m.fresh → q' ≡ spot e (q.written + 1) q.named → Moves fs false depth E q m m' new (Ok (End (Last q')))
taken_last {g = g} {fs = fs} {gs = gs} depth new x k w n z =
    moves_last new
    (ends_last fs (known_step x (λ y. absurd (omega (arith, k))) (at_end g gs (subst (λ (y : ℕ). T (stepped? y g gs)) k (left_so x)))) x.asks x.next (x.class ∙ k) w n z)

-- THEN, as it is passed
pub then_passed : {E : Env} {q q₁ : Spot} {m m₁ : Mem} {t : Token} {a e c b : ℕ} {g : Gives} {fs gs : List ℕ} → Taking E q m t a e c g fs gs → c ≡ then_word → b ≡ own_of t → m₁ ≡ mem (set m.line q.written b) m.fresh
    → q₁ ≡ spot e (q.written + 1) q.named → Took E false q m itself (item_of E t a e) true q₁ m₁
unfolding opens
then_passed x k w n z = took_opener then_word refl (omega arith) (omega arith) x.asks x.next (x.class ∙ k) w n z

-- and what comes after it
pub taken_then : {E : Env} {q q₁ : Spot} {m m₁ m' : Mem} {t : Token} {a e c : ℕ} {g : Gives} {fs gs new : List ℕ} {r : Result Moved RefusedAt} (depth : ℕ) → Taking E q m t a e c g fs gs → c ≡ then_word
    → Took E false q m itself (item_of E t a e) true q₁ m₁ → Moves (want_after_then ∷ []) true 1 E q₁ m₁ m' new r → Moves fs false depth E q m m' new r
taken_then {g = g} {fs = fs} {gs = gs} depth x k tk v =
    let sp = known_step x (λ y. absurd (omega (arith, k))) (at_then g gs (subst (λ (y : ℕ). T (stepped? y g gs)) k (left_so x))) in
    record {
      on = λ p j y.
          let u = v.on p j y in
          (record { asks = u.0.asks; good = u.0.good; goes = λ i r b. ends_step fs (want_after_then ∷ []) sp tk (u.0.goes i r b) }, omega (arith, u.1, tk.pass.ahead));
      over = λ z y. ends_step fs (want_after_then ∷ []) sp tk (v.over z y);
      stop = λ z y. ends_step fs (want_after_then ∷ []) sp tk (v.stop z y);
    }

-- any other item: what is asked of it, and how the reading goes on
pub taken_fine : {E : Env} {q : Spot} {m : Mem} {t : Token} {a e c : ℕ} {g : Gives} {fs gs : List ℕ} → Taking E q m t a e c g fs gs → (c ≡ colon → ⊥) → (c ≡ line_end → ⊥) → (c ≡ then_word → ⊥) → T (fine? c g)
taken_fine {c = c} {g = g} {gs = gs} v x y z = (at_other c g gs x y z (left_so v)).0

pub taken_on : {E : Env} {q q' : Spot} {m m' : Mem} {t : Token} {a e c : ℕ} {g : Gives} {fs : List ℕ} (depth d : ℕ) (new : List ℕ) → Taking E q m t a e c g fs (stack new d) → (c ≡ colon → ⊥) → (c ≡ line_end → ⊥)
    → (c ≡ then_word → ⊥) → d ≤ depth + 8 → (out_of_range? t ≡ false) × Took E false q m g (item_of E t a e) false q' m' → Moves fs false depth E q m m' new (Ok (On q' d))
taken_on {c = c} {g = g} {fs = fs} depth d new v x y z f w =
    moves_on
    (record { asks = w.1.pass.asks; good = (at_other c g (stack new d) x y z (left_so v)).1; goes = λ i r b. ends_step fs (stack new d) (near_step v w.0) w.1 b })
    (omega (arith, f, w.1.pass.ahead))

-- a constant out of range
pub taken_far : {E : Env} {q : Spot} {m : Mem} {t : Token} {a e c : ℕ} {g : Gives} {fs gs : List ℕ} {h : RefusedAt} (depth : ℕ) (m' : Mem) (new : List ℕ) → Taking E q m t a e c g fs gs
    → (number_of h.refusal ≡ 5) × ((out_of_range? t ≡ true) × (h.place ≡ E.from + a)) → Moves fs false depth E q m m' new (Err h)
taken_far {E} {q} {m} {t} {a} {e} {c} {g} {fs} {gs} {h} depth m' new x z =
    moves_stop new (ends_refuse h fs m m' x.next (step_far fs (item_of E t a e) g gs z.1.0 (ap (step look fs) x.class ∙ x.stepped) ∙ ap refused (sym z.0)) z.1.1)

-- the stack does not take the item
pub moves_refused : {E : Env} {q : Spot} {m m' : Mem} {t : Token} {a e c p depth : ℕ} (fs new : List ℕ) → T (good? fs) → Next E false q.at t a e → class t ≡ c
    → ((g : Gives) (gs : List ℕ) → step look fs c ≡ took g gs → ⊥) → p ≡ E.from + a → Moves fs false depth E q m m' new (Err (record { refusal = NoReading; place = p }))
moves_refused {E} {q} {m} {m'} {t} {a} {e} {c} {p} fs new good s h n w =
    moves_stop new (ends_refuse (record { refusal = NoReading; place = p }) fs m m' s (step_refused fs (item_of E t a e) 4 (ap (step look fs) h ∙ not_taken fs c good n)) w)

-- the class of an item is one that the stack knows
pub seen_low : {s : List ℕ} {at : ℕ} {first : Bool} {v : Seen} → Shows s at first v → v.class < class_count
seen_low {s} {at} {first} {v} h = omega (arith, h.class, class_low (token_at s first v.item))

-- ---- a term

top_of : (l : List ℕ) (d : ℕ) → 0 < d → stack l d ≡ get_or l (d - 1) 0 ∷ stack l (d - 1)
unfolding stack
top_of l zero h = absurd (omega arith)
top_of l (suc d) h = let e : d ≡ suc d - 1 = omega arith in ap (λ (k : ℕ). get_or l k 0 ∷ stack l k) e

pub good_deep : (l : List ℕ) (d : ℕ) → T (good? (stack l d)) → 0 < d
unfolding stack good?
good_deep l zero g = absurd g
good_deep l (suc d) g = omega arith

operand_inner : T (inner? want_operand)
unfolding inner? among
operand_inner = tt

term_stack : (l : List ℕ) (d : ℕ) → T (good? (stack l d)) → get_or l (d - 1) 0 ≡ want_operand → stack l d ≡ want_operand ∷ stack l (d - 1)
term_stack l d g h = top_of l d (good_deep l d g) ∙ ap (λ (f : ℕ). f ∷ stack l (d - 1)) h

pub moves_term : {E : Env} {q p : Spot} {m m' : Mem} {r : Result Spot RefusedAt} (l : List ℕ) (d : ℕ) → T (good? (stack l d)) → get_or l (d - 1) 0 ≡ want_operand → Says (want_operand ∷ []) E q m m' r → r ≡ Ok p
    → Moves (stack l d) false d E q m m' l (Ok (On p (d - 1)))
moves_term {E} {q} {p} {m} {m'} l d g h x y =
    let w = term_stack l d g h in
    let z = x.got p y in
    moves_on
    (record {
      asks = z.asks;
      good = good_below want_operand (stack l (d - 1)) operand_inner (subst (λ (fs : List ℕ). T (good? fs)) w g);
      goes = λ n u b. subst (λ (fs : List ℕ). Ends fs E q m n u) (sym w) (ends_then z b);
    })
    (omega (arith, z.ahead, good_deep l d g))

pub moves_no_term : {E : Env} {q : Spot} {m m' : Mem} {r : Result Spot RefusedAt} {h : RefusedAt} (l : List ℕ) (d : ℕ) → T (good? (stack l d)) → get_or l (d - 1) 0 ≡ want_operand → Says (want_operand ∷ []) E q m m' r → r ≡ Err h
    → Moves (stack l d) false d E q m m' l (Err h)
moves_no_term {E} {q} {m} {m'} {r} {h} l d g f x y =
    moves_stop l (subst (λ (fs : List ℕ). Ends fs E q m m' (Err h)) (sym (term_stack l d g f)) (ends_first h (stack l (d - 1)) m' x y))

-- ---- all steps of a statement

-- the frames fs were read so far that the frames gs are left
pub record Following (fs : List ℕ) (E : Env) (q₀ : Spot) (m₀ : Mem) (gs : List ℕ) (depth : ℕ) (q : Spot) (m : Mem) : Type 0 where
  pub asks : Asks E q m
  pub good : T (good? gs)
  pub shallow : depth ≤ 9 + 9 * q.at
  pub goes : (n : Mem) (r : Result Ended RefusedAt) → Ends gs E q m n r → Ends fs E q₀ m₀ n r

pub following_first : {fs : List ℕ} {E : Env} {q : Spot} {m : Mem} {depth : ℕ} → Asks E q m → T (good? fs) → depth ≤ 9 + 9 * q.at → Following fs E q m fs depth q m
following_first a g s = record { asks = a; good = g; shallow = s; goes = λ n r b. b }

pub following_next : {fs gs new : List ℕ} {E : Env} {q₀ q p : Spot} {m₀ m m' : Mem} {depth k : ℕ} {r : Result Moved RefusedAt} → Following fs E q₀ m₀ gs depth q m → Moves gs false depth E q m m' new r → r ≡ Ok (On p k)
    → Following fs E q₀ m₀ (stack new k) k p m'
following_next {p = p} {k = k} f v e =
    let u = v.on p k e in
    record { asks = u.0.asks; good = u.0.good; shallow = omega (arith, u.1, f.shallow); goes = λ n r b. f.goes n r (u.0.goes n r b) }
