-- Checks of pieces: from what the code tests to what is left of the line.
use Prim.Native.Nat.{ℕ, zero, suc, ◌+◌, ◌-◌, ◌*◌, ◌≤◌, ◌<◌}
use native.Mathlib.Omega.{arith}
use mathlib.Core.Path.{◌≡◌, refl, subst, sym, ap, ◌∙◌}
use mathlib.Core.Bool.{Bool, true, false, not, ◌&&◌}
use mathlib.Core.List.{List, [], ◌∷◌, ◌++◌}
use lib.Dec.{T, T_not}
use lib.ListN.{length, take, drop, length-take, length-drop}
use lib.Seq.{drop-drop}
use Rattle.paper.specs.Bytes.{pick, run, every}
use Rattle.paper.specs.Classes.{raw_text, raw_end}
use Rattle.paper.specs.Words.{word_of, statements}
use Rattle.paper.specs.Tokens.{Token, statement, operator, raw, class, operator_class, as_read, read_as}
use Rattle.paper.specs.Constants.{right_constant?}
use Rattle.paper.specs.Items.{string_byte?}
use Rattle.paper.specs.Machine.{took, step}
use Rattle.laws.specs.Tests.{and_left, and_right, and_both, as_T}
use Rattle.laws.specs.Constants.{six_long}
use Rattle.paper.specs.Grammar.{Gives, given, look}
use Rattle.list_pieces.specs.declared.Piece.{Piece}
use Rattle.list_pieces.specs.declared.Piece.TheVariants as Piece'
use Rattle.std.specs.Prelude.{Option, Some, None}
use Rattle.grammar.specs.declared.Taken.{Taken}
use Rattle.list_pieces.specs.Pieces.{piece_at, tokens_of_piece, size_of, end_after, Holds}
use Rattle.list_pieces.specs.Rest.{Takes, Rest, Numbered}
use Rattle.grammar.specs.Stack.{stack, gives_of, Steps}
use Rattle.list_check.specs.Passes.{Ended, Onward, Passes}
use Rattle.list_pieces.specs.GivenLaws.{step_given, Plain, a_statement_plain, a_raw_plain, raw_end_given}
use Rattle.list_pieces.specs.ClassLaws.{raw_end_read, raw_end_class, raw_text_class, raw_text_read, read_low}
use Rattle.list_pieces.specs.PieceLaws.{operator_below}
use Rattle.list_pieces.specs.RestLaws.{taken, takes, untaken, later, all, Here, rest_here, here_rest}

-- a piece is checked at a place of a line, with a stack in a buffer that may be a new one afterwards
pub record At (ns : List (List ℕ)) (l : List ℕ) (at end : ℕ) (c : Piece) (old : List ℕ) (depth : ℕ) (new : List ℕ) : Type 0 where
  pub numbered : Numbered ns
  pub inside : at < length l
  pub stands : piece_at at end (drop at l) ≡ c

some : (l : List ℕ) (at : ℕ) → at < length l → 0 < length (drop at l)
some l at h = omega (arith, length-drop at l)

module _ {ns : List (List ℕ)} {l : List ℕ} {at end : ℕ} {c : Piece} {old : List ℕ} {depth : ℕ} {new : List ℕ} (i : At ns l at end c old depth new) where
  -- nothing that is right stands there
  pub fail : (Here ns at end (drop at l) (stack old depth) c → ⊥) → Passes ns l at end c old depth None new
  fail n = record {
    fits = λ k q. (let z : ◌≡◌ {A = ℕ} 0 1 = cc in absurd (omega arith));
    fails = λ q r. n (rest_here ns at end (drop at l) (stack old depth) c (some l at i.inside) i.stands r);
  }

  -- the piece is cut off
  pub fail_short : length l - at < size_of c → Passes ns l at end c old depth None new
  fail_short k = fail (λ x. omega (arith, x.long, length-drop at l, i.inside))

  -- what is right about a piece is not
  pub fail_holds : (Holds ns (drop at l) c → ⊥) → Passes ns l at end c old depth None new
  fail_holds n = fail (λ x. n x.holds)

  -- the piece is right, and the stack takes its tokens
  pub pass : (n : ℕ) → Holds ns (drop at l) c → size_of c ≤ length l - at → n ≤ depth + 8 * size_of c
      → (Takes (stack old depth) (all ns at end (drop at l) c) → Takes (stack new n) (later ns at end (drop at l) c)) → (Takes (stack new n) (later ns at end (drop at l) c) → Takes (stack old depth) (all ns at end (drop at l) c))
      → Passes ns l at end c old depth (Some n) new
  pass n o s f down up =
      let u : List ℕ = drop at l in
      let m : drop (size_of c) u ≡ drop (at + size_of c) l = drop-drop (size_of c) at l in
      let one : Onward ns l at end c old depth n new = record {
        within = omega (arith, i.inside);
        few = f;
        holds = o;
        down = λ r.
            (let x = rest_here ns at end u (stack old depth) c (some l at i.inside) i.stands r in
            subst (Rest ns (stack new n) (at + size_of c) (end_after end u c)) m (record { taken = down x.taken; written = x.written }));
        up = λ r.
            (let x : Rest ns (stack new n) (at + size_of c) (end_after end u c) (drop (size_of c) u) = subst (Rest ns (stack new n) (at + size_of c) (end_after end u c)) (sym m) r in
            here_rest ns at end u (stack old depth) c i.numbered (some l at i.inside) i.stands (record { holds = o; long = omega (arith, length-drop at l, i.inside); written = x.written; taken = up x.taken }));
      } in
      record {
        fits = λ k q. (let z : n ≡ k = cc in subst (λ (j : ℕ). Onward ns l at end c old depth j new) z one);
        fails = λ q r. (let z : ◌≡◌ {A = ℕ} 0 1 = cc in absurd (omega arith));
      }

  -- ---- pieces of one token that is no operator

  module _ (t : Token) (p : Plain t) (r : as_read t ≡ t) (o : tokens_of_piece ns (drop at l) c ≡ t ∷ []) {k : ℕ} (ek : k ≡ class t) {x : Option Taken} (st : Steps old depth k x new) where
    all_is : all ns at end (drop at l) c ≡ t ∷ later ns at end (drop at l) c
    all_is = ap (λ (ts : List Token). ts ++ (later ns at end (drop at l) c)) o

    class_is : class (as_read t) ≡ k
    class_is = ap class r ∙ sym ek

    pub pass_one : (got : Taken) → x ≡ Some got → Holds ns (drop at l) c → size_of c ≤ length l - at → 1 ≤ size_of c → Passes ns l at end c old depth (Some got.depth) new
    pass_one got q hold size pos =
        let w = st.takes got q in
        let v : step look (stack old depth) (class (as_read t)) ≡ took (gives_of got.gives) (stack new got.depth) = ap (step look (stack old depth)) class_is ∙ w.0 in
        let own : given (gives_of got.gives) (as_read t) ≡ t = ap (given (gives_of got.gives)) r ∙ p.moves_not (gives_of got.gives) (step_given (stack old depth) (class t) (gives_of got.gives) (stack new got.depth) (ap (step look (stack old depth)) (sym ek) ∙ w.0)) in
        pass got.depth hold size (omega (arith, w.1))
        (λ a. (taken (stack old depth) (stack new got.depth) (gives_of got.gives) t (later ns at end (drop at l) c) v (subst (Takes (stack old depth)) all_is a)).1)
        (λ a. subst (Takes (stack old depth)) (sym all_is) (takes (stack old depth) (stack new got.depth) (gives_of got.gives) t (later ns at end (drop at l) c) v own a))

    pub fail_one : x ≡ None → Passes ns l at end c old depth None new
    fail_one q =
        fail (λ y. untaken (stack old depth) t (later ns at end (drop at l) c)
        (λ g gs z. st.refuses q g gs (ap (step look (stack old depth)) (sym class_is) ∙ z)) (subst (Takes (stack old depth)) all_is y.taken))

-- ---- a token that gives itself

-- a stack takes a token, and others after it
pub record TakesOn (fs gs : List ℕ) (t : Token) : Type 0 where
  pub down : (ts : List Token) → Takes fs (t ∷ ts) → Takes gs ts
  pub up : (ts : List Token) → Takes gs ts → Takes fs (t ∷ ts)

takes_on : (fs gs : List ℕ) (e : Gives) (t : Token) → step look fs (class (as_read t)) ≡ took e gs → given e (as_read t) ≡ t → TakesOn fs gs t
takes_on fs gs e t v own = record { down = λ ts a. (taken fs gs e t ts v a).1; up = λ ts a. takes fs gs e t ts v own a }

plain_on : (fs gs : List ℕ) (e : Gives) (t : Token) → Plain t → as_read t ≡ t → step look fs (class t) ≡ took e gs → TakesOn fs gs t
plain_on fs gs e t p r v = takes_on fs gs e t (ap (λ (z : Token). step look fs (class z)) r ∙ v) (ap (given e) r ∙ p.moves_not e (step_given fs (class t) e gs v))

raw_end_on : (fs gs : List ℕ) (e : Gives) → step look fs raw_end ≡ took e gs → TakesOn fs gs (operator 0x9b)
raw_end_on fs gs e v =
    takes_on fs gs e (operator 0x9b) (ap (λ (z : Token). step look fs (class z)) raw_end_read ∙ ap (step look fs) raw_end_class ∙ v)
    (ap (given e) raw_end_read ∙ raw_end_given e (step_given fs raw_end e gs v))

-- ---- raw text and its end

module _ {old mid : List ℕ} {depth : ℕ} {x : Option Taken} (a : Steps old depth raw_text x mid) where
  text_on : (got : Taken) → x ≡ Some got → (b : List ℕ) → TakesOn (stack old depth) (stack mid got.depth) (raw b)
  text_on got q b = plain_on (stack old depth) (stack mid got.depth) (gives_of got.gives) (raw b) (a_raw_plain b) (raw_text_read b) (ap (step look (stack old depth)) (raw_text_class b) ∙ (a.takes got q).0)

module _ {old mid new : List ℕ} {depth : ℕ} {x : Option Taken} (a : Steps old depth raw_text x mid) where
  both : (got : Taken) → x ≡ Some got → {y : Option Taken} → Steps mid got.depth raw_end y new → (last : Taken) → y ≡ Some last
      → (last.depth ≤ depth + 16) × ((b : List ℕ) (ts : List Token) → (Takes (stack old depth) (raw b ∷ operator 0x9b ∷ ts) → Takes (stack new last.depth) ts) × (Takes (stack new last.depth) ts → Takes (stack old depth) (raw b ∷ operator 0x9b ∷ ts)))
  both got q z last r =
      let v = a.takes got q in
      let w = z.takes last r in
      let k = raw_end_on (stack mid got.depth) (stack new last.depth) (gives_of last.gives) w.0 in (
        omega (arith, v.1, w.1),
        λ b ts. (λ t. k.down ts ((text_on a got q b).down (operator 0x9b ∷ ts) t), λ t. (text_on a got q b).up (operator 0x9b ∷ ts) (k.up ts t)),
      )

  pub raw_taken : (got : Taken) → x ≡ Some got → {y : Option Taken} → Steps mid got.depth raw_end y new → (last : Taken) → y ≡ Some last → Ended old depth (Some last.depth) new
  raw_taken got q z last r = record {
    fits = λ k s.
        (let m : last.depth ≡ k = cc in
        subst (λ (j : ℕ). (j ≤ depth + 16) × ((b : List ℕ) (ts : List Token) → (Takes (stack old depth) (raw b ∷ operator 0x9b ∷ ts) → Takes (stack new j) ts) × (Takes (stack new j) ts → Takes (stack old depth) (raw b ∷ operator 0x9b ∷ ts)))) m
        (both got q z last r));
    fails = λ s b ts t. (let m : ◌≡◌ {A = ℕ} 0 1 = cc in absurd (omega arith));
  }

  pub raw_refused : x ≡ None → Ended old depth None new
  raw_refused q = record {
    fits = λ n s. (let m : ◌≡◌ {A = ℕ} 0 1 = cc in absurd (omega arith));
    fails = λ s b ts t.
        untaken (stack old depth) (raw b) (operator 0x9b ∷ ts)
        (λ e gs z. a.refuses q e gs (ap (step look (stack old depth)) (sym (ap class (raw_text_read b) ∙ raw_text_class b)) ∙ z)) t;
  }

  pub end_refused : (got : Taken) → x ≡ Some got → {y : Option Taken} → Steps mid got.depth raw_end y new → y ≡ None → Ended old depth None new
  end_refused got q z r = record {
    fits = λ n s. (let m : ◌≡◌ {A = ℕ} 0 1 = cc in absurd (omega arith));
    fails = λ s b ts t.
        untaken (stack mid got.depth) (operator 0x9b) ts
        (λ e gs u. z.refuses r e gs (ap (step look (stack mid got.depth)) (sym (ap class raw_end_read ∙ raw_end_class)) ∙ u)) ((text_on a got q b).down (operator 0x9b ∷ ts) t);
  }

-- ---- REM and DATA

module _ {ns : List (List ℕ)} {l : List ℕ} {at end k n : ℕ} {old mid : List ℕ} {depth : ℕ} {new : List ℕ} (i : At ns l at end (Piece'.Text k n) old depth new) {c : ℕ} (ek : c ≡ (word_of statements k).class)
    {x : Option Taken} (a : Steps old depth c x mid) where
  word_on : (got : Taken) → x ≡ Some got → TakesOn (stack old depth) (stack mid got.depth) (statement k)
  unfolding class as_read
  word_on got q = plain_on (stack old depth) (stack mid got.depth) (gives_of got.gives) (statement k) (a_statement_plain k) refl (ap (step look (stack old depth)) (sym ek) ∙ (a.takes got q).0)

  pub pass_text : (got : Taken) → x ≡ Some got → {y : Option ℕ} → Ended mid got.depth y new → 3 ≤ length l - at → n ≤ length l - at - 3 → Passes ns l at end (Piece'.Text k n) old depth y new
  unfolding tokens_of_piece size_of
  pass_text got q {y} z h m = go y refl
    where
      w : TakesOn (stack old depth) (stack mid got.depth) (statement k)
      w = word_on got q

      go : (r : Option ℕ) → y ≡ r → Passes ns l at end (Piece'.Text k n) old depth r new
      go (Some j) e =
          let v = z.fits j e in
          pass i j (omega (arith, length-drop at l, i.inside)) (omega arith) (omega (arith, v.0, (a.takes got q).1))
          (λ t. (v.1 _ _).0 (w.down _ t)) (λ t. w.up _ ((v.1 _ _).1 t))
      go None e = fail i (λ t. z.fails e _ _ (w.down _ t.taken))

  pub fail_text : x ≡ None → Passes ns l at end (Piece'.Text k n) old depth None new
  unfolding tokens_of_piece class as_read
  fail_text q = fail i (λ t. untaken (stack old depth) (statement k) _ (λ e gs z. a.refuses q e gs (ap (step look (stack old depth)) ek ∙ z)) t.taken)

-- ---- operators

module _ {ns : List (List ℕ)} {l : List ℕ} {at end k : ℕ} {old : List ℕ} {depth : ℕ} {new : List ℕ} (i : At ns l at end (Piece'.Operator k) old depth new) {r c : ℕ} (er : r ≡ read_as k) (ec : c ≡ operator_class r)
    {x : Option Taken} (a : Steps old depth c x new) where
  read_class : class (as_read (operator k)) ≡ c
  unfolding class as_read
  read_class = ap operator_class (sym er) ∙ sym ec

  read_below : r < 128
  read_below = subst (λ (z : ℕ). z < 128) (sym er) (read_low k (operator_below at end (drop at l) k i.stands))

  pub pass_operator : (got : Taken) → x ≡ Some got → (j : ℕ) → (r < 128 → operator j ≡ given (gives_of got.gives) (operator r)) → j ≡ k → Passes ns l at end (Piece'.Operator k) old depth (Some got.depth) new
  unfolding tokens_of_piece size_of as_read
  pass_operator got q j e f =
      let w = a.takes got q in
      let own : given (gives_of got.gives) (operator (read_as k)) ≡ operator k = ap (λ (z : ℕ). given (gives_of got.gives) (operator z)) (sym er) ∙ sym (e read_below) ∙ ap operator f in
      let t = takes_on (stack old depth) (stack new got.depth) (gives_of got.gives) (operator k) (ap (step look (stack old depth)) read_class ∙ w.0) own in
      pass i got.depth tt (omega (arith, i.inside)) (omega (arith, w.1)) (λ u. t.down _ u) (λ u. t.up _ u)

  pub fail_given : (got : Taken) → x ≡ Some got → (j : ℕ) → (r < 128 → operator j ≡ given (gives_of got.gives) (operator r)) → (j ≡ k → ⊥) → Passes ns l at end (Piece'.Operator k) old depth None new
  unfolding tokens_of_piece as_read
  fail_given got q j e f =
      let w = a.takes got q in
      fail i (λ t.
      let o = (taken (stack old depth) (stack new got.depth) (gives_of got.gives) (operator k) _ (ap (step look (stack old depth)) read_class ∙ w.0) t.taken).0 in
      let m : operator j ≡ operator k = e read_below ∙ ap (λ (z : ℕ). given (gives_of got.gives) (operator z)) er ∙ o in
      let z : j ≡ k = cc in
      f z)

  pub fail_operator : x ≡ None → Passes ns l at end (Piece'.Operator k) old depth None new
  unfolding tokens_of_piece
  fail_operator q = fail i (λ t. untaken (stack old depth) (operator k) _ (λ e gs z. a.refuses q e gs (ap (step look (stack old depth)) (sym read_class) ∙ z)) t.taken)

-- ---- strings

every_run : (q : ℕ → Bool) (n : ℕ) (s : List ℕ) → n ≤ run q s → T (every q (take n s))
unfolding run every
every_run q zero s h = tt
every_run q (suc n) [] h = absurd (omega arith)
every_run q (suc n) (x ∷ s) h = every_go q x (q x) refl n s h (λ k. every_run q n s k)
  where
    every_go : (q : ℕ → Bool) (x : ℕ) (b : Bool) → q x ≡ b → (n : ℕ) (s : List ℕ) → suc n ≤ pick b (suc (run q s)) 0 → (n ≤ run q s → T (every q (take n s))) → T (q x && every q (take n s))
    every_go q x true e n s h ih = and_both (q x) _ (as_T (q x) e) (ih (omega arith))
    every_go q x false e n s h ih = absurd (omega arith)

run_every : (q : ℕ → Bool) (n : ℕ) (s : List ℕ) → n ≤ length s → T (every q (take n s)) → n ≤ run q s
unfolding run every
run_every q zero s h t = omega arith
run_every q (suc n) [] h t = absurd (omega arith)
run_every q (suc n) (x ∷ s) h t = run_go q x (q x) refl n s (run_every q n s (omega arith) (and_right (q x) _ t)) (and_left (q x) _ t)
  where
    run_go : (q : ℕ → Bool) (x : ℕ) (b : Bool) → q x ≡ b → (n : ℕ) (s : List ℕ) → n ≤ run q s → T (q x) → suc n ≤ pick b (suc (run q s)) 0
    run_go q x true e n s k t = omega arith
    run_go q x false e n s k t = absurd (subst T e t)

there : (l : List ℕ) (at : ℕ) → drop 2 (drop at l) ≡ drop (at + 2) l
there l at = drop-drop 2 at l

pub string_holds : (ns : List (List ℕ)) (l : List ℕ) (at k e : ℕ) → at < length l → e ≡ at + 2 + run string_byte? (drop (at + 2) l) → 2 + k ≤ length l - at → k ≤ e - (at + 2) → Holds ns (drop at l) (Piece'.Quoted k)
string_holds ns l at k e i r s h = (
  omega (arith, length-drop at l),
  subst (λ (z : List ℕ). T (every string_byte? (take k z))) (sym (there l at)) (every_run string_byte? k (drop (at + 2) l) (omega arith)),
)

pub fail_string : {ns : List (List ℕ)} {l : List ℕ} {at end k : ℕ} {old : List ℕ} {depth : ℕ} {new : List ℕ} → At ns l at end (Piece'.Quoted k) old depth new → {e : ℕ} → e ≡ at + 2 + run string_byte? (drop (at + 2) l) → 2 + k ≤ length l - at → e - (at + 2) < k
    → Passes ns l at end (Piece'.Quoted k) old depth None new
fail_string {l = l} {at = at} {k = k} i r s h =
    fail_holds i (λ t. omega (
      arith,
      run_every string_byte? k (drop (at + 2) l) (omega (arith, length-drop (at + 2) l, i.inside))
          (subst (λ (z : List ℕ). T (every string_byte? (take k z))) (there l at) t.1),
    ))

-- ---- constants

pub not_T : (b : Bool) → b ≡ false → T (not b)
not_T true e = subst T e tt
not_T false e = tt

six_there : (l : List ℕ) (at : ℕ) → take 6 (drop 1 (drop at l)) ≡ take 6 (drop (at + 1) l)
six_there l at = ap (take 6) (drop-drop 1 at l)

right_so : (b r : Bool) → b ≡ r → not b ≡ false → T r
right_so true r e h = subst T e tt
right_so false r e h = absurd (subst T h tt)

wrong_so : (b r : Bool) → b ≡ r → not b ≡ true → T (not r)
wrong_so true r e h = absurd (subst T (sym h) tt)
wrong_so false r e h = not_T r (sym e)

pub fail_wrong : {ns : List (List ℕ)} {l : List ℕ} {at end : ℕ} {old : List ℕ} {depth : ℕ} {new : List ℕ} → At ns l at end Piece'.Constant old depth new → {b : Bool} → b ≡ right_constant? (take 6 (drop (at + 1) l)) → not b ≡ true
    → Passes ns l at end Piece'.Constant old depth None new
fail_wrong {l = l} {at = at} i {b} r e =
    fail_holds i (λ t. T_not (right_constant? (take 6 (drop (at + 1) l))) (wrong_so b _ r e) (subst (λ (z : List ℕ). T (right_constant? z)) (six_there l at) t))

pub right_holds : (ns : List (List ℕ)) (l : List ℕ) (at : ℕ) (b : Bool) → b ≡ right_constant? (take 6 (drop (at + 1) l)) → not b ≡ false → Holds ns (drop at l) Piece'.Constant
right_holds ns l at b r e = subst (λ (z : List ℕ). T (right_constant? z)) (sym (six_there l at)) (right_so b _ r e)

pub right_long : (l : List ℕ) (at : ℕ) (b : Bool) → b ≡ right_constant? (take 6 (drop (at + 1) l)) → not b ≡ false → size_of Piece'.Constant ≤ length l - at
unfolding size_of
right_long l at b r e =
    let six : length (take 6 (drop (at + 1) l)) ≡ 6 = six_long (take 6 (drop (at + 1) l)) (right_so b _ r e) in
    omega (arith, six, length-take 6 (drop (at + 1) l), length-drop (at + 1) l)
