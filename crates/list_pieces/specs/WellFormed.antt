-- The test of formed lines, as what is left of a line at its first statement.
use Prim.Native.Nat.{ℕ, zero, suc, ◌+◌, ◌*◌, ◌/◌, ◌%◌, ◌≤◌, ◌<◌}
use native.Mathlib.Omega.{arith}
use Rattle.std.specs.Prelude.{◌≡◌, Bool, true, false, eqb}
use Rattle.std.proofs.Math.Path.{refl, subst, ap, ap₂}
use Rattle.std.proofs.Common.{sym, ◌∙◌, length-drop}
use mathlib.Core.List.{List, [], ◌∷◌, ◌++◌}
use Rattle.std.proofs.Math.Dec.{T}
use Rattle.std.proofs.Math.ListN.{length, take, drop, get_or}
use Rattle.paper.specs.Bytes.{pick, same, every}
use Rattle.paper.specs.Tokens.{Token, statement, assigned, operator, variable, constant, string, raw, class, as_read, read_as}
use Rattle.paper.specs.Items.{Item, item}
use Rattle.paper.specs.Machine.{Step, took, over, refused, step_act, step, Taken, Run, left, done, bad, and_taken, go_on, read}
use Rattle.paper.specs.Grammar.{Gives, given, look, look_item, start}
use Rattle.paper.specs.Line.{begins?, raw_statement?, to_next, token_bytes, line_bytes, line_number, tokens_from, line_tokens}
use Rattle.paper.specs.WellFormed.{tokens_of, right_token?, items_of, gives_back?, formed?}
use Rattle.laws.specs.Names.{same_self, same_eq}
use Rattle.laws.specs.Given.{given_operator, operator_given}
use Rattle.laws.specs.Tests.{and_left, and_right, and_both, is_true, as_T}
use Rattle.list_pieces.specs.declared.Piece.{Piece}
use Rattle.list_pieces.specs.declared.Piece.TheVariants.{Word, Text, Target, NoTarget, Variable, Constant, Quoted, Operator}
use Rattle.list_pieces.specs.Pieces.{piece_at, tokens_of_piece, size_of, end_after}
use Rattle.list_pieces.specs.Rest.{After, Takes, Written, Rest, Whole}
use Rattle.list_pieces.specs.Decoded.{pieces}
use Rattle.list_pieces.specs.GivenLaws.{step_given, Plain, a_statement_plain, an_assigned_plain, a_variable_plain, a_constant_plain, a_string_plain, a_raw_plain}
use Rattle.list_pieces.specs.PieceLaws.{Is, piece_is, Left, less_word, less_text, less_target, less_none, less_variable, less_constant, less_quoted, less_operator}

-- ---- one token taken

step_item : (fs : List ℕ) (t : Token) → step look_item fs (item 0 0 t) ≡ step look fs (class t)
unfolding step look_item item
step_item [] t = refl
step_item (f ∷ fs) t = ap (step_act (look f (class t)) fs) (step_item fs t)

-- the first token of a lawful run, and the run over the others
record One (fs : List ℕ) (t : Token) (ts : List Token) (tk : List (Taken Gives Item)) : Type 0 where
  gave : Gives
  stack : List ℕ
  others : List (Taken Gives Item)
  stepped : step look fs (class (as_read t)) ≡ took gave stack
  reads : read look_item stack (items_of ts) ≡ left others []
  tokens : tokens_of tk ≡ given gave (as_read t) ∷ tokens_of others

taken_go : (fs : List ℕ) (t : Token) (ts : List Token) (tk : List (Taken Gives Item)) (e : Gives) (gs : List ℕ) → step look fs (class (as_read t)) ≡ took e gs
    → (r : Run Gives Item) → read look_item gs (items_of ts) ≡ r → and_taken (record { gave = e; from = item 0 0 (as_read t) }) r ≡ left tk [] → One fs t ts tk
unfolding and_taken tokens_of item
taken_go fs t ts tk e gs h (left us []) q k =
    let z : record { gave = e; from = item 0 0 (as_read t) } ∷ us ≡ tk = cc in
    record { gave = e; stack = gs; others = us; stepped = h; reads = q; tokens = ap tokens_of (sym z) }
taken_go fs t ts tk e gs h (left us (f ∷ s)) q k = let z : ◌≡◌ {A = ℕ} 0 1 = cc in absurd (omega arith)
taken_go fs t ts tk e gs h (done us s) q k = let z : ◌≡◌ {A = ℕ} 0 1 = cc in absurd (omega arith)
taken_go fs t ts tk e gs h (bad n us s) q k = let z : ◌≡◌ {A = ℕ} 0 1 = cc in absurd (omega arith)

one_go : (fs : List ℕ) (t : Token) (ts : List Token) (tk : List (Taken Gives Item)) (x : Step Gives) → step look fs (class (as_read t)) ≡ x
    → go_on look_item x (item 0 0 (as_read t)) (items_of ts) (λ gs. read look_item gs (items_of ts)) ≡ left tk [] → One fs t ts tk
unfolding go_on
one_go fs t ts tk (took e gs) h k = taken_go fs t ts tk e gs h (read look_item gs (items_of ts)) refl k
one_go fs t ts tk over h k = let z : ◌≡◌ {A = ℕ} 0 1 = cc in absurd (omega arith)
one_go fs t ts tk (refused n) h k = let z : ◌≡◌ {A = ℕ} 0 1 = cc in absurd (omega arith)

one : (fs : List ℕ) (t : Token) (ts : List Token) (tk : List (Taken Gives Item)) → read look_item fs (items_of (t ∷ ts)) ≡ left tk [] → One fs t ts tk
unfolding read items_of
one fs t ts tk h =
    one_go fs t ts tk (step look fs (class (as_read t))) refl
    (ap (λ (x : Step Gives). go_on look_item x (item 0 0 (as_read t)) (items_of ts) (λ gs. read look_item gs (items_of ts))) (sym (step_item fs (as_read t))) ∙ h)

-- a token that gives itself is taken
takes : (fs : List ℕ) (t : Token) (ts : List Token) (tk : List (Taken Gives Item)) (o : One fs t ts tk) → given o.gave (as_read t) ≡ t → Takes o.stack ts → Takes fs (t ∷ ts)
unfolding Takes After
takes fs t ts tk o e r = rw o.stepped (e, r)

-- ---- a lawful run that gives the bytes back gives the tokens back

abbrev Same : List (List ℕ) → List ℕ → List (Taken Gives Item) → List Token → Type 0
Same ns fs tk ts = Takes fs ts × (tokens_of tk ≡ ts)

module _ (ns : List (List ℕ)) where
  -- a token that is no operator, and then the rest
  own : (fs : List ℕ) (t : Token) (ts : List Token) (tk : List (Taken Gives Item)) → Plain t → as_read t ≡ t → (o : One fs t ts tk) → Same ns o.stack o.others ts → Same ns fs tk (t ∷ ts)
  own fs t ts tk a r o h =
      let g : given o.gave (as_read t) ≡ t = ap (given o.gave) r ∙ a.moves_not o.gave (step_given fs (class t) o.gave o.stack (ap (λ (z : Token). step look fs (class z)) (sym r) ∙ o.stepped)) in
      (takes fs t ts tk o g h.0, o.tokens ∙ ap₂ (λ (x : Token) (xs : List Token). x ∷ xs) g h.1)

  -- the same for all shorter bytes
  abbrev Shorter : ℕ → Type 0
  Shorter k =
      (p end : ℕ) (s fs : List ℕ) (tk : List (Taken Gives Item)) → length s ≤ k → read look_item fs (items_of (tokens_from ns 0 p end s)) ≡ left tk [] → Written ns p end s (tokens_of tk)
      → Same ns fs tk (tokens_from ns 0 p end s)

  module _ (k p end b : ℕ) (s : List ℕ) (l : length s ≤ k) (ih : Shorter k) where
    -- the tokens after a piece
    abbrev rest : Piece → List Token
    rest c = tokens_from ns 0 (p + size_of c) (end_after end (b ∷ s) c) (drop (size_of c) (b ∷ s))

    later : (c : Piece) (fs : List ℕ) (tk : List (Taken Gives Item)) → 1 ≤ size_of c → read look_item fs (items_of (rest c)) ≡ left tk [] → Left ns p end b s (tokens_of tk) c → Same ns fs tk (rest c)
    later c fs tk z h w = ih (p + size_of c) (end_after end (b ∷ s) c) (drop (size_of c) (b ∷ s)) fs tk (omega (arith, length-drop (size_of c) (b ∷ s))) h w.2

    single : (c : Piece) (t : Token) (fs : List ℕ) (tk : List (Taken Gives Item)) → Plain t → as_read t ≡ t → 1 ≤ size_of c → ((gs : List Token) → Written ns p end (b ∷ s) (t ∷ gs) → Left ns p end b s gs c)
        → read look_item fs (items_of (t ∷ rest c)) ≡ left tk [] → Written ns p end (b ∷ s) (tokens_of tk) → Same ns fs tk (t ∷ rest c)
    single c t fs tk a r z less h w =
        let o = one fs t (rest c) tk h in
        let g : given o.gave (as_read t) ≡ t = ap (given o.gave) r ∙ a.moves_not o.gave (step_given fs (class t) o.gave o.stack (ap (λ (z : Token). step look fs (class z)) (sym r) ∙ o.stepped)) in
        let v : Written ns p end (b ∷ s) (t ∷ tokens_of o.others) = subst (Written ns p end (b ∷ s)) (o.tokens ∙ ap (λ (x : Token). x ∷ tokens_of o.others) g) w in
        own fs t (rest c) tk a r o (later c o.stack o.others z o.reads (less (tokens_of o.others) v))

    sign : (fs : List ℕ) (tk : List (Taken Gives Item)) → read look_item fs (items_of (operator b ∷ rest (Operator b))) ≡ left tk [] → Written ns p end (b ∷ s) (tokens_of tk) → Same ns fs tk (operator b ∷ rest (Operator b))
    unfolding as_read size_of
    sign fs tk h w =
        let o = one fs (operator b) (rest (Operator b)) tk h in
        let j : ℕ = given_operator o.gave (read_as b) in
        let e : tokens_of tk ≡ operator j ∷ tokens_of o.others = o.tokens ∙ ap (λ (x : Token). x ∷ tokens_of o.others) (operator_given o.gave (read_as b)) in
        let m = less_operator ns p end b s (tokens_of o.others) j (subst (Written ns p end (b ∷ s)) e w) in
        let g : operator j ≡ operator b = ap operator m.0 in
        let r = later (Operator b) o.stack o.others (omega arith) o.reads m.1 in
        (takes fs (operator b) (rest (Operator b)) tk o (operator_given o.gave (read_as b) ∙ g) r.0, e ∙ ap₂ (λ (x : Token) (xs : List Token). x ∷ xs) g r.1)

    text : (t n : ℕ) (fs : List ℕ) (tk : List (Taken Gives Item)) → Is p end (b ∷ s) (Text t n) → read look_item fs (items_of (statement t ∷ raw (take n (drop 1 s)) ∷ operator 0x9b ∷ rest (Text t n))) ≡ left tk [] → Written ns p end (b ∷ s) (tokens_of tk)
        → Same ns fs tk (statement t ∷ raw (take n (drop 1 s)) ∷ operator 0x9b ∷ rest (Text t n))
    unfolding as_read size_of
    text t n fs tk i h w =
        let d : List ℕ = take n (drop 1 s) in
        let o = one fs (statement t) (raw d ∷ operator 0x9b ∷ rest (Text t n)) tk h in
        let q = one o.stack (raw d) (operator 0x9b ∷ rest (Text t n)) o.others o.reads in
        let u = one q.stack (operator 0x9b) (rest (Text t n)) q.others q.reads in
        let x : given o.gave (statement t) ≡ statement t = (a_statement_plain t).moves_not o.gave (step_given fs (class (statement t)) o.gave o.stack o.stepped) in
        let y : given q.gave (raw d) ≡ raw d = (a_raw_plain d).moves_not q.gave (step_given o.stack (class (raw d)) q.gave q.stack q.stepped) in
        let j : ℕ = given_operator u.gave (read_as 0x9b) in
        let z : given u.gave (operator (read_as 0x9b)) ≡ operator j = operator_given u.gave (read_as 0x9b) in
        let e : tokens_of tk ≡ statement t ∷ raw d ∷ operator j ∷ tokens_of u.others =
        o.tokens ∙ ap₂ (λ (a : Token) (l : List Token). a ∷ l) x (q.tokens ∙ ap₂ (λ (a : Token) (l : List Token). a ∷ l) y (u.tokens ∙ ap (λ (a : Token). a ∷ tokens_of u.others) z)) in
        let m = less_text ns p end b s (tokens_of u.others) t n j i (subst (Written ns p end (b ∷ s)) e w) in
        let g : operator j ≡ operator 0x9b = ap operator m.0 in
        let r = later (Text t n) u.stack u.others (omega arith) u.reads m.1 in
        let c : Same ns q.stack q.others (operator 0x9b ∷ rest (Text t n)) =
        (takes q.stack (operator 0x9b) (rest (Text t n)) q.others u (z ∙ g) r.0, u.tokens ∙ ap₂ (λ (x : Token) (xs : List Token). x ∷ xs) (z ∙ g) r.1) in
        own fs (statement t) (raw d ∷ operator 0x9b ∷ rest (Text t n)) tk (a_statement_plain t) refl o
        (own o.stack (raw d) (operator 0x9b ∷ rest (Text t n)) o.others (a_raw_plain d) refl q c)

    piece : (c : Piece) (fs : List ℕ) (tk : List (Taken Gives Item)) → Is p end (b ∷ s) c → read look_item fs (items_of (tokens_of_piece ns (b ∷ s) c ++ rest c)) ≡ left tk [] → Written ns p end (b ∷ s) (tokens_of tk)
        → Same ns fs tk (tokens_of_piece ns (b ∷ s) c ++ rest c)
    unfolding tokens_of_piece as_read size_of
    piece (Word t) fs tk i h w = single (Word t) (statement t) fs tk (a_statement_plain t) refl (omega arith) (λ gs v. less_word ns p end b s gs t v) h w
    piece (Text t n) fs tk i h w = text t n fs tk i h w
    piece (Target v) fs tk i h w = single (Target v) (assigned (get_or ns v.number [])) fs tk (an_assigned_plain (get_or ns v.number [])) refl (omega arith) (λ gs x. less_target ns p end b s gs v i x) h w
    piece NoTarget fs tk i h w = single NoTarget (assigned _) fs tk (an_assigned_plain _) refl (omega arith) (λ gs x. absurd (less_none ns p end b s gs i _ x)) h w
    piece (Variable v) fs tk i h w = single (Variable v) (variable (get_or ns v.number [])) fs tk (a_variable_plain (get_or ns v.number [])) refl (omega (arith, i.1)) (λ gs x. less_variable ns p end b s gs v i x) h w
    piece Constant fs tk i h w = single Constant (constant (take 6 s)) fs tk (a_constant_plain (take 6 s)) refl (omega arith) (λ gs x. less_constant ns p end b s gs x) h w
    piece (Quoted n) fs tk i h w = single (Quoted n) (string (take n (drop 1 s))) fs tk (a_string_plain (take n (drop 1 s))) refl (omega arith) (λ gs x. less_quoted ns p end b s gs n i x) h w
    piece (Operator t) fs tk i h w = subst (λ (z : ℕ). read look_item fs (items_of (operator z ∷ rest (Operator z))) ≡ left tk [] → Same ns fs tk (operator z ∷ rest (Operator z))) (sym i.0) (λ r. sign fs tk r w) h

  none : (fs : List ℕ) (tk : List (Taken Gives Item)) → left [] fs ≡ left tk [] → Same ns fs tk []
  unfolding Takes tokens_of
  none fs tk e =
      let a : fs ≡ [] = cc in
      let b : tk ≡ [] = cc in
      (subst (λ (gs : List ℕ). Takes gs []) (sym a) tt, ap tokens_of b)

  pieces_back : (k p end b : ℕ) (s : List ℕ) → length s ≤ k → Shorter k → (fs : List ℕ) (tk : List (Taken Gives Item)) → read look_item fs (items_of (tokens_from ns 0 p end (b ∷ s))) ≡ left tk [] → Written ns p end (b ∷ s) (tokens_of tk)
      → Same ns fs tk (tokens_from ns 0 p end (b ∷ s))
  pieces_back k p end b s l ih fs tk h w =
      subst (λ (ts : List Token). read look_item fs (items_of ts) ≡ left tk [] → Same ns fs tk ts) (sym (pieces ns p end b s))
      (λ r. piece k p end b s l ih (piece_at p end (b ∷ s)) fs tk (piece_is p end (b ∷ s)) r w) h

  empty_back : (p end : ℕ) (fs : List ℕ) (tk : List (Taken Gives Item)) → read look_item fs (items_of (tokens_from ns 0 p end [])) ≡ left tk [] → Same ns fs tk (tokens_from ns 0 p end [])
  unfolding tokens_from items_of read
  empty_back p end fs tk h = none fs tk h

  longer_back : (k : ℕ) → Shorter k → Shorter (suc k)
  longer_back k ih p end [] fs tk l h w = empty_back p end fs tk h
  longer_back k ih p end (b ∷ s) fs tk l h w = pieces_back k p end b s (omega arith) ih fs tk h w

  shortest_back : Shorter 0
  shortest_back p end [] fs tk l h w = empty_back p end fs tk h
  shortest_back p end (b ∷ s) fs tk l h w = absurd (omega arith)

  -- the tokens that a lawful run gives are the tokens of the bytes, if they are written there
  pub back : (k : ℕ) → Shorter k
  back zero = shortest_back
  back (suc k) = longer_back k (back k)

-- ---- and tokens that are taken make a lawful run

-- a lawful run that gives these tokens
record Runs (fs : List ℕ) (ts : List Token) : Type 0 where
  taken : List (Taken Gives Item)
  reads : read look_item fs (items_of ts) ≡ left taken []
  gives : tokens_of taken ≡ ts

runs_go : (fs : List ℕ) (t : Token) (ts : List Token) (x : Step Gives) → step look fs (class (as_read t)) ≡ x → After x t (λ gs. Takes gs ts) → ((gs : List ℕ) → Takes gs ts → Runs gs ts) → Runs fs (t ∷ ts)
unfolding After read items_of go_on and_taken tokens_of item
runs_go fs t ts (took e gs) h a ih =
    let r = ih gs a.1 in
    record {
      taken = record { gave = e; from = item 0 0 (as_read t) } ∷ r.taken;
      reads =
          ap (λ (x : Step Gives). go_on look_item x (item 0 0 (as_read t)) (items_of ts) (λ gs. read look_item gs (items_of ts))) (step_item fs (as_read t) ∙ h)
          ∙ ap (and_taken (record { gave = e; from = item 0 0 (as_read t) })) r.reads;
      gives = ap₂ (λ (x : Token) (xs : List Token). x ∷ xs) a.0 r.gives;
    }
runs_go fs t ts over h a ih = absurd a
runs_go fs t ts (refused n) h a ih = absurd a

runs : (ts : List Token) (fs : List ℕ) → Takes fs ts → Runs fs ts
unfolding Takes read items_of tokens_of
runs [] [] a = record { taken = []; reads = refl; gives = refl }
runs [] (f ∷ fs) a = absurd a
runs (t ∷ ts) [] a = runs_go [] t ts (step look [] (class (as_read t))) refl a (λ gs r. runs ts gs r)
runs (t ∷ ts) (f ∷ fs) a = runs_go (f ∷ fs) t ts (step look (f ∷ fs) (class (as_read t))) refl a (λ gs r. runs ts gs r)

-- ---- a whole line

begins_first : (ns : List (List ℕ)) (fs : List ℕ) (t : Token) (ts : List Token) (tk : List (Taken Gives Item)) → Plain t → as_read t ≡ t → begins? t ≡ true → read look_item fs (items_of (t ∷ ts)) ≡ left tk [] → to_next ns (tokens_of tk) ≡ 0
unfolding to_next
begins_first ns fs t ts tk a r b h =
    let o = one fs t ts tk h in
    let g : given o.gave (as_read t) ≡ t = ap (given o.gave) r ∙ a.moves_not o.gave (step_given fs (class t) o.gave o.stack (ap (λ (z : Token). step look fs (class z)) (sym r) ∙ o.stepped)) in
    ap (to_next ns) (o.tokens ∙ ap (λ (x : Token). x ∷ tokens_of o.others) g) ∙ rw b

first_go : (ns : List (List ℕ)) (n : List ℕ) (t : ℕ) (x y : Bool) (as' bs cs : List Token) (tk : List (Taken Gives Item)) → read look_item start (items_of (pick x (assigned n ∷ as') (pick y (statement t ∷ bs) (statement t ∷ cs)))) ≡ left tk [] → to_next ns (tokens_of tk) ≡ 0
unfolding as_read begins?
first_go ns n t true y as' bs cs tk h = begins_first ns start (assigned n) as' tk (an_assigned_plain n) refl refl h
first_go ns n t false true as' bs cs tk h = begins_first ns start (statement t) bs tk (a_statement_plain t) refl refl h
first_go ns n t false false as' bs cs tk h = begins_first ns start (statement t) cs tk (a_statement_plain t) refl refl h

first_begins : (ns : List (List ℕ)) (s : List ℕ) (tk : List (Taken Gives Item)) → read look_item start (items_of (tokens_from ns 0 3 3 s)) ≡ left tk [] → to_next ns (tokens_of tk) ≡ 0
unfolding tokens_from items_of read start
first_begins ns [] tk h = let z : ◌≡◌ {A = ℕ} 0 1 = cc in absurd (omega arith)
first_begins ns (b ∷ s) tk h = first_go ns _ (get_or s 0 0) (eqb (get_or s 0 0) 0x36) (raw_statement? (get_or s 0 0)) _ _ _ tk h

nothing_taken : (ns : List (List ℕ)) → Takes start (tokens_from ns 0 3 3 []) → ⊥
unfolding Takes start tokens_from
nothing_taken ns t = t

-- a whole line's bytes are those of its tokens
bytes_back : {lawful? : ℕ → Bool} (ns : List (List ℕ)) (l : List ℕ) → get_or l 0 0 < 256 → Whole lawful? ns l → line_bytes ns (line_number l) (tokens_from ns 0 3 3 (drop 3 l)) ≡ l
unfolding line_bytes line_number
bytes_back ns [] h w = absurd (nothing_taken ns w.body.taken)
bytes_back ns (a ∷ []) h w = absurd (omega (arith, w.sized))
bytes_back ns (a ∷ b ∷ []) h w = absurd (omega (arith, w.sized))
bytes_back ns (a ∷ b ∷ c ∷ s) h w =
    let t : token_bytes ns 3 (tokens_from ns 0 3 3 s) ≡ s = w.body.written.bytes in
    let x : (a + 256 * b) % 256 ≡ a = omega arith in
    let y : (a + 256 * b) / 256 ≡ b = omega arith in
    let z : 3 + length (token_bytes ns 3 (tokens_from ns 0 3 3 s)) ≡ c = omega (arith, ap length t, w.sized) in
    ap₂ (λ (m n : ℕ). m ∷ n ∷ (3 + length (token_bytes ns 3 (tokens_from ns 0 3 3 s))) ∷ token_bytes ns 3 (tokens_from ns 0 3 3 s)) x y
    ∙ ap₂ (λ (n : ℕ) (u : List ℕ). a ∷ b ∷ n ∷ u) z t

module _ (ns : List (List ℕ)) (l : List ℕ) where
  line_go : (tk : List (Taken Gives Item)) → read look_item start (items_of (line_tokens ns l)) ≡ left tk [] → line_bytes ns (line_number l) (tokens_of tk) ≡ l → T (every (right_token? ns) (tokens_of tk))
      → (get_or l 2 0 ≡ length l) × Rest ns start 3 3 (drop 3 l)
  unfolding line_tokens line_bytes
  line_go tk h e r =
      let d : token_bytes ns 3 (tokens_of tk) ≡ drop 3 l = ap (drop 3) e in
      let n = first_begins ns (drop 3 l) tk h in
      let w : Written ns 3 3 (drop 3 l) (tokens_of tk) = record { right = r; bytes = d; next = omega arith } in
      let b = back ns (length (drop 3 l)) 3 3 (drop 3 l) start tk (omega arith) h w in
      let a : 3 + length (token_bytes ns 3 (tokens_of tk)) ≡ get_or l 2 0 = ap (λ (z : List ℕ). get_or z 2 0) e in
      (omega (arith, ap length e), record { taken = b.0; written = subst (Written ns 3 3 (drop 3 l)) b.1 w })

  back_go : (r : Run Gives Item) → read look_item start (items_of (line_tokens ns l)) ≡ r → T (gives_back? ns l r) → (get_or l 2 0 ≡ length l) × Rest ns start 3 3 (drop 3 l)
  unfolding gives_back?
  back_go (left tk []) e t =
      line_go tk e (same_eq (line_bytes ns (line_number l) (tokens_of tk)) l (is_true _ (and_left (same (line_bytes ns (line_number l) (tokens_of tk)) l) _ t))) (and_right (same (line_bytes ns (line_number l) (tokens_of tk)) l) _ t)
  back_go (left tk (f ∷ fs)) e t = absurd t
  back_go (done tk r) e t = absurd t
  back_go (bad n tk r) e t = absurd t

  -- a line that passes the test is whole
  pub passes_whole : {lawful? : ℕ → Bool} → T (formed? lawful? ns l) → Whole lawful? ns l
  unfolding formed?
  passes_whole {lawful?} t =
      let r = back_go (read look_item start (items_of (line_tokens ns l))) refl (and_right (lawful? (line_number l)) _ t) in
      record { lawful = and_left (lawful? (line_number l)) _ t; sized = r.0; body = r.1 }

  -- and a whole line passes it
  pub whole_passes : {lawful? : ℕ → Bool} → get_or l 0 0 < 256 → Whole lawful? ns l → T (formed? lawful? ns l)
  unfolding formed? gives_back? line_tokens
  whole_passes {lawful?} h w =
      let r = runs (tokens_from ns 0 3 3 (drop 3 l)) start w.body.taken in
      and_both (lawful? (line_number l)) _ w.lawful
      (subst (λ (z : Run Gives Item). T (gives_back? ns l z)) (sym r.reads)
      (and_both (same (line_bytes ns (line_number l) (tokens_of r.taken)) l) _
      (subst (λ (ts : List Token). T (same (line_bytes ns (line_number l) ts) l)) (sym r.gives) (subst (λ (z : List ℕ). T (same z l)) (sym (bytes_back ns l h w)) (as_T _ (same_self l))))
      (subst (λ (ts : List Token). T (every (right_token? ns) ts)) (sym r.gives) w.body.written.right)))
