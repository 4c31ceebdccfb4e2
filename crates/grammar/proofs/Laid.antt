-- The rows that are laid over one another say what the grammar says: one test that is computed, and what it says of an entry.
use Rattle.std.proofs.Common.{◌≡◌, ℕ, ◌+◌, ◌/◌, ◌%◌, ◌<◌, ◌≤◌, Bool, true, false, ◌&&◌, T, eqb, ltb, leb, List, [], ◌∷◌, length, get_or, refl, ap, ◌∙◌, arith, ltb→lt, leb→le, ltb-false, ltb-true, le-ltb, lt-ltb, eq-eqb, ne_eqb}
use lib.ListN.{get_or-eq_default}
use Rattle.paper.specs.Bytes.{pick, every, among}
use Rattle.paper.specs.Machine.{Act, refuse, Row, no_row, at_row, find_row}
use Rattle.paper.specs.Grammar.{Gives, grammar, may_be_empty, look}
use Rattle.paper.specs.Open.{all_Bytes, all_Machine, all_Grammar}
use Rattle.laws.specs.Tests.{and_left, and_right}
use Rattle.laws.specs.Counts.{class_count, frame_count}
use Rattle.tokens.specs.Spellings.{below, below_at}
use Rattle.grammar.specs.Tables.{leaving_act, refusing_act, past_rows, no_entry, laid, act, code, packed, word, rest, digits, onto, gives?, says?}
use Rattle.grammar.specs.Rows.{refusing, firsts, entries, acts, words, rests}

-- ---- the test

-- what entry e says of class c, to a frame whose row begins at b
unfoldable told : ℕ → ℕ → ℕ → ℕ
told b c e = pick (eqb (e / 256) c) (e % 256) (pick (ltb b refusing) leaving_act refusing_act)

-- what the entry of frame f for class c says, by where the rows begin and the entries
abbrev said : List ℕ → List ℕ → ℕ → ℕ → ℕ
said fs es f c = told (get_or fs f past_rows) c (get_or es (get_or fs f past_rows + c) no_entry)

-- each entry says what the grammar says
unfoldable right? : List ℕ → List ℕ → List ℕ → List ℕ → Bool
right? fs es ws rs = below (λ f. below (λ c. says? ws rs (said fs es f c) (look f c)) class_count) frame_count

right : T (right? firsts entries words rests)
unfolding right? below told laid act code packed word rest digits onto gives? says? firsts entries acts words rests all_Bytes all_Machine all_Grammar
right = tt

-- ---- from the test to the rule

low_firsts : T (below (λ f. leb (get_or firsts f past_rows) past_rows) frame_count)
unfolding firsts below
low_firsts = tt

firsts_size : length firsts ≡ frame_count
unfolding firsts
firsts_size = refl

few_entries : T (leb (length entries) past_rows)
unfolding laid entries all_Bytes
few_entries = tt

no_frame : (f : ℕ) → frame_count ≤ f → get_or firsts f past_rows ≡ past_rows
no_frame f h = get_or-eq_default firsts past_rows (omega (arith, firsts_size))

-- a place of any row fits a byte
pub first_low : (f : ℕ) → get_or firsts f past_rows ≤ past_rows
first_low f = go (ltb f frame_count) refl
  where
    go : (b : Bool) → ltb f frame_count ≡ b → get_or firsts f past_rows ≤ past_rows
    go true e = leb→le (get_or firsts f past_rows) past_rows (below_at (λ f. leb (get_or firsts f past_rows) past_rows) frame_count low_firsts f (ltb-true f frame_count e))
    go false e = omega (arith, no_frame f (ltb-false f frame_count e))

unfoldable low_row? : Row Gives → Bool
low_row? r = ltb r.frame frame_count

low_rows : T (every low_row? grammar)
unfolding low_row? all_Bytes all_Machine all_Grammar
low_rows = tt

row_miss : (r : Row Gives) (f c : ℕ) (a : Act Gives) → frame_count ≤ f → T (low_row? r) → at_row (eqb f r.frame && eqb c r.class) r a ≡ a
unfolding low_row? at_row
row_miss r f c a h t = let l : r.frame < frame_count = ltb→lt r.frame frame_count t in rw (ne_eqb f r.frame (λ e. omega arith))

rows_miss : (rs : List (Row Gives)) (f c : ℕ) → frame_count ≤ f → T (every low_row? rs) → find_row rs may_be_empty f c ≡ no_row (among f may_be_empty)
unfolding find_row every
rows_miss [] f c h t = refl
rows_miss (r ∷ rs) f c h t = row_miss r f c (find_row rs may_be_empty f c) h (and_left (low_row? r) _ t) ∙ rows_miss rs f c h (and_right (low_row? r) _ t)

not_among : (f : ℕ) (fs : List ℕ) → frame_count ≤ f → T (every (λ x. ltb x frame_count) fs) → among f fs ≡ false
unfolding among every
not_among f [] h t = refl
not_among f (x ∷ fs) h t =
    let l : x < frame_count = ltb→lt x frame_count (and_left (ltb x frame_count) _ t) in
    rw (ne_eqb f x (λ e. omega arith)) (not_among f fs h (and_right (ltb x frame_count) _ t))

low_empty : T (every (λ x. ltb x frame_count) may_be_empty)
unfolding all_Bytes all_Grammar
low_empty = tt

-- a number that is no frame's refuses all
look_high : (f c : ℕ) → frame_count ≤ f → look f c ≡ refuse 4
unfolding look no_row
look_high f c h = rows_miss grammar f c h low_rows ∙ ap no_row (not_among f may_be_empty h low_empty)

none_refuses : T (says? words rests refusing_act (refuse 4))
unfolding says?
none_refuses = tt

high : (f c : ℕ) → c < class_count → frame_count ≤ f → T (says? words rests (said firsts entries f c) (look f c))
unfolding told
high f c h l =
    let e : get_or entries (past_rows + c) no_entry ≡ no_entry = get_or-eq_default entries no_entry (omega (arith, leb→le (length entries) past_rows few_entries)) in
    rw (no_frame f l, e, ne_eqb (no_entry / 256) c (λ z. omega arith), look_high f c l) none_refuses

low : (f c : ℕ) → c < class_count → f < frame_count → T (says? words rests (said firsts entries f c) (look f c))
unfolding right?
low f c h l = below_at _ class_count (below_at _ frame_count right f l) c h

-- what the entry b + c says of class c, to frame f, whose row begins at b
module _ (f c b e : ℕ) (h : c < class_count) (first : b ≡ get_or firsts f past_rows) (entry : e ≡ get_or entries (b + c) no_entry) where
  by_entry : T (says? words rests (told b c e) (look f c))
  by_entry = rw (entry, first) (go (ltb f frame_count) refl)
    where
      go : (t : Bool) → ltb f frame_count ≡ t → T (says? words rests (said firsts entries f c) (look f c))
      go true z = low f c h (ltb-true f frame_count z)
      go false z = high f c h (ltb-false f frame_count z)

  -- the entry is for this class
  pub taken : e / 256 ≡ c → T (says? words rests (e % 256) (look f c))
  unfolding told
  taken z = rw (eq-eqb (e / 256) c z) at by_entry

  -- it is not, and the frame is one that leaves it
  pub left : (e / 256 ≡ c → ⊥) → b < refusing → T (says? words rests leaving_act (look f c))
  unfolding told
  left z l = rw (ne_eqb (e / 256) c z, lt-ltb b refusing l) at by_entry

  -- or refuses it
  pub refused : (e / 256 ≡ c → ⊥) → refusing ≤ b → T (says? words rests refusing_act (look f c))
  unfolding told
  refused z l = rw (ne_eqb (e / 256) c z, le-ltb b refusing l) at by_entry
