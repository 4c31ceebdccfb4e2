-- The walk over the lines of a program: where it ends, and a turn of it; and the sums of their columns.
use Prim.Native.Nat.{ℕ, suc, ◌+◌, ◌-◌, ◌^◌, ◌≤◌, ◌<◌}
use native.Mathlib.Omega.{arith}
use mathlib.Core.Path.{◌≡◌, refl, subst, sym, ap, ◌∙◌}
use mathlib.Core.Bool.{Bool, true, false}
use mathlib.Core.List.{List, [], ◌∷◌}
use lib.Dec.{T, leb, leb→le}
use lib.ListN.{length, take, drop, get_or, length-append, length-drop}
use lib.Seq.{length-take-le}
use Rattle.std.specs.Prelude.{Some, None}
use Rattle.paper.specs.Bytes.{pick, every, joined}
use Rattle.paper.specs.Line.{lawful_number?}
use Rattle.paper.specs.Errors.{listable?, line_listing}
use Rattle.paper.specs.Store.{lines_from, lines_in, whole_line?}
use Rattle.paper.specs.Weigh.{sum, line_variables, line_numbers, line_strings, line_raw, line_else, columns_of}
use Rattle.laws.specs.Tests.{and_left, and_right}
use Rattle.laws.specs.Lines.{lines_next}
use Rattle.store.specs.Rising.{first_go}
use Rattle.list_weigh.specs.declared.Weight.{Weight}
use Rattle.list_weigh.specs.Weights.{nothing, plus, line_weight, weighing, Small}
use Rattle.list_weigh.proofs.Sums.{plus_assoc, plus_nothing, nothing_plus}
use Rattle.list_weigh.proofs.Bounds.{small_plus, small_more}
use Rattle.file_weigh.specs.Answers.{columns, lines_weight, lines_weighing}

-- ---- the first of whole lines

pub record First (s : List ℕ) : Type 0 where
  pub long : 6 ≤ get_or s 2 0
  pub fits : get_or s 2 0 ≤ length s
  pub first : lines_in s ≡ take (get_or s 2 0) s ∷ lines_in (drop (get_or s 2 0) s)
  pub rest : T (every whole_line? (lines_in (drop (get_or s 2 0) s)))

first_whole : (s : List ℕ) → 0 < length s → T (every whole_line? (lines_in s)) → T (whole_line? (take (get_or s 2 0) s))
unfolding lines_in lines_from every
first_whole [] h t = absurd (omega arith)
first_whole (b ∷ s) h t = and_left (whole_line? (take (get_or (b ∷ s) 2 0) (b ∷ s))) _ t

pub first_line : (s : List ℕ) → 0 < length s → T (every whole_line? (lines_in s)) → First s
unfolding every
first_line s h t =
    let f = first_go s (first_whole s h t) in
    let n = lines_next s (omega (arith, f.long)) in
    record {
      long = f.long;
      fits = f.fits;
      first = n;
      rest = and_right (whole_line? (take (get_or s 2 0) s)) _ (subst (λ (ls : List (List ℕ)). T (every whole_line? ls)) n t);
    }

-- ---- the walk

weighing_listed : (ns : List (List ℕ)) (l : List ℕ) (w : Weight) → weighing ns l ≡ Some w → (listable? lawful_number? ns l ≡ true) × (w ≡ line_weight ns l)
unfolding weighing
weighing_listed ns l w e = go (listable? lawful_number? ns l) e
  where
    go : (b : Bool) → pick b (Some (line_weight ns l)) None ≡ Some w → (b ≡ true) × (w ≡ line_weight ns l)
    go true e = (refl, (cc))
    go false e = let z : ◌≡◌ {A = ℕ} 0 1 = cc in absurd (omega arith)

weighing_none : (ns : List (List ℕ)) (l : List ℕ) → weighing ns l ≡ None → listable? lawful_number? ns l ≡ false
unfolding weighing
weighing_none ns l e = go (listable? lawful_number? ns l) e
  where
    go : (b : Bool) → pick b (Some (line_weight ns l)) None ≡ None → b ≡ false
    go true e = let z : ◌≡◌ {A = ℕ} 0 1 = cc in absurd (omega arith)
    go false e = refl

module _ (ns : List (List ℕ)) (before : Weight) (s : List ℕ) where
  -- no line is left
  pub none_left : length s ≤ 0 → Some before ≡ lines_weighing before ns (lines_in s)
  unfolding lines_weighing lines_weight every lines_in lines_from
  none_left h = go s h
    where
      go : (s : List ℕ) → length s ≤ 0 → Some before ≡ lines_weighing before ns (lines_in s)
      go [] h = ap Some (sym (plus_nothing before))
      go (b ∷ s) h = absurd (omega arith)

  module _ (f : First s) where
    -- a line that cannot be listed
    pub line_refused : None ≡ weighing ns (take (get_or s 2 0) s) → None ≡ lines_weighing before ns (lines_in s)
    unfolding lines_weighing every
    line_refused e = sym (rw (f.first, weighing_none ns (take (get_or s 2 0) s) (sym e)))

    -- one that can: the walk goes on after it
    pub line_added : (w new : Weight) → Some w ≡ weighing ns (take (get_or s 2 0) s) → new ≡ plus before w → (rest : List ℕ) → rest ≡ drop (get_or s 2 0) s
        → lines_weighing new ns (lines_in rest) ≡ lines_weighing before ns (lines_in s)
    unfolding lines_weighing lines_weight every
    line_added w new e g rest d =
        let l : List ℕ = take (get_or s 2 0) s in
        let later : List (List ℕ) = lines_in (drop (get_or s 2 0) s) in
        let k = weighing_listed ns l w (sym e) in
        let sums : plus new (lines_weight ns later) ≡ plus before (plus (line_weight ns l) (lines_weight ns later)) =
        ap (λ (x : Weight). plus x (lines_weight ns later)) (g ∙ ap (plus before) k.1) ∙ plus_assoc before (line_weight ns l) (lines_weight ns later) in
        ap (λ (z : List ℕ). lines_weighing new ns (lines_in z)) d
        ∙ ap (λ (x : Weight). pick (every (listable? lawful_number? ns) later) (Some x) None) sums
        ∙ sym (rw (f.first, k.0))

-- Before a line: whole lines are left; what comes of these after those before is what comes of all; and the weight so far is small.
pub record Going (ns : List (List ℕ)) (lines rest : List ℕ) (total : Weight) : Type 0 where
  pub whole : T (every whole_line? (lines_in rest))
  pub same : lines_weighing total ns (lines_in rest) ≡ lines_weighing nothing ns (lines_in lines)
  pub within : length rest ≤ length lines
  pub small : Small (length lines - length rest) total

pub going_first : (ns : List (List ℕ)) (lines : List ℕ) (total : Weight) → T (every whole_line? (lines_in lines)) → total ≡ nothing → Going ns lines lines total
going_first ns lines total t e = record {
  whole = t;
  same = ap (λ (w : Weight). lines_weighing w ns (lines_in lines)) e;
  within = omega arith;
  small = subst (Small (length lines - length lines)) (sym e) (record { listing = omega arith; variables = omega arith; numbers = omega arith; strings = omega arith; raw_text = omega arith; others = omega arith });
}

module _ {ns : List (List ℕ)} {lines rest : List ℕ} {total : Weight} (g : Going ns lines rest total) where
  -- no line is left
  pub going_done : length rest ≤ 0 → (Some total ≡ lines_weighing nothing ns (lines_in lines)) × Small (length lines) total
  going_done h = (none_left ns total rest h ∙ g.same, small_more (length lines - length rest) (length lines) total (omega arith) g.small)

  -- what is so far is small
  pub going_small : length lines ≤ 65535 → Small (2 ^ 46) total
  going_small h = small_more (length lines - length rest) (2 ^ 46) total (omega arith) g.small

  module _ (h : 0 < length rest) where
    -- the line there
    pub going_line : First rest
    going_line = first_line rest h g.whole

    module _ (line : List ℕ) (is : line ≡ take (get_or rest 2 0) rest) where
      -- it cannot be listed
      pub going_refused : None ≡ weighing ns line → None ≡ lines_weighing nothing ns (lines_in lines)
      going_refused e = line_refused ns total rest going_line (e ∙ ap (weighing ns) is) ∙ g.same

      -- it can: so after it
      module _ (w : Weight) (listed : Some w ≡ weighing ns line) (light : Small (length line) w) where
        long : length line ≡ get_or rest 2 0
        long = ap length is ∙ length-take-le (get_or rest 2 0) rest going_line.fits

        pub going_light : length lines ≤ 65535 → Small (2 ^ 46) w
        going_light k = small_more (length line) (2 ^ 46) w (omega (arith, long, going_line.fits, g.within)) light

        pub going_next : (new : Weight) → new ≡ plus total w → (later : List ℕ) → later ≡ drop (get_or rest 2 0) rest → Going ns lines later new
        going_next new e later d = record {
          whole = subst (λ (z : List ℕ). T (every whole_line? (lines_in z))) (sym d) going_line.rest;
          same = line_added ns total rest going_line w new (listed ∙ ap (weighing ns) is) e later d ∙ g.same;
          within = omega (arith, ap length d, length-drop (get_or rest 2 0) rest, g.within);
          small =
              subst (Small (length lines - length later)) (sym e)
              (small_more ((length lines - length rest) + length line) (length lines - length later) (plus total w)
              (omega (arith, long, ap length d, length-drop (get_or rest 2 0) rest, g.within, going_line.fits))
              (small_plus (length lines - length rest) (length line) total w g.small light));
        }

-- ---- the sums

lines_sums : (ns ls : List (List ℕ))
    → lines_weight ns ls
    ≡ record {
      listing = sum (λ l. suc (length (line_listing ns l))) ls;
      variables = sum (line_variables ns) ls;
      numbers = sum (line_numbers ns) ls;
      strings = sum (line_strings ns) ls;
      raw_text = sum (line_raw ns) ls;
      others = sum (line_else ns) ls;
    }
unfolding lines_weight line_weight plus sum
lines_sums ns [] = refl
lines_sums ns (l ∷ ls) = ap (plus (line_weight ns l)) (lines_sums ns ls)

-- the columns of a program
pub program_columns : (ns ls : List (List ℕ)) (lines names used : ℕ) (w : Weight) → lines ≡ length ls → names ≡ length ns → used ≡ length (joined ls) → w ≡ plus nothing (lines_weight ns ls)
    → columns (record { lines = lines; names = names; used = used; weight = w }) ≡ columns_of ns ls
unfolding columns_of
program_columns ns ls lines names used w a b c e = rw (a, b, c, e ∙ nothing_plus (lines_weight ns ls) ∙ lines_sums ns ls)

-- no line is empty
pub lines_few : (ls : List (List ℕ)) → T (every whole_line? ls) → length ls ≤ length (joined ls)
unfolding every joined whole_line?
lines_few [] t = omega arith
lines_few (l ∷ ls) t =
    let a : 6 ≤ length l = leb→le 6 (length l) (and_left (leb 6 (length l)) _ (and_left (whole_line? l) _ t)) in
    let b = lines_few ls (and_right (whole_line? l) _ t) in
    omega (arith, length-append l (joined ls))
