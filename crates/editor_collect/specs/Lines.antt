-- The lines of a sound store, one after the other: whether each can be listed, and their marks.
use Rattle.std.specs.Prelude.{ℕ, ◌+◌, ◌≤◌, ◌<◌, ◌≡◌, refl, Bool, ◌&&◌, ◌||◌, T, eqb, leb, length, take, drop, get_or}
use Rattle.std.proofs.Common.{arith, ap₂, ◌∙◌}
use Rattle.std.proofs.Math.Path.{subst, sym, ap}
use Rattle.std.proofs.Math.Bool.{true, false}
use mathlib.Core.List.{List, [], ◌∷◌}
use Rattle.paper.specs.Bytes.{pick, every}
use Rattle.paper.specs.Line.{line_number, lawful_number?, line_tokens}
use Rattle.paper.specs.WellFormed.{formed?, well_formed?}
use Rattle.paper.specs.Errors.{error_line?, listable?}
use Rattle.paper.specs.Store.{lines_from, lines_in, whole_line?}
use Rattle.laws.specs.Tests.{and_left, and_right, is_true}
use Rattle.laws.specs.Lines.{lines_next}
use Rattle.store.specs.Rising.{first_go}
use Rattle.list_mark.specs.Marks.{marked}
use Rattle.editor_collect.specs.Marks.{marked_line, marked_lines}

-- ---- the first of some lines

pub record Next (s : List ℕ) : Type 0 where
  pub long : 6 ≤ get_or s 2 0
  pub fits : get_or s 2 0 ≤ length s
  pub first : lines_in s ≡ take (get_or s 2 0) s ∷ lines_in (drop (get_or s 2 0) s)
  pub whole : T (whole_line? (take (get_or s 2 0) s))
  pub others : T (every whole_line? (lines_in (drop (get_or s 2 0) s)))

first_whole : (s : List ℕ) → 0 < length s → T (every whole_line? (lines_in s)) → T (whole_line? (take (get_or s 2 0) s))
unfolding lines_in lines_from every
first_whole [] h t = absurd (omega arith)
first_whole (b ∷ s) h t = and_left (whole_line? (take (get_or s 1 0) (b ∷ s))) _ t

pub next_line : (s : List ℕ) → 0 < length s → T (every whole_line? (lines_in s)) → Next s
unfolding every
next_line s h t =
    let w = first_whole s h t in
    let f = first_go s w in
    let e = lines_next s (omega (arith, f.long)) in
    record {
      long = f.long;
      fits = f.fits;
      first = e;
      whole = w;
      others = and_right (whole_line? (take (get_or s 2 0) s)) _ (subst (λ (ls : List (List ℕ)). T (every whole_line? ls)) e t);
    }

-- ---- one line

lawful : (l : List ℕ) → T (whole_line? l) → lawful_number? (line_number l) ≡ true
unfolding whole_line?
lawful l t = is_true _ (and_right (eqb (get_or l 2 0) (length l)) _ (and_right (leb 6 (length l)) _ t))

error_lists : (f n e : Bool) → n ≡ true → e ≡ true → true ≡ f || (n && e)
error_lists true n e h k = refl
error_lists false n e h k = sym (ap₂ (λ (x y : Bool). x && y) h k)

other_lists : (f n e : Bool) → e ≡ false → f ≡ f || (n && e)
other_lists true n e k = refl
other_lists false true e k = sym k
other_lists false false e k = refl

module _ (ns : List (List ℕ)) (l m : List ℕ) (w : T (whole_line? l)) where
  -- an error line can be listed, and has no marks
  pub error_listed : error_line? l ≡ true → (true ≡ listable? lawful_number? ns l) × (m ≡ marked_line ns l m)
  unfolding listable? marked_line
  error_listed e = (error_lists (formed? lawful_number? ns l) (lawful_number? (line_number l)) (error_line? l) (lawful l w) e, rw e)

  -- any other can if it is well-formed
  pub other_listed : error_line? l ≡ false → {r : Bool} → r ≡ well_formed? ns l → r ≡ listable? lawful_number? ns l
  unfolding listable?
  other_listed e h = h ∙ other_lists (formed? lawful_number? ns l) (lawful_number? (line_number l)) (error_line? l) e

  pub other_marked : error_line? l ≡ false → {after : List ℕ} → after ≡ marked ns (line_tokens ns l) m → after ≡ marked_line ns l m
  unfolding marked_line
  other_marked e h = rw e h

-- ---- the walk

-- before a line: the lines that are left are whole; all can be listed exactly if these can; and their marks and those that are set are the marks of all
pub record Marking (ns : List (List ℕ)) (lines old rest m : List ℕ) : Type 0 where
  pub whole : T (every whole_line? (lines_in rest))
  pub listed : every (listable? lawful_number? ns) (lines_in rest) ≡ every (listable? lawful_number? ns) (lines_in lines)
  pub marks : marked_lines ns (lines_in rest) m ≡ marked_lines ns (lines_in lines) old

pub marking_first : (ns : List (List ℕ)) (lines m : List ℕ) → T (every whole_line? (lines_in lines)) → Marking ns lines m lines m
marking_first ns lines m t = record { whole = t; listed = refl; marks = refl }

module _ {ns : List (List ℕ)} {lines old rest m : List ℕ} (k : Marking ns lines old rest m) (h : 0 < length rest) where
  pub marking_line : Next rest
  marking_line = next_line rest h k.whole

  -- a line that cannot be listed
  pub marking_fails : {l : List ℕ} → l ≡ take (get_or rest 2 0) rest → {r : Bool} → r ≡ listable? lawful_number? ns l → r ≡ false → false ≡ every (listable? lawful_number? ns) (lines_in lines)
  unfolding every
  marking_fails {l} i e f =
      let n = marking_line in
      let x : listable? lawful_number? ns (take (get_or rest 2 0) rest) ≡ false = ap (listable? lawful_number? ns) (sym i) ∙ sym e ∙ f in
      ap (λ (b : Bool). b && every (listable? lawful_number? ns) (lines_in (drop (get_or rest 2 0) rest))) (sym x) ∙ ap (every (listable? lawful_number? ns)) (sym n.first) ∙ k.listed

  pub marking_next : {l : List ℕ} → l ≡ take (get_or rest 2 0) rest → {r : Bool} → r ≡ listable? lawful_number? ns l → r ≡ true → {new : List ℕ} → new ≡ marked_line ns l m → {next : List ℕ} → next ≡ drop (get_or rest 2 0) rest → Marking ns lines old next new
  unfolding every marked_lines
  marking_next {l} i e f {new} g {next} j =
      let n = marking_line in
      let x : listable? lawful_number? ns (take (get_or rest 2 0) rest) ≡ true = ap (listable? lawful_number? ns) (sym i) ∙ sym e ∙ f in
      let y : new ≡ marked_line ns (take (get_or rest 2 0) rest) m = g ∙ ap (λ (z : List ℕ). marked_line ns z m) i in
      subst (λ (z : List ℕ). Marking ns lines old z new) (sym j) (record {
        whole = n.others;
        listed = ap (λ (b : Bool). b && every (listable? lawful_number? ns) (lines_in (drop (get_or rest 2 0) rest))) (sym x) ∙ ap (every (listable? lawful_number? ns)) (sym n.first) ∙ k.listed;
        marks = ap (marked_lines ns (lines_in (drop (get_or rest 2 0) rest))) y ∙ ap (λ (ls : List (List ℕ)). marked_lines ns ls m) (sym n.first) ∙ k.marks;
      })

none_in : (s : List ℕ) → length s ≤ 0 → lines_in s ≡ []
unfolding lines_in lines_from
none_in [] h = refl
none_in (b ∷ s) h = absurd (omega arith)

pub marking_done : {ns : List (List ℕ)} {lines old rest m : List ℕ} → Marking ns lines old rest m → length rest ≤ 0 → (true ≡ every (listable? lawful_number? ns) (lines_in lines)) × (m ≡ marked_lines ns (lines_in lines) old)
unfolding every marked_lines
marking_done {ns} {lines} {old} {rest} {m} k h =
    let e = none_in rest h in
    (ap (every (listable? lawful_number? ns)) (sym e) ∙ k.listed, ap (λ (ls : List (List ℕ)). marked_lines ns ls m) (sym e) ∙ k.marks)
