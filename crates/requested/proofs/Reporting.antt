-- The report (document 02, §13): its lines, and its last line, which sums each column.
use Rattle.std.specs.Prelude.{ℕ, ◌+◌, ◌≡◌, refl, List, [], ◌∷◌, ◌++◌}
use Rattle.std.proofs.Common.{arith, ap, ◌∙◌, eq-eqb, ne_eqb}
use Rattle.paper.specs.Bytes.{bytes}
use Rattle.paper.specs.Weigh.{Columns, no_columns, unweighed, field, columns_text, report_line, added_up, sum, Found, opened, not_opened, weigh_found, Named, totals, named_line}
use Rattle.requested.specs.RequestTerms.{number_found, columns_found, Sums, AddsUp}
use Rattle.requested.proofs.Weighing.{file_adds_up, refused_none}

-- ---- a name's line

-- of a program that is read
pub line_counted : (p : Named) → number_found p ≡ 0 → named_line p ≡ (p.name ++ columns_text (columns_found p)) ++ 0x0a ∷ []
unfolding named_line report_line columns_found
line_counted p h = rw (eq-eqb (number_found p) 0 h)

-- of one that is refused
pub line_refused : (p : Named) → (number_found p ≡ 0 → ⊥) → named_line p ≡ (p.name ++ (9 ∷ bytes "refused" ++ field (number_found p))) ++ 0x0a ∷ []
unfolding named_line report_line
line_refused p h = rw (ne_eqb (number_found p) 0 h)

-- ---- the last line

-- each column of the total is the sum of that column
pub summed : (ps : List Named) → Sums ps (totals ps)
unfolding totals sum no_columns added_up columns_found
summed [] = record { lines = refl; names = refl; used = refl; listing = refl; variables = refl; numbers = refl; strings = refl; raw_text = refl; others = refl }
summed (p ∷ ps) =
    let h = summed ps in record {
      lines = rw h.lines;
      names = rw h.names;
      used = rw h.used;
      listing = rw h.listing;
      variables = rw h.variables;
      numbers = rw h.numbers;
      strings = rw h.strings;
      raw_text = rw h.raw_text;
      others = rw h.others;
    }

-- a refused program has no columns
found_none : (f : Found) → ((weigh_found f).number ≡ 0 → ⊥) → (weigh_found f).columns ≡ no_columns
unfolding weigh_found unweighed
found_none (opened file) h = refused_none file h
found_none not_opened h = refl

none_and : (n : ℕ) → 0 + n ≡ n
none_and n = omega arith

nothing_more : (c : Columns) → added_up no_columns c ≡ c
unfolding added_up no_columns
nothing_more c = simp none_and

-- and adds nothing, wherever it stands in the list
pub refused_adds_nothing : (ps qs : List Named) (p : Named) → (number_found p ≡ 0 → ⊥) → totals (ps ++ p ∷ qs) ≡ totals (ps ++ qs)
unfolding totals
refused_adds_nothing [] qs p h = ap (λ (c : Columns). added_up c (totals qs)) (found_none p.found h) ∙ nothing_more (totals qs)
refused_adds_nothing (x ∷ ps) qs p h = ap (added_up (weigh_found x.found).columns) (refused_adds_nothing ps qs p h)

found_adds_up : (f : Found) → AddsUp (weigh_found f).columns
unfolding weigh_found unweighed no_columns
found_adds_up (opened file) = file_adds_up file
found_adds_up not_opened = refl

-- the byte columns of the total add up to its store bytes used
pub totals_add_up : (ps : List Named) → AddsUp (totals ps)
unfolding totals added_up no_columns
totals_add_up [] = refl
totals_add_up (p ∷ ps) = omega (arith, found_adds_up p.found, totals_add_up ps)
