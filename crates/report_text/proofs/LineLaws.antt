-- The report's lines, part after part.
use Prim.Native.Nat.{ℕ, ◌+◌, ◌≤◌, ◌<◌}
use native.Mathlib.Numerals.{add-one}
use native.Mathlib.Nat.{zero-add}
use native.Mathlib.Omega.{arith}
use mathlib.Core.Path.{◌≡◌, refl, subst, sym, ap, ◌∙◌}
use mathlib.Core.Bool.{Bool, true, false}
use mathlib.Core.List.{List, [], ◌∷◌, ◌++◌, append-nil, append_assoc}
use lib.Dec.{eqb}
use lib.ListN.{length, take, get_or, set}
use lib.Seq.{sets, take-suc, take_all}
use borrow.Author.Tests.{eq-eqb, ne_eqb}
use Rattle.paper.specs.Bytes.{pick, bytes}
use Rattle.paper.specs.Listing.{decimal}
use Rattle.paper.specs.Weigh.{Columns, Weighed, field, columns_text, report_line, total_line}
use Rattle.list_text.specs.Texts.{Writes}
use Rattle.list_text.specs.InTurn.{then, as_text, one_text, writes_then}
use Rattle.report_text.specs.Fields.{fields, answer_text, numbered}
use Rattle.std.specs.Prelude.{Result, Err}
use Rattle.refusals.specs.declared.Refusal.{Refusal}
use Rattle.refusals.specs.Numbers.{number_of}
use Rattle.file_weigh.specs.declared.Columns.{Columns as Answer}
use Rattle.file_weigh.specs.Answers.{columns, none, weighed}

-- ---- fields

pub field_written : (number n r : ℕ) {old mid new : List ℕ} → mid ≡ set old n 9 → Writes (decimal 20 number) (n + 1) mid r new → Writes (field number) n old (r + 1) new
unfolding field
field_written number n r e w = writes_then (one_text e) w (omega arith)

fields_append : (xs ys : List ℕ) → fields (xs ++ ys) ≡ fields xs ++ fields ys
unfolding fields
fields_append [] ys = refl
fields_append (x ∷ xs) ys = ap (λ (z : List ℕ). field x ++ z) (fields_append xs ys) ∙ sym (append_assoc (field x) (fields xs) (fields ys))

fields_next : (ns : List ℕ) (i : ℕ) → i < length ns → fields (take i ns) ++ field (get_or ns i 0) ≡ fields (take (i + 1) ns)
unfolding fields
fields_next ns i h =
    ap (λ (z : List ℕ). fields (take i ns) ++ z) (sym (append-nil (field (get_or ns i 0)))) ∙ sym (rw (add-one i, take-suc ns i 0 h) (fields_append (take i ns) (get_or ns i 0 ∷ [])))

pub fields_none : (ns : List ℕ) (n : ℕ) (old : List ℕ) → Writes (fields (take 0 ns)) n old 0 old
unfolding fields
fields_none ns n old = record { size = refl; bytes = refl }

pub fields_more : (ns : List ℕ) (i n k r : ℕ) {old mid new : List ℕ} → i < length ns → Writes (fields (take i ns)) n old k mid → Writes (field (get_or ns i 0)) (n + k) mid r new → Writes (fields (take (i + 1) ns)) n old (k + r) new
fields_more ns i n k r h w v = as_text (writes_then w v refl) (fields_next ns i h)

-- ---- columns

pub columns_fields : (c : Columns) → fields (c.lines ∷ c.names ∷ c.used ∷ c.listing ∷ c.variables ∷ c.numbers ∷ c.strings ∷ c.raw_text ∷ c.others ∷ []) ≡ columns_text c
unfolding fields columns_text
columns_fields c = simp (append_assoc, append-nil)

-- ---- a program's line

pub answer_columns : (w : Weighed) → w.number ≡ 0 → columns_text w.columns ≡ answer_text w
unfolding answer_text
answer_columns w e = sym (rw (eq-eqb w.number 0 e))

answer_refused : (w : Weighed) → (w.number ≡ 0 → ⊥) → 9 ∷ bytes "refused" ++ field w.number ≡ answer_text w
unfolding answer_text
answer_refused w e = sym (rw (ne_eqb w.number 0 e))

pub refused_written : (w : Weighed) (n r : ℕ) {old mid new : List ℕ} → (w.number ≡ 0 → ⊥) → mid ≡ sets old n (9 ∷ bytes "refused") → Writes (field w.number) (n + 8) mid r new → Writes (answer_text w) n old (r + 8) new
unfolding bytes
refused_written w n r {old} {mid} e f v =
    let word : Writes (9 ∷ bytes "refused") n old 8 mid = record { size = refl; bytes = f } in as_text (writes_then word v (omega arith)) (answer_refused w e)

-- the columns beside the number 0
pub columns_written : (k : ℕ) (c : Answer) (n r : ℕ) {old new : List ℕ} → k ≡ 0 → Writes (columns_text (columns c)) n old r new → Writes (answer_text (numbered k c)) n old r new
columns_written k c n r e v = as_text v (answer_columns (numbered k c) e)

-- the line of a file that is refused, by its number
pub refusal_line : (name : List ℕ) (w : Result Answer Refusal) (k : Refusal) (m : ℕ) (c : Answer) (r : ℕ) {old new : List ℕ} → w ≡ Err k → m ≡ number_of k → c ≡ none
    → Writes (report_line name (numbered m c)) 0 old r new → Writes (report_line name (weighed w)) 0 old r new
refusal_line name w k m c r {old} {new} e i z v =
    subst (λ (x : Result Answer Refusal). Writes (report_line name (weighed x)) 0 old r new) (sym e)
    (subst (λ (x : ℕ). Writes (report_line name (numbered x none)) 0 old r new) i (subst (λ (x : Answer). Writes (report_line name (numbered m x)) 0 old r new) z v))

line_is : (name : List ℕ) (w : Weighed) → (name ++ answer_text w) ++ 0x0a ∷ [] ≡ report_line name w
unfolding report_line answer_text
line_is name w = go (eqb w.number 0) (columns_text w.columns) (9 ∷ bytes "refused" ++ field w.number)
  where
    go : (b : Bool) (x y : List ℕ) → (name ++ pick b x y) ++ 0x0a ∷ [] ≡ pick b (name ++ x) (name ++ y) ++ 0x0a ∷ []
    go true x y = refl
    go false x y = refl

-- a text, and one more byte at its end
ended : (text : List ℕ) (end : ℕ) {old mid new : List ℕ} → Writes text 0 old end mid → new ≡ set mid end 0x0a → Writes (text ++ 0x0a ∷ []) 0 old (end + 1) new
ended text end {old} {mid} w e = then w (0x0a ∷ []) (e ∙ ap (λ (i : ℕ). set mid i 0x0a) (sym (zero-add end))) refl

pub line_written : (name : List ℕ) (w : Weighed) (r : ℕ) {old one mid new : List ℕ} → one ≡ sets old 0 name → Writes (answer_text w) (length name) one r mid → new ≡ set mid (length name + r) 0x0a
    → Writes (report_line name w) 0 old (length name + r + 1) new
line_written name w r {old} {one} {mid} {new} e v f =
    let first : Writes name 0 old (length name) one = record { size = refl; bytes = e } in
    let then_answer = writes_then first (subst (λ (k : ℕ). Writes (answer_text w) k one r mid) (sym (zero-add (length name))) v) refl in
    as_text (ended (name ++ answer_text w) (length name + r) then_answer f) (line_is name w)

-- ---- the last line

pub total_written : (c : Columns) (r : ℕ) {old one mid new : List ℕ} → one ≡ sets old 0 (bytes "total") → Writes (columns_text c) 5 one r mid → new ≡ set mid (r + 5) 0x0a → Writes (total_line c) 0 old (r + 5 + 1) new
unfolding bytes total_line
total_written c r {old} {one} {mid} {new} e v f =
    let first : Writes (bytes "total") 0 old 5 one = record { size = refl; bytes = e } in
    let then_columns : Writes (bytes "total" ++ columns_text c) 0 old (r + 5) mid = writes_then first v (omega arith) in
    as_text (ended (bytes "total" ++ columns_text c) (r + 5) then_columns f) (append_assoc (bytes "total") (columns_text c) (0x0a ∷ []))
