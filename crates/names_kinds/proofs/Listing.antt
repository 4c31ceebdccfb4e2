-- The kinds of names, listed one after the other.
use Prim.Native.Nat.{ℕ, suc, ◌+◌}
use native.Mathlib.Numerals.{add-one}
use mathlib.Core.Path.{◌≡◌, sym, ap, ◌∙◌}
use mathlib.Core.Bool.{Bool}
use mathlib.Core.List.{List, [], ◌∷◌}
use lib.ListN.{set}
use lib.Seq.{sets}
use Rattle.paper.specs.Bytes.{pick}
use Rattle.paper.specs.Words.{statement_word?}
use Rattle.paper.specs.Classes.{numeric_variable, string_variable, array}
use Rattle.paper.specs.Tokens.{variable, class, by_kind}
use Rattle.paper.specs.Names.{less_open}
use Rattle.names_kinds.specs.Kinds.{kind_of, kinds_of}

-- the class of a variable, by the kind of its name
pub class_made : (n : List ℕ) {k : ℕ} → k ≡ by_kind n numeric_variable string_variable array → k ≡ class (variable n)
unfolding class
class_made n e = e

-- a kind, from its two parts
pub kind_made : (n : List ℕ) (b : Bool) {k : ℕ} {q : Bool} → k ≡ by_kind n numeric_variable string_variable array → q ≡ statement_word? (less_open n) → q ≡ b → k + pick b 8 0 ≡ kind_of n
unfolding kind_of
kind_made n b e w v = ap (λ (j : ℕ). j + pick b 8 0) (class_made n e) ∙ ap (λ (c : Bool). class (variable n) + pick c 8 0) (sym v ∙ w)

-- one kind, and those of the names after it
pub kind_more : (kinds : List ℕ) (i : ℕ) (n : List ℕ) (ns : List (List ℕ)) {all after : List ℕ} {left : List (List ℕ)} {at next k : ℕ} → all ≡ sets kinds i (kinds_of left) → left ≡ n ∷ ns
    → at ≡ i → next ≡ i + 1 → k ≡ kind_of n → after ≡ set kinds at k → all ≡ sets after next (kinds_of ns)
unfolding kinds_of
kind_more kinds i n ns {all} {after} {left} {at} {next} {k} a l h e d w =
    let one : kinds_of left ≡ k ∷ kinds_of ns = ap kinds_of l ∙ ap (λ (x : ℕ). x ∷ kinds_of ns) (sym d) in
    let here : set kinds i k ≡ after = ap (λ (j : ℕ). set kinds j k) (sym h) ∙ sym w in
    a ∙ ap (sets kinds i) one ∙ ap (λ (l : List ℕ). sets l (suc i) (kinds_of ns)) here ∙ ap (λ (j : ℕ). sets after j (kinds_of ns)) (sym (e ∙ add-one i))

pub kind_end : (kinds : List ℕ) (i : ℕ) {all : List ℕ} {left : List (List ℕ)} → all ≡ sets kinds i (kinds_of left) → left ≡ [] → kinds ≡ all
unfolding kinds_of
kind_end kinds i a l = sym (a ∙ ap (λ (ns : List (List ℕ)). sets kinds i (kinds_of ns)) l)
