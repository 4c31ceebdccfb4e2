-- The name with a number: its end less its `(`, its class, and whether it is a statement word.
use Prim.Native.Nat.{ℕ, zero, suc, ◌+◌, ◌-◌}
use native.Mathlib.Omega.{arith}
use mathlib.Core.Path.{◌≡◌, refl, subst, sym, ap, ◌∙◌}
use mathlib.Core.Bool.{Bool, false}
use mathlib.Core.List.{List, [], ◌∷◌}
use lib.ListN.{length, take, drop, get_or, length-drop}
use lib.Seq.{take_all}
use Rattle.std.specs.Prelude.{Option, Some, None}
use Rattle.std.specs.Option.{MatchOption, option_map}
use Rattle.std.specs.List.{slice_get}
use Rattle.paper.specs.Bytes.{same, joined, bytes}
use Rattle.paper.specs.Classes.{numeric_variable, string_variable, array}
use Rattle.paper.specs.Words.{word, find_word, found?, statements, statement_word?}
use Rattle.paper.specs.Tokens.{variable, class, by_kind}
use Rattle.paper.specs.Names.{names_in, less_open}
use Rattle.names_form.specs.declared.shape.Spelling.{Spelling}
use Rattle.names_form.specs.Names.{spelling}
use Rattle.names_numbered.specs.declared.Name.{Name}
use Rattle.names_numbered.specs.Standing.{start, start_names, first_of}
use Rattle.names_numbered.specs.Answers.{Stands}

pub no_statement : statement_word? (less_open []) ≡ false
unfolding statement_word? less_open find_word found? statements word bytes same
no_statement = refl

-- In the table t, of which the first `size` bytes of `names` are made, the name with a number begins at `from`.
module _ {t : List ℕ} (names : List ℕ) (size number from : ℕ) (table : t ≡ take size names) (begins : from ≡ length (joined (take number (names_in t)))) where
  over : {r : Name} → Stands (names_in t) number r → Stands (names_in (take size names)) number r
  over {r} a = subst (λ (l : List ℕ). Stands (names_in l) number r) table a

  -- the bytes from there on
  abbrev pub rest : List ℕ
  rest = take (length t - from) (drop from t)

  name_there : {left : List (List ℕ)} → names_in rest ≡ left → get_or (names_in t) number [] ≡ get_or left 0 []
  unfolding start
  name_there {left} e =
      let all : rest ≡ drop from t = take_all (length t - from) (drop from t) (omega (arith, length-drop from t)) in
      first_of (names_in t) number ∙ ap (λ (ns : List (List ℕ)). get_or ns 0 []) (sym (start_names number t) ∙ ap (λ (j : ℕ). names_in (drop j t)) (sym begins) ∙ ap names_in (sym all) ∙ e)

  pub stands_some : (n : List ℕ) (ns : List (List ℕ)) {k c : ℕ} → names_in rest ≡ n ∷ ns → k ≡ length (less_open n) → c ≡ by_kind n numeric_variable string_variable array
      → Stands (names_in (take size names)) number (record { from = from; end = from + k; class = c })
  unfolding class
  stands_some n ns {k} {c} e h d =
      let here = name_there e in
      let size : k ≡ length (less_open (get_or (names_in t) number [])) = h ∙ ap (λ (m : List ℕ). length (less_open m)) (sym here) in
      over (record { from = begins; end = omega arith; class = d ∙ ap (λ (m : List ℕ). class (variable m)) (sym here) })

  pub stands_none : names_in rest ≡ [] → Stands (names_in (take size names)) number (record { from = from; end = from; class = 5 })
  unfolding less_open class by_kind
  stands_none e =
      let here = name_there e in
      let size : length (less_open (get_or (names_in t) number [])) ≡ 0 = ap (λ (m : List ℕ). length (less_open m)) here in
      over (record { from = begins; end = omega arith; class = ap (λ (m : List ℕ). class (variable m)) (sym here) })

-- the name with a number, if there is one, is a statement word or not
pub word_there : (o : Option Spelling) (ns : List (List ℕ)) (i : ℕ) (P : Spelling → Type 0) {q : Bool} → option_map spelling o ≡ slice_get ns i → MatchOption o (q ≡ false) P
    → ((n : Spelling) → P n → q ≡ statement_word? (less_open (spelling n))) → q ≡ statement_word? (less_open (get_or ns i []))
word_there None [] i P e m f = m ∙ sym no_statement
word_there (Some x) [] i P e m f = let z : ◌≡◌ {A = ℕ} 0 1 = cc in absurd (omega arith)
word_there None (n ∷ ns) zero P e m f = let z : ◌≡◌ {A = ℕ} 0 1 = cc in absurd (omega arith)
word_there (Some x) (n ∷ ns) zero P e m f = let same : spelling x ≡ n = cc in f x m ∙ ap (λ (l : List ℕ). statement_word? (less_open l)) same
word_there o (n ∷ ns) (suc i) P e m f = word_there o ns i P e m f
