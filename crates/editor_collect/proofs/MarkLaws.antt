-- A name is marked exactly if a line uses it.
use Rattle.std.specs.Prelude.{ℕ, zero, suc, ◌+◌, ◌≤◌, ◌<◌, Bool, not, ◌&&◌, ◌||◌, eqb, length, set, replicate}
use native.Mathlib.Omega.{arith}
use Rattle.std.proofs.Math.Path.{◌≡◌, refl, sym, ap}
use Rattle.std.proofs.Common.{subst, ap₂, ◌∙◌, get_or-set_same, get_or-set_other, eqb-true}
use Rattle.std.proofs.Math.Bool.{true, false}
use mathlib.Core.List.{List, [], ◌∷◌}
use Rattle.std.proofs.Math.ListN.{get_or, length-set}
use Rattle.std.proofs.lemmas.List.{length-replicate, get_or-replicate}
use Rattle.std.proofs.lemmas.Bool.{eqb-false}
use Rattle.paper.specs.Bytes.{pick, same}
use Rattle.paper.specs.Tokens.{Token, statement, assigned, operator, variable, constant, string, raw, out_of_range, unreadable}
use Rattle.paper.specs.Names.{number_of, most_names}
use Rattle.paper.specs.Line.{line_tokens}
use Rattle.paper.specs.Errors.{error_line?}
use Rattle.paper.specs.Collect.{some, uses?, line_uses?, used?}
use Rattle.laws.specs.Names.{same_self, same_eq}
use Rattle.list_pieces.specs.Rest.{Numbered}
use Rattle.list_mark.specs.Marks.{marked_by, marked}
use Rattle.names_left.specs.Marks.{stays?}
use Rattle.names_left.specs.Agreement.{Agree}
use Rattle.editor_collect.specs.Marks.{marked_line, marked_lines}

-- ---- the name with a number

found_go : (m : List ℕ) (ms : List (List ℕ)) (n : List ℕ) (b : Bool) → same m n ≡ b → (number_of ms n < length ms → get_or ms (number_of ms n) [] ≡ n) → pick b 0 (suc (number_of ms n)) < suc (length ms) → get_or (m ∷ ms) (pick b 0 (suc (number_of ms n))) [] ≡ n
found_go m ms n true e ih h = same_eq m n e
found_go m ms n false e ih h = ih (omega arith)

found : (ns : List (List ℕ)) (n : List ℕ) → number_of ns n < length ns → get_or ns (number_of ns n) [] ≡ n
unfolding number_of
found [] n h = absurd (omega arith)
found (m ∷ ms) n h = found_go m ms n (same m n) refl (λ k. found ms n k) h

or_false : (a : Bool) → a ≡ a || false
or_false true = refl
or_false false = refl

or_true : (a : Bool) → true ≡ a || true
or_true true = refl
or_true false = refl

or_or : (a b c : Bool) → (a || b) || c ≡ a || (b || c)
or_or true b c = refl
or_or false b c = refl

module _ (ns : List (List ℕ)) (d : Numbered ns) (i : ℕ) (known : i < length ns) where
  -- the name
  abbrev it : List ℕ
  it = get_or ns i []

  -- its mark is set
  abbrev on? : List ℕ → Bool
  on? m = stays? (get_or m i 0)

  module _ (m : List ℕ) (long : i < length m) (n : List ℕ) where
    set_on : (b : Bool) → same n (get_or ns i []) ≡ b → stays? (get_or (set m (number_of ns n) 1) i 0) ≡ stays? (get_or m i 0) || b
    unfolding stays?
    set_on true e =
        let k : number_of ns n ≡ i = ap (number_of ns) (same_eq n (get_or ns i []) e) ∙ d i known in
        ap (λ (z : ℕ). stays? (get_or (set m z 1) i 0)) k ∙ ap stays? (get_or-set_same m i 1 0 long) ∙ or_true (stays? (get_or m i 0))
    set_on false e =
        let k : i ≡ number_of ns n → ⊥ = λ z. let x : get_or ns i [] ≡ n = ap (λ (j : ℕ). get_or ns j []) z ∙ found ns n (omega arith) in
        let y : true ≡ false = sym (same_self n) ∙ ap (same n) (sym x) ∙ e in
        let w : ◌≡◌ {A = ℕ} 0 1 = cc in omega arith in
        ap stays? (get_or-set_other m (number_of ns n) i 1 0 k) ∙ or_false (stays? (get_or m i 0))

  token_on : (t : Token) (m : List ℕ) → i < length m → stays? (get_or (marked_by ns t m) i 0) ≡ stays? (get_or m i 0) || uses? (get_or ns i []) t
  unfolding marked_by uses?
  token_on (statement t) m h = or_false (on? m)
  token_on (assigned n) m h = set_on m h n (same n (get_or ns i [])) refl
  token_on (operator t) m h = or_false (on? m)
  token_on (variable n) m h = set_on m h n (same n (get_or ns i [])) refl
  token_on (constant b) m h = or_false (on? m)
  token_on (string b) m h = or_false (on? m)
  token_on (raw b) m h = or_false (on? m)
  token_on out_of_range m h = or_false (on? m)
  token_on unreadable m h = or_false (on? m)

  token_long : (t : Token) (m : List ℕ) → length (marked_by ns t m) ≡ length m
  unfolding marked_by
  token_long (statement t) m = refl
  token_long (assigned n) m = length-set m (number_of ns n) 1
  token_long (operator t) m = refl
  token_long (variable n) m = length-set m (number_of ns n) 1
  token_long (constant b) m = refl
  token_long (string b) m = refl
  token_long (raw b) m = refl
  token_long out_of_range m = refl
  token_long unreadable m = refl

  tokens_long : (ts : List Token) (m : List ℕ) → length (marked ns ts m) ≡ length m
  unfolding marked
  tokens_long [] m = refl
  tokens_long (t ∷ ts) m = tokens_long ts (marked_by ns t m) ∙ token_long t m

  tokens_on : (ts : List Token) (m : List ℕ) → i < length m → stays? (get_or (marked ns ts m) i 0) ≡ stays? (get_or m i 0) || some (uses? (get_or ns i [])) ts
  unfolding marked some
  tokens_on [] m h = or_false (on? m)
  tokens_on (t ∷ ts) m h =
      tokens_on ts (marked_by ns t m) (omega (arith, token_long t m))
      ∙ ap (λ (b : Bool). b || some (uses? (get_or ns i [])) ts) (token_on t m h)
      ∙ or_or (on? m) (uses? (get_or ns i []) t) (some (uses? (get_or ns i [])) ts)

  line_on_go : (l m : List ℕ) (b : Bool) → i < length m → stays? (get_or (pick b m (marked ns (line_tokens ns l) m)) i 0) ≡ stays? (get_or m i 0) || (not b && some (uses? (get_or ns i [])) (line_tokens ns l))
  line_on_go l m true h = or_false (on? m)
  line_on_go l m false h = tokens_on (line_tokens ns l) m h

  line_on : (l m : List ℕ) → i < length m → stays? (get_or (marked_line ns l m) i 0) ≡ stays? (get_or m i 0) || line_uses? ns (get_or ns i []) l
  unfolding marked_line line_uses?
  line_on l m h = line_on_go l m (error_line? l) h

  line_long_go : (l m : List ℕ) (b : Bool) → length (pick b m (marked ns (line_tokens ns l) m)) ≡ length m
  line_long_go l m true = refl
  line_long_go l m false = tokens_long (line_tokens ns l) m

  line_long : (l m : List ℕ) → length (marked_line ns l m) ≡ length m
  unfolding marked_line
  line_long l m = line_long_go l m (error_line? l)

  -- all lines
  lines_on : (ls : List (List ℕ)) (m : List ℕ) → i < length m → stays? (get_or (marked_lines ns ls m) i 0) ≡ stays? (get_or m i 0) || used? ns ls (get_or ns i [])
  unfolding marked_lines used? some
  lines_on [] m h = or_false (on? m)
  lines_on (l ∷ ls) m h =
      lines_on ls (marked_line ns l m) (omega (arith, line_long l m))
      ∙ ap (λ (b : Bool). b || some (line_uses? ns (get_or ns i [])) ls) (line_on l m h)
      ∙ or_or (on? m) (line_uses? ns (get_or ns i []) l) (some (line_uses? ns (get_or ns i [])) ls)

none_on : (k i : ℕ) → i < k → stays? (get_or (replicate k 0) i 0) ≡ false
unfolding stays?
none_on k i h = ap (λ (z : ℕ). not (eqb z 0)) (get_or-replicate {A = ℕ} k i 0 0 h)

-- from no mark on, the marks agree with the test
pub marks_agree : (ns : List (List ℕ)) → Numbered ns → length ns ≤ most_names → (ls : List (List ℕ)) (m : List ℕ) → length m ≡ most_names → m ≡ marked_lines ns ls (replicate 256 0) → Agree (used? ns ls) m ns
marks_agree ns d few ls m long e = record {
  enough = omega arith;
  each = λ i h.
      ap (λ (z : List ℕ). stays? (get_or z i 0)) e
      ∙ lines_on ns d i h ls (replicate 256 0) (omega (arith, length-replicate {A = ℕ} 256 0))
      ∙ ap (λ (b : Bool). b || used? ns ls (get_or ns i [])) (none_on 256 i (omega arith));
}
