-- How a text begins that is translated into tokens: it is not blank, and after its blanks no digit stands.
use Rattle.std.specs.Prelude.{ℕ, suc, ◌+◌, ◌≡◌, Bool, not, ◌&&◌, T, eqb, ltb, length, take, get_or}
use Rattle.std.proofs.Common.{arith, subst, sym, ◌∙◌, eq-eqb, eqb-true}
use Rattle.std.proofs.Math.Path.{refl, ap}
use Rattle.std.proofs.Math.Bool.{true, false}
use mathlib.Core.List.{List, [], ◌∷◌, ◌++◌}
use Rattle.std.proofs.Math.ListN.{drop}
use Rattle.std.proofs.Math.Seq.{drop-length}
use Rattle.paper.specs.Bytes.{pick, digit?, blank, blank?, run, every}
use Rattle.paper.specs.Classes.{number, line_end}
use Rattle.paper.specs.Tokens.{Token, operator, constant, out_of_range, out_of_range?, operator_class, class}
use Rattle.paper.specs.Constants.{value, constant_of, in_range, six}
use Rattle.paper.specs.Items.{Item, item, span_of, sign_size, power_size, with_power, number_at, item_at, items, scan}
use Rattle.paper.specs.Machine.{refuse, read}
use Rattle.paper.specs.Frames.{want_statement}
use Rattle.paper.specs.Grammar.{look, look_item, if_in_range, look_in_range, start}
use Rattle.paper.specs.Calls.{tokens, refused_at, place_of, outcome, translate}
use Rattle.paper.specs.Open.{all_Bytes, all_Words, all_Tokens, all_Items, all_Grammar, all_Machine}
use Rattle.laws.specs.Tests.{as_T}
use Rattle.promises.specs.Terms.{after_blanks, digit_count, direct?}
use Rattle.grounds.specs.Lists.{run_whole}
use Rattle.grounds.specs.ConstantText.{number_item}

-- ---- blanks in front

scan_blank : (b : ℕ) (s : List ℕ) (p : ℕ) → blank? b ≡ true → scan 0 true p (b ∷ s) ≡ scan 0 true (suc p) s
unfolding scan
scan_blank b s p h = rw h

blank_first : (b : ℕ) (s : List ℕ) (p : ℕ) → blank? b ≡ true → translate p (b ∷ s) ≡ translate (suc p) s
unfolding translate items
blank_first b s p h = ap (λ (z : List Item). outcome (read look_in_range start z)) (scan_blank b s p h)

is_blank : blank? blank ≡ true
unfolding blank?
is_blank = refl

-- there is none past a text's end
no_byte : blank? 0 ≡ false
unfolding blank?
no_byte = refl

-- a blank in front moves the places
pub after_blank : (p : ℕ) (s : List ℕ) → translate p (blank ∷ s) ≡ translate (suc p) s
after_blank p s = blank_first blank s p is_blank

-- so do any number of them
past_blanks : (s : List ℕ) (p : ℕ) → (q : ℕ) × (translate p s ≡ translate q (after_blanks s))
unfolding after_blanks run
past_blanks [] p = (p, refl)
past_blanks (b ∷ s) p = go (blank? b) refl (past_blanks s (suc p))
  where
    go : (c : Bool) → blank? b ≡ c → (q : ℕ) × (translate (suc p) s ≡ translate q (after_blanks s)) → (q : ℕ) × (translate p (b ∷ s) ≡ translate q (drop (pick c (suc (run blank? s)) 0) (b ∷ s)))
    go true e r = (r.0, blank_first b s p e ∙ r.1)
    go false e r = (p, refl)

-- what stands after them is no blank
first_other : (s : List ℕ) → blank? (get_or (after_blanks s) 0 0) ≡ false
unfolding after_blanks run
first_other [] = no_byte
first_other (b ∷ s) = go (blank? b) refl (first_other s)
  where
    go : (c : Bool) → blank? b ≡ c → blank? (get_or (after_blanks s) 0 0) ≡ false → blank? (get_or (drop (pick c (suc (run blank? s)) 0) (b ∷ s)) 0 0) ≡ false
    go true e h = h
    go false e h = e

-- ---- what no statement begins with

still_refused : (b : Bool) → if_in_range b (refuse 4) ≡ refuse 4
unfolding if_in_range
still_refused true = refl
still_refused false = refl

-- an item of a class that no statement begins with
begins_none : (i : Item) (c : ℕ) → class i.token ≡ c → look want_statement c ≡ refuse 4 → look_in_range want_statement i ≡ refuse 4
unfolding look_in_range look_item
begins_none i c h e =
    let b : Bool = not (out_of_range? i.token) in ap (λ (z : ℕ). if_in_range b (look want_statement z)) h ∙ ap (if_in_range b) e ∙ still_refused b

-- is refused if it is the first
first_refused : (i : Item) (is : List Item) (c : ℕ) → class i.token ≡ c → look want_statement c ≡ refuse 4 → (ts : List Token) → outcome (read look_in_range start (i ∷ is)) ≡ tokens ts → ⊥
unfolding outcome place_of start all_Machine
first_refused i is c h e ts t =
    let a : refused_at 4 (span_of i) ≡ tokens ts = rw (begins_none i c h e) at t in
    let z : ◌≡◌ {A = ℕ} 0 1 = cc in
    omega arith

-- neither the line's end nor a number begins one
end_begins_none : look want_statement line_end ≡ refuse 4
unfolding all_Bytes all_Words all_Tokens all_Items all_Grammar all_Machine
end_begins_none = refl

number_begins_none : look want_statement number ≡ refuse 4
unfolding all_Bytes all_Words all_Tokens all_Items all_Grammar all_Machine
number_begins_none = refl

-- ---- the text's end, and numbers

end_first : (p : ℕ) (ts : List Token) → translate p [] ≡ tokens ts → ⊥
unfolding translate items scan item class operator_class
end_first p ts e = first_refused (item p 0 (operator 0x16)) [] line_end refl end_begins_none ts e

-- an item that is a number
record Numeric (i : Item) : Type 0 where
  pub is_number : class i.token ≡ number

constant_numeric : (p n v u d : ℕ) → Numeric (item p n (constant_of v u d))
unfolding item constant_of class
constant_numeric p n v u d = record { is_number = go (in_range v u d) }
  where
    go : (b : Bool) → class (pick b (constant (six v u d)) out_of_range) ≡ number
    go true = refl
    go false = refl

either_numeric : (b : Bool) (x y : Item) → Numeric x → Numeric y → Numeric (pick b x y)
either_numeric true x y h k = h
either_numeric false x y h k = k

power_numeric : (p : ℕ) (s : List ℕ) (n v f : ℕ) → Numeric (with_power p s n v f)
unfolding with_power
power_numeric p s n v f =
    let t : List ℕ = drop (suc n) s in
    let g : ℕ = sign_size (get_or t 0 0) in
    let k : ℕ = power_size (drop g t) in
    let x : ℕ = value 0 (take k (drop g t)) in
    let m : ℕ = suc n + g + k in
    either_numeric (eqb (get_or s n 0) 69 && ltb 0 k) _ _ (either_numeric (eqb (get_or t 0 0) 45) _ _ (constant_numeric p m v 0 (f + x)) (constant_numeric p m v x f)) (constant_numeric p n v 0 f)

number_numeric : (p : ℕ) (s : List ℕ) → Numeric (number_at p s)
unfolding number_at
number_numeric p s =
    let a : ℕ = run digit? s in
    let t : List ℕ = drop (suc a) s in
    let b : ℕ = run digit? t in
    either_numeric (eqb (get_or s a 0) 46) _ _ (power_numeric p s (suc a + b) (value 0 (take a s ++ take b t)) b) (power_numeric p s a (value 0 (take a s)) 0)

-- an item that begins with a digit is one
digit_numeric : (d : ℕ) (s : List ℕ) (p : ℕ) → digit? d ≡ true → Numeric (item_at true p (d ∷ s))
digit_numeric d s p h = subst Numeric (sym (number_item true p (d ∷ []) s (h, tt) (λ e. let z : ◌≡◌ {A = ℕ} 1 0 = ap length e in omega arith))) (number_numeric p (d ∷ s))

digit_first : (d : ℕ) (s : List ℕ) (p : ℕ) → blank? d ≡ false → digit? d ≡ true → (ts : List Token) → translate p (d ∷ s) ≡ tokens ts → ⊥
unfolding translate items scan
digit_first d s p b h ts e = first_refused (item_at true p (d ∷ s)) _ number (digit_numeric d s p h).is_number number_begins_none ts (rw b at e)

-- ---- a text that is translated

module _ (p : ℕ) (s : List ℕ) (ts : List Token) (e : translate p s ≡ tokens ts) where
  -- what stands after its blanks is translated too
  rest_so : (q : ℕ) × (translate q (after_blanks s) ≡ tokens ts)
  rest_so = let r = past_blanks s p in (r.0, sym r.1 ∙ e)

  -- it is not only blanks
  pub not_blank : every blank? s ≡ false
  unfolding after_blanks
  not_blank = go (every blank? s) refl
    where
      go : (b : Bool) → every blank? s ≡ b → b ≡ false
      go false h = refl
      go true h =
          let none : after_blanks s ≡ [] = ap (λ (n : ℕ). drop n s) (eqb-true (run blank? s) (length s) (run_whole blank? s ∙ h)) ∙ drop-length s in
          absurd (end_first rest_so.0 ts (ap (λ (z : List ℕ). translate rest_so.0 z) (sym none) ∙ rest_so.1))

  -- after its blanks no digit stands
  no_digits : digit_count s ≡ 0
  unfolding digit_count run
  no_digits = go (after_blanks s) (first_other s) rest_so.1
    where
      go : (t : List ℕ) → blank? (get_or t 0 0) ≡ false → translate rest_so.0 t ≡ tokens ts → run digit? t ≡ 0
      go [] b h = refl
      go (d ∷ t) b h = digits (digit? d) refl
        where
          digits : (c : Bool) → digit? d ≡ c → pick c (suc (run digit? t)) 0 ≡ 0
          digits true x = absurd (digit_first d t rest_so.0 b x ts h)
          digits false x = refl

  -- so it is a line without a number
  pub translated_direct : T (direct? s)
  unfolding direct?
  translated_direct = rw (no_digits, not_blank) (as_T (eqb 0 0) (eq-eqb 0 0 refl))
