-- A token that is no operator gives itself wherever the grammar takes it.
use Rattle.std.specs.Prelude.{ℕ, ◌≡◌, refl, Bool, true, false, not, ◌&&◌, List, [], ◌∷◌, T, eqb}
use Rattle.std.proofs.Common.{subst, sym, ap, ◌∙◌, eqb→eq}
use Rattle.paper.specs.Bytes.{every, among}
use Rattle.paper.specs.Classes.{open_sign, comma, equals, comparison, plus_minus, raw_end, unfit, numeric_variable, string_variable, array, first_numeric, first_string, first_array}
use Rattle.paper.specs.Words.{Word, word, statements}
use Rattle.paper.specs.Tokens.{Token, statement, assigned, operator, variable, constant, string, raw, class, by_kind}
use Rattle.paper.specs.Machine.{Act, take, leave, refuse, Row, no_row, at_row, find_row, Step, took, step_act, step}
use Rattle.paper.specs.Grammar.{Gives, itself, for_strings, as_prefix, put, moved, given, grammar, may_be_empty, look}
use Rattle.paper.specs.Open.{all_Bytes, all_Words, all_Machine, all_Grammar}
use Rattle.laws.specs.Tests.{and_left, and_right, as_T}
use Rattle.laws.specs.Classes.{word_passes, at_kind}

-- ---- rows that put another operator are for three classes of symbols

-- the classes of `(`, `,` and `=`
unfoldable pub replaced? : ℕ → Bool
replaced? c = among c (open_sign ∷ comma ∷ equals ∷ [])

-- what a row may give for a class
unfoldable pub gives_for? : Gives → ℕ → Bool
gives_for? itself c = true
gives_for? for_strings c = among c (comparison ∷ equals ∷ [])
gives_for? as_prefix c = eqb c plus_minus
gives_for? (put k) c = replaced? c

-- a row gives what it may
unfoldable pub row_gives? : Row Gives → Bool
row_gives? r = gives_for? r.gives r.class

rows_give : T (every row_gives? grammar)
unfolding row_gives? gives_for? replaced? all_Bytes all_Machine all_Grammar
rows_give = tt

nothing : {e : Gives} {ws : List ℕ} {X : Type 0} (b : Bool) → no_row b ≡ take e ws → X
unfolding no_row
nothing true h = let z : ◌≡◌ {A = ℕ} 0 1 = cc in absurd (eqb_one z)
  where
    eqb_one : ◌≡◌ {A = ℕ} 0 1 → ⊥
    eqb_one z = subst (λ (n : ℕ). T (eqb n 0)) z tt
nothing false h = let z : ◌≡◌ {A = ℕ} 0 1 = cc in absurd (eqb_one z)
  where
    eqb_one : ◌≡◌ {A = ℕ} 0 1 → ⊥
    eqb_one z = subst (λ (n : ℕ). T (eqb n 0)) z tt

row_go : (r : Row Gives) (a : Act Gives) (f c : ℕ) (e : Gives) (ws : List ℕ) (x y : Bool) → eqb c r.class ≡ y → at_row (x && y) r a ≡ take e ws → T (row_gives? r) → (a ≡ take e ws → T (gives_for? e c)) → T (gives_for? e c)
unfolding at_row row_gives?
row_go r a f c e ws true true q h t ih =
    let k : c ≡ r.class = eqb→eq c r.class (as_T (eqb c r.class) q) in
    let g : r.gives ≡ e = cc in
    subst (λ (z : ℕ). T (gives_for? e z)) (sym k) (subst (λ (z : Gives). T (gives_for? z r.class)) g t)
row_go r a f c e ws true false q h t ih = ih h
row_go r a f c e ws false y q h t ih = ih h

row_given : (rs : List (Row Gives)) (empty : List ℕ) (f c : ℕ) (e : Gives) (ws : List ℕ) → T (every row_gives? rs) → find_row rs empty f c ≡ take e ws → T (gives_for? e c)
unfolding find_row every
row_given [] empty f c e ws t h = nothing (among f empty) h
row_given (r ∷ rs) empty f c e ws t h =
    row_go r (find_row rs empty f c) f c e ws (eqb f r.frame) (eqb c r.class) refl h (and_left (row_gives? r) _ t)
    (λ k. row_given rs empty f c e ws (and_right (row_gives? r) _ t) k)

act_go : (f c : ℕ) (fs : List ℕ) (below : Step Gives) (e : Gives) (gs : List ℕ) (a : Act Gives) → look f c ≡ a → step_act a fs below ≡ took e gs → (below ≡ took e gs → T (gives_for? e c)) → T (gives_for? e c)
unfolding step_act look
act_go f c fs below e gs (take d ws) q h ih = let k : d ≡ e = cc in row_given grammar may_be_empty f c e ws rows_give (q ∙ ap (λ (z : Gives). take z ws) k)
act_go f c fs below e gs leave q h ih = ih h
act_go f c fs below e gs (refuse n) q h ih = let z : ◌≡◌ {A = ℕ} 0 1 = cc in absurd (subst (λ (n : ℕ). T (eqb n 0)) z tt)

-- what a stack gives for a class is what it may
pub step_given : (fs : List ℕ) (c : ℕ) (e : Gives) (gs : List ℕ) → step look fs c ≡ took e gs → T (gives_for? e c)
unfolding step
step_given [] c e gs h = let z : ◌≡◌ {A = ℕ} 0 1 = cc in absurd (subst (λ (n : ℕ). T (eqb n 0)) z tt)
step_given (f ∷ fs) c e gs h = act_go f c fs (step look fs c) e gs (look f c) refl h (λ k. step_given fs c e gs k)

-- ---- tokens that are no operators

unfoldable plain_word? : Word → Bool
plain_word? w = not (replaced? w.class)

plain_words : T (every plain_word? statements)
unfolding plain_word? replaced? all_Bytes all_Words
plain_words = tt

plain_unknown : (k : ℕ) → T (plain_word? (word k "" unfit))
unfolding plain_word? replaced? word all_Bytes
plain_unknown k = tt

pub plain_statement : (k : ℕ) → T (not (replaced? (class (statement k))))
unfolding class plain_word?
plain_statement k = word_passes plain_word? statements k plain_words (plain_unknown k)

-- no operator, and of a class that no row replaces
pub record Plain (t : Token) : Type 0 where
  pub moves_not : (e : Gives) → T (gives_for? e (class t)) → given e t ≡ t

not_both : {X : Type 0} (b : Bool) → T b → T (not b) → X
not_both true s t = absurd t
not_both false s t = absurd s

plain_go : (t : Token) → T (not (replaced? (class t))) → given for_strings t ≡ t → given as_prefix t ≡ t → (e : Gives) → T (gives_for? e (class t)) → given e t ≡ t
unfolding given gives_for?
plain_go t n a b itself h = refl
plain_go t n a b for_strings h = a
plain_go t n a b as_prefix h = b
plain_go t n a b (put k) h = not_both (replaced? (class t)) h n

three : (n : List ℕ) (a b c : ℕ) → T (not (replaced? a)) → T (not (replaced? b)) → T (not (replaced? c)) → T (not (replaced? (by_kind n a b c)))
three n a b c s t u = at_kind (λ k. not (replaced? k)) n a b c s t u

pub a_statement_plain : (k : ℕ) → Plain (statement k)
unfolding given moved
a_statement_plain k = record { moves_not = plain_go (statement k) (plain_statement k) refl refl }

pub an_assigned_plain : (n : List ℕ) → Plain (assigned n)
unfolding given moved class replaced? among
an_assigned_plain n = record { moves_not = plain_go (assigned n) (three n first_numeric first_string first_array tt tt tt) refl refl }

pub a_variable_plain : (n : List ℕ) → Plain (variable n)
unfolding given moved class replaced? among
a_variable_plain n = record { moves_not = plain_go (variable n) (three n numeric_variable string_variable array tt tt tt) refl refl }

pub a_constant_plain : (b : List ℕ) → Plain (constant b)
unfolding given moved class replaced? among
a_constant_plain b = record { moves_not = plain_go (constant b) tt refl refl }

pub a_string_plain : (b : List ℕ) → Plain (string b)
unfolding given moved class replaced? among
a_string_plain b = record { moves_not = plain_go (string b) tt refl refl }

pub a_raw_plain : (b : List ℕ) → Plain (raw b)
unfolding given moved class replaced? among
a_raw_plain b = record { moves_not = plain_go (raw b) tt refl refl }

-- the end of raw text gives itself
pub raw_end_given : (e : Gives) → T (gives_for? e raw_end) → given e (operator 0x9b) ≡ operator 0x9b
unfolding given gives_for? replaced? among
raw_end_given itself t = refl
raw_end_given for_strings t = absurd t
raw_end_given as_prefix t = absurd t
raw_end_given (put k) t = absurd t
