-- The place of refusal 4: the start of the first item such that no lawful sequence begins with the items up to it.
use Rattle.std.specs.Prelude.{ℕ, zero, suc, ◌≡◌, refl, Bool, List, [], ◌∷◌, ◌++◌, map, T, eqb, get_or}
use Rattle.std.proofs.Common.{sym, ap, ◌∙◌, eqb→eq}
use Rattle.paper.specs.Bytes.{pick, every}
use Rattle.paper.specs.Classes.{raw_end, number, quoted, numeric_variable, array, raw_text}
use Rattle.paper.specs.Words.{Word, statements, read_operators}
use Rattle.paper.specs.Tokens.{Token, statement, operator, variable, constant, string, raw, class}
use Rattle.paper.specs.Constants.{zero_bytes}
use Rattle.paper.specs.Items.{Item, item}
use Rattle.paper.specs.Machine.{Taken, Run, left, done, bad, read}
use Rattle.paper.specs.Grammar.{Gives, look, look_item, start}
use Rattle.paper.specs.Open.{all_Bytes, all_Words, all_Tokens}
use Rattle.laws.specs.Tests.{and_left, and_right}
use Rattle.grounds.specs.Lists.{every_append}
use Rattle.grounds.specs.Viable.{Info, no_info, Ends, completion}
use Rattle.grounds.specs.FrameTables.{info, infos}
use Rattle.grounds.proofs.ViableGrammar.{viable}
use Rattle.grounds.specs.Place.{open_at, end_of, sources, Lawful, Told, told, no_lawful, by_class, end_class}

-- what the first word of a class gives; the last one if the table has none
unfoldable pub first_with : (ℕ → Token) → ℕ → List Word → Token → Token
first_with gives c [] last = last
first_with gives c (w ∷ ws) last = let r = first_with gives c ws last in pick (eqb w.class c) (gives w.token) r

-- an item of each class that a completion needs
unfoldable pub sample : ℕ → Token
sample c =
    pick (eqb c number) (constant zero_bytes)
    (pick (eqb c quoted) (string [])
    (pick (eqb c raw_text) (raw [])
    (pick (eqb c numeric_variable) (variable (65 ∷ []))
    (pick (eqb c array) (variable (65 ∷ 40 ∷ []))
    (pick (eqb c raw_end) (operator 0x9b) (first_with statement c statements (first_with operator c read_operators (operator 0x16))))))))

unfoldable sampled : ℕ → Bool
sampled c = eqb (class (sample c)) c

samples_test : T (every (λ (i : Info). every sampled i.word) infos)
unfolding info infos sampled first_with sample all_Bytes all_Words all_Tokens
samples_test = tt

-- a test of every entry of a list, and of what stands past its end, passes at each place
pub every_at : (q : Info → Bool) (is : List Info) (f : ℕ) → T (q no_info) → T (every q is) → T (q (get_or is f no_info))
unfolding every
every_at q [] f d t = d
every_at q (i ∷ is) zero d t = and_left (q i) (every q is) t
every_at q (i ∷ is) (suc f) d t = every_at q is f d (and_right (q i) (every q is) t)

every_comp : (s : List ℕ) → T (every sampled (completion infos s))
unfolding completion every
every_comp [] = tt
every_comp (f ∷ fs) = every_append sampled (get_or infos f no_info).word (completion infos fs) (every_at (λ (i : Info). every sampled i.word) infos f tt samples_test) (every_comp fs)

-- the class of an item
unfoldable pub class_of : Item → ℕ
class_of i = class i.token

-- an item of a class
unfoldable pub item_of : ℕ → Item
unfolding item
item_of c = item 0 0 (sample c)

classes : (w : List ℕ) → T (every sampled w) → map class_of (map item_of w) ≡ w
unfolding every sampled class_of item_of item
classes [] t = refl
classes (c ∷ cs) t =
    ap (λ (l : List ℕ). class (sample c) ∷ l) (classes cs (and_right (sampled c) (every sampled cs) t))
    ∙ ap (λ (z : ℕ). z ∷ cs) (eqb→eq (class (sample c)) c (and_left (sampled c) (every sampled cs) t))

map_append : {A B : Type 0} (f : A → B) (xs ys : List A) → map f (xs ++ ys) ≡ map f xs ++ map f ys
map_append f [] ys = refl
map_append {B = B} f (x ∷ xs) ys = ap {B = List B} (λ l. f x ∷ l) (map_append f xs ys)

ends_end : (r : Run Gives ℕ) → Ends infos r → end_of r ≡ open_at []
unfolding end_of
ends_end (left ts []) e = refl
ends_end (left ts (f ∷ s)) e = absurd e
ends_end (done ts r) e = absurd e
ends_end (bad m ts r) e = absurd e

open_go : (cs s : List ℕ) (r : Run Gives ℕ) → read look start cs ≡ r → end_of r ≡ open_at s → end_of (read look start (cs ++ completion infos s)) ≡ open_at []
unfolding end_of
open_go cs s (left ts z) e h =
    ends_end (read look start (cs ++ completion infos s)) (viable cs ts s (e ∙ ap (left ts) (cc)))
open_go cs s (done ts r) e h = cc
open_go cs s (bad m ts r) e h = cc

-- what the run has taken with no refusal begins a lawful sequence
pub goes_on : (is : List Item) (ts : List (Taken Gives Item)) (s : List ℕ) → read look_item start is ≡ left ts s → Lawful look_item start (is ++ map item_of (completion infos s))
unfolding Lawful look_item by_class class_of end_of
goes_on is ts s e =
    end_class look class_of start (is ++ map item_of (completion infos s))
    ∙ ap (λ (l : List ℕ). end_of (read look start l)) (map_append class_of is (map item_of (completion infos s)) ∙ ap (λ (l : List ℕ). map class_of is ++ l) (classes (completion infos s) (every_comp s)))
    ∙ open_go (map class_of is) s (read look start (map class_of is)) refl (sym (end_class look class_of start is) ∙ ap end_of e)

-- of the items `is`, i is the first such that no lawful sequence begins with the items up to it
pub record First (is : List Item) (before : List Item) (i : Item) (rest : List Item) : Type 0 where
  pub whole : is ≡ before ++ i ∷ rest
  pub none : (js : List Item) → Lawful look_item start (before ++ i ∷ js) → ⊥
  pub some : (js : List Item) × Lawful look_item start (before ++ js)

-- a refused item is that first one
pub refused_first : (m : ℕ) (is : List Item) (ts : List (Taken Gives Item)) (i : Item) (rest : List Item) → read look_item start is ≡ bad m ts (i ∷ rest) → First is (sources ts) i rest
refused_first m is ts i rest e =
    let t : Told look_item start is (bad m ts (i ∷ rest)) = rw e at (told look_item start is) in
    record {
      whole = t.0;
      none = no_lawful look_item m start ts i t.1;
      some = (map item_of (completion infos t.1.now), goes_on (sources ts) ts t.1.now t.1.ran);
    }
