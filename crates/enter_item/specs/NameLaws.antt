-- Names added by tokens, one token after another.
use Rattle.std.specs.Prelude.{ℕ, ◌<◌, ◌≡◌, List, [], ◌∷◌, ◌++◌, length, drop}
use Rattle.std.proofs.Common.{subst, sym, ap, ◌∙◌, append-nil, append_assoc}
use Rattle.std.proofs.Math.Seq.{drop-append_seam}
use Rattle.paper.specs.Tokens.{Token}
use Rattle.paper.specs.Names.{number_of, add_name, add_names}
use Rattle.laws.specs.Names.{adds_append, adds_front, adds_none, names_added, number_known, number_added, known_added, known_less}
use Rattle.enter_item.specs.Draft.{after}

pub add_one_by_one : (ks : List (List ℕ)) (t : Token) (ts : List Token) → add_names ks (t ∷ ts) ≡ add_names (after ks t) ts
add_one_by_one ks t ts = adds_append ks (t ∷ []) ts

pub new_is : (ks xs : List (List ℕ)) (ts : List Token) → add_names ks ts ≡ ks ++ xs → names_added ks ts ≡ xs
unfolding names_added
new_is ks xs ts e = ap (drop (length ks)) e ∙ drop-append_seam ks xs

-- the names that some tokens add, and then others
pub new_append : (ks : List (List ℕ)) (ts us : List Token) → names_added ks (ts ++ us) ≡ names_added ks ts ++ names_added (add_names ks ts) us
new_append ks ts us =
    new_is ks (names_added ks ts ++ names_added (add_names ks ts) us) (ts ++ us)
    (adds_append ks ts us ∙ adds_front (add_names ks ts) us ∙ ap (λ (k : List (List ℕ)). k ++ names_added (add_names ks ts) us) (adds_front ks ts)
    ∙ append_assoc ks (names_added ks ts) (names_added (add_names ks ts) us))

-- no token adds no name
pub new_none : (ks : List (List ℕ)) → names_added ks [] ≡ []
new_none ks = new_is ks [] [] (adds_none ks ∙ sym (append-nil ks))

-- a token that adds no name
pub new_same : (ks : List (List ℕ)) (t : Token) → after ks t ≡ ks → names_added ks (t ∷ []) ≡ []
new_same ks t e = new_is ks [] (t ∷ []) (e ∙ sym (append-nil ks))

-- the number of a name of a line: over the names known before it, and over all of the line's
pub number_at_end : (ks xs : List (List ℕ)) (n : List ℕ) → number_of (add_name ks n ++ xs) n ≡ number_of ks n
number_at_end ks xs n = number_known (add_name ks n) xs n (known_added ks n) ∙ number_added ks n

pub number_below : (ks : List (List ℕ)) (n : List ℕ) → number_of ks n < length (add_name ks n)
number_below ks n = subst (λ (x : ℕ). x < length (add_name ks n)) (number_added ks n) (known_less (add_name ks n) n (known_added ks n))
