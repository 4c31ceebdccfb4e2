-- The name table: its bytes as names again, and what adding names keeps.
use Rattle.std.specs.Prelude.{ℕ, ◌≡◌, refl, Bool, true, false, not, ◌||◌, List, [], ◌∷◌, ◌++◌, T}
use Rattle.std.proofs.Common.{subst, sym, ◌∙◌}
use Rattle.paper.specs.Bytes.{pick, same, every}
use Rattle.paper.specs.Words.{reserved?}
use Rattle.paper.specs.Tokens.{Token}
use Rattle.paper.specs.Names.{names_in, name_bytes, name?, less_open, known?, all_different, add_name, add_names}
use Rattle.laws.specs.Tests.{and_left, and_right, and_both, as_T, is_true, is_false}
use Rattle.laws.specs.Names.{known_front, name_added, add_append, known_added, name_passes, adds_keep, adds_keep_any, names_of_bytes, names_plain}
use Rattle.laws.specs.Tables.{same_sym, known_none, known_cons, known_snoc}
use Rattle.grounds.specs.Lists.{or_false_left, or_false_right, every_append}
use Rattle.promises.proofs.Scanned.{new_name?}

-- the bytes of names, read back, are the names
pub names_back : (ns : List (List ℕ)) → T (every name? ns) → names_in (name_bytes ns) ≡ ns
names_back ns t = names_of_bytes ns (names_plain ns (is_true (every name? ns) t))

-- ---- names that are known

-- a name that is added is known
pub add_knows : (ns : List (List ℕ)) (n : List ℕ) → T (known? (add_name ns n) n)
add_knows ns n = as_T _ (known_added ns n)

-- names once known stay known
pub names_keep : (ts : List Token) (ns : List (List ℕ)) (m : List ℕ) → T (known? ns m) → T (known? (add_names ns ts) m)
names_keep ts ns m k = as_T _ (adds_keep_any (λ ms. known? ms m ≡ true) (λ ms n e. rw (add_append ms n) (known_front ms (name_added ms n) m e)) ns ts (is_true (known? ns m) k))

-- ---- what adding names keeps

-- names that a sound table may hold, but for their count
pub record NamesGood (ns : List (List ℕ)) : Type 0 where
  pub names : T (every name? ns)
  pub different : T (all_different ns)
  pub no_words : T (every (λ n. not (reserved? (less_open n))) ns)

snoc_different : (ns : List (List ℕ)) (n : List ℕ) → T (all_different ns) → known? ns n ≡ false → T (all_different (ns ++ n ∷ []))
unfolding all_different
snoc_different [] n d k = and_both (not (known? [] n)) true (subst (λ (b : Bool). T (not b)) (sym (known_none n)) tt) tt
snoc_different (m ∷ ms) n d k =
    let e : same m n || known? ms n ≡ false = sym (known_cons m ms n) ∙ k in
    let a : known? (ms ++ n ∷ []) m ≡ false =
    known_snoc ms n m ∙ rw (is_false (known? ms m) (and_left (not (known? ms m)) (all_different ms) d)) (same_sym n m ∙ or_false_left (same m n) (known? ms n) e) in
    and_both (not (known? (ms ++ n ∷ []) m)) (all_different (ms ++ n ∷ [])) (subst (λ (b : Bool). T (not b)) (sym a) tt)
    (snoc_different ms n (and_right (not (known? ms m)) (all_different ms) d) (or_false_right (same m n) (known? ms n) e))

add_good : (ns : List (List ℕ)) (n : List ℕ) → T (new_name? n) → NamesGood ns → NamesGood (add_name ns n)
unfolding add_name new_name? every
add_good ns n t g = go (known? ns n) refl
  where
    go : (b : Bool) → known? ns n ≡ b → NamesGood (pick b ns (ns ++ n ∷ []))
    go true e = g
    go false e =
        record {
          names = every_append name? ns (n ∷ []) g.names (and_both (name? n) true (and_left (name? n) _ t) tt);
          different = snoc_different ns n g.different e;
          no_words = every_append (λ n. not (reserved? (less_open n))) ns (n ∷ []) g.no_words (and_both (not (reserved? (less_open n))) true (and_right (name? n) _ t) tt);
        }

-- adding the names of tokens keeps the names good
pub adds_good : (ts : List Token) (ns : List (List ℕ)) → T (every (name_passes new_name?) ts) → NamesGood ns → NamesGood (add_names ns ts)
adds_good ts ns t g = adds_keep new_name? NamesGood (λ ms n h k. add_good ms n (as_T (new_name? n) h) k) ns ts (is_true (every (name_passes new_name?) ts) t) g
