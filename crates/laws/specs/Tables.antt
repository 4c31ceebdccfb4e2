-- Tables: the names that are known among others, and the entries of their values.
use Rattle.std.specs.Prelude.{ℕ, suc, ◌*◌, ◌≡◌, refl, Bool, true, false, ◌||◌, List, [], ◌∷◌, ◌++◌, ltb, length}
use Rattle.std.proofs.Common.{arith, sym, ap, ◌∙◌, lt-ltb}
use Rattle.std.proofs.Math.Dec.{leb-suc-suc}
use Rattle.paper.specs.Bytes.{pick, same}
use Rattle.paper.specs.Names.{number_of, known?, value_entries}
use Rattle.laws.specs.Names.{same_self, same_eq, same_ne, known_front, known_behind}

-- two lists of bytes are the same whichever comes first
pub same_sym : (s t : List ℕ) → same s t ≡ same t s
same_sym s t = go (same t s) refl
  where
    go : (b : Bool) → same t s ≡ b → same s t ≡ b
    go true e = ap (λ (l : List ℕ). same l t) (sym (same_eq t s e)) ∙ same_self t
    go false e = same_ne s t (λ q. let z : ◌≡◌ {A = ℕ} 0 1 = bools (sym (same_self s) ∙ ap (λ (l : List ℕ). same l s) q ∙ e) in omega arith)
      where
        bools : true ≡ false → ◌≡◌ {A = ℕ} 0 1
        bools e = cc

-- none is known where there is none
pub known_none : (n : List ℕ) → known? [] n ≡ false
unfolding known? number_of
known_none n = refl

-- a name is one of some with another in front, or behind, just if it is one of them or that other
pub known_cons : (m : List ℕ) (ms : List (List ℕ)) (n : List ℕ) → known? (m ∷ ms) n ≡ same m n || known? ms n
unfolding known? number_of
known_cons m ms n = go (same m n)
  where
    go : (b : Bool) → ltb (pick b 0 (suc (number_of ms n))) (suc (length ms)) ≡ b || ltb (number_of ms n) (length ms)
    go true = lt-ltb 0 (suc (length ms)) (omega arith)
    go false = leb-suc-suc (suc (number_of ms n)) (length ms)

pub known_snoc : (ms : List (List ℕ)) (m n : List ℕ) → known? (ms ++ m ∷ []) n ≡ known? ms n || same m n
known_snoc ms m n = go (known? ms n) refl
  where
    go : (t : Bool) → known? ms n ≡ t → known? (ms ++ m ∷ []) n ≡ t || same m n
    go true e = known_front ms (m ∷ []) n e
    go false e = known_behind ms (m ∷ []) n e ∙ known_cons m [] n ∙ rw (known_none n) (or_none (same m n))
      where
        or_none : (b : Bool) → b || false ≡ b
        or_none true = refl
        or_none false = refl

-- each name has a value of eight bytes
pub length_entries : (i : ℕ) (ns : List (List ℕ)) → length (value_entries i ns) ≡ 8 * length ns
unfolding value_entries
length_entries i [] = refl
length_entries i (n ∷ ns) = let e = length_entries (suc i) ns in omega arith
