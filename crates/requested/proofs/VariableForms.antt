-- The two forms of a variable's token (document 02, §11): which one a name has, and which bytes are none.
use Rattle.std.specs.Prelude.{ℕ, suc, ◌+◌, ◌-◌, ◌≤◌, ◌<◌, ◌≡◌, refl, Bool, true, false, ◌⊎◌, List, [], ◌∷◌, ◌++◌, T, ltb, length, get_or}
use Rattle.std.proofs.Common.{arith, subst, sym, ap, ◌∙◌, inl, inr, ltb→lt, ltb-true, ltb-false, lt-ltb, le-ltb, ne_eqb, eq-eqb}
use Rattle.std.proofs.Math.ListN.{get_or-eq_default}
use Rattle.paper.specs.Bytes.{pick, letter?, same, every}
use Rattle.paper.specs.Tokens.{Token, assigned, variable}
use Rattle.paper.specs.Names.{name?, number_of, known?, sound_names}
use Rattle.paper.specs.Line.{number_bytes, variable_bytes, variable_byte?, variable_size, variable_number, variable_name, tokens_from}
use Rattle.paper.specs.WellFormed.{right_token?, Formed}
use Rattle.laws.specs.Tests.{and_left, and_right}
use Rattle.promises.specs.Terms.{LongForm, within, assigned_to}
use Rattle.requested.specs.RequestTerms.{Form, one_byte, two_bytes, ReadsLong}
use Rattle.grounds.proofs.RoundTrip.{decoded}
use Rattle.promises.proofs.States.{few, names_good}

-- a known name's number is below the count of names
number_below : (ns : List (List ℕ)) (n : List ℕ) → T (known? ns n) → number_of ns n < length ns
unfolding known?
number_below ns n k = ltb→lt (number_of ns n) (length ns) k

-- over a sound table a name's token has one of them, in bytes
pub two_forms : (ns : List (List ℕ)) (n : List ℕ) → T (sound_names ns) → T (known? ns n) → Form (number_of ns n) (variable_bytes ns n)
unfolding variable_bytes number_bytes
two_forms ns n s k = go (ltb (number_of ns n) 128) refl
  where
    go : (b : Bool) → ltb (number_of ns n) 128 ≡ b → Form (number_of ns n) (pick b ((0x80 + number_of ns n) ∷ []) (0 ∷ (number_of ns n - 128) ∷ []))
    go true e = one_byte (ltb-true (number_of ns n) 128 e) refl
    go false e = two_bytes (ltb-false (number_of ns n) 128 e) (omega (arith, number_below ns n k, few ns s)) refl

-- a table of at most 128 names has the tokens that it had
pub old_forms : (ns : List (List ℕ)) (n : List ℕ) → length ns ≤ 128 → T (known? ns n) → variable_bytes ns n ≡ (0x80 + number_of ns n) ∷ []
unfolding variable_bytes number_bytes
old_forms ns n h k = rw (lt-ltb (number_of ns n) 128 (omega (arith, number_below ns n k)))

-- ---- 00 before a byte with which it names nothing

-- no name of a sound table is empty
empty_number : (ns : List (List ℕ)) → T (every name? ns) → number_of ns [] ≡ length ns
unfolding number_of same every name? letter?
empty_number [] t = refl
empty_number ([] ∷ ms) t = absurd t
empty_number ((x ∷ xs) ∷ ms) t = ap suc (empty_number ms (and_right (name? (x ∷ xs)) (every name? ms) t))

-- a number past a sound table's end is that of no name
no_name : (ns : List (List ℕ)) → T (sound_names ns) → (i : ℕ) → length ns ≤ i → known? ns (get_or ns i []) ≡ false
unfolding known?
no_name ns t i h = rw (get_or-eq_default ns [] h) (le-ltb (number_of ns []) (length ns) (omega (arith, empty_number ns (names_good ns t).names)))

every_there : (q : Token → Bool) (xs : List Token) (x : Token) (ys : List Token) → T (every q (xs ++ x ∷ ys)) → T (q x)
unfolding every
every_there q [] x ys t = and_left (q x) (every q ys) t
every_there q (z ∷ xs) x ys t = every_there q xs x ys (and_right (q z) (every q (xs ++ x ∷ ys)) t)

-- the long form is read as a variable with that number, after 36 or elsewhere
long_read : (ns : List (List ℕ)) (byte at end : ℕ) (s : List ℕ) → LongForm byte at end s
    → (rest : List Token) × ((tokens_from ns 0 at end s ≡ variable (get_or ns (128 + byte) []) ∷ rest) ⊎ (tokens_from ns 0 at end s ≡ assigned (get_or ns (128 + byte) []) ∷ rest))
unfolding tokens_from variable_byte? variable_size variable_number variable_name
long_read ns byte at end s (within a e rest n) = (tokens_from ns 1 (suc at) end (byte ∷ rest), inl (rw (ne_eqb at end n)))
long_read ns byte at end s (assigned_to a offset rest) = (tokens_from ns 3 (suc at) offset (0x36 ∷ 0 ∷ byte ∷ rest), inr (rw (eq-eqb at at refl)))

-- a line in which it has a number that no name has is not well-formed
pub no_such_form : (lawful? : ℕ → Bool) (ns : List (List ℕ)) (l : List ℕ) (byte : ℕ) → T (sound_names ns) → length ns ≤ 128 + byte → ReadsLong ns l byte → Formed lawful? ns l → ⊥
unfolding right_token?
no_such_form lawful? ns l byte t h r w = go (long_read ns byte r.at r.end r.bytes r.long)
  where
    n : List ℕ
    n = get_or ns (128 + byte) []

    there : (x : Token) (rest : List Token) → tokens_from ns 0 r.at r.end r.bytes ≡ x ∷ rest → T (right_token? ns x)
    there x rest e =
        every_there (right_token? ns) r.before x rest
        (subst (λ (z : List Token). T (every (right_token? ns) z)) (sym (decoded ns l w) ∙ r.read ∙ ap (λ (z : List Token). r.before ++ z) e) w.right)

    go : (rest : List Token) × ((tokens_from ns 0 r.at r.end r.bytes ≡ variable n ∷ rest) ⊎ (tokens_from ns 0 r.at r.end r.bytes ≡ assigned n ∷ rest)) → ⊥
    go (rest, inl e) = subst T (no_name ns t (128 + byte) h) (there (variable n) rest e)
    go (rest, inr e) = subst T (no_name ns t (128 + byte) h) (and_left (known? ns n) _ (there (assigned n) rest e))

-- nor is one in which it is followed by 128 or more: a sound table has no such name
pub no_higher_form : (lawful? : ℕ → Bool) (ns : List (List ℕ)) (l : List ℕ) (byte : ℕ) → T (sound_names ns) → 128 ≤ byte → ReadsLong ns l byte → Formed lawful? ns l → ⊥
no_higher_form lawful? ns l byte t h r w = no_such_form lawful? ns l byte t (omega (arith, few ns t)) r w
