-- A line that is well-formed over some names is well-formed over more of them.
use Prim.Native.Nat.{ℕ, suc, ◌+◌, ◌<◌}
use Rattle.std.proofs.Common.{arith, subst, ◌∙◌}
use Rattle.std.specs.Prelude.{◌≡◌, Bool, not, ltb}
use Rattle.std.proofs.Math.Path.{refl, ap, ap₂}
use Rattle.std.proofs.Math.Bool.{true, false}
use mathlib.Core.List.{List, [], ◌∷◌, ◌++◌}
use Rattle.std.proofs.Math.Dec.{T, ltb→lt, lt→ltb, leb-suc-suc}
use Rattle.std.proofs.Math.ListN.{length, length-append}
use Rattle.paper.specs.Bytes.{pick, same, every}
use Rattle.paper.specs.Words.{statement_word?}
use Rattle.paper.specs.Tokens.{Token, statement, assigned, operator, variable, constant, string, raw, out_of_range, unreadable}
use Rattle.paper.specs.Names.{less_open, number_of, known?}
use Rattle.paper.specs.Line.{number_bytes, variable_bytes, own_bytes, begins?, to_next, token_bytes, line_bytes}
use Rattle.paper.specs.WellFormed.{right_token?, Formed}
use Rattle.laws.specs.Tests.{and_left, and_right, and_both}

module _ (new : List (List ℕ)) where
  number_go : (ms : List (List ℕ)) (n : List ℕ) (b : Bool) → (T (known? ms n) → number_of (ms ++ new) n ≡ number_of ms n) → T (ltb (pick b 0 (suc (number_of ms n))) (suc (length ms))) → pick b 0 (suc (number_of (ms ++ new) n)) ≡ pick b 0 (suc (number_of ms n))
  unfolding known?
  number_go ms n true ih k = refl
  number_go ms n false ih k = ap suc (ih (subst T (leb-suc-suc (suc (number_of ms n)) (length ms)) k))

  -- a known name keeps its number
  number_stays : (ns : List (List ℕ)) (n : List ℕ) → T (known? ns n) → number_of (ns ++ new) n ≡ number_of ns n
  unfolding known? number_of
  number_stays [] n k = absurd k
  number_stays (m ∷ ms) n k = number_go ms n (same m n) (λ h. number_stays ms n h) k

  known_stays : (ns : List (List ℕ)) (n : List ℕ) → T (known? ns n) → T (known? (ns ++ new) n)
  unfolding known?
  known_stays ns n k =
      let a : number_of ns n < length ns = ltb→lt (number_of ns n) (length ns) k in
      lt→ltb (number_of (ns ++ new) n) (length (ns ++ new)) (omega (arith, number_stays ns n k, length-append ns new))

  right_stays : (ns : List (List ℕ)) (t : Token) → T (right_token? ns t) → T (right_token? (ns ++ new) t)
  unfolding right_token?
  right_stays ns (statement k) r = r
  right_stays ns (assigned n) r = and_both (known? (ns ++ new) n) (not (statement_word? (less_open n))) (known_stays ns n (and_left (known? ns n) _ r)) (and_right (known? ns n) _ r)
  right_stays ns (operator k) r = r
  right_stays ns (variable n) r = known_stays ns n r
  right_stays ns (constant b) r = r
  right_stays ns (string b) r = r
  right_stays ns (raw b) r = r
  right_stays ns out_of_range r = r
  right_stays ns unreadable r = r

  all_right_stay : (ns : List (List ℕ)) (ts : List Token) → T (every (right_token? ns) ts) → T (every (right_token? (ns ++ new)) ts)
  unfolding every
  all_right_stay ns [] r = tt
  all_right_stay ns (t ∷ ts) r =
      and_both (right_token? (ns ++ new) t) (every (right_token? (ns ++ new)) ts) (right_stays ns t (and_left (right_token? ns t) (every (right_token? ns) ts) r)) (all_right_stay ns ts (and_right (right_token? ns t) (every (right_token? ns) ts) r))

  own_stay : (ns : List (List ℕ)) (t : Token) → T (right_token? ns t) → own_bytes (ns ++ new) t ≡ own_bytes ns t
  unfolding own_bytes variable_bytes right_token?
  own_stay ns (statement k) r = refl
  own_stay ns (assigned n) r = ap (λ (i : ℕ). 0x36 ∷ number_bytes i) (number_stays ns n (and_left (known? ns n) _ r))
  own_stay ns (operator k) r = refl
  own_stay ns (variable n) r = ap number_bytes (number_stays ns n r)
  own_stay ns (constant b) r = refl
  own_stay ns (string b) r = refl
  own_stay ns (raw b) r = refl
  own_stay ns out_of_range r = refl
  own_stay ns unreadable r = refl

  next_stays : (ns : List (List ℕ)) (ts : List Token) → T (every (right_token? ns) ts) → to_next (ns ++ new) ts ≡ to_next ns ts
  unfolding to_next every
  next_stays ns [] r = refl
  next_stays ns (t ∷ ts) r =
      ap₂ (λ (o : List ℕ) (k : ℕ). pick (begins? t) 0 (length o + k)) (own_stay ns t (and_left (right_token? ns t) (every (right_token? ns) ts) r)) (next_stays ns ts (and_right (right_token? ns t) (every (right_token? ns) ts) r))

  -- the bytes of a token and of those after it
  one_more : (b : Bool) (p : ℕ) (own : List ℕ) (next : ℕ) (f g : ℕ → List ℕ) → ((q : ℕ) → f q ≡ g q)
      → pick b ((suc p + length own + next) ∷ own ++ f (suc p + length own)) (own ++ f (p + length own)) ≡ pick b ((suc p + length own + next) ∷ own ++ g (suc p + length own)) (own ++ g (p + length own))
  one_more true p own next f g e = ap (λ (z : List ℕ). (suc p + length own + next) ∷ own ++ z) (e (suc p + length own))
  one_more false p own next f g e = ap (λ (z : List ℕ). own ++ z) (e (p + length own))

  bytes_stay : (ns : List (List ℕ)) (ts : List Token) → T (every (right_token? ns) ts) → (p : ℕ) → token_bytes (ns ++ new) p ts ≡ token_bytes ns p ts
  unfolding token_bytes every
  bytes_stay ns [] r p = refl
  bytes_stay ns (t ∷ ts) r p =
      let s = and_right (right_token? ns t) (every (right_token? ns) ts) r in
      ap₂ (λ (o : List ℕ) (k : ℕ). pick (begins? t) ((suc p + length o + k) ∷ o ++ token_bytes (ns ++ new) (suc p + length o) ts) (o ++ token_bytes (ns ++ new) (p + length o) ts)) (own_stay ns t (and_left (right_token? ns t) (every (right_token? ns) ts) r)) (next_stays ns ts s)
      ∙ one_more (begins? t) p (own_bytes ns t) (to_next ns ts) (λ q. token_bytes (ns ++ new) q ts) (λ q. token_bytes ns q ts) (λ q. bytes_stay ns ts s q)

  line_stays : (ns : List (List ℕ)) (n : ℕ) (ts : List Token) → T (every (right_token? ns) ts) → line_bytes (ns ++ new) n ts ≡ line_bytes ns n ts
  unfolding line_bytes
  line_stays ns n ts r = rw (bytes_stay ns ts r 3)

  -- well-formed over some names, well-formed over more
  pub grown : {lawful? : ℕ → Bool} (ns : List (List ℕ)) (l : List ℕ) → Formed lawful? ns l → Formed lawful? (ns ++ new) l
  grown ns l w =
      record {
        number = w.number;
        items = w.items;
        tokens = w.tokens;
        lawful = w.lawful;
        bytes = line_stays ns w.number w.tokens w.right ∙ w.bytes;
        lawful_number = w.lawful_number;
        right = all_right_stay ns w.tokens w.right;
      }

  -- with the tokens that it had
  pub grown_tokens : {lawful? : ℕ → Bool} (ns : List (List ℕ)) (l : List ℕ) (w : Formed lawful? ns l) → (grown ns l w).tokens ≡ w.tokens
  unfolding grown
  grown_tokens ns l w = refl
