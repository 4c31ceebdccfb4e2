-- Where every line can be listed, and the names left are those that lines use, every line is ready to be carried.
use Rattle.std.specs.Prelude.{ℕ, ◌≤◌, ◌<◌, ◌≡◌, refl, Bool, true, false, not, ◌&&◌, ◌||◌, eqb, leb, length, get_or}
use Rattle.std.proofs.Common.{arith, subst, sym, ap, ◌∙◌, eq-eqb, le-leb}
use mathlib.Core.List.{List, [], ◌∷◌}
use Rattle.std.proofs.Math.Dec.{T}
use Rattle.paper.specs.Bytes.{same, every}
use Rattle.paper.specs.Words.{statement_word?}
use Rattle.paper.specs.Tokens.{Token, statement, assigned, operator, variable, constant, string, raw, out_of_range, unreadable}
use Rattle.paper.specs.Names.{number_of, known?, less_open}
use Rattle.paper.specs.Line.{line_number, lawful_number?, line_tokens}
use Rattle.paper.specs.WellFormed.{right_token?, well_formed?}
use Rattle.paper.specs.Errors.{error_line?, listable?}
use Rattle.paper.specs.Store.{overwritten}
use Rattle.paper.specs.Collect.{some, uses?, line_uses?, used?, names_left}
use Rattle.laws.specs.Tests.{and_left, and_right, and_both, is_true, as_T, or_else}
use Rattle.laws.specs.Names.{same_self, known_less, name_passes}
use Rattle.list_pieces.specs.Rest.{Numbered}
use Rattle.list_pieces.specs.WellFormed.{passes_whole}
use Rattle.names_left.specs.Marks.{numbers_by}
use Rattle.names_left.specs.Agreement.{Agree, number_agrees, number_lower}
use Rattle.list_measure.specs.Numbers.{moves?}
use Rattle.list_renumber.specs.Lines.{Moving, Ready}
use Rattle.editor_collect.specs.Carries.{AllReady}

or_first : (a b : Bool) → T a → T (a || b)
or_first true b t = tt
or_first false b t = elim t [ ]

or_last : (a b : Bool) → T b → T (a || b)
or_last true b t = tt
or_last false b t = t

-- ---- the names of tokens

module _ (ns : List (List ℕ)) (q : List ℕ → Bool) where
  -- what every name that a right token uses passes, its name passes
  token_passes : (t : Token) → T (right_token? ns t) → ((n : List ℕ) → T (uses? n t) → T (known? ns n) → T (q n)) → T (name_passes q t)
  unfolding uses? name_passes right_token?
  token_passes (statement k) r h = tt
  token_passes (assigned n) r h = h n (as_T (same n n) (same_self n)) (and_left (known? ns n) (not (statement_word? (less_open n))) r)
  token_passes (operator k) r h = tt
  token_passes (variable n) r h = h n (as_T (same n n) (same_self n)) r
  token_passes (constant b) r h = tt
  token_passes (string b) r h = tt
  token_passes (raw b) r h = tt
  token_passes out_of_range r h = tt
  token_passes unreadable r h = tt

  tokens_pass : (ts : List Token) → T (every (right_token? ns) ts) → ((n : List ℕ) → T (some (uses? n) ts) → T (known? ns n) → T (q n)) → T (every (name_passes q) ts)
  unfolding some every
  tokens_pass [] r h = tt
  tokens_pass (t ∷ ts) r h =
      and_both (name_passes q t) (every (name_passes q) ts) (token_passes t (and_left (right_token? ns t) _ r) (λ n u k. h n (or_first (uses? n t) (some (uses? n) ts) u) k))
      (tokens_pass ts (and_right (right_token? ns t) (every (right_token? ns) ts) r) (λ n u k. h n (or_last (uses? n t) (some (uses? n) ts) u) k))

-- ---- the lines

module _ (ns new : List (List ℕ)) (numbers : List ℕ) (d : Numbered ns) (p : List ℕ → Bool) (moves : (n : List ℕ) → T (p n) → T (known? ns n) → T (moves? ns new numbers n)) where
  line_moves : (l : List ℕ) → T (well_formed? ns l) → ((n : List ℕ) → T (some (uses? n) (line_tokens ns l)) → T (p n)) → Moving ns new numbers l
  unfolding line_tokens
  line_moves l f h = record {
    over = record { numbered = d; formed = is_true (well_formed? ns l) f };
    passes = tokens_pass ns (moves? ns new numbers) (line_tokens ns l) (passes_whole ns l f).body.written.right (λ n u k. moves n (h n u) k);
  }

  line_ready : (l : List ℕ) → T (listable? lawful_number? ns l) → ((n : List ℕ) → T (line_uses? ns n l) → T (p n)) → Ready ns new numbers l
  unfolding listable? line_uses?
  line_ready l t h e =
      or_else (well_formed? ns l) (lawful_number? (line_number l) && error_line? l) t
      (λ f. line_moves l f (λ n u. h n (and_both (not (error_line? l)) (some (uses? n) (line_tokens ns l)) (subst (λ (b : Bool). T (not b)) (sym e) tt) u)))
      (λ f. absurd (subst T e (and_right (lawful_number? (line_number l)) (error_line? l) f)))

  lines_ready : (ls : List (List ℕ)) → T (every (listable? lawful_number? ns) ls) → ((n : List ℕ) → T (some (line_uses? ns n) ls) → T (p n)) → AllReady ns new numbers ls
  unfolding every some
  lines_ready [] t h = tt
  lines_ready (l ∷ ls) t h = (
    line_ready l (and_left (listable? lawful_number? ns l) _ t) (λ n u. h n (or_first (line_uses? ns n l) (some (line_uses? ns n) ls) u)),
    lines_ready ls (and_right (listable? lawful_number? ns l) (every (listable? lawful_number? ns) ls) t) (λ n u. h n (or_last (line_uses? ns n l) (some (line_uses? ns n) ls) u)),
  )

-- the numbers that are noted are those among the names left
module _ (ns : List (List ℕ)) (p : List ℕ → Bool) (ms : List ℕ) (a : Agree p ms ns) where
  name_moves : (n : List ℕ) → T (p n) → T (known? ns n) → T (moves? ns (names_left p ns) (overwritten (numbers_by 0 ms ns) ms) n)
  unfolding moves?
  name_moves n t k =
      let e = number_agrees p ms ns n a (is_true (known? ns n) k) (is_true (p n) t) in
      let l = number_lower p ms ns (number_of ns n) a (known_less ns n (is_true (known? ns n) k)) in
      and_both (eqb (number_of (names_left p ns) n) (get_or (overwritten (numbers_by 0 ms ns) ms) (number_of ns n) 0)) (leb (number_of (names_left p ns) n) (number_of ns n))
      (as_T _ (eq-eqb (number_of (names_left p ns) n) (get_or (overwritten (numbers_by 0 ms ns) ms) (number_of ns n) 0) (sym e)))
      (as_T _ (le-leb (number_of (names_left p ns) n) (number_of ns n) (omega (arith, e, l))))

-- all lines are ready
pub all_ready : (ns : List (List ℕ)) → Numbered ns → (ls : List (List ℕ)) (ms : List ℕ) → Agree (used? ns ls) ms ns → T (every (listable? lawful_number? ns) ls) → (numbers : List ℕ) → numbers ≡ overwritten (numbers_by 0 ms ns) ms
    → AllReady ns (names_left (used? ns ls) ns) numbers ls
unfolding used?
all_ready ns d ls ms a t numbers e =
    subst (λ (z : List ℕ). AllReady ns (names_left (used? ns ls) ns) z ls) (sym e)
    (lines_ready ns (names_left (used? ns ls) ns) (overwritten (numbers_by 0 ms ns) ms) d (used? ns ls) (name_moves ns (used? ns ls) ms a) ls t (λ n u. u))
