-- Laws of error lines: the test, told by its parts; how long such a line is; and its text.
use Rattle.std.specs.Prelude.{ℕ, ◌+◌, ◌-◌, ◌≤◌, ◌≡◌, Bool, ◌&&◌, List, ◌++◌, eqb, drop, get_or}
use native.Mathlib.Omega.{arith}
use Rattle.std.proofs.Math.Path.{refl, sym, ap}
use Rattle.std.proofs.Common.{◌∙◌}
use Rattle.std.proofs.Math.Bool.{true, false}
use Rattle.std.proofs.Math.ListN.{length, take, length-drop}
use Rattle.std.proofs.lemmas.List.Edits.{sets}
use Rattle.std.proofs.Math.Seq.{length-take-le}
use borrow.Author.Tests.{eq-eqb, ne_eqb, eqb-true}
use Rattle.paper.specs.Bytes.{bytes, run}
use Rattle.paper.specs.Items.{raw_byte?}
use Rattle.paper.specs.Errors.{error_token, error_size, error_text, error_line?}
use Rattle.laws.specs.Tests.{and_left, is_true, as_T}
use Rattle.buffers.specs.Runs.{run_within}
use Rattle.list_text.specs.Texts.{Writes}
use Rattle.list_text.specs.InTurn.{then}

-- the last part false: the whole is
and_false : (a : Bool) → a && false ≡ false
and_false true = refl
and_false false = refl

module _ (l : List ℕ) where
  -- ---- the test, in the order in which its parts are looked at

  pub other_token : (get_or l 4 0 ≡ error_token → ⊥) → false ≡ error_line? l
  unfolding error_line?
  other_token n = sym (rw (ne_eqb (get_or l 4 0) error_token n, and_false, and_false, and_false))

  pub other_length : (get_or l 2 0 ≡ length l → ⊥) → false ≡ error_line? l
  unfolding error_line?
  other_length n = sym (rw (ne_eqb (get_or l 2 0) (length l) n, and_false))

  pub other_offset : (get_or l 3 0 ≡ length l → ⊥) → false ≡ error_line? l
  unfolding error_line?
  other_offset n = sym (rw (ne_eqb (get_or l 3 0) (length l) n, and_false, and_false))

  -- token, length and offset right: the first 9B decides
  pub mark_decides : (end : ℕ) → get_or l 4 0 ≡ error_token → get_or l 2 0 ≡ length l → get_or l 3 0 ≡ length l → end ≡ 5 + run raw_byte? (drop 5 l) → eqb (end + 1) (length l) ≡ error_line? l
  unfolding error_line? error_size
  mark_decides end t a b e =
      let k : end + 1 ≡ 6 + run raw_byte? (drop 5 l) = omega arith in
      rw (eq-eqb (get_or l 4 0) error_token t, eq-eqb (get_or l 2 0) (length l) a, eq-eqb (get_or l 3 0) (length l) b, k) (sym (and_true (eqb (6 + run raw_byte? (drop 5 l)) (length l))))
    where
      and_true : (a : Bool) → a && true ≡ a
      and_true true = refl
      and_true false = refl

  -- a run of bytes from the text on does not go past the line by much
  pub end_small : (end : ℕ) → end ≡ 5 + run raw_byte? (drop 5 l) → end ≤ 5 + length l
  end_small end e = omega (arith, run_within raw_byte? (drop 5 l), length-drop 5 l)

  -- ---- an error line

  module _ (t : error_line? l ≡ true) where
    -- it has six bytes more than its text
    pub error_long : 6 + error_size l ≡ length l
    unfolding error_line?
    error_long = eqb-true (6 + error_size l) (length l) (is_true (eqb (6 + error_size l) (length l)) (and_left (eqb (6 + error_size l) (length l)) _ (as_T _ t)))

    -- its text is what stands between its token and its last byte
    pub text_is : take (length l - 1 - 5) (drop 5 l) ≡ error_text l
    unfolding error_text
    text_is = let k : length l - 1 - 5 ≡ error_size l = omega (arith, error_long) in ap (λ (i : ℕ). take i (drop 5 l)) k

    text_long : length (error_text l) ≡ error_size l
    unfolding error_text
    text_long = length-take-le (error_size l) (drop 5 l) (omega (arith, error_long, length-drop 5 l))

    -- one byte more is listed than the line has, less the number
    pub error_shown : length (bytes "ERROR- " ++ error_text l) ≡ length l + 1
    unfolding bytes
    error_shown = omega (arith, error_long, text_long)

    -- the word, and then the text after it
    pub error_written : {n : ℕ} {old mid new : List ℕ} → mid ≡ sets old n (bytes "ERROR- ") → new ≡ sets mid (n + 7) (take (length l - 1 - 5) (drop 5 l)) → Writes (bytes "ERROR- " ++ error_text l) n old (length l - 1 + 2) new
    unfolding bytes
    error_written {n} {old} {mid} {new} e f =
        let k : length l - 1 + 2 ≡ 7 + length (error_text l) = omega (arith, error_long, error_shown) in
        let w : Writes (bytes "ERROR- ") n old 7 mid = record { size = refl; bytes = e } in
        then w (error_text l) (f ∙ ap (sets mid (n + 7)) text_is) k
