-- A line written again over other names (document 02, §12): well-formed as before, no longer, and listed the same.
use Prim.Native.Nat.{ℕ, ◌≤◌}
use Rattle.std.proofs.Common.{arith, subst, sym, ap, ap₂, ◌∙◌, inl, inr}
use Rattle.std.specs.Prelude.{◌≡◌, Bool, true, not}
use Rattle.std.proofs.Math.Path.{refl}
use Rattle.std.proofs.Math.Bool.{false}
use mathlib.Core.List.{List, [], ◌∷◌}
use Rattle.std.proofs.Math.Dec.{T}
use Rattle.std.proofs.Math.ListN.{length}
use Rattle.paper.specs.Bytes.{pick, every}
use Rattle.paper.specs.Words.{statement_word?}
use Rattle.paper.specs.Tokens.{Token, statement, assigned, operator, variable, constant, string, raw, out_of_range, unreadable}
use Rattle.paper.specs.Names.{less_open, number_of, known?}
use Rattle.paper.specs.Line.{line_bytes, line_number, lawful_number?, line_tokens}
use Rattle.paper.specs.WellFormed.{right_token?, Lawful, WellFormed}
use Rattle.paper.specs.Listing.{listing_text, listing}
use Rattle.paper.specs.Errors.{error_line?, listable?, line_text, line_listing}
use Rattle.paper.specs.Store.{whole_line?}
use Rattle.paper.specs.Collect.{some, uses?, line_uses?, renumbered}
use Rattle.laws.specs.Tests.{and_left, and_right, and_both, as_T}
use Rattle.laws.specs.Names.{name_passes}
use Rattle.laws.specs.Renumbered.{names_used}
use Rattle.laws.proofs.Renumbered.{again_shorter}
use Rattle.promises.specs.Terms.{Listable}
use Rattle.requested.specs.RequestTerms.{Rewritten, error_stays, same_tokens}
use Rattle.grounds.proofs.RoundTrip.{decoded, numbered_so}
use Rattle.promises.proofs.Editing.{well_formed_whole}
use Rattle.promises.proofs.ErrorLines.{never_both, listable_says, says_listable, formed_else, listing_else}

-- what is known of a line that is written again
pub record Again (ns new : List (List ℕ)) (l again : List ℕ) : Type 0 where
  pub rewritten : Rewritten ns new l again
  pub was_listable : T (listable? lawful_number? ns l)
  pub listable : T (listable? lawful_number? new again)
  pub listed : line_listing new again ≡ line_listing ns l
  pub number : line_number again ≡ line_number l
  pub whole : T (whole_line? again)
  pub shorter : length again ≤ length l
  pub uses : (n : List ℕ) → line_uses? new n again ≡ line_uses? ns n l
  pub stays : renumbered new new again ≡ again

-- an error line stays
error_again : (ns new : List (List ℕ)) (l : List ℕ) → T (whole_line? l) → T (lawful_number? (line_number l)) → error_line? l ≡ true → Again ns new l l
unfolding line_listing line_text line_uses? renumbered
error_again ns new l w n e =
    record {
      rewritten = error_stays (as_T (error_line? l) e) refl;
      was_listable = says_listable ns l (inr (n, as_T (error_line? l) e));
      listable = says_listable new l (inr (n, as_T (error_line? l) e));
      listed = rw e;
      number = refl;
      whole = w;
      shorter = omega arith;
      uses = (λ x. rw e);
      stays = rw e;
    }

-- a line is the bytes of its tokens
bytes_again : (ns : List (List ℕ)) (l : List ℕ) → WellFormed ns l → line_bytes ns (line_number l) (line_tokens ns l) ≡ l
bytes_again ns l w = ap₂ (line_bytes ns) (numbered_so ns l w) (decoded ns l w) ∙ w.bytes

-- a well-formed line is written again as a well-formed line with the same number and tokens
formed_again : (ns new : List (List ℕ)) (l m : List ℕ) → WellFormed ns l → WellFormed new m → line_tokens new m ≡ line_tokens ns l → line_number m ≡ line_number l → length m ≤ length l → Again ns new l m
unfolding line_uses? renumbered listing
formed_again ns new l m w v t n s =
    let e : error_line? l ≡ false = never_both ns l w in
    let f : error_line? m ≡ false = never_both new m v in
    record {
      rewritten = same_tokens w v (sym (decoded new m v) ∙ t ∙ decoded ns l w) (sym (numbered_so new m v) ∙ n ∙ numbered_so ns l w) s;
      was_listable = says_listable ns l (inl w);
      listable = says_listable new m (inl v);
      listed = listing_else new m f ∙ ap₂ listing_text n t ∙ sym (listing_else ns l e);
      number = n;
      whole = well_formed_whole new m v;
      shorter = s;
      uses = (λ x. rw (e, f) (ap (some (uses? x)) t));
      stays = rw f (bytes_again new m v);
    }

-- tokens whose names pass a test, over names where those that pass are known too, with no greater number
module _ (p : List ℕ → Bool) (ns new : List (List ℕ)) (carries : (n : List ℕ) → T (p n) → T (known? ns n) → T (known? new n)) (lower : (n : List ℕ) → T (p n) → number_of new n ≤ number_of ns n) where
  -- a right token is right again
  right_over : (t : Token) → T (name_passes p t) → T (right_token? ns t) → T (right_token? new t)
  unfolding right_token? name_passes
  right_over (statement k) h r = r
  right_over (assigned n) h r = and_both (known? new n) (not (statement_word? (less_open n))) (carries n h (and_left (known? ns n) _ r)) (and_right (known? ns n) _ r)
  right_over (operator k) h r = r
  right_over (variable n) h r = carries n h r
  right_over (constant b) h r = r
  right_over (string b) h r = r
  right_over (raw b) h r = r
  right_over out_of_range h r = r
  right_over unreadable h r = r

  -- and so are all
  all_right_over : (ts : List Token) → T (every (name_passes p) ts) → T (every (right_token? ns) ts) → T (every (right_token? new) ts)
  unfolding every
  all_right_over [] h r = tt
  all_right_over (t ∷ ts) h r =
      and_both (right_token? new t) (every (right_token? new) ts) (right_over t (and_left (name_passes p t) (every (name_passes p) ts) h) (and_left (right_token? ns t) (every (right_token? ns) ts) r))
      (all_right_over ts (and_right (name_passes p t) (every (name_passes p) ts) h) (and_right (right_token? ns t) (every (right_token? ns) ts) r))

  -- a well-formed line whose tokens' names pass, written again
  written_again : (l : List ℕ) → WellFormed ns l → T (every (name_passes p) (line_tokens ns l)) → WellFormed new (line_bytes new (line_number l) (line_tokens ns l))
  written_again l w h =
      let same = decoded ns l w in
      record {
        number = line_number l;
        items = w.items;
        tokens = line_tokens ns l;
        lawful = subst (Lawful w.items) (sym same) w.lawful;
        bytes = refl;
        lawful_number = subst (λ (z : ℕ). T (lawful_number? z)) (sym (numbered_so ns l w)) w.lawful_number;
        right = all_right_over (line_tokens ns l) h (subst (λ (z : List Token). T (every (right_token? ns) z)) (sym same) w.right);
      }

  -- A line that can be listed, all of whose names pass, renumbered
  pub line_again : (l : List ℕ) → T (whole_line? l) → T (listable? lawful_number? ns l) → ((n : List ℕ) → T (line_uses? ns n l) → T (p n)) → Again ns new l (renumbered ns new l)
  unfolding renumbered line_uses? written_again
  line_again l w t h = go (error_line? l) refl (listable_says ns l t)
    where
      again : error_line? l ≡ false → WellFormed ns l → Again ns new l (line_bytes new (line_number l) (line_tokens ns l))
      again e f =
          let used : T (every (name_passes p) (line_tokens ns l)) = names_used p (line_tokens ns l) (λ n u. h n (rw e u)) in
          let m : List ℕ = line_bytes new (line_number l) (line_tokens ns l) in
          let v : WellFormed new m = written_again l f used in
          formed_again ns new l m f v (decoded new m v) (numbered_so new m v)
          (subst (λ (b : Bool). length (pick b l m) ≤ length l) e (again_shorter p ns new lower l (λ x. bytes_again ns l f) h))

      go : (b : Bool) → error_line? l ≡ b → Listable lawful_number? ns l → Again ns new l (pick b l (line_bytes new (line_number l) (line_tokens ns l)))
      go true e (inl f) = absurd (subst T (never_both ns l f) (as_T (error_line? l) e))
      go true e (inr x) = error_again ns new l w x.0 e
      go false e f = again e (formed_else ns l e f)
