-- Quoted strings as they are read: closed, left open, and with a 9B in them.
use Rattle.std.specs.Prelude.{ℕ, suc, ◌≡◌, refl, Bool, false, List, [], ◌∷◌, ◌++◌, length, take, get_or}
use Rattle.std.proofs.Common.{arith, ap, ◌∙◌, append_assoc, length-append}
use Rattle.std.proofs.Math.Seq.{take-append_seam}
use Rattle.paper.specs.Bytes.{digit?, letter?, run}
use Rattle.paper.specs.Tokens.{string, unreadable}
use Rattle.paper.specs.Items.{item, item_at, string_at, string_byte?}
use Rattle.laws.specs.Runs.{All, run_all, seam}

-- a run that nothing ends goes to the list's end
pub run_whole : (q : ℕ → Bool) (b : List ℕ) → All q b → run q b ≡ length b
unfolding run
run_whole q [] a = refl
run_whole q (x ∷ b) a = rw a.0 (ap suc (run_whole q b a.1))

-- all bytes of a list
pub take_whole : (b : List ℕ) → take (length b) b ≡ b
take_whole [] = refl
take_whole (x ∷ b) = ap (λ (l : List ℕ). x ∷ l) (take_whole b)

-- no byte stands at a list's end
past_end : (b : List ℕ) → get_or b (length b) 0 ≡ 0
past_end [] = refl
past_end (x ∷ b) = past_end b

-- a string that a quote closes ends past it
pub closed_string : (first : Bool) (p : ℕ) (t rest : List ℕ) → All string_byte? t → item_at first p (34 ∷ (t ++ 34 ∷ []) ++ rest) ≡ item p (length (34 ∷ t ++ 34 ∷ [])) (string t)
unfolding item_at string_at letter? digit? string_byte?
closed_string first p t rest a =
    let l : length (t ++ 34 ∷ []) ≡ suc (length t) = length-append t (34 ∷ []) ∙ omega arith in
    rw (append_assoc t (34 ∷ []) rest, run_all string_byte? t (34 ∷ rest) a refl, seam t (34 ∷ rest), take-append_seam t (34 ∷ rest), l)

-- a string that no quote closes runs to the text's end
pub open_string : (first : Bool) (p : ℕ) (t : List ℕ) → All string_byte? t → item_at first p (34 ∷ t) ≡ item p (length (34 ∷ t)) (string t)
unfolding item_at string_at letter? digit?
open_string first p t a = rw (run_whole string_byte? t a, past_end t, take_whole t)

mark_ends : string_byte? 0x9b ≡ false
unfolding string_byte?
mark_ends = refl

-- with a 9B in it, closed or not, it is no item, and ends there
pub marked_string : (first : Bool) (p : ℕ) (t rest : List ℕ) → All string_byte? t → item_at first p (34 ∷ t ++ 0x9b ∷ rest) ≡ item p (length (34 ∷ t)) unreadable
unfolding item_at string_at letter? digit?
marked_string first p t rest a = rw (run_all string_byte? t (0x9b ∷ rest) a mark_ends, seam t (0x9b ∷ rest))
