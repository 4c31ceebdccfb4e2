-- The frames of a word, written on a stack.
use Rattle.std.proofs.Common.{◌≡◌, ℕ, zero, suc, ◌+◌, ◌/◌, ◌%◌, ◌^◌, ◌<◌, ◌≤◌, List, [], ◌∷◌, ◌++◌, length, set, sym, refl, ap, ◌∙◌, ap₂, arith, length-set, get_or-set_other, get_or-set_same}
use lib.Seq.{sets}
use native.Mathlib.Numerals.{unary_clauses}
use borrow.Rule.Slice.PartMut.{put_mid}
use Rattle.std.specs.Int.{w64, to_le_bytes, byte_at, bytes_low_first}
use Rattle.std.proofs.Math.Nat.{div-one, div-div-eq-div-mul}
use Rattle.buffers.specs.Sets.{put_next}
use Rattle.buffers.proofs.Room.{put_over}
use Rattle.grammar.specs.Stack.{stack}
use Rattle.grammar.specs.Tables.{digits, nine, onto}

-- on a stack: the frames, and below them those of the stack
pub onto_stack : (k : ℕ) (xs fs gs : List ℕ) → onto k xs (fs ++ gs) ≡ onto k xs fs ++ gs
unfolding onto
onto_stack zero xs fs gs = refl
onto_stack (suc k) [] fs gs = refl
onto_stack (suc k) (x ∷ xs) fs gs = onto_stack k xs (x ∷ fs) gs

stack_below : (l : List ℕ) (at x d : ℕ) → d ≤ at → stack (set l at x) d ≡ stack l d
unfolding stack
stack_below l at x zero h = refl
stack_below l at x (suc d) h = ap₂ (λ (y : ℕ) (ys : List ℕ). y ∷ ys) (get_or-set_other l at d x 0 (λ e. omega arith)) (stack_below l at x d (omega arith))

-- a frame written at the depth of a stack is on top of it
pub stack_put : (l : List ℕ) (d x : ℕ) → d < length l → stack (set l d x) (d + 1) ≡ x ∷ stack l d
unfolding stack
stack_put l d x h =
    let e : d + 1 ≡ suc d = omega arith in
    ap (stack (set l d x)) e ∙ ap₂ (λ (y : ℕ) (ys : List ℕ). y ∷ ys) (get_or-set_same l d x 0 h) (stack_below l d x d (omega arith))

-- what is written above a stack leaves it
sets_above : (xs l : List ℕ) (at d : ℕ) → d ≤ at → stack (sets l at xs) d ≡ stack l d
sets_above [] l at d h = refl
sets_above (x ∷ xs) l at d h = sets_above xs (set l at x) (suc at) d (omega arith) ∙ stack_below l at x d h

-- frames written from the depth of a stack on, of which the first k count
pub stack_sets : (xs l : List ℕ) (at k : ℕ) → k ≤ length xs → at + length xs ≤ length l → stack (sets l at xs) (at + k) ≡ onto k xs (stack l at)
unfolding onto
stack_sets xs l at zero h r = let e : at + 0 ≡ at = omega arith in ap (stack (sets l at xs)) e ∙ sets_above xs l at at (omega arith)
stack_sets [] l at (suc k) h r = absurd (omega arith)
stack_sets (x ∷ xs) l at (suc k) h r =
    let e : at + suc k ≡ suc at + k = omega arith in
    let f : suc at ≡ at + 1 = omega arith in
    ap (stack (sets (set l at x) (suc at) xs)) e
    ∙ stack_sets xs (set l at x) (suc at) k (omega arith) (omega (arith, length-set l at x))
    ∙ ap (onto k xs) (ap (stack (set l at x)) f ∙ stack_put l at x (omega arith))

-- they are nine
pub nine_long : (n f : ℕ) → length (nine n f) ≡ 9
unfolding digits
nine_long n f = refl

-- ---- nine bytes, eight of them a word's

byte_is : (i n : ℕ) → byte_at i n ≡ n / 256 ^ i % 256
byte_is zero n = ap (λ (m : ℕ). m % 256) (sym (div-one n))
byte_is (suc i) n = refl

bytes_from : (k i n m : ℕ) → m ≡ n / 256 ^ i → bytes_low_first i k n ≡ digits k m
unfolding digits
bytes_from zero i n m e = refl
bytes_from (suc k) i n m e =
    let next : m / 256 ≡ n / 256 ^ suc i = simp unary_clauses (ap (λ (x : ℕ). x / 256) e ∙ div-div-eq-div-mul n (256 ^ i) 256) in
    ap₂ (λ (x : ℕ) (xs : List ℕ). x ∷ xs) (byte_is i n ∙ ap (λ (x : ℕ). x % 256) (sym e)) (bytes_from k (suc i) n (m / 256) next)

-- a word's bytes as a number, and a ninth, written one after the other
pub nine_put : {t u bs ys : List ℕ} {k : ℕ} (s : List ℕ) (at n f : ℕ) → bs ≡ to_le_bytes w64 n → ys ≡ bs → k ≡ 8 → at + 9 ≤ length s → t ≡ put_mid at k s ys → u ≡ set t (at + 8) f → u ≡ sets s at (nine n f)
nine_put {t} {u} {bs} {ys} {k} s at n f b y z h p q =
    let eight : ys ≡ digits 8 n = y ∙ b ∙ bytes_from 8 0 n n (sym (div-one n)) in
    let long : length ys ≡ 8 = ap length (y ∙ b) in
    let put : t ≡ sets s at (digits 8 n) = p ∙ put_over s ys at k (z ∙ sym long) (omega arith) ∙ ap (sets s at) eight in
    let after : at + 8 ≡ at + length (digits 8 n) = ap (λ (j : ℕ). at + j) (sym (ap length (sym eight) ∙ long)) in
    put_next s t u at f (digits 8 n) put (q ∙ ap (λ (j : ℕ). set t j f) after)
