-- A variable's token that is written is read, and one that is read is the one that is written.
use Rattle.std.specs.Prelude.{ℕ, suc, ◌≤◌, ◌<◌, ◌≡◌, refl, Bool, true, false, ◌||◌, List, [], ◌∷◌, ◌++◌, eqb, leb, length, drop, get_or}
use Rattle.std.proofs.Common.{arith, sym, ap, ap₂, ◌∙◌, leb-false}
use Rattle.paper.specs.Bytes.{pick}
use Rattle.paper.specs.Names.{number_of}
use Rattle.paper.specs.Line.{number_bytes, variable_bytes, variable_byte?, variable_size, variable_number}
use Rattle.laws.specs.Variables.{variable_token, number_some, token_again}
use Rattle.list_pieces.specs.declared.VariableToken.{VariableToken}
use Rattle.list_pieces.specs.Variables.{variable_at}

-- a variable's bytes are not none
pub bytes_some : (ns : List (List ℕ)) (n : List ℕ) → 1 ≤ length (variable_bytes ns n)
unfolding variable_bytes
bytes_some ns n = (number_some (number_of ns n)).0

-- where no token is read stands a byte below 128
none_go : (b : ℕ) (s : List ℕ) (x y : Bool) → leb 0x80 b ≡ x → ◌≡◌ {A = ℕ} (pick (x || y) (pick y 2 1) 0) 0 → b < 128
none_go b s true true e n = absurd (omega arith)
none_go b s true false e n = absurd (omega arith)
none_go b s false true e n = absurd (omega arith)
none_go b s false false e n = leb-false 0x80 b e

pub none_low : (s : List ℕ) → (variable_at s).size ≡ 0 → get_or s 0 0 < 128
unfolding variable_at variable_byte? variable_size
none_low s n = none_go (get_or s 0 0) s (leb 0x80 (get_or s 0 0)) (eqb (get_or s 0 0) 0) refl n

-- a token that is written is read: the name's number, and all its bytes
pub written_read : (ns : List (List ℕ)) (n r s : List ℕ) → variable_bytes ns n ++ r ≡ s → variable_at s ≡ record { number = number_of ns n; size = length (variable_bytes ns n) }
unfolding variable_bytes variable_at
written_read ns n r s e =
    let t = variable_token (number_of ns n) in
    ap variable_at (sym e) ∙ rw (t.is, t.begins, t.size r, t.number r)

-- a token that is read is as long as its form says
pub read_size : (s : List ℕ) → ((variable_at s).size ≡ 0 → ⊥) → (variable_byte? (get_or s 0 0) ≡ true) × ((variable_at s).size ≡ variable_size s)
unfolding variable_at
read_size s n = go (variable_byte? (get_or s 0 0)) refl n
  where
    go : (x : Bool) → variable_byte? (get_or s 0 0) ≡ x → (pick x (variable_size s) 0 ≡ 0 → ⊥) → (variable_byte? (get_or s 0 0) ≡ true) × (pick x (variable_size s) 0 ≡ variable_size s)
    go true e n = (e, refl)
    go false e n = absurd (n refl)

-- and, where it has the form of its number and stands there whole, what is written for a name with that number
pub read_written : (ns : List (List ℕ)) (n s : List ℕ) → let v = variable_at s in (v.size ≡ 0 → ⊥) → number_of ns n ≡ v.number → length (number_bytes v.number) ≡ v.size → v.size ≤ length s
    → (length (variable_bytes ns n) ≡ v.size) × (variable_bytes ns n ++ drop (length (variable_bytes ns n)) s ≡ s)
unfolding variable_bytes variable_at
read_written ns n s h e f l =
    let r = read_size s h in
    let k : number_bytes (number_of ns n) ≡ number_bytes (variable_number s) = ap number_bytes e in
    let m : length (number_bytes (number_of ns n)) ≡ variable_size s = ap length k ∙ f ∙ r.1 in (
      ap length k ∙ f,
      ap₂ (λ (x : List ℕ) (y : ℕ). x ++ drop y s) k m ∙ token_again s r.0 (f ∙ r.1) (omega (arith, r.1)),
    )
