-- How the tables of the grammar are laid out: acts, their words, the entries of rows; and when an act is what the grammar says.
use Rattle.std.specs.Prelude.{ℕ, zero, suc, ◌+◌, ◌-◌, ◌*◌, ◌/◌, ◌%◌, ◌^◌, Bool, not, ◌&&◌, List, [], ◌∷◌, ◌++◌, length, ◌==◌, nat_le, nat_lt, slice_index_or}
use Rattle.paper.specs.Bytes.{same}
use Rattle.paper.specs.Machine.{Act, take, leave, refuse}
use Rattle.paper.specs.Grammar.{Gives, itself, for_strings, as_prefix, put}

-- ---- acts

-- the act of a frame that leaves an item to the frame below
abbrev pub leaving_act : ℕ
leaving_act = 45

-- the act of a frame that refuses an item
abbrev pub refusing_act : ℕ
refusing_act = 46

-- the first act that takes an item; all from it on do
abbrev pub first_act : ℕ
first_act = 48

-- ---- entries

-- where the row of a frame that is none begins: past all entries
abbrev pub past_rows : ℕ
past_rows = 200

-- the entry where there is none: its class is no class
abbrev pub no_entry : ℕ
no_entry = 0x4e2e

-- an entry for each of some classes, written from 48 on, and what is done with them: 256 times the class, and the act
unfoldable pub laid : List ℕ → List ℕ → List ℕ
laid [] xs = []
laid (c ∷ cs) [] = []
laid (c ∷ cs) (x ∷ xs) = ((c - 48) * 256 + x) ∷ laid cs xs

-- ---- words

-- the number of what is given: 0 the item's own token, 1 the one for strings, 2 the prefix one, any other number that token
unfoldable pub code : Gives → ℕ
code itself = 0
code for_strings = 1
code as_prefix = 2
code (put k) = k

-- what an act gives, and the frames that it wants
pub record Wanting : Type 0 where
  pub gives : Gives
  pub wants : List ℕ

-- the act that gives this and wants these frames, from the top of the stack down
unfoldable pub act : Gives → List ℕ → Wanting
act g fs = record { gives = g; wants = fs }

-- bytes after a number, the last one lowest
unfoldable pub packed : ℕ → List ℕ → ℕ
packed n [] = n
packed n (f ∷ fs) = packed (n * 256 + f) fs

-- the word of an act: the frames that it wants, a byte each, but for a ninth
unfoldable pub word : Wanting → ℕ
word a = packed 0 a.wants % 256 ^ 8

-- the rest of what it says: the ninth frame, how many there are, and what is given
unfoldable pub rest : Wanting → ℕ
rest a = packed 0 a.wants / 256 ^ 8 * 4096 + length a.wants * 64 + code a.gives

-- the lowest k bytes of a number, the lowest first
unfoldable pub digits : ℕ → ℕ → List ℕ
digits zero n = []
digits (suc k) n = n % 256 ∷ digits k (n / 256)

-- the frames of a word and a ninth one, the lowest on the stack first
abbrev pub nine : ℕ → ℕ → List ℕ
nine n f = digits 8 n ++ f ∷ []

-- the first k of some frames put on a stack, one after the other
unfoldable pub onto : ℕ → List ℕ → List ℕ → List ℕ
onto zero fs gs = gs
onto (suc k) [] gs = gs
onto (suc k) (f ∷ fs) gs = onto k fs (f ∷ gs)

-- the frames of an act by its word and the rest
abbrev pub wanted : ℕ → ℕ → List ℕ
wanted n r = onto (r / 64 % 64) (nine n (r / 4096 % 64)) []

-- ---- what the grammar says

-- a number stands for what is given
unfoldable pub gives? : Gives → ℕ → Bool
gives? itself g = g == 0
gives? for_strings g = g == 1
gives? as_prefix g = g == 2
gives? (put k) g = nat_le 3 g && g == k

-- the act x, by the words of the acts and the rests, is what the grammar says
unfoldable pub says? : List ℕ → List ℕ → ℕ → Act Gives → Bool
says? ws rs x (take e fs) =
    let n = slice_index_or ws (x - first_act) 0 in
    let r = slice_index_or rs (x - first_act) 0 in
    nat_le first_act x && (gives? e (r % 64) && (nat_le (r / 64 % 64) 9 && same (wanted n r) fs))
says? ws rs x leave = x == leaving_act
says? ws rs x (refuse k) = not (x == leaving_act) && (nat_lt x first_act && k == 4)
