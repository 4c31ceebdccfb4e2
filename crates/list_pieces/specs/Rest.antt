-- What is left of a well-formed line, at any token of it: the stack takes the tokens that stand there, each token's own bytes stand
-- there, and the statement ends where its offset says.
use Rattle.std.specs.Prelude.{ℕ, ◌+◌, ◌≤◌, ◌<◌, ◌≡◌, Bool, List, [], ◌∷◌, T, length, take, drop, get_or}
use Rattle.paper.specs.Bytes.{every}
use Rattle.paper.specs.Tokens.{Token, class, as_read}
use Rattle.paper.specs.Names.{names_in, number_of, sound_table}
use Rattle.paper.specs.Machine.{Step, took, over, refused, step}
use Rattle.paper.specs.Grammar.{Gives, given, look, start}
use Rattle.paper.specs.Line.{line_number, to_next, token_bytes, tokens_from}
use Rattle.paper.specs.WellFormed.{right_token?}

-- a step that takes a token gives that token again, and what is wanted then takes the rest
unfoldable pub After : Step Gives → Token → (List ℕ → Type 0) → Type 0
After (took e gs) t rest = (given e (as_read t) ≡ t) × rest gs
After over t rest = ⊥
After (refused k) t rest = ⊥

-- a stack takes all of these tokens, as they are read; each gives itself again; and then nothing is wanted
unfoldable pub Takes : List ℕ → List Token → Type 0
Takes [] [] = Unit {0}
Takes (f ∷ fs) [] = ⊥
Takes fs (t ∷ ts) = After (step look fs (class (as_read t))) t (λ gs. Takes gs ts)

-- right tokens whose bytes from offset p on are s, in a statement that ends at `end`
pub record Written (ns : List (List ℕ)) (p end : ℕ) (s : List ℕ) (ts : List Token) : Type 0 where
  pub right : T (every (right_token? ns) ts)
  pub bytes : token_bytes ns p ts ≡ s
  pub next : p + to_next ns ts ≡ end

-- the bytes s, from offset p on, are the rest of a well-formed line: the frames fs are wanted, and the present statement ends at `end`
pub record Rest (ns : List (List ℕ)) (fs : List ℕ) (p end : ℕ) (s : List ℕ) : Type 0 where
  pub taken : Takes fs (tokens_from ns 0 p end s)
  pub written : Written ns p end s (tokens_from ns 0 p end s)

-- a formed line: a number that passes a test, its own length, and the rest of a well-formed line from its first statement on
pub record Whole (lawful? : ℕ → Bool) (ns : List (List ℕ)) (l : List ℕ) : Type 0 where
  pub lawful : T (lawful? (line_number l))
  pub sized : get_or l 2 0 ≡ length l
  pub body : Rest ns start 3 3 (drop 3 l)

-- the head of a line: its own length, and a number that passes a test
pub record Head (lawful? : ℕ → Bool) (l : List ℕ) : Type 0 where
  pub long : 3 ≤ length l
  pub sized : get_or l 2 0 ≡ length l
  pub lawful : T (lawful? (line_number l))

-- each name of the table is found at its own number
abbrev pub Numbered : List (List ℕ) → Type 0
Numbered ns = (i : ℕ) → i < length ns → number_of ns (get_or ns i []) ≡ i

-- a sound name table of so many bytes
abbrev pub Sound : List ℕ → ℕ → Type 0
Sound names size = T (sound_table names size (length (names_in (take size names))))
