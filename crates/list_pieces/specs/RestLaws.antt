-- What is left of a line: at a piece, and after it.
use Rattle.std.specs.Prelude.{ℕ, ◌+◌, ◌≤◌, ◌<◌, ◌≡◌, refl, List, [], ◌∷◌, ◌++◌, length, drop}
use Rattle.std.proofs.Common.{arith, sym}
use Rattle.std.proofs.Math.Path.{subst}
use Rattle.paper.specs.Tokens.{Token, class, as_read}
use Rattle.paper.specs.Machine.{Step, took, over, refused, step}
use Rattle.paper.specs.Grammar.{Gives, given, look}
use Rattle.paper.specs.Line.{tokens_from}
use Rattle.list_pieces.specs.declared.Piece.{Piece}
use Rattle.list_pieces.specs.declared.Piece.TheVariants.{Word, Text, Target, NoTarget, Variable, Constant, Quoted, Operator}
use Rattle.list_pieces.specs.Pieces.{piece_at, tokens_of_piece, size_of, end_after, Holds}
use Rattle.list_pieces.specs.Rest.{Numbered, After, Takes, Written, Rest}
use Rattle.list_pieces.specs.Decoded.{pieces}
use Rattle.list_pieces.specs.PieceLaws.{Is, piece_is, Left, less_word, less_text, less_target, less_none, less_variable, less_constant, less_quoted, less_operator, Later, more_word, more_text, more_target, more_variable, more_constant, more_quoted, more_operator}

-- ---- one token

-- a stack that does not take an item
abbrev pub Untaken : List ℕ → ℕ → Type 0
Untaken fs c = (e : Gives) (gs : List ℕ) → step look fs c ≡ took e gs → ⊥

pub taken : (fs gs : List ℕ) (e : Gives) (t : Token) (ts : List Token) → step look fs (class (as_read t)) ≡ took e gs → Takes fs (t ∷ ts) → (given e (as_read t) ≡ t) × Takes gs ts
unfolding Takes After
taken [] gs e t ts h a = subst (λ x. After x t (λ gs. Takes gs ts)) h a
taken (f ∷ fs) gs e t ts h a = subst (λ x. After x t (λ gs. Takes gs ts)) h a

pub takes : (fs gs : List ℕ) (e : Gives) (t : Token) (ts : List Token) → step look fs (class (as_read t)) ≡ took e gs → given e (as_read t) ≡ t → Takes gs ts → Takes fs (t ∷ ts)
unfolding Takes After
takes [] gs e t ts h g a = subst (λ x. After x t (λ gs. Takes gs ts)) (sym h) (g, a)
takes (f ∷ fs) gs e t ts h g a = subst (λ x. After x t (λ gs. Takes gs ts)) (sym h) (g, a)

untaken_go : (x : Step Gives) (t : Token) (ts : List Token) → ((e : Gives) (gs : List ℕ) → x ≡ took e gs → ⊥) → After x t (λ gs. Takes gs ts) → ⊥
unfolding After
untaken_go (took e gs) t ts n a = n e gs refl
untaken_go over t ts n a = a
untaken_go (refused k) t ts n a = a

pub untaken : (fs : List ℕ) (t : Token) (ts : List Token) → Untaken fs (class (as_read t)) → Takes fs (t ∷ ts) → ⊥
unfolding Takes
untaken [] t ts n a = untaken_go (step look [] (class (as_read t))) t ts n a
untaken (f ∷ fs) t ts n a = untaken_go (step look (f ∷ fs) (class (as_read t))) t ts n a

-- ---- a piece

-- the tokens after a piece at the front of u
abbrev pub later : List (List ℕ) → ℕ → ℕ → List ℕ → Piece → List Token
later ns p end u c = tokens_from ns 0 (p + size_of c) (end_after end u c) (drop (size_of c) u)

-- the tokens of a piece and those after it
abbrev pub all : List (List ℕ) → ℕ → ℕ → List ℕ → Piece → List Token
all ns p end u c = tokens_of_piece ns u c ++ later ns p end u c

-- at a piece: what is right about it, what is written after it, and what the stack takes
pub record Here (ns : List (List ℕ)) (p end : ℕ) (u fs : List ℕ) (c : Piece) : Type 0 where
  pub holds : Holds ns u c
  pub long : size_of c ≤ length u
  pub written : Written ns (p + size_of c) (end_after end u c) (drop (size_of c) u) (later ns p end u c)
  pub taken : Takes fs (all ns p end u c)

module _ (ns : List (List ℕ)) (p end b : ℕ) (s : List ℕ) where
  abbrev next : Piece → List Token
  next c = later ns p end (b ∷ s) c

  less : (c : Piece) → Is p end (b ∷ s) c → Written ns p end (b ∷ s) (all ns p end (b ∷ s) c) → Left ns p end b s (next c) c
  unfolding tokens_of_piece
  less (Word t) i w = less_word ns p end b s _ t w
  less (Text t n) i w = (less_text ns p end b s _ t n 0x9b i w).1
  less (Target v) i w = less_target ns p end b s _ v i w
  less NoTarget i w = absurd (less_none ns p end b s _ i _ w)
  less (Variable v) i w = less_variable ns p end b s _ v i w
  less Constant i w = less_constant ns p end b s _ w
  less (Quoted n) i w = less_quoted ns p end b s _ n i w
  less (Operator t) i w = subst (λ (z : ℕ). Written ns p end (b ∷ s) (all ns p end (b ∷ s) (Operator z)) → Left ns p end b s (next (Operator z)) (Operator z)) (sym i.0) (λ v. (less_operator ns p end b s _ b v).1) w

  more : (d : Numbered ns) (c : Piece) → Is p end (b ∷ s) c → Holds ns (b ∷ s) c → Later ns d p end b s (next c) c → Written ns p end (b ∷ s) (all ns p end (b ∷ s) c)
  unfolding tokens_of_piece
  more d (Word t) i h w = more_word ns d p end b s _ t i h w
  more d (Text t n) i h w = more_text ns d p end b s _ t n i h w
  more d (Target v) i h w = more_target ns d p end b s _ v i h w
  more d NoTarget i h w = absurd h
  more d (Variable v) i h w = more_variable ns d p end b s _ v i h w
  more d Constant i h w = more_constant ns d p end b s _ i h w
  more d (Quoted n) i h w = more_quoted ns d p end b s _ n i h w
  more d (Operator t) i h w = subst (λ (z : ℕ). Later ns d p end b s (next (Operator z)) (Operator z) → Written ns p end (b ∷ s) (all ns p end (b ∷ s) (Operator z))) (sym i.0) (λ v. more_operator ns d p end b s _ v) w

  cons_here : (fs : List ℕ) → Rest ns fs p end (b ∷ s) → Here ns p end (b ∷ s) fs (piece_at p end (b ∷ s))
  cons_here fs r =
      let c : Piece = piece_at p end (b ∷ s) in
      let e = pieces ns p end b s in
      let l = less c (piece_is p end (b ∷ s)) (subst (Written ns p end (b ∷ s)) e r.written) in
      record { holds = l.0; long = l.1; written = l.2; taken = subst (Takes fs) e r.taken }

  cons_rest : (fs : List ℕ) → Numbered ns → Here ns p end (b ∷ s) fs (piece_at p end (b ∷ s)) → Rest ns fs p end (b ∷ s)
  cons_rest fs d h =
      let c : Piece = piece_at p end (b ∷ s) in
      let e = pieces ns p end b s in
      record {
        taken = subst (Takes fs) (sym e) h.taken;
        written = subst (Written ns p end (b ∷ s)) (sym e) (more d c (piece_is p end (b ∷ s)) h.holds h.written);
      }

-- what is left of a line is a piece, and what is left after it
pub rest_here : (ns : List (List ℕ)) (p end : ℕ) (u fs : List ℕ) (c : Piece) → 0 < length u → piece_at p end u ≡ c → Rest ns fs p end u → Here ns p end u fs c
rest_here ns p end [] fs c h e r = absurd (omega arith)
rest_here ns p end (b ∷ s) fs c h e r = subst (Here ns p end (b ∷ s) fs) e (cons_here ns p end b s fs r)

pub here_rest : (ns : List (List ℕ)) (p end : ℕ) (u fs : List ℕ) (c : Piece) → Numbered ns → 0 < length u → piece_at p end u ≡ c → Here ns p end u fs c → Rest ns fs p end u
here_rest ns p end [] fs c d h e r = absurd (omega arith)
here_rest ns p end (b ∷ s) fs c d h e r = cons_rest ns p end b s fs d (subst (Here ns p end (b ∷ s) fs) (sym e) r)

cons_written : (ns : List (List ℕ)) (p end b : ℕ) (s : List ℕ) → Written ns p end (b ∷ s) (tokens_from ns 0 p end (b ∷ s)) → Left ns p end b s (later ns p end (b ∷ s) (piece_at p end (b ∷ s))) (piece_at p end (b ∷ s))
cons_written ns p end b s w = less ns p end b s (piece_at p end (b ∷ s)) (piece_is p end (b ∷ s)) (subst (Written ns p end (b ∷ s)) (pieces ns p end b s) w)

-- the same for what is written alone
pub written_here : (ns : List (List ℕ)) (p end : ℕ) (u : List ℕ) (c : Piece) → 0 < length u → piece_at p end u ≡ c → Written ns p end u (tokens_from ns 0 p end u)
    → Holds ns u c × (size_of c ≤ length u) × Written ns (p + size_of c) (end_after end u c) (drop (size_of c) u) (later ns p end u c)
written_here ns p end [] c h e w = absurd (omega arith)
written_here ns p end (b ∷ s) c h e w = subst (λ (z : Piece). Holds ns (b ∷ s) z × (size_of z ≤ length (b ∷ s)) × Written ns (p + size_of z) (end_after end (b ∷ s) z) (drop (size_of z) (b ∷ s)) (later ns p end (b ∷ s) z)) e (cons_written ns p end b s w)
