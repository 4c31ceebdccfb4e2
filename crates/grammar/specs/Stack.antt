-- The stack of frames in a buffer, and what it does with an item.
use Rattle.std.specs.Prelude.{◌≡◌, ℕ, zero, suc, ◌+◌, ◌≤◌, List, [], ◌∷◌, ◌++◌, ◌==◌, ◌≢◌, slice_index, Option, Some, None}
use Rattle.paper.specs.Bytes.{pick}
use Rattle.paper.specs.Machine.{take, leave, refuse, took, step}
use Rattle.paper.specs.Grammar.{Gives, itself, for_strings, as_prefix, put, look}
use Rattle.grammar.specs.declared.Act.{Act}
use Rattle.grammar.specs.declared.Act.TheVariants as Act'
use Rattle.grammar.specs.declared.Taken.{Taken}

-- the first d frames of a buffer as a stack, the last one on top
unfoldable pub stack : List ℕ → ℕ → List ℕ
stack l zero = []
stack l (suc d) = slice_index l d ∷ stack l d

-- what a number says is given: 0 the item's own token, 1 the one for strings, 2 the prefix one, any other number that token
unfoldable pub gives_of : ℕ → Gives
gives_of g = pick (g == 0) itself (pick (g == 1) for_strings (pick (g == 2) as_prefix (put g)))

-- a frame at a place takes an item of a class, gives g, and has the frames that it wants in its own place, d frames in all
pub record TakesAt (old : List ℕ) (at c g d : ℕ) (new : List ℕ) : Type 0 where
  pub wants : List ℕ
  pub acts : look (slice_index old at) c ≡ take (gives_of g) wants
  pub stacked : stack new d ≡ wants ++ stack old at
  pub few : d ≤ at + 9

-- what the frame at a place of a buffer does with an item of a class
pub record Acts (old : List ℕ) (at c : ℕ) (r : Act) (new : List ℕ) : Type 0 where
  pub takes : (t : Taken) → r ≡ Act'.Took t → TakesAt old at c t.gives t.depth new
  pub leaves : r ≡ Act'.Left → (look (slice_index old at) c ≡ leave) × (new ≡ old)
  pub refuses : r ≡ Act'.Refused → look (slice_index old at) c ≡ refuse 4

-- what a stack in a buffer does with an item of a class: takes it, gives g, and has then d frames; or does not take it
pub record Steps (old : List ℕ) (depth c : ℕ) (r : Option Taken) (new : List ℕ) : Type 0 where
  pub takes : (t : Taken) → r ≡ Some t → (step look (stack old depth) c ≡ took (gives_of t.gives) (stack new t.depth)) × (t.depth ≤ depth + 8)
  pub refuses : r ≡ None → (e : Gives) (gs : List ℕ) → step look (stack old depth) c ≢ took e gs
