-- What a reader of a statement's rest says: another statement follows, the line ends, or a refusal.
use Rattle.std.specs.Prelude.{ℕ, ◌≤◌, ◌≡◌, true, false, List, [], ◌∷◌, Result, Ok, Err}
use Rattle.paper.specs.Items.{Item}
use Rattle.paper.specs.Machine.{Taken, left, bad, read}
use Rattle.paper.specs.MachineLaws.{all_taken}
use Rattle.paper.specs.Frames.{want_statement}
use Rattle.paper.specs.Grammar.{Gives, look_in_range}
use Rattle.paper.specs.WellFormed.{tokens_of}
use Rattle.enter_item.specs.Draft.{still}
use Rattle.enter_item.specs.Says.{Env, Mem, Asks, Wrote, items_at}
use Rattle.enter_item.specs.declared.Spot.{Spot}
use Rattle.enter_statement.specs.declared.Ended.{Ended}
use Rattle.enter_statement.specs.declared.Ended.TheVariants.{More, Last}
use Rattle.refusals.specs.Numbers.{number_of}
use Rattle.refusals.specs.declared.RefusedAt.{RefusedAt}

-- the frames fs read the items `is`, and a statement is to follow
pub record Goes (fs : List ℕ) (is : List Item) (E : Env) (q : Spot) (m : Mem) (q' : Spot) (m' : Mem) : Type 0 where
  pub ts : List (Taken Gives Item)
  pub ran : read look_in_range fs is ≡ all_taken ts (read look_in_range (want_statement ∷ []) (items_at E true q'.at))
  pub wrote : Wrote E q m (tokens_of ts) q' m'
  pub asks : Asks E q' m'
  pub ahead : q.at ≤ q'.at
  pub plain : still (tokens_of ts) ≡ true

-- the frames fs read the items `is`, and the line ends
pub record Closes (fs : List ℕ) (is : List Item) (E : Env) (q : Spot) (m : Mem) (q' : Spot) (m' : Mem) : Type 0 where
  pub ts : List (Taken Gives Item)
  pub ran : read look_in_range fs is ≡ left ts []
  pub wrote : Wrote E q m (tokens_of ts) q' m'
  pub few : q'.written ≤ 900
  pub named : q'.named ≤ 240
  pub plain : still (tokens_of ts) ≡ true

-- the frames fs refuse one of the items `is` with the number k at the place p
pub record Halts (fs : List ℕ) (is : List Item) (k p : ℕ) : Type 0 where
  pub ts : List (Taken Gives Item)
  pub item : Item
  pub rest : List Item
  pub ran : read look_in_range fs is ≡ bad k ts (item ∷ rest)
  pub place : p ≡ item.place

-- what a reader of the frames fs, which end a statement, says of the items `is`
pub record Reads (fs : List ℕ) (is : List Item) (E : Env) (q : Spot) (m m' : Mem) (r : Result Ended RefusedAt) : Type 0 where
  pub more : (q' : Spot) → r ≡ Ok (More q') → Goes fs is E q m q' m'
  pub last : (q' : Spot) → r ≡ Ok (Last q') → Closes fs is E q m q' m'
  pub stop : (e : RefusedAt) → r ≡ Err e → Halts fs is (number_of e.refusal) e.place

-- the same of the items from its place on
abbrev pub Ends : List ℕ → Env → Spot → Mem → Mem → Result Ended RefusedAt → Type 0
Ends fs E q m m' r = Reads fs (items_at E false q.at) E q m m' r
