-- What the readers of statements and of a whole line say.
use Rattle.std.specs.Prelude.{ℕ, ◌+◌, ◌≤◌, ◌<◌, ◌≡◌, true, false, List, [], ◌∷◌, eqb, length, drop, Result, Ok, Err}
use Rattle.std.proofs.lemmas.List.Edits.{sets}
use Rattle.paper.specs.Tokens.{Token}
use Rattle.paper.specs.Names.{name_bytes, add_names}
use Rattle.paper.specs.Bytes.{pick}
use Rattle.paper.specs.Classes.{remark}
use Rattle.paper.specs.Items.{Item, raw_at}
use Rattle.paper.specs.Machine.{Taken, left, read}
use Rattle.paper.specs.MachineLaws.{all_taken}
use Rattle.paper.specs.Frames.{want_statement}
use Rattle.paper.specs.Grammar.{Gives, look_in_range}
use Rattle.paper.specs.Line.{begins?}
use Rattle.paper.specs.WellFormed.{tokens_of}
use Rattle.laws.specs.Names.{names_added}
use Rattle.enter_item.specs.Draft.{with_offsets}
use Rattle.enter_item.specs.DraftLaws.{Starts}
use Rattle.enter_item.specs.Says.{Env, Mem, Asks, Wrote, items_at, known}
use Rattle.enter_statement.specs.Ends.{Halts}
use Rattle.enter_item.specs.declared.Spot.{Spot}
use Rattle.enter_statement.specs.declared.Ended.{Ended}
use Rattle.enter_statement.specs.declared.Ended.TheVariants.{More, Last}
use Rattle.refusals.specs.Numbers.{number_of}
use Rattle.refusals.specs.declared.RefusedAt.{RefusedAt}

-- whole statements were written, each with its offset
pub record Lined (E : Env) (q : Spot) (m : Mem) (us : List Token) (q' : Spot) (m' : Mem) : Type 0 where
  pub line : m'.line ≡ sets m.line q.written (with_offsets (known E q m) q.written us)
  pub count : q'.written ≡ q.written + length (with_offsets (known E q m) q.written us)
  pub fresh : m'.fresh ≡ sets m.fresh q.named (name_bytes (names_added (known E q m) us))
  pub added : q'.named ≡ q.named + length (name_bytes (names_added (known E q m) us))
  pub knows : known E q' m' ≡ add_names (known E q m) us

-- a statement's first token was written, after a 0 for its offset, and what follows it stands at e
pub record Began (E : Env) (q : Spot) (m : Mem) (t : Token) (e : ℕ) (q' : Spot) (m' : Mem) : Type 0 where
  pub wrote : Wrote E q m (t ∷ []) q' m'
  pub begins : begins? t ≡ true
  pub asks : Asks E q' m'
  pub stands : q'.at ≡ e

-- statements were read, and another is to follow
pub record Follows (E : Env) (q : Spot) (m : Mem) (q' : Spot) (m' : Mem) : Type 0 where
  pub ts : List (Taken Gives Item)
  pub ran : read look_in_range (want_statement ∷ []) (items_at E true q.at) ≡ all_taken ts (read look_in_range (want_statement ∷ []) (items_at E true q'.at))
  pub starts : Starts (tokens_of ts)
  pub lined : Lined E q m (tokens_of ts) q' m'
  pub asks : Asks E q' m'
  pub ahead : q.at < q'.at

-- statements were read, and the line ends
pub record Finishes (E : Env) (q : Spot) (m : Mem) (q' : Spot) (m' : Mem) : Type 0 where
  pub ts : List (Taken Gives Item)
  pub ran : read look_in_range (want_statement ∷ []) (items_at E true q.at) ≡ left ts []
  pub starts : Starts (tokens_of ts)
  pub lined : Lined E q m (tokens_of ts) q' m'
  pub few : q'.written ≤ 900
  pub named : q'.named ≤ 240

-- what the reader of a statement says
pub record States (E : Env) (q : Spot) (m m' : Mem) (r : Result Ended RefusedAt) : Type 0 where
  pub more : (q' : Spot) → r ≡ Ok (More q') → Follows E q m q' m'
  pub last : (q' : Spot) → r ≡ Ok (Last q') → Finishes E q m q' m'
  pub stop : (x : RefusedAt) → r ≡ Err x → Halts (want_statement ∷ []) (items_at E true q.at) (number_of x.refusal) x.place

-- what the reader of all statements says
pub record Tells (E : Env) (q : Spot) (m m' : Mem) (r : Result Spot RefusedAt) : Type 0 where
  pub done : (q' : Spot) → r ≡ Ok q' → Finishes E q m q' m'
  pub stop : (x : RefusedAt) → r ≡ Err x → Halts (want_statement ∷ []) (items_at E true q.at) (number_of x.refusal) x.place

-- the items after the first one of a statement, from a place on: raw text after REM and DATA
unfoldable pub rest_items : Env → ℕ → ℕ → List Item
rest_items E c at = pick (eqb c remark) (raw_at (E.from + at) (drop at E.text)) (items_at E false at)
