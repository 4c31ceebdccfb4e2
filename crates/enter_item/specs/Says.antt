-- What a reader asks and what it says: the run of its frames over the items from its place on, what it wrote, and where it stands then.
use Rattle.std.specs.Prelude.{ℕ, ◌+◌, ◌*◌, ◌-◌, ◌≤◌, ◌<◌, ◌≡◌, Bool, true, false, List, [], ◌∷◌, ◌++◌, length, take, drop, set, Result, Ok, Err}
use Rattle.std.proofs.lemmas.List.Edits.{sets}
use Rattle.paper.specs.Classes.{line_end, remark}
use Rattle.paper.specs.Tokens.{Token, class, out_of_range?}
use Rattle.paper.specs.Names.{names_in, name_bytes, number_of, add_names}
use Rattle.paper.specs.Items.{Item, opens, scan, raw_at}
use Rattle.paper.specs.Machine.{Taken, done, bad, read}
use Rattle.paper.specs.Grammar.{Gives, itself, given, look_in_range}
use Rattle.paper.specs.Line.{variable_bytes, begins?}
use Rattle.paper.specs.WellFormed.{tokens_of}
use Rattle.laws.specs.Names.{names_added, closed?}
use Rattle.enter_item.specs.Draft.{lows, draft, still}
use Rattle.refusals.specs.Numbers.{number_of as refusal_number}
use Rattle.refusals.specs.declared.Refusal.{Refusal}
use Rattle.refusals.specs.declared.RefusedAt.{RefusedAt}
use Rattle.enter_item.specs.declared.Draft.{Draft}
use Rattle.enter_item.specs.declared.Spot.{Spot}
use Rattle.enter_item.specs.declared.Text.{Text}

-- what does not change: the part of the text and where it stands in it, and the bytes of the names known before the line
pub record Env : Type 0 where
  pub text : List ℕ
  pub from : ℕ
  pub names : List ℕ

abbrev pub env : List ℕ → ℕ → List ℕ → Env
env s o n = record { text = s; from = o; names = n }

-- what the readers of a text are given
abbrev pub env_of : Text → Env
env_of t = env t.part.now t.offset t.names.now

-- what is written to: the line, and the new names
abbrev pub Mem : Type 0
Mem = Draft

abbrev pub mem : List ℕ → List ℕ → Mem
mem a b = record { line = a; fresh = b }

-- what a reader answers: where it stands after what it read; or a refusal and its place in the whole text
abbrev pub Answer : Type 0
Answer = Result Spot RefusedAt

abbrev pub refused : Refusal → ℕ → Answer
refused k p = Err (record { refusal = k; place = p })

abbrev pub spot : ℕ → ℕ → ℕ → Spot
spot a w n = record { at = a; written = w; named = n }

-- the names known where a reader stands
abbrev pub known : Env → Spot → Mem → List (List ℕ)
known E q m = names_in E.names ++ names_in (take q.named m.fresh)

-- the items from a place of the part on; `first` says: in statement position
abbrev pub items_at : Env → Bool → ℕ → List Item
items_at E first at = scan 0 first (E.from + at) (drop at E.text)

-- an item that was taken, and what its row gave
abbrev pub taken : Gives → Item → Taken Gives Item
taken e i = record { gave = e; from = i }

-- what every reader asks: a short text, room for the new names, and not more written than the text read can give
pub record Asks (E : Env) (q : Spot) (m : Mem) : Type 0 where
  pub within : q.at ≤ length E.text
  pub short : E.from + length E.text ≤ 120
  pub few : q.written ≤ 3 + 7 * (E.from + q.at)
  pub added : q.named ≤ 2 * (E.from + q.at)
  pub room : 240 ≤ length m.fresh
  pub closed : closed? (take q.named m.fresh) ≡ true

-- the item with the token t, from a to e
abbrev pub item_of : Env → Token → ℕ → ℕ → Item
item_of E t a e = record { place = E.from + a; size = e - a; token = t }

-- What stands next, from the place `at` on: an item with the token t, from a to e.
pub record Next (E : Env) (first : Bool) (at : ℕ) (t : Token) (a e : ℕ) : Type 0 where
  pub rest : List Item
  pub here : items_at E first at ≡ item_of E t a e ∷ rest
  pub on : (class t ≡ line_end → ⊥) → (class t ≡ remark → ⊥) → rest ≡ items_at E (opens (class t)) e
  pub over : class t ≡ line_end → rest ≡ []
  pub text : class t ≡ remark → rest ≡ raw_at (E.from + e) (drop e E.text)
  pub after : at ≤ a
  pub spans : a ≤ e
  pub within : e ≤ length E.text
  pub moves : (class t ≡ line_end → ⊥) → a < e

-- tokens were written to the line, and their new names to the new names
pub record Marks (E : Env) (q : Spot) (m : Mem) (us : List Token) (m' : Mem) : Type 0 where
  pub line : m'.line ≡ sets m.line q.written (draft (known E q m) us)
  pub fresh : m'.fresh ≡ sets m.fresh q.named (name_bytes (names_added (known E q m) us))

-- the same, and a reader stands after them
pub record Wrote (E : Env) (q : Spot) (m : Mem) (us : List Token) (q' : Spot) (m' : Mem) : Type 0 where
  pub marks : Marks E q m us m'
  pub count : q'.written ≡ q.written + length (draft (known E q m) us)
  pub added : q'.named ≡ q.named + length (name_bytes (names_added (known E q m) us))
  pub knows : known E q' m' ≡ add_names (known E q m) us

-- The item i was passed, and written as a row gives it. `first` says that it stood in statement position, `then` that what comes does.
pub record Passed (E : Env) (first : Bool) (q : Spot) (m : Mem) (e : Gives) (i : Item) (then : Bool) (q' : Spot) (m' : Mem) : Type 0 where
  pub here : items_at E first q.at ≡ i ∷ items_at E then q'.at
  pub wrote : Wrote E q m (given e i.token ∷ []) q' m'
  pub asks : Asks E q' m'
  pub ahead : q.at < q'.at

-- an item within a statement was passed
pub record Took (E : Env) (first : Bool) (q : Spot) (m : Mem) (e : Gives) (i : Item) (then : Bool) (q' : Spot) (m' : Mem) : Type 0 where
  pub pass : Passed E first q m e i then q' m'
  pub plain : begins? (given e i.token) ≡ false

-- the frames fs are read
pub record Got (fs : List ℕ) (E : Env) (q : Spot) (m : Mem) (q' : Spot) (m' : Mem) : Type 0 where
  pub ts : List (Taken Gives Item)
  pub ran : read look_in_range fs (items_at E false q.at) ≡ done ts (items_at E false q'.at)
  pub wrote : Wrote E q m (tokens_of ts) q' m'
  pub asks : Asks E q' m'
  pub ahead : q.at ≤ q'.at
  pub plain : still (tokens_of ts) ≡ true

-- the frames fs are refused with the number k at the place p; what was taken before is written
pub record Stop (fs : List ℕ) (E : Env) (q : Spot) (m : Mem) (k p : ℕ) (m' : Mem) : Type 0 where
  pub ts : List (Taken Gives Item)
  pub item : Item
  pub rest : List Item
  pub ran : read look_in_range fs (items_at E false q.at) ≡ bad k ts (item ∷ rest)
  pub place : p ≡ item.place
  pub marks : Marks E q m (tokens_of ts) m'

-- what a reader of the frames fs says
pub record Says (fs : List ℕ) (E : Env) (q : Spot) (m m' : Mem) (r : Answer) : Type 0 where
  pub got : (q' : Spot) → r ≡ Ok q' → Got fs E q m q' m'
  pub stop : (x : RefusedAt) → r ≡ Err x → Stop fs E q m (refusal_number x.refusal) x.place m'

-- one item of the class c is expected, and written as the operator b
pub record Hit (c b : ℕ) (E : Env) (q : Spot) (m m' : Mem) (q' : Spot) : Type 0 where
  pub t : Token
  pub a : ℕ
  pub e : ℕ
  pub next : Next E false q.at t a e
  pub class : class t ≡ c
  pub wrote : m' ≡ mem (set m.line q.written b) m.fresh
  pub stands : q' ≡ spot e (q.written + 1) q.named

-- another stands there: refusal 4 at its place, and nothing is written
pub record Miss (c : ℕ) (E : Env) (q : Spot) (m m' : Mem) (k p : ℕ) : Type 0 where
  pub t : Token
  pub a : ℕ
  pub e : ℕ
  pub next : Next E false q.at t a e
  pub class : class t ≡ c → ⊥
  pub number : k ≡ 4
  pub place : p ≡ E.from + a
  pub kept : m' ≡ m

pub record Expects (c b : ℕ) (E : Env) (q : Spot) (m m' : Mem) (r : Answer) : Type 0 where
  pub hit : (q' : Spot) → r ≡ Ok q' → Hit c b E q m m' q'
  pub miss : (x : RefusedAt) → r ≡ Err x → Miss c E q m m' (refusal_number x.refusal) x.place

-- The token of the variable with a number was written to a place of the line, and has so many bytes.
pub record VariableWritten (number : ℕ) (old : List ℕ) (at : ℕ) (new : List ℕ) (r : ℕ) : Type 0 where
  pub line : (ks : List (List ℕ)) (n : List ℕ) → number ≡ number_of ks n → new ≡ sets old at (lows (variable_bytes ks n))
  pub size : (ks : List (List ℕ)) (n : List ℕ) → number ≡ number_of ks n → r ≡ length (lows (variable_bytes ks n))
  pub few : r ≤ 2

-- a constant in range is taken
pub record Inside (E : Env) (first : Bool) (t : Token) (a e : ℕ) (q : Spot) (m : Mem) (q' : Spot) (m' : Mem) : Type 0 where
  pub near : out_of_range? t ≡ false
  pub took : Took E first q m itself (item_of E t a e) false q' m'

-- one out of range is refused with 5 at its place
pub record Outside (E : Env) (t : Token) (a : ℕ) (m : Mem) (k p : ℕ) (m' : Mem) : Type 0 where
  pub number : k ≡ 5
  pub far : out_of_range? t ≡ true
  pub place : p ≡ E.from + a
  pub kept : m' ≡ m

pub record Counts (E : Env) (first : Bool) (t : Token) (a e : ℕ) (q : Spot) (m m' : Mem) (r : Answer) : Type 0 where
  pub inside : (q' : Spot) → r ≡ Ok q' → Inside E first t a e q m q' m'
  pub outside : (x : RefusedAt) → r ≡ Err x → Outside E t a m (refusal_number x.refusal) x.place m'
