-- A stack machine that runs a grammar given as a table of rows. Frames and classes are numbers; E is what a row gives, I an item.
use Rattle.std.specs.Prelude.{ℕ, Bool, true, false, ◌&&◌, List, [], ◌∷◌, ◌++◌, eqb}
use Rattle.paper.specs.Bytes.{among}

-- What a frame does with an item: takes it, giving something and wanting other frames in its own place; leaves it to the frame below;
-- refuses it, with the refusal's number.
pub data Act (E : Type 0) : Type 0 where
  take : E → List ℕ → Act E
  leave : Act E
  refuse : ℕ → Act E

pub record Row (E : Type 0) : Type 0 where
  pub frame : ℕ
  pub class : ℕ
  pub gives : E
  pub wants : List ℕ

-- a row
unfoldable pub row : {E : Type 0} → ℕ → ℕ → E → List ℕ → Row E
row f c e ws = record { frame = f; class = c; gives = e; wants = ws }

-- a frame with no row for an item: one that may be empty leaves it, any other refuses it with 4
unfoldable pub no_row : {E : Type 0} → Bool → Act E
no_row true = leave
no_row false = refuse 4

-- the row if it fits, else what the other rows say
unfoldable pub at_row : {E : Type 0} → Bool → Row E → Act E → Act E
at_row true r a = take r.gives r.wants
at_row false r a = a

-- what the row of a frame and a class says, if there is one
unfoldable pub find_row : {E : Type 0} → List (Row E) → List ℕ → ℕ → ℕ → Act E
find_row [] empty f c = no_row (among f empty)
find_row (r ∷ rs) empty f c = let a = find_row rs empty f c in at_row (eqb f r.frame && eqb c r.class) r a

-- what a stack does with an item: takes it, and is then another stack; every frame leaves it; a frame refuses it
pub data Step (E : Type 0) : Type 0 where
  took : E → List ℕ → Step E
  over : Step E
  refused : ℕ → Step E

-- from what the top frame does, and what the stack below would do
unfoldable pub step_act : {E : Type 0} → Act E → List ℕ → Step E → Step E
step_act (take e ws) fs below = took e (ws ++ fs)
step_act leave fs below = below
step_act (refuse k) fs below = refused k

-- an item that was taken, and what its row gave
pub record Taken (E I : Type 0) : Type 0 where
  pub gave : E
  pub from : I

-- How a run ends: the items ran out, and these frames are still wanted; the stack ran out before these items; the first of these items
-- was refused, with this number. Each with the items taken before.
pub data Run (E I : Type 0) : Type 0 where
  left : List (Taken E I) → List ℕ → Run E I
  done : List (Taken E I) → List I → Run E I
  bad : ℕ → List (Taken E I) → List I → Run E I

-- one more item taken before
unfoldable pub and_taken : {E I : Type 0} → Taken E I → Run E I → Run E I
and_taken t (left ts s) = left (t ∷ ts) s
and_taken t (done ts r) = done (t ∷ ts) r
and_taken t (bad k ts r) = bad k (t ∷ ts) r

module _ {E I : Type 0} (look : ℕ → I → Act E) where
  -- the top frame first; one that leaves the item hands it to what stands below
  unfoldable pub step : List ℕ → I → Step E
  step [] i = over
  step (f ∷ fs) i = let below = step fs i in step_act (look f i) fs below

  -- from one step to the run of the rest
  unfoldable pub go_on : Step E → I → List I → (List ℕ → Run E I) → Run E I
  go_on (took e s) i is rest = and_taken (record { gave = e; from = i }) (rest s)
  go_on over i is rest = done [] (i ∷ is)
  go_on (refused k) i is rest = bad k [] (i ∷ is)

  -- a stack reads items
  unfoldable pub read : List ℕ → List I → Run E I
  read s [] = left [] s
  read s (i ∷ is) = go_on (step s i) i is (λ s'. read s' is)
