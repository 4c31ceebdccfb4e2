-- Two engineers, one program (document 02, §14): pairs of texts, each entered first, with what comes of both orders, worked out by hand.
use Rattle.std.specs.Prelude.{ℕ, suc, ◌≡◌, refl, Bool, true, false, not, ◌&&◌, List, [], ◌∷◌, ◌++◌, map, replicate, take}
use Prim.Native.String.{String}
use Rattle.paper.specs.Bytes.{pick, bytes, same, joined}
use Rattle.paper.specs.Hex.{hex}
use Rattle.paper.specs.Errors.{line_listing}
use Rattle.paper.specs.Calls.{State, names_of, lines_of, enter}
use Rattle.paper.specs.Batch.{batch}
use Rattle.paper.specs.Open.{everything}
use Rattle.cases.specs.Answers.{agreeing}
use Rattle.limits.specs.Limits.{roomy}

-- ---- what two states have in common

-- the store's used bytes, names, values and the record
unfoldable pub same_program? : State → State → Bool
same_program? x y =
    same (take x.used x.store) (take y.used y.store)
    && (same x.names y.names
    && (same x.values y.values
    && (same (x.used ∷ x.name_size ∷ x.name_count ∷ x.line_count ∷ x.greatest ∷ []) (y.used ∷ y.name_size ∷ y.name_count ∷ y.line_count ∷ y.greatest ∷ []))))

-- the listings of all lines, one after the other
unfoldable pub listings : State → List ℕ
listings s = joined (map (line_listing (names_of s)) (lines_of s))

-- the bytes of the store past the used ones too
unfoldable pub same_store? : State → State → Bool
same_store? x y = same x.store y.store

-- ---- two texts

-- two texts over a state, each accepted in each order: whether the programs are the same, the listings, and the whole stores
pub record Pair : Type 0 where
  pub one : String
  pub other : String
  pub over : State
  pub programs : Bool
  pub listed : Bool
  pub stores : Bool

unfoldable pub agrees? : Bool → Bool → Bool
agrees? a b = pick a b (not b)

unfoldable pub comes_out? : Pair → Bool
comes_out? c =
    let a = enter (bytes c.one) c.over in
    let b = enter (bytes c.other) c.over in
    let ab = enter (bytes c.other) a.after in
    let ba = enter (bytes c.one) b.after in
    same (a.number ∷ b.number ∷ ab.number ∷ ba.number ∷ []) (replicate 4 0)
    && (agrees? c.programs (same_program? ab.after ba.after)
    && (agrees? c.listed (same (listings ab.after) (listings ba.after)) && agrees? c.stores (same_store? ab.after ba.after)))

unfoldable pub others : ℕ → List Pair → List ℕ
others i [] = []
others i (c ∷ cs) = let more = others (suc i) cs in pick (comes_out? c) more (i ∷ more)

-- names A and B; 10 A=B, 20 END, and an error line 30
unfoldable pub plant : State
plant = agreeing (hex "C1 C2" ++ replicate 8 0) 2 2 (hex "00 00 00 00 00 00 00 00 00 01 00 00 00 00 00 00" ++ replicate 16 0) (hex "0A 00 09 09 36 80 2D 81 16 14 00 06 06 15 16 1E 00 0C 0C 37 20 47 4F 54 4F A0 9B" ++ replicate 40 0) 27

-- over it
unfoldable pub pair : String → String → Bool → Bool → Bool → Pair
pair a b p l st = record { one = a; other = b; over = plant; programs = p; listed = l; stores = st }

unfoldable pub pairs : List Pair
pairs =
    -- no name is added: lines put in, replaced and taken out, good ones and the error line; what stood past the used bytes may stay there in one order alone
    pair "15 A=1" "25 B=1" true true true
    ∷ pair "10" "20" true true false
    ∷ pair "10" "25 B=A" true true false
    ∷ pair "20 A=B" "10 CLR" true true false
    ∷ pair "40 END" "30" true true false
    ∷ pair "0 END" "32767 END" true true true
    ∷ record { one = "1 END"; other = "2 END"; over = roomy 8 16 12; programs = true; listed = true; stores = true }
    -- names are added: by one text alone; the same by both; others by each, so that their numbers differ; each other's
    ∷ pair "20 C=1" "10" true true false
    ∷ pair "5 C=1" "6 C=2" true true true
    ∷ pair "5 C=1" "6 D=2" false true false
    ∷ pair "5 C=D" "6 D=C" false true false
    ∷ pair "10 ?C;B" "20 ?B;C" true true true
    -- the same number: the later text stays
    ∷ pair "15 A=1" "15 B=1" false false false
    ∷ pair "15 A=1" "0015 A=1" true true true
    ∷ []

-- the definitions give them so
pub pairs_met : others 0 pairs ≡ []
unfolding everything agreeing roomy same_program? listings same_store? agrees? comes_out? others plant pair pairs
pairs_met = refl

-- ---- two texts of many lines

-- over the same program: in one order and in the other, all lines taken
unfoldable pub batches_same? : List ℕ → List ℕ → Bool
batches_same? a b =
    let x = batch false a plant in
    let y = batch false b plant in
    let xy = batch false b x.after in
    let yx = batch false a y.after in
    same (x.refused ∷ y.refused ∷ xy.refused ∷ yx.refused ∷ []) (replicate 4 0) && same_program? xy.after yx.after

-- numbers in turn, a line put in and taken out again, and no line; a number in common
pub batches_met : batches_same? (bytes "15 A=B" ++ 0x9b ∷ bytes "10" ++ 0x9b ∷ bytes "35 END") (bytes "20 B=A" ++ 0x9b ∷ bytes "5 END" ++ 0x9b ∷ bytes "5") ∷ batches_same? [] (bytes "10") ∷ batches_same? (bytes "10 CLR") (bytes "5 END" ++ 0x9b ∷ bytes "10 END") ∷ []
    ≡ true ∷ true ∷ false ∷ []
unfolding everything agreeing same_program? plant batches_same?
batches_met = refl
