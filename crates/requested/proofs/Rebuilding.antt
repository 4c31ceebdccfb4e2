-- A program that was examined and found good (document 02, §10), rebuilt: the listings of its lines, entered in order into an empty store under its tables, are all
-- taken, add no name, and give the same used bytes.
use Prim.Native.Nat.{ℕ, ◌+◌, ◌-◌, ◌≤◌}
use Rattle.std.proofs.Common.{arith, sym, ◌∙◌, leb→le, drop-drop}
use Rattle.std.specs.Prelude.{◌≡◌, Bool, ◌&&◌, leb, drop}
use Rattle.std.proofs.Math.Path.{refl, subst, ap}
use mathlib.Core.List.{List, [], ◌∷◌, ◌++◌, append-nil, append_assoc, map, Memᴰ}
use Rattle.std.proofs.Math.Dec.{T}
use Rattle.std.proofs.Math.ListN.{length, take, length-append}
use Rattle.std.proofs.Math.Seq.{drop-append-add, length-take-le}
use Rattle.paper.specs.Bytes.{pick, every, joined}
use Rattle.paper.specs.WellFormed.{WellFormed}
use Rattle.paper.specs.Listing.{listing}
use Rattle.paper.specs.Store.{lines_from, lines_in, whole_line?, rising, sound_lines, greatest_number, room, put_line, overwritten}
use Rattle.paper.specs.Calls.{State, names_of, lines_of, sound_tables, sound_state, Entered, enter, enter_with}
use Rattle.paper.specs.Batch.{answers_to}
use Rattle.paper.specs.Examine.{yes}
use Rattle.laws.specs.Tests.{and_left, and_right}
use Rattle.laws.specs.Lines.{joined_append, bytes_back, room_lent}
use Rattle.promises.specs.Terms.{over_store, with_lines, accepted_with}
use Rattle.requested.specs.RequestTerms.{takes?, state_after, examined, short?, adds_none?, Rebuilt}
use Rattle.promises.proofs.Stored.{over_length, over_take, written_lines, put_sound}
use Rattle.requested.proofs.LineEdits.{before_below, put_last}
use Rattle.promises.proofs.States.{state_says, says_state}
use Rattle.promises.proofs.Editing.{well_formed_whole, stays_sound}
use Rattle.promises.proofs.KeptLines.{same_unless_4}
use Rattle.promises.proofs.ReEntry.{put_size, entered_again}
use Rattle.requested.proofs.Examining.{examine_yes, tables_say}

-- ---- lines written over others

-- longer bytes written over a buffer whose first bytes were written before
over_over : (a b old : List ℕ) → length a ≤ length b → overwritten b (overwritten a old) ≡ overwritten b old
unfolding overwritten
over_over a b old h =
    let more : ℕ = length b - length a in
    let e : length b ≡ length a + more = omega arith in
    ap (λ (z : List ℕ). b ++ z)
    (ap (λ (k : ℕ). drop k (a ++ drop (length a) old)) e ∙ drop-append-add a (drop (length a) old) more ∙ drop-drop more (length a) old ∙ ap (λ (k : ℕ). drop k old) (sym e))

with_both : (s : State) (a b : List (List ℕ)) → length (joined a) ≤ length (joined b) → with_lines (with_lines s a) b ≡ with_lines s b
unfolding with_lines
with_both s a b h = rw (over_over (joined a) (joined b) s.store h)

-- sound lines, written over a store, are its lines
lines_with : (s : State) (ls : List (List ℕ)) → T (sound_lines ls) → lines_of (with_lines s ls) ≡ ls
unfolding with_lines lines_of
lines_with s ls t = written_lines ls s.store t

-- ---- one line after another

-- what a line must be to be entered again
record Ready (ns : List (List ℕ)) (l : List ℕ) : Type 0 where
  pub formed : WellFormed ns l
  pub few : length l ≤ 255
  pub short : length (listing ns l) ≤ 120

abbrev AllReady : List (List ℕ) → List (List ℕ) → Type 0
AllReady ns [] = Unit {0}
AllReady ns (l ∷ ls) = Ready ns l × AllReady ns ls

all_ready : (ns ls : List (List ℕ)) → ((l : List ℕ) → Memᴰ l ls → WellFormed ns l) → T (every (short? ns) ls) → AllReady ns ls
unfolding every short?
all_ready ns [] w h = tt
all_ready ns (l ∷ ls) w h =
    let this = and_left (leb (length l) 255 && leb (length (listing ns l)) 120) _ h in (
      record {
        formed = w l (Memᴰ.head refl);
        few = leb→le (length l) 255 (and_left (leb (length l) 255) _ this);
        short = leb→le (length (listing ns l)) 120 (and_right (leb (length l) 255) _ this);
      },
      all_ready ns ls (λ k m. w k (Memᴰ.tail m)) (and_right (leb (length l) 255 && leb (length (listing ns l)) 120) _ h),
    )

module _ (e : State) where
  -- the state on the way, with these lines in the store
  abbrev at : List (List ℕ) → State
  at done = with_lines e done

  room_at : (done : List (List ℕ)) → length (joined done) ≤ length e.store → room (at done).store ≡ room e.store
  unfolding with_lines room
  room_at done h = ap (λ (n : ℕ). pick (leb n 65535) n 65535) (over_length (joined done) e.store h)

  -- the listing of the next line is taken, and puts it after the others
  one_line : (done : List (List ℕ)) (l : List ℕ) → T (sound_state (at done)) → lines_of (at done) ≡ done → Ready (names_of e) l → put_line l done ≡ done ++ l ∷ [] → length (joined (done ++ l ∷ [])) ≤ room e.store
      → enter (listing (names_of e) l) (at done) ≡ accepted_with (at (done ++ l ∷ []))
  unfolding with_lines names_of
  one_line done l o is r put fits =
      let here : put_line l (lines_of (at done)) ≡ done ++ l ∷ [] = ap (put_line l) is ∙ put in
      let size = length-append (joined done) (joined (l ∷ [])) in
      let more : length (joined done) ≤ length (joined (done ++ l ∷ [])) = omega (arith, ap length (joined_append done (l ∷ [])), size) in
      let lent : length (joined done) ≤ length e.store = omega (arith, room_lent e.store) in
      entered_again (at done) o l r.formed r.short r.few (omega (arith, put_size (at done) o l, ap (λ (z : List (List ℕ)). length (joined z)) here, room_at done lent))
      ∙ ap accepted_with (ap (with_lines (at done)) here ∙ with_both e done (done ++ l ∷ []) more)

  -- and so are all
  all_lines : (keep : Bool) (todo done : List (List ℕ)) → T (sound_state (at done)) → lines_of (at done) ≡ done → AllReady (names_of e) todo → T (rising (done ++ todo)) → length (joined (done ++ todo)) ≤ room e.store
      → T (every adds_none? (answers_to keep (map (listing (names_of e)) todo) (at done))) × (state_after (at done) (answers_to keep (map (listing (names_of e)) todo) (at done)) ≡ at (done ++ todo))
  unfolding answers_to every state_after accepted_with takes? adds_none?
  all_lines keep [] done o is r t h = (tt, ap at (sym (append-nil done)))
  all_lines keep (l ∷ todo) done o is r t h =
      let text : List ℕ = listing (names_of e) l in
      let next : List (List ℕ) = done ++ l ∷ [] in
      let parts : next ++ todo ≡ done ++ l ∷ todo = append_assoc done (l ∷ []) todo in
      let put : put_line l done ≡ next = put_last done l (before_below done l todo t) in
      let fits : length (joined next) ≤ room e.store =
      omega (arith, ap (λ (z : List (List ℕ)). length (joined z)) parts, ap length (joined_append next todo), length-append (joined next) (joined todo), h) in
      let taken : enter text (at done) ≡ accepted_with (at next) = one_line done l o is r.0 put fits in
      let with_switch : enter_with keep text (at done) ≡ accepted_with (at next) = same_unless_4 text (at done) keep (λ z. omega (arith, z, ap (λ (x : Entered). x.number) taken)) ∙ taken in
      let left : (enter text (at done)).after ≡ at next = ap (λ (x : Entered). x.after) taken in
      let o' : T (sound_state (at next)) = subst (λ (z : State). T (sound_state z)) left (stays_sound text (at done) o) in
      let whole : T (sound_lines next) = subst (λ (z : List (List ℕ)). T (sound_lines z)) (ap (put_line l) is ∙ put) (put_sound l (lines_of (at done)) (well_formed_whole (names_of e) l r.0.formed) (state_says (at done) o).lines) in
      let more = all_lines keep todo next o' (lines_with e next whole) r.1 (subst (λ (z : List (List ℕ)). T (rising z)) (sym parts) t) (subst (λ (z : List (List ℕ)). length (joined z) ≤ room e.store) (sym parts) h) in
      rw (with_switch) (more.0, more.1 ∙ ap at parts)

-- ---- the whole program

module _ (s : State) (store : List ℕ) where
  -- the state with its tables and an empty store
  abbrev empty : State
  empty = over_store store 0 0 0 s

  -- it is sound
  empty_sound : T (sound_tables s) → T (sound_state empty)
  unfolding over_store names_of lines_of lines_in lines_from sound_lines every rising greatest_number
  empty_sound t =
      let x = tables_say s t in
      says_state empty (record { table = x.0; values_fit = x.1; used_fits = omega arith; lines = tt; agrees = record { counted = refl; greatest = refl } })

  -- all its listings, entered in order into the empty store, rebuild it
  pub rebuilt : (keep : Bool) → examined s ≡ yes → T (every (short? (names_of s)) (lines_of s)) → s.used ≤ room store → Rebuilt s empty (answers_to keep (map (listing (names_of s)) (lines_of s)) empty)
  unfolding over_store names_of lines_of sound_lines with_lines overwritten joined greatest_number lines_in lines_from
  rebuilt keep v short fits =
      let g = (examine_yes s).0 v in
      let x = tables_say s g.0 in
      let used : joined (lines_of s) ≡ take s.used s.store = bytes_back (take s.used s.store) (and_left (every whole_line? (lines_of s)) _ x.2.1) in
      let size : length (joined (lines_of s)) ≤ room store = omega (arith, ap length used, length-take-le s.used s.store (omega (arith, x.2.0, room_lent s.store))) in
      let r = all_lines empty keep (lines_of s) [] (empty_sound g.0) refl (all_ready (names_of s) (lines_of s) g.1 short) (and_right (every whole_line? (lines_of s)) _ x.2.1) size in
      record { taken = r.0; after = r.1; used_bytes = ap (λ (z : State). take z.used z.store) r.1 ∙ over_take (joined (lines_of s)) store ∙ used }
