-- The state after an accepted edit: sound again, with the old names and values in front of the new ones, and every other byte as it was.
use Rattle.std.specs.Prelude.{ℕ, ◌+◌, ◌*◌, ◌≤◌, ◌≡◌, Bool, true, false, ◌||◌, List, [], ◌∷◌, ◌++◌, T, leb, ltb, eqb, length, take, drop}
use Rattle.std.proofs.Common.{arith, subst, sym, ap, ap₂, ◌∙◌, leb→le, le→leb, eqb→eq, length-append, ltb-false, lt-ltb, eq-eqb}
use Rattle.std.proofs.Math.Dec.{eqb_refl}
use Rattle.std.proofs.Math.Seq.{drop-append_seam}
use Rattle.paper.specs.Bytes.{every, same, joined}
use Rattle.paper.specs.Names.{names_in, name_bytes, name?, all_different, most_names, sound_names, sound_table, value_entries}
use Rattle.paper.specs.Store.{greatest_number, room, sound_store, overwritten}
use Rattle.paper.specs.Calls.{State, names_of, lines_of, sound_tables, agrees, sound_state, with_names, stored, lacks_room}
use Rattle.laws.specs.Tests.{and_left, and_right, and_both, as_T, is_true}
use Rattle.laws.specs.Names.{same_self, same_eq, name_bytes_append}
use Rattle.laws.specs.Tables.{length_entries}
use Rattle.promises.specs.Terms.{Agrees, SoundTable, SoundState, Carried}
use Rattle.grounds.specs.Lists.{or_false_left, or_false_right}
use Rattle.promises.proofs.NameTable.{NamesGood, names_back}
use Rattle.promises.proofs.Stored.{Extended, extended, over_past, Holds}

-- what the test of the pair says
pub pair_says : (s : State) → T (agrees s) → Agrees s
unfolding agrees
pair_says s t =
    let count : Bool = eqb s.line_count (length (lines_of s)) in
    record {
      counted = eqb→eq s.line_count (length (lines_of s)) (and_left count _ t);
      greatest = eqb→eq s.greatest (greatest_number (lines_of s)) (and_right count _ t);
    }

-- and the other way round
says_pair : (s : State) → Agrees s → T (agrees s)
unfolding agrees
says_pair s a = and_both (eqb s.line_count (length (lines_of s))) _ (as_T _ (eq-eqb _ _ a.counted)) (as_T _ (eq-eqb _ _ a.greatest))

-- what the test of a table of names says
pub table_says : (table : List ℕ) (size count : ℕ) → T (sound_table table size count) → SoundTable (names_in (take size table)) table size count
unfolding sound_table
table_says table size count t =
    let bs : List ℕ = take size table in
    let ns : List (List ℕ) = names_in bs in
    let b = and_right (leb size (length table)) _ t in
    let c = and_right (same (name_bytes ns) bs) _ b in
    record {
      fits = leb→le size (length table) (and_left (leb size (length table)) _ t);
      bytes = same_eq (name_bytes ns) bs (is_true (same (name_bytes ns) bs) (and_left (same (name_bytes ns) bs) _ b));
      counted = eqb→eq (length ns) count (and_left (eqb (length ns) count) _ c);
      names = and_right (eqb (length ns) count) _ c;
    }

-- and the other way round
pub says_table : (table : List ℕ) (size count : ℕ) → SoundTable (names_in (take size table)) table size count → T (sound_table table size count)
unfolding sound_table
says_table table size count o =
    let bs : List ℕ = take size table in
    and_both (leb size (length table)) _ (le→leb _ _ o.fits)
    (and_both (same (name_bytes (names_in bs)) bs) _ (as_T _ (ap (λ (z : List ℕ). same z bs) o.bytes ∙ same_self bs))
    (and_both (eqb (length (names_in bs)) count) _ (as_T _ (eq-eqb _ _ o.counted)) o.names))

-- what the test of soundness says
pub state_says : (s : State) → T (sound_state s) → SoundState s
unfolding sound_state sound_tables sound_store names_of lines_of
state_says s both =
    let t = and_left (sound_tables s) (agrees s) both in
    let d = and_right (sound_table s.names s.name_size s.name_count) _ t in
    let e = and_right (leb (8 * s.name_count) (length s.values)) _ d in
    record {
      table = table_says s.names s.name_size s.name_count (and_left (sound_table s.names s.name_size s.name_count) _ t);
      values_fit = leb→le (8 * s.name_count) (length s.values) (and_left (leb (8 * s.name_count) (length s.values)) _ d);
      used_fits = leb→le s.used (room s.store) (and_left (leb s.used (room s.store)) _ e);
      lines = and_right (leb s.used (room s.store)) _ e;
      agrees = pair_says s (and_right (sound_tables s) (agrees s) both);
    }

-- and the other way round
pub says_state : (s : State) → SoundState s → T (sound_state s)
unfolding sound_state sound_tables sound_store names_of lines_of
says_state s o =
    and_both (sound_tables s) (agrees s)
    (and_both (sound_table s.names s.name_size s.name_count) _ (says_table s.names s.name_size s.name_count o.table)
    (and_both (leb (8 * s.name_count) (length s.values)) _ (le→leb _ _ o.values_fit) (and_both (leb s.used (room s.store)) _ (le→leb _ _ o.used_fits) o.lines)))
    (says_pair s o.agrees)

-- ---- names of a sound table

-- at most as many as a table may hold
pub few : (ns : List (List ℕ)) → T (sound_names ns) → length ns ≤ 256
unfolding sound_names
few ns t = leb→le (length ns) 256 (and_left (leb (length ns) most_names) _ t)

-- sound names are good
pub names_good : (ns : List (List ℕ)) → T (sound_names ns) → NamesGood ns
unfolding sound_names
names_good ns t =
    let a = and_right (leb (length ns) most_names) _ t in
    let b = and_right (every name? ns) _ a in
    record { names = and_left (every name? ns) _ a; different = and_left (all_different ns) _ b; no_words = and_right (all_different ns) _ b }

good_names : (ns : List (List ℕ)) → length ns ≤ 256 → NamesGood ns → T (sound_names ns)
unfolding sound_names
good_names ns h g =
    and_both (leb (length ns) most_names) _ (le→leb (length ns) 256 h)
    (and_both (every name? ns) _ g.names (and_both (all_different ns) _ g.different g.no_words))

-- ---- room for new names

-- room for the new names, their bytes and their values
pub record Room (s : State) (new : List (List ℕ)) : Type 0 where
  pub count : length (names_of s) + length new ≤ 256
  pub bytes : s.name_size + length (name_bytes new) ≤ length s.names
  pub values : 8 * (length (names_of s) + length new) ≤ length s.values

-- no new names need no room
pub no_more : (s : State) → SoundState s → Room s []
unfolding name_bytes
no_more s o = let f = few (names_of s) o.table.names in record { count = omega (arith, f); bytes = omega (arith, o.table.fits); values = omega (arith, o.table.counted, o.values_fit) }

room_go : (s : State) (new : List (List ℕ)) (k : ℕ) → k ≡ length (names_of s) + length new
    → ltb most_names k || (ltb (length s.names) (s.name_size + length (name_bytes new)) || ltb (length s.values) (8 * k)) ≡ false → Room s new
room_go s new k e h =
    let a = or_false_right (ltb most_names k) _ h in
    let x : k ≤ 256 = ltb-false 256 k (or_false_left (ltb most_names k) _ h) in
    let y : s.name_size + length (name_bytes new) ≤ length s.names = ltb-false _ _ (or_false_left (ltb (length s.names) (s.name_size + length (name_bytes new))) _ a) in
    let z : 8 * k ≤ length s.values = ltb-false _ _ (or_false_right (ltb (length s.names) (s.name_size + length (name_bytes new))) _ a) in
    record { count = omega arith; bytes = y; values = omega arith }

-- a line that is not refused with 6 has room for its names
pub room_for : (s : State) (new : List (List ℕ)) → SoundState s → lacks_room s (names_of s ++ new) ≡ false → Room s new
unfolding lacks_room
room_for s [] o h = no_more s o
room_for s (n ∷ new) o h =
    let k : length (names_of s ++ n ∷ new) ≡ length (names_of s) + length (n ∷ new) = length-append (names_of s) (n ∷ new) in
    let l : ltb (length (names_of s)) (length (names_of s ++ n ∷ new)) ≡ true = lt-ltb (length (names_of s)) (length (names_of s ++ n ∷ new)) (omega arith) in
    room_go s (n ∷ new) (length (names_of s ++ n ∷ new)) k (rw (l, drop-append_seam (names_of s) (n ∷ new)) at h)

-- ---- the state with new names and lines

-- the state that `stored` makes, with the new names by themselves
unfoldable pub made : State → List (List ℕ) → List (List ℕ) → State
made s new ls =
    record {
      names = overwritten (take s.name_size s.names ++ name_bytes new) s.names;
      name_size = s.name_size + length (name_bytes new);
      name_count = length (names_of s ++ new);
      values = overwritten (take (8 * s.name_count) s.values ++ value_entries s.name_count new) s.values;
      store = overwritten (joined ls) s.store;
      used = length (joined ls);
      line_count = length ls;
      greatest = greatest_number ls;
    }

-- it is the same state
pub stored_made : (s : State) (new ls : List (List ℕ)) → stored s (names_of s ++ new) ls ≡ made s new ls
unfolding stored with_names made
stored_made s new ls = rw (drop-append_seam (names_of s) new)

table_sound : (s : State) (new : List (List ℕ)) → SoundState s → NamesGood (names_of s ++ new) → Room s new → (out : List ℕ) → take (s.name_size + length (name_bytes new)) out ≡ take s.name_size s.names ++ name_bytes new → length out ≡ length s.names
    → (names_in (take (s.name_size + length (name_bytes new)) out) ≡ names_of s ++ new) × T (sound_table out (s.name_size + length (name_bytes new)) (length (names_of s ++ new)))
unfolding sound_table
table_sound s new o g r out e l =
    let ns : List (List ℕ) = names_of s ++ new in
    let size : ℕ = s.name_size + length (name_bytes new) in
    let bytes : take size out ≡ name_bytes ns = e ∙ ap (λ (z : List ℕ). z ++ name_bytes new) (sym o.table.bytes) ∙ sym (name_bytes_append (names_of s) new) in
    let back : names_in (take size out) ≡ ns = ap names_in bytes ∙ names_back ns g.names in
    let few : length ns ≤ 256 = subst (λ (z : ℕ). z ≤ 256) (sym (length-append (names_of s) new)) r.count in (
      back,
      and_both (leb size (length out)) _ (le→leb size (length out) (subst (λ (z : ℕ). size ≤ z) (sym l) r.bytes))
          (and_both (same (name_bytes (names_in (take size out))) (take size out)) _
          (as_T _ (ap₂ same (ap name_bytes back) bytes ∙ same_self (name_bytes ns)))
          (and_both (eqb (length (names_in (take size out))) (length ns)) _
          (subst (λ (z : List (List ℕ)). T (eqb (length z) (length ns))) (sym back) (eqb_refl (length ns)))
          (subst (λ (z : List (List ℕ)). T (sound_names z)) (sym back) (good_names ns few g)))),
    )

-- new names that are good and have room, and sound lines that have room, leave a sound state
pub carried : (s : State) (new ls : List (List ℕ)) → SoundState s → NamesGood (names_of s ++ new) → Room s new → Holds ls s.store → Carried s (made s new ls) new
unfolding made names_of lines_of sound_state sound_tables
carried s new ls o g r h =
    let n : Extended s.name_size (name_bytes new) s.names = extended s.name_size (name_bytes new) s.names r.bytes in
    let es : List ℕ = value_entries s.name_count new in
    let el : length es ≡ 8 * length new = length_entries s.name_count new in
    let v : Extended (8 * s.name_count) es s.values = extended (8 * s.name_count) es s.values (omega (arith, r.values, o.table.counted)) in
    let t = table_sound s new o g r (overwritten (take s.name_size s.names ++ name_bytes new) s.names) n.both n.same_size in
    let c : 8 * length (names_of s ++ new) ≡ 8 * s.name_count + length es = omega (arith, length-append (names_of s) new, o.table.counted) in
    let fits : 8 * length (names_of s ++ new) ≤ length s.values = omega (arith, r.values, length-append (names_of s) new) in
    record {
      sound =
          and_both (sound_tables (made s new ls)) (agrees (made s new ls))
          (and_both (sound_table (overwritten (take s.name_size s.names ++ name_bytes new) s.names) (s.name_size + length (name_bytes new)) (length (names_of s ++ new))) _ t.1
          (and_both (leb (8 * length (names_of s ++ new)) (length (overwritten (take (8 * s.name_count) s.values ++ es) s.values))) _
          (le→leb (8 * length (names_of s ++ new)) _ (subst (λ (z : ℕ). 8 * length (names_of s ++ new) ≤ z) (sym v.same_size) fits)) h.sound))
          (says_pair (made s new ls) (record { counted = ap length (sym h.lines); greatest = ap greatest_number (sym h.lines) }));
      names = t.0;
      old_names = n.stays;
      old_values = v.stays;
      new_values = subst (λ (z : ℕ). take z (drop (8 * s.name_count) (overwritten (take (8 * s.name_count) s.values ++ es) s.values)) ≡ es) el v.there;
      past_names = n.past;
      past_values = subst (λ (z : ℕ). drop z (overwritten (take (8 * s.name_count) s.values ++ es) s.values) ≡ drop z s.values) (sym c) v.past;
      past_store = over_past (joined ls) s.store;
      names_size = n.same_size;
      values_size = v.same_size;
      store_size = h.same_size;
    }
