-- Value entries, written one after the other.
use Prim.Native.Nat.{ℕ, ◌+◌, ◌*◌, ◌≤◌}
use native.Mathlib.Numerals.{add-one}
use native.Mathlib.Omega.{arith}
use mathlib.Core.Path.{◌≡◌, sym, ap, ◌∙◌}
use mathlib.Core.List.{List, [], ◌∷◌, ◌++◌}
use lib.ListN.{length, take, drop, length-append}
use lib.Seq.{sets, sets-eq, length-take-le}
use Rattle.paper.specs.Tokens.{by_kind}
use Rattle.paper.specs.Names.{names_in, name_bytes, value_entries}
use Rattle.paper.specs.Store.{overwritten}
use Rattle.buffers.specs.Sets.{sets_append}
use Rattle.laws.specs.Names.{bytes_of_names}
use Rattle.laws.specs.Tables.{length_entries}
use Rattle.names_numbered.specs.Answers.{Room}

-- one entry, and those of the names after it
pub value_more : (values : List ℕ) (i : ℕ) (n : List ℕ) (ns : List (List ℕ)) {all after : List ℕ} {left : List (List ℕ)} {at next : ℕ} → all ≡ sets values (8 * i) (value_entries i left) → left ≡ n ∷ ns
    → at ≡ i → next ≡ i + 1 → after ≡ sets values (8 * at) (by_kind n 0x00 0x80 0x40 ∷ at ∷ 0 ∷ 0 ∷ 0 ∷ 0 ∷ 0 ∷ 0 ∷ []) → all ≡ sets after (8 * next) (value_entries next ns)
unfolding value_entries
value_more values i n ns {all} {after} {left} {at} {next} a l h e w =
    let entry = λ (k : ℕ). by_kind n 0x00 0x80 0x40 ∷ k ∷ 0 ∷ 0 ∷ 0 ∷ 0 ∷ 0 ∷ 0 ∷ [] in
    let one : value_entries i left ≡ entry i ++ value_entries next ns =
    ap (value_entries i) l ∙ ap (λ (k : ℕ). entry i ++ value_entries k ns) (sym (e ∙ add-one i)) in
    let here : sets values (8 * i) (entry i) ≡ after = ap (λ (k : ℕ). sets values (8 * k) (entry k)) (sym h) ∙ sym w in
    let more : 8 * i + 8 ≡ 8 * next = omega arith in
    a ∙ ap (sets values (8 * i)) one ∙ sets_append values (8 * i) (entry i) (value_entries next ns) ∙ ap (λ (l : List ℕ). sets l (8 * i + 8) (value_entries next ns)) here
    ∙ ap (λ (k : ℕ). sets after k (value_entries next ns)) more

pub value_end : (values : List ℕ) (i : ℕ) {all : List ℕ} {left : List (List ℕ)} → all ≡ sets values (8 * i) (value_entries i left) → left ≡ [] → values ≡ all
unfolding value_entries
value_end values i a l = sym (a ∙ ap (λ (ns : List (List ℕ)). sets values (8 * i) (value_entries i ns)) l)

-- ---- what was written behind the first bytes of a buffer that has room for it

pub written_behind : {after : List ℕ} (l : List ℕ) (i : ℕ) (xs : List ℕ) → i + length xs ≤ length l → after ≡ sets l i xs → after ≡ overwritten (take i l ++ xs) l
unfolding overwritten
written_behind l i xs h e =
    let n : i + length xs ≡ length (take i l ++ xs) = sym (length-append (take i l) xs ∙ ap (λ (k : ℕ). k + length xs) (length-take-le i l (omega arith))) in
    e ∙ sets-eq xs l i h ∙ ap (λ (k : ℕ). (take i l ++ xs) ++ drop k l) n

pub names_added_behind : {after : List ℕ} (names : List ℕ) (size : ℕ) (values : List ℕ) (count : ℕ) (fresh : List ℕ) → Room names size values count fresh → after ≡ sets names size fresh
    → after ≡ overwritten (take size names ++ name_bytes (names_in fresh)) names
names_added_behind {after} names size values count fresh r e =
    rw (bytes_of_names fresh r.whole) (written_behind names size fresh r.name_room e)

pub values_added_behind : {after : List ℕ} (names : List ℕ) (size : ℕ) (values : List ℕ) (count : ℕ) (fresh : List ℕ) → Room names size values count fresh
    → after ≡ sets values (8 * count) (value_entries count (names_in fresh)) → after ≡ overwritten (take (8 * count) values ++ value_entries count (names_in fresh)) values
values_added_behind names size values count fresh r e =
    written_behind values (8 * count) (value_entries count (names_in fresh)) (omega (arith, length_entries count (names_in fresh), r.value_room)) e
