-- Two engineers, one program (document 02, §14): texts with no line number in common that are accepted in either order and add no name leave the same program.
use Rattle.std.specs.Prelude.{ℕ, ◌≡◌, Bool, T, eqb, length}
use Rattle.std.proofs.Math.Path.{refl, ap}
use Rattle.std.proofs.Common.{subst, sym, ap₂, ◌∙◌, eqb→eq, eq-eqb}
use mathlib.Core.List.Memᴰ
use mathlib.Core.List.{List, [], ◌∷◌, Memᴰ}
use Rattle.paper.specs.Bytes.{every, joined}
use Rattle.paper.specs.Store.{whole_line?, rising, sound_lines, greatest_number}
use Rattle.paper.specs.Calls.{State, names_of, lines_of, sound_state, Entered, enter_with}
use Rattle.paper.specs.Batch.{text_lines, answers_to, batch}
use Rattle.laws.specs.Tests.{and_left, and_right, and_both, as_T}
use Rattle.promises.specs.Terms.{number_in}
use Rattle.requested.specs.RequestTerms.{takes?, adds_none?, state_after, SameProgram, after_both, EitherOrder, NoNames, NoneShared, AllTaken, EitherBatch}
use Rattle.promises.proofs.Stored.{edited_lines, rising_first}
use Rattle.requested.proofs.LineEdits.{Edit, commute}
use Rattle.promises.proofs.States.{state_says}
use Rattle.promises.proofs.Editing.{used_bytes}
use Rattle.promises.proofs.ReEntry.{lines_size}
use Rattle.requested.proofs.Batches.{batch_answers}
use Rattle.requested.proofs.Changing.{new_line, SameTables, names_same, Change, change, change_edit}

-- ---- edits, one after the other

-- the lines after the edits of some texts, over these names
edits : List (List ℕ) → List (List ℕ) → List (List ℕ) → List (List ℕ)
edits ns [] ls = ls
edits ns (t ∷ ts) ls = edits ns ts (edited_lines (number_in t) (new_line ns t) ls)

-- each text makes an edit at its number
abbrev AllEdits : List (List ℕ) → List (List ℕ) → Type 0
AllEdits ns [] = Unit {0}
AllEdits ns (t ∷ ts) = Edit (number_in t) (new_line ns t) × AllEdits ns ts

module _ (ns : List (List ℕ)) where
  -- one edit and those of texts with other numbers
  one_and_many : (n : ℕ) (x : List (List ℕ)) → Edit n x → (us : List (List ℕ)) → AllEdits ns us → ((u : List ℕ) → Memᴰ u us → n ≡ number_in u → ⊥) → (ls : List (List ℕ)) → T (rising ls)
      → edits ns us (edited_lines n x ls) ≡ edited_lines n x (edits ns us ls)
  unfolding edits
  one_and_many n x a [] b apart ls t = refl
  one_and_many n x a (u ∷ us) b apart ls t =
      ap (edits ns us) (commute n (number_in u) x (new_line ns u) ls (apart u (Memᴰ.head refl)) a b.0 t)
      ∙ one_and_many n x a us b.1 (λ v m. apart v (Memᴰ.tail m)) (edited_lines (number_in u) (new_line ns u) ls) (rising_first (number_in u) (new_line ns u) b.0.between ls t)

  -- the edits of texts that have no number in common
  many_and_many : (ts us : List (List ℕ)) → AllEdits ns ts → AllEdits ns us → NoneShared ts us → (ls : List (List ℕ)) → T (rising ls) → edits ns us (edits ns ts ls) ≡ edits ns ts (edits ns us ls)
  unfolding edits
  many_and_many [] us a b apart ls t = refl
  many_and_many (t ∷ ts) us a b apart ls r =
      many_and_many ts us a.1 b (λ v m. apart v (Memᴰ.tail m)) (edited_lines (number_in t) (new_line ns t) ls) (rising_first (number_in t) (new_line ns t) a.0.between ls r)
      ∙ ap (edits ns ts) (one_and_many (number_in t) (new_line ns t) a.0 us b (apart t (Memᴰ.head refl)) ls r)

-- ---- texts that are taken and add no name

-- What they leave: the tables as they were, the lines with their edits, and a sound state.
record Ran (ts : List (List ℕ)) (s x : State) : Type 0 where
  pub tables : SameTables s x
  pub lines : lines_of x ≡ edits (names_of s) ts (lines_of s)
  pub each : AllEdits (names_of s) ts
  pub sound : T (sound_state x)

same_both : {x y z : State} → SameTables x y → SameTables y z → SameTables x z
same_both a b = record { names = a.names ∙ b.names; values = a.values ∙ b.values; name_size = a.name_size ∙ b.name_size; name_count = a.name_count ∙ b.name_count }

same_back : {x y : State} → SameTables x y → SameTables y x
same_back a = record { names = sym a.names; values = sym a.values; name_size = sym a.name_size; name_count = sym a.name_count }

-- the first of such texts is accepted and adds none
first_taken : (keep : Bool) (t : List ℕ) (ts : List (List ℕ)) (s : State) → AllTaken keep (t ∷ ts) s → ((enter_with keep t s).number ≡ 0) × ((enter_with keep t s).added ≡ 0) × AllTaken keep ts (enter_with keep t s).after
unfolding answers_to every adds_none? takes?
first_taken keep t ts s h =
    let e : Entered = enter_with keep t s in
    let this = and_left (adds_none? e) _ h in
    (eqb→eq e.number 0 (and_left (eqb e.number 0) _ this), eqb→eq e.added 0 (and_right (eqb e.number 0) _ this), and_right (adds_none? e) _ h)

ran : (keep : Bool) (ts : List (List ℕ)) (s : State) → T (sound_state s) → AllTaken keep ts s → Ran ts s (state_after s (answers_to keep ts s))
unfolding answers_to state_after edits
ran keep [] s o h = record { tables = record { names = refl; values = refl; name_size = refl; name_count = refl }; lines = refl; each = tt; sound = o }
ran keep (t ∷ ts) s o h =
    let f = first_taken keep t ts s h in
    let after : State = (enter_with keep t s).after in
    let c : Change t s (enter_with keep t s) = change keep t s f.0 in
    let same : SameTables s after = c.tables f.1 in
    let names : names_of after ≡ names_of s = sym (names_same s after same) in
    let r : Ran ts after (state_after after (answers_to keep ts after)) = ran keep ts after c.sound_after f.2 in
    record {
      tables = same_both same r.tables;
      lines = r.lines ∙ ap₂ (λ (ns ls : List (List ℕ)). edits ns ts ls) names (c.lines ∙ ap (λ (ns : List (List ℕ)). edited_lines (number_in t) (new_line ns t) (lines_of s)) names);
      each = (subst (λ (ns : List (List ℕ)). Edit (number_in t) (new_line ns t)) names (change_edit t s _ c), subst (λ (ns : List (List ℕ)). AllEdits ns ts) names r.each);
      sound = r.sound;
    }

-- ---- either order

-- sound states with the same tables and lines hold the same program
same_program : (x y : State) → T (sound_state x) → T (sound_state y) → SameTables x y → lines_of x ≡ lines_of y → SameProgram x y
same_program x y a b h e =
    record {
      used_bytes = sym (used_bytes x a) ∙ ap joined e ∙ used_bytes y b;
      names = h.names;
      values = h.values;
      used = sym (lines_size x a) ∙ ap (λ (ls : List (List ℕ)). length (joined ls)) e ∙ lines_size y b;
      name_size = h.name_size;
      name_count = h.name_count;
      line_count = (state_says x a).agrees.counted ∙ ap length e ∙ sym (state_says y b).agrees.counted;
      greatest = (state_says x a).agrees.greatest ∙ ap greatest_number e ∙ sym (state_says y b).agrees.greatest;
    }

same_self : (x : State) → SameProgram x x
same_self x = record { used_bytes = refl; names = refl; values = refl; used = refl; name_size = refl; name_count = refl; line_count = refl; greatest = refl }

-- the lines of a sound state rise
pub lines_rise : (s : State) → T (sound_state s) → T (rising (lines_of s))
unfolding sound_lines
lines_rise s o = and_right (every whole_line? (lines_of s)) (rising (lines_of s)) (state_says s o).lines

-- what is left of some texts, and of others after them
abbrev then_after : Bool → List (List ℕ) → State → State
then_after keep ts s = state_after s (answers_to keep ts s)

sound_orders : (keep : Bool) (ts us : List (List ℕ)) (s : State) → T (sound_state s) → NoneShared ts us → AllTaken keep ts s → AllTaken keep us (then_after keep ts s) → AllTaken keep us s → AllTaken keep ts (then_after keep us s)
    → SameProgram (then_after keep us (then_after keep ts s)) (then_after keep ts (then_after keep us s))
sound_orders keep ts us s o apart t_first then_u u_first then_t =
    let x : State = then_after keep ts s in
    let y : State = then_after keep us s in
    let t : Ran ts s x = ran keep ts s o t_first in
    let u : Ran us s y = ran keep us s o u_first in
    let tu : Ran us x (then_after keep us x) = ran keep us x t.sound then_u in
    let ut : Ran ts y (then_after keep ts y) = ran keep ts y u.sound then_t in
    let ns : List (List ℕ) = names_of s in
    let one : lines_of (then_after keep us x) ≡ edits ns us (edits ns ts (lines_of s)) = tu.lines ∙ ap₂ (λ (ms ls : List (List ℕ)). edits ms us ls) (sym (names_same s x t.tables)) t.lines in
    let other : lines_of (then_after keep ts y) ≡ edits ns ts (edits ns us (lines_of s)) = ut.lines ∙ ap₂ (λ (ms ls : List (List ℕ)). edits ms ts ls) (sym (names_same s y u.tables)) u.lines in
    same_program (then_after keep us x) (then_after keep ts y) tu.sound ut.sound (same_both (same_back (same_both t.tables tu.tables)) (same_both u.tables ut.tables))
    (one ∙ many_and_many ns ts us t.each u.each apart (lines_of s) (lines_rise s o) ∙ sym other)

-- texts that have no number in common, each taken first and after the others, leave the same program whichever came first
pub either_order : (keep : Bool) (ts us : List (List ℕ)) (s : State) → NoneShared ts us → AllTaken keep ts s → AllTaken keep us (then_after keep ts s) → AllTaken keep us s → AllTaken keep ts (then_after keep us s)
    → SameProgram (then_after keep us (then_after keep ts s)) (then_after keep ts (then_after keep us s))
unfolding answers_to state_after
either_order keep [] us s apart t_first then_u u_first then_t = same_self (then_after keep us s)
either_order keep (t ∷ ts) us s apart t_first then_u u_first then_t =
    sound_orders keep (t ∷ ts) us s (change keep t s (first_taken keep t ts s t_first).0).sound apart t_first then_u u_first then_t

-- one text each
one_taken : (keep : Bool) (a : List ℕ) (s : State) → (enter_with keep a s).number ≡ 0 → (enter_with keep a s).added ≡ 0 → AllTaken keep (a ∷ []) s
unfolding answers_to every adds_none? takes?
one_taken keep a s z y = and_both (adds_none? (enter_with keep a s)) _ (and_both (eqb (enter_with keep a s).number 0) _ (as_T _ (eq-eqb _ _ z)) (as_T _ (eq-eqb _ _ y))) tt

pub same_both_ways : (keep : Bool) (a b : List ℕ) (s : State) → EitherOrder keep a b s → NoNames keep a b s → SameProgram (after_both keep a b s) (after_both keep b a s)
unfolding answers_to state_after
same_both_ways keep a b s o z =
    either_order keep (a ∷ []) (b ∷ []) s
    (λ t m u k e. o.different (ap number_in (sym (Memᴰ.eq_of_singleton m)) ∙ e ∙ ap number_in (Memᴰ.eq_of_singleton k)))
    (one_taken keep a s o.a_first z.a_first)
    (one_taken keep b _ o.then_b z.then_b)
    (one_taken keep b s o.b_first z.b_first)
    (one_taken keep a _ o.then_a z.then_a)

-- texts of many lines
pub same_batches : (keep : Bool) (a b : List ℕ) (s : State) → EitherBatch keep a b s → SameProgram (batch keep b (batch keep a s).after).after (batch keep a (batch keep b s).after).after
same_batches keep a b s o =
    let left : (text : List ℕ) (z : State) → (batch keep text z).after ≡ then_after keep (text_lines text) z = λ text z. (batch_answers keep text z).after in
    rw (left b (batch keep a s).after, left a (batch keep b s).after, left a s, left b s)
    (either_order keep (text_lines a) (text_lines b) s o.apart o.a_first (rw (left a s) at o.then_b) o.b_first (rw (left b s) at o.then_a))
