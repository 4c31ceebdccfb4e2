-- What comes of a text that was read, from what the edit at the place of its number ensures.
use Prim.Native.Nat.{ℕ}
use mathlib.Core.Path.{◌≡◌, sym, ap, ◌∙◌, subst}
use mathlib.Core.List.{List}
use lib.ListN.{take}
use borrow.Author.Tests.{eq-eqb, ne_eqb}
use Rattle.paper.specs.Items.{span}
use Rattle.paper.specs.Names.{names_in}
use Rattle.paper.specs.Line.{line_number, direct_number, direct_number?}
use Rattle.paper.specs.Calls.{State, lines_of, refusal, delete, keep_line}
use Rattle.paper.specs.Direct.{same_buffer}
use Rattle.store.specs.declared.Place.{Place}
use Rattle.store.specs.Answers.{place_of}
use Rattle.store.specs.Places.{own_place}
use Rattle.enter_line.specs.declared.Line.{Line}
use Rattle.enter_line.specs.declared.Reading.{Reading}
use Rattle.enter_line.specs.declared.Reading.TheVariants.{Read, Delete, Kept}
use Rattle.std.specs.Prelude.{Result, Ok, Err}
use Rattle.refusals.specs.declared.RefusedItem.{RefusedItem}
use Rattle.editor_edit.specs.declared.Editor.{Editor}
use Rattle.editor_edit.specs.declared.Entered.{Entered}
use Rattle.editor_edit.specs.States.{state, entered, typed_outcome, refusing, Lies}
use Rattle.editor_accept.specs.Lines.{Readable, Accepts, AcceptsDirect}
use Rattle.editor.specs.Readings.{asked_number, Ready, accept_read, Edits}

-- the place is that of its own number
pub own_lies : (s : State) (p : Place) (r : Result Reading RefusedItem) → Lies p (asked_number r) s → Lies p p.number s
own_lies s p r lies = own_place (asked_number r) (lines_of s) p lies

module _ (names values store : List ℕ) (e : Editor) (buffer line fresh : List ℕ) (r : Result Reading RefusedItem) where
  abbrev s : State
  s = state names values store e

  -- a refusal
  pub edits_refused : (i : RefusedItem) (x : Entered) → r ≡ Err i → x ≡ refusing i e → Edits s buffer line fresh r (typed_outcome x names values store buffer)
  unfolding Edits refusal same_buffer
  edits_refused i x f h = subst (λ (z : Result Reading RefusedItem). Edits s buffer line fresh z (typed_outcome x names values store buffer)) (sym f) (rw h)

  -- a wrong line that is kept
  pub edits_kept : (l : Line) (i : RefusedItem) (part : List ℕ) (x : Entered) (store' : List ℕ) → part ≡ take l.size line → r ≡ Ok (Kept l i) → entered x names values store' ≡ keep_line s part (span i.place i.end)
      → Edits s buffer line fresh r (typed_outcome x names values store' buffer)
  unfolding Edits same_buffer
  edits_kept l i part x store' is f h = subst (λ (z : Result Reading RefusedItem). Edits s buffer line fresh z (typed_outcome x names values store' buffer)) (sym f) (ap (same_buffer buffer) (h ∙ ap (λ (y : List ℕ). keep_line s y (span i.place i.end)) is))

  -- a line without a number
  module _ (l : Line) (f : r ≡ Ok (Read l)) (part : List ℕ) (is : part ≡ take l.named fresh) where
    module _ (d : l.number ≡ direct_number) where
      pub readable_direct : Ready (names_in (take e.name_bytes names)) line fresh r → Readable (names_in (take e.name_bytes names)) direct_number line l.size part
      readable_direct ready = rw (← d, is) (ready.read l f)

      pub edits_direct : (x : Entered) (names' values' buffer' : List ℕ) → AcceptsDirect names values e buffer line l.size part x names' values' buffer'
          → Edits s buffer line fresh r (typed_outcome x names' values' store buffer')
      unfolding Edits accept_read direct_number?
      edits_direct x names' values' buffer' a =
          subst (λ (z : Result Reading RefusedItem). Edits s buffer line fresh z (typed_outcome x names' values' store buffer')) (sym f)
          (λ ts w. rw (eq-eqb l.number direct_number d) (a store ts (rw (← d, is) w)))

  module _ (p : Place) (lies : Lies p (asked_number r) s) where
    -- the place is that of the number that is asked for
    number_asked : p.number ≡ asked_number r
    unfolding place_of
    number_asked = ap (λ (q : Place). q.number) lies

    -- the place is that of the number of a line that is kept
    pub lies_kept : (l : Line) (i : RefusedItem) (part : List ℕ) → part ≡ take l.size line → r ≡ Ok (Kept l i) → Ready (names_in (take e.name_bytes names)) line fresh r → Lies p (line_number part) s
    unfolding asked_number
    lies_kept l i part is f ready = lies ∙ ap (λ (n : ℕ). place_of n (lines_of s)) (ap asked_number f ∙ sym (ready.kept l i f) ∙ ap line_number (sym is))

    -- a deletion
    pub edits_delete : (n : ℕ) (x : Entered) (store' : List ℕ) → r ≡ Ok (Delete n) → entered x names values store' ≡ delete s p.number → Edits s buffer line fresh r (typed_outcome x names values store' buffer)
    unfolding Edits asked_number same_buffer
    edits_delete n x store' f h =
        let m : p.number ≡ n = number_asked ∙ ap asked_number f in
        subst (λ (z : Result Reading RefusedItem). Edits s buffer line fresh z (typed_outcome x names values store' buffer)) (sym f) (ap (same_buffer buffer) (h ∙ ap (delete s) m))

    -- a line with a number
    module _ (l : Line) (f : r ≡ Ok (Read l)) (part : List ℕ) (is : part ≡ take l.named fresh) where
      number_read : p.number ≡ l.number
      unfolding asked_number
      number_read = number_asked ∙ ap asked_number f

      pub readable : Ready (names_in (take e.name_bytes names)) line fresh r → Readable (names_in (take e.name_bytes names)) p.number line l.size part
      readable ready = rw (number_read, is) (ready.read l f)

      pub edits_line : (x : Entered) (names' values' store' : List ℕ) → (l.number ≡ direct_number → ⊥) → Accepts s p.number line l.size part (entered x names' values' store')
          → Edits s buffer line fresh r (typed_outcome x names' values' store' buffer)
      unfolding Edits accept_read direct_number? same_buffer
      edits_line x names' values' store' d a =
          subst (λ (z : Result Reading RefusedItem). Edits s buffer line fresh z (typed_outcome x names' values' store' buffer)) (sym f)
          (λ ts w. rw (ne_eqb l.number direct_number d, ← number_read) (ap (same_buffer buffer) (a ts (rw (number_read, is) w))))
