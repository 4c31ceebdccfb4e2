-- The lines of the store after an edit: old ones, or well-formed; and a store of well-formed lines stays one, or with wrong lines kept one of those and error lines.
use Rattle.std.specs.Prelude.{ℕ, ◌≡◌, Bool, ◌⊎◌, T, take}
use Rattle.std.proofs.Math.Path.{subst, ap₂}
use Rattle.std.proofs.Common.{sym, ap, ◌∙◌, inl, inr}
use mathlib.Core.List.Memᴰ
use mathlib.Core.List.{List, [], ◌∷◌, ◌++◌, Memᴰ}
use Rattle.paper.specs.Line.{line_number, lawful_number?}
use Rattle.paper.specs.WellFormed.{WellFormed}
use Rattle.paper.specs.Errors.{error_line?}
use Rattle.paper.specs.Store.{lines_in}
use Rattle.paper.specs.Calls.{State, names_of, lines_of, Entered, enter, enter_with}
use Rattle.paper.specs.Direct.{typed}
use Rattle.promises.specs.Terms.{number_in, line_with, error_line_for, Listable, PutIn, TakenOut, Edited, line_put, line_gone, HoldsWellFormed, HoldsListable, LineKept, SameStore}
use Rattle.promises.proofs.Editing.{after_any}
use Rattle.grounds.specs.Growing.{grown}
use Rattle.promises.proofs.KeptLines.{after_any_with}
use Rattle.promises.proofs.DirectLines.{after_any_typed}

-- a line of the store with one put in is that one, or stood there before
put_lines : (n : ℕ) (line : List ℕ) (old new : List (List ℕ)) → PutIn n line old new → (l : List ℕ) → Memᴰ l new → Memᴰ l old ⊎ (l ≡ line)
put_lines n line old new p l m = below_or (Memᴰ.append_cases p.below (subst (Memᴰ l) p.is m))
  where
    stood : Memᴰ l (p.below ++ (p.replaced ++ p.above)) → Memᴰ l old
    stood h = subst (Memᴰ l) (sym p.was) h

    above_or : (l ≡ line) ⊎ Memᴰ l p.above → Memᴰ l old ⊎ (l ≡ line)
    above_or (inl e) = inr e
    above_or (inr h) = inl (stood (Memᴰ.append_right p.below (Memᴰ.append_right p.replaced h)))

    below_or : Memᴰ l p.below ⊎ Memᴰ l (line ∷ p.above) → Memᴰ l old ⊎ (l ≡ line)
    below_or (inl h) = inl (stood (Memᴰ.append_left (p.replaced ++ p.above) h))
    below_or (inr h) = above_or (Memᴰ.cases_cons h)

-- a line of the store with one taken out stood there before
out_lines : (n : ℕ) (old new : List (List ℕ)) → TakenOut n old new → (l : List ℕ) → Memᴰ l new → Memᴰ l old
out_lines n old new p l m = subst (Memᴰ l) (sym p.was) (go (Memᴰ.append_cases p.below (subst (Memᴰ l) p.is m)))
  where
    go : Memᴰ l p.below ⊎ Memᴰ l p.above → Memᴰ l (p.below ++ p.line ∷ p.above)
    go (inl h) = Memᴰ.append_left (p.line ∷ p.above) h
    go (inr h) = Memᴰ.append_right p.below (Memᴰ.tail h)

-- after an edit every line stood there before, or is well-formed over the new names
pub lines_after : (text : List ℕ) (s : State) (e : Entered) → Edited text s e → (l : List ℕ) → Memᴰ l (lines_of e.after) → Memᴰ l (lines_of s) ⊎ WellFormed (names_of e.after) l
lines_after text s e (line_put ts new lawful names added k put wf) l m = go (put_lines (number_in text) (line_with s (number_in text) ts) (lines_of s) (lines_of e.after) put l m)
  where
    go : Memᴰ l (lines_of s) ⊎ (l ≡ line_with s (number_in text) ts) → Memᴰ l (lines_of s) ⊎ WellFormed (names_of e.after) l
    go (inl h) = inl h
    go (inr h) = inr (subst (WellFormed (names_of e.after)) (sym h) wf)
lines_after text s e (line_gone b added k out) l m = inl (out_lines (number_in text) (lines_of s) (lines_of e.after) out l m)

-- names that stay in front
names_longer : (text : List ℕ) (s : State) (e : Entered) → Edited text s e → (new : List (List ℕ)) × (names_of e.after ≡ names_of s ++ new)
names_longer text s e (line_put ts new lawful names added k put wf) = (new, k.names)
names_longer text s e (line_gone b added k out) = ([], k.names)

-- a line that can be listed stays one over more names
listable_grows : (new ns : List (List ℕ)) (l : List ℕ) → Listable lawful_number? ns l → Listable lawful_number? (ns ++ new) l
listable_grows new ns l (inl w) = inl (grown new ns l w)
listable_grows new ns l (inr x) = inr x

-- What is so of every line of a store stays so, if it is of well-formed lines and of more names.
module _ (Q : List (List ℕ) → List ℕ → Type 0) (formed : (ns : List (List ℕ)) (l : List ℕ) → WellFormed ns l → Q ns l) (grows : (new ns : List (List ℕ)) (l : List ℕ) → Q ns l → Q (ns ++ new) l) where
  -- it is so of every line
  abbrev AllLines : State → Type 0
  AllLines s = (l : List ℕ) → Memᴰ l (lines_of s) → Q (names_of s) l

  edit_holds : (text : List ℕ) (s : State) (e : Entered) → Edited text s e → AllLines s → AllLines e.after
  edit_holds text s e d h l m = go (lines_after text s e d l m)
    where
      go : Memᴰ l (lines_of s) ⊎ WellFormed (names_of e.after) l → Q (names_of e.after) l
      go (inl x) = let n = names_longer text s e d in subst (λ (z : List (List ℕ)). Q z l) (sym n.1) (grows n.0 (names_of s) l (h l x))
      go (inr x) = formed (names_of e.after) l x

  -- of a store that is untouched, over more names
  same_holds : (s after : State) (new : List (List ℕ)) → names_of after ≡ names_of s ++ new → SameStore s after → AllLines s → AllLines after
  unfolding lines_of
  same_holds s after new names same h l m =
      let lines : lines_of after ≡ lines_of s = ap₂ (λ (k : ℕ) (b : List ℕ). lines_in (take k b)) same.used same.store in
      subst (λ (z : List (List ℕ)). Q z l) (sym names) (grows new (names_of s) l (h l (subst (Memᴰ l) lines m)))

-- a store of well-formed lines stays one
pub stays_well_formed : (text : List ℕ) (s : State) → HoldsWellFormed s → HoldsWellFormed (enter text s).after
stays_well_formed text s h = after_any HoldsWellFormed text s h (λ e d. edit_holds WellFormed (λ ns l w. w) (λ new ns l w. grown new ns l w) text s e d h)

module _ (text : List ℕ) (s : State) (h : HoldsListable s) where
  edit_listable : (e : Entered) → Edited text s e → HoldsListable e.after
  edit_listable e d = edit_holds (Listable lawful_number?) (λ ns l w. inl w) listable_grows text s e d h

  -- the line that is kept is an error line with a lawful number
  kept_listable : (e : Entered) → LineKept text s e → HoldsListable e.after
  kept_listable e k l m = go (put_lines (number_in text) _ (lines_of s) (lines_of e.after) k.put l m)
    where
      go : Memᴰ l (lines_of s) ⊎ (l ≡ error_line_for text e.place.start) → Listable lawful_number? (names_of e.after) l
      go (inl x) = subst (λ (z : List (List ℕ)). Listable lawful_number? z l) (sym k.carried.names) (listable_grows [] (names_of s) l (h l x))
      go (inr x) = inr (subst (λ (z : ℕ). T (lawful_number? z)) (sym (ap line_number x ∙ k.put.number)) k.lawful, subst (λ (z : List ℕ). T (error_line? z)) (sym x) k.error)

  -- a store of lines that are well-formed or error lines stays one
  pub stays_listable : (keep : Bool) → HoldsListable (enter_with keep text s).after
  stays_listable keep = after_any_with text s HoldsListable keep h edit_listable kept_listable

  -- whatever is typed
  pub typed_stays_listable : (keep : Bool) (buffer : List ℕ) → HoldsListable (typed keep text s buffer).entered.after
  typed_stays_listable keep buffer =
      after_any_typed keep text s buffer HoldsListable h edit_listable kept_listable
      (λ t m. same_holds (Listable lawful_number?) (λ ns l w. inl w) listable_grows s t.entered.after m.new m.carried.names m.same_store h)
