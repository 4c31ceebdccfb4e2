-- The whole call: its refusals, and what it leaves.
use Rattle.std.specs.Prelude.{ℕ, ◌*◌, ◌≤◌, ◌≡◌, refl, Bool, true, false, not, T, take, replicate}
use Rattle.std.proofs.Common.{arith, subst, ◌∙◌}
use Rattle.std.proofs.Math.Path.{sym, ap, ap₂}
use mathlib.Core.List.{List, [], map}
use Rattle.std.proofs.Math.ListN.{length}
use Rattle.paper.specs.Bytes.{every, joined}
use Rattle.paper.specs.Line.{lawful_number?}
use Rattle.paper.specs.Names.{name_bytes, most_names}
use Rattle.paper.specs.Errors.{listable?}
use Rattle.paper.specs.Store.{lines_in, whole_line?, overwritten}
use Rattle.paper.specs.Calls.{State, names_of, lines_of, sound_state}
use Rattle.paper.specs.Collect.{used?, names_left, values_left, renumbered, collected, collect}
use Rattle.paper.specs.Collect.{Collected as Outcome}
use Rattle.laws.specs.Tests.{as_T}
use Rattle.laws.specs.Lines.{Used, used_of}
use Rattle.list_pieces.specs.Rest.{Numbered, Sound}
use Rattle.list_pieces.specs.NameLaws.{sound_own, sound_numbered}
use Rattle.names_left.specs.declared.Left.{Left}
use Rattle.names_left.specs.Answers.{Tabled, Leaves}
use Rattle.names_left.specs.Agreement.{Agree, left_agrees, values_agree}
use Rattle.editor_edit.specs.Sound.{table_tested, table_sound, values_fit, store_sound}
use Rattle.editor_collect.specs.Marks.{marked_lines}
use Rattle.editor_collect.proofs.MarkLaws.{marks_agree}
use Rattle.editor_collect.specs.Carries.{AllReady, AllPortable, AllCarried}
use Rattle.editor_collect.specs.Readied.{all_ready}

-- a refusal
abbrev pub unchanged : ℕ → State → Outcome
unchanged number s = record { number = number; after = s }

module _ (s : State) where
  pub refused_unsound : {r : Bool} → r ≡ sound_state s → r ≡ false → unchanged 1 s ≡ collect s
  unfolding collect
  refused_unsound e f = sym (rw (sym e ∙ f))

  module _ {r : Bool} (e : r ≡ sound_state s) (f : r ≡ true) where
    sound : T (sound_state s)
    sound = as_T (sound_state s) (sym e ∙ f)

    pub own_names : Sound s.names s.name_size
    own_names = sound_own s.names s.name_size s.name_count (table_tested s sound)

    used_bytes : Used s.store s.used
    used_bytes = used_of s.store s.used (store_sound s sound)

    pub lent : s.used ≤ length s.store
    lent = used_bytes.lent

    pub whole_lines : T (every whole_line? (lines_in (take s.used s.store)))
    whole_lines = used_bytes.whole

    pub refused_lines : {b : Bool} → b ≡ every (listable? lawful_number? (names_of s)) (lines_of s) → b ≡ false → unchanged 10 s ≡ collect s
    unfolding collect
    refused_lines g h = sym (rw (sym e ∙ f, sym g ∙ h))

    counted : length (names_of s) ≡ s.name_count
    unfolding names_of
    counted = (table_sound s sound).counted

    numbered : Numbered (names_of s)
    unfolding names_of
    numbered = sound_numbered s.names s.name_size own_names

    pub tabled : Tabled s.names s.name_size s.values
    tabled =
        let t = table_sound s sound in
        record { within = t.within; whole = t.whole; few = omega (arith, t.counted, t.few); valued = omega (arith, t.counted, values_fit s sound) }

    module _ {b : Bool} (g : b ≡ every (listable? lawful_number? (names_of s)) (lines_of s)) (h : b ≡ true) (marks : List ℕ) (long : length marks ≡ most_names) (is : marks ≡ marked_lines (names_of s) (lines_of s) (replicate 256 0)) where
      agree : Agree (used? (names_of s) (lines_of s)) marks (names_of s)
      agree = marks_agree (names_of s) numbered (omega (arith, counted, (table_sound s sound).few)) (lines_of s) marks long is

      module _ {left : Left} {names values numbers : List ℕ} (leaves : Leaves s.names s.name_size s.values marks left names values numbers) where
        ready : AllReady (names_of s) (names_left (used? (names_of s) (lines_of s)) (names_of s)) numbers (lines_of s)
        unfolding names_of
        ready = all_ready (names_of s) numbered (lines_of s) marks agree (as_T _ (sym g ∙ h)) numbers leaves.renumbered

        pub portable : AllPortable numbers (lines_of s)
        portable = record { names = names_of s; new = names_left (used? (names_of s) (lines_of s)) (names_of s); ready = ready }

        -- what is left
        abbrev leaving : List ℕ → ℕ → ℕ → List ℕ → List ℕ → ℕ → Outcome
        leaving n k c v st u = record {
          number = 0;
          after = record { names = n; name_size = k; name_count = c; values = v; store = st; used = u; line_count = s.line_count; greatest = s.greatest };
        }

        pub collects : {size : ℕ} {store : List ℕ} → AllCarried numbers (lines_of s) s.store size store → leaving names left.name_bytes left.name_count values store size ≡ collect s
        unfolding collect collected names_of
        collects {size} {store} c =
            let ns = names_of s in
            let new = names_left (used? ns (lines_of s)) ns in
            let w = c ns new ready in
            let l = left_agrees (used? ns (lines_of s)) marks ns agree in
            let v = values_agree (used? ns (lines_of s)) 0 marks ns s.values agree in
            let a : names ≡ overwritten (name_bytes new) s.names = leaves.named ∙ ap (λ (z : List (List ℕ)). overwritten (name_bytes z) s.names) l in
            let x : left.name_bytes ≡ length (name_bytes new) = leaves.bytes ∙ ap (λ (z : List (List ℕ)). length (name_bytes z)) l in
            let y : left.name_count ≡ length new = leaves.count ∙ ap length l in
            let d : values ≡ overwritten (values_left (used? ns (lines_of s)) 0 ns (take (8 * s.name_count) s.values)) s.values =
            leaves.valued ∙ ap (λ (z : List ℕ). overwritten z s.values) (v ∙ ap (λ (k : ℕ). values_left (used? ns (lines_of s)) 0 ns (take (8 * k) s.values)) counted) in
            ap₂ (λ (n : List ℕ) (k : ℕ). leaving n k left.name_count values store size) a x
            ∙ ap₂ (λ (k : ℕ) (z : List ℕ). leaving (overwritten (name_bytes new) s.names) (length (name_bytes new)) k z store size) y d
            ∙ ap₂ (λ (z : List ℕ) (k : ℕ). leaving (overwritten (name_bytes new) s.names) (length (name_bytes new)) (length new) (overwritten (values_left (used? ns (lines_of s)) 0 ns (take (8 * s.name_count) s.values)) s.values) z k) w.1 w.0
            ∙ sym (rw (sym e ∙ f, sym g ∙ h))
