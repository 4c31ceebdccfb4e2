-- Names of a sound table: each is found at its own number, and has at least a byte without its `(`.
use Rattle.std.specs.Prelude.{ℕ, zero, suc, ◌+◌, ◌<◌, ◌≡◌, Bool, not, ◌&&◌, T, eqb, leb, take}
use Rattle.std.proofs.Common.{arith, subst, ◌∙◌}
use Rattle.std.proofs.Math.Path.{refl, sym, ap}
use Rattle.std.proofs.Math.Bool.{true, false}
use mathlib.Core.List.{List, [], ◌∷◌}
use Rattle.std.proofs.Math.Dec.{ltb}
use borrow.Author.Tests.{eqb-true, ltb-true, ltb-false}
use Rattle.std.proofs.Math.ListN.{length, get_or, get_or-eq_default}
use Rattle.paper.specs.Bytes.{pick, letter?, same, every, joined}
use Rattle.paper.specs.Names.{names_in, name_bytes, name?, less_open, all_different, most_names, sound_names, sound_table}
use Rattle.laws.specs.Tests.{and_left, and_right, is_true}
use Rattle.laws.specs.Names.{number_at, sound_facts}
use Rattle.names_numbered.specs.declared.Name.{Name}
use Rattle.names_numbered.specs.Answers.{Stands}
use Rattle.list_pieces.specs.Rest.{Numbered, Sound}

-- a table that is sound with a count is sound with the count of its names
pub sound_own : (names : List ℕ) (size count : ℕ) → T (sound_table names size count) → Sound names size
sound_own names size count t =
    subst (λ (k : ℕ). T (sound_table names size k)) (sym (sound_facts names size count (is_true (sound_table names size count) t)).counted) t

sound_parts : (names : List ℕ) (size : ℕ) → Sound names size → T (sound_names (names_in (take size names)))
unfolding sound_table
sound_parts names size s =
    let bs : List ℕ = take size names in
    let ns : List (List ℕ) = names_in bs in
    and_right (eqb (length ns) (length ns)) _ (and_right (same (name_bytes ns) bs) _ (and_right (leb size (length names)) _ s))

pub sound_numbered : (names : List ℕ) (size : ℕ) → Sound names size → Numbered (names_in (take size names))
unfolding sound_names
sound_numbered names size s i h =
    let ns : List (List ℕ) = names_in (take size names) in
    let a = and_right (every name? ns) _ (and_right (leb (length ns) most_names) _ (sound_parts names size s)) in
    number_at ns i (is_true (all_different ns) (and_left (all_different ns) _ a)) h

sound_shaped : (names : List ℕ) (size : ℕ) → Sound names size → T (every name? (names_in (take size names)))
unfolding sound_names
sound_shaped names size s =
    let ns : List (List ℕ) = names_in (take size names) in
    and_left (every name? ns) _ (and_right (leb (length ns) most_names) _ (sound_parts names size s))

plus_none : (k : ℕ) → k + 0 ≡ k
plus_none k = omega arith

each_at : (q : List ℕ → Bool) (ns : List (List ℕ)) (i : ℕ) → T (every q ns) → i < length ns → T (q (get_or ns i []))
unfolding every
each_at q [] i t h = absurd (omega arith)
each_at q (n ∷ ns) zero t h = and_left (q n) _ t
each_at q (n ∷ ns) (suc i) t h = each_at q ns i (and_right (q n) _ t) (omega arith)

not_open : (x : ℕ) → eqb x 40 ≡ true → T (letter? x) → ⊥
unfolding letter?
not_open x e t = subst (λ (z : ℕ). T (leb 65 z && leb z 90)) (eqb-true x 40 e) t

no_letter : T (letter? 0) → ⊥
unfolding letter?
no_letter t = t

bare_go : (x : ℕ) (b : Bool) → eqb x 40 ≡ b → T (letter? x) → 0 < length (pick b [] (x ∷ []))
unfolding letter?
bare_go x true e t = absurd (not_open x e t)
bare_go x false e t = omega arith

bare_some : (n : List ℕ) → T (name? n) → 0 < length (less_open n)
unfolding name? less_open
bare_some [] t = absurd (no_letter (and_left (letter? 0) _ t))
bare_some (x ∷ []) t = bare_go x (eqb x 40) refl (and_left (letter? x) _ t)
bare_some (x ∷ y ∷ ys) t = omega arith

module _ (names : List ℕ) (size : ℕ) (s : Sound names size) {number : ℕ} {r : Name} (a : Stands (names_in (take size names)) number r) where
  -- a name that is there
  pub there : (r.end ≡ r.from → ⊥) → number < length (names_in (take size names))
  unfolding less_open
  there n = go (ltb number (length (names_in (take size names)))) refl
    where
      go : (b : Bool) → ltb number (length (names_in (take size names))) ≡ b → number < length (names_in (take size names))
      go true e = ltb-true number (length (names_in (take size names))) e
      go false e =
          let z : get_or (names_in (take size names)) number [] ≡ [] = get_or-eq_default (names_in (take size names)) [] (ltb-false number (length (names_in (take size names))) e) in
          absurd (n (a.end ∙ ap (λ (m : List ℕ). length (joined (take number (names_in (take size names)))) + length (less_open m)) z ∙ plus_none _ ∙ sym a.from))

  -- a name that is not
  pub not_there : r.end ≡ r.from → number < length (names_in (take size names)) → ⊥
  not_there e h = omega (arith, a.from, a.end, bare_some (get_or (names_in (take size names)) number []) (each_at name? (names_in (take size names)) number (sound_shaped names size s) h))
