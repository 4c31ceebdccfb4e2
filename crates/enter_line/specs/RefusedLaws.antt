-- The answer to a refused text: its error line where it is kept, or the refusal.
use Rattle.std.specs.Prelude.{ℕ, zero, suc, ◌-◌, ◌≤◌, Bool, true, false, not, ◌&&◌, drop, eqb, Ok, Err}
use Rattle.std.proofs.Common.{arith, ◌∙◌, eqb-true}
use Rattle.std.proofs.Math.Path.{◌≡◌, refl, sym, ap}
use mathlib.Core.List.{List, [], ◌∷◌}
use Rattle.std.proofs.Math.ListN.{length, take}
use Rattle.paper.specs.Items.{Span, span}
use Rattle.paper.specs.Line.{direct_number?}
use Rattle.paper.specs.Errors.{marked_at, error_line, keepable?}
use Rattle.enter_line.specs.Reading.{keeps?, standing, error_of, gives_refusal, gives_kept, of_refused, Refuses}
use Rattle.enter_line.specs.declared.Reading.TheVariants.{Kept}
use Rattle.refusals.specs.Numbers.{number_of}
use Rattle.refusals.specs.declared.Refusal.{Refusal}

-- the text after a number, marked, is the end of the whole text, marked
marked_part : (p place : ℕ) (text : List ℕ) → p ≤ place → place ≤ length text → marked_at (place - p) (drop p text) ≡ drop p (marked_at place text)
unfolding marked_at
marked_part zero place text h k = let e : place - 0 ≡ place = omega arith in ap (λ (n : ℕ). marked_at n text) e
marked_part (suc p) zero text h k = absurd (omega arith)
marked_part (suc p) (suc place) [] h k = absurd (omega arith)
marked_part (suc p) (suc place) (x ∷ s) h k =
    let e : suc place - suc p ≡ place - p = omega arith in ap (λ (n : ℕ). marked_at n (drop p s)) e ∙ marked_part p place s (omega arith) (omega arith)

-- 4 alone is kept
four_kept : (keep : Bool) (text : List ℕ) (n k place : ℕ) → keeps? keep text n k place ≡ true → k ≡ 4
unfolding keeps?
four_kept keep text n k place h = go keep (not (direct_number? n)) (eqb k 4) (keepable? place text) refl h
  where
    go : (a b c d : Bool) → eqb k 4 ≡ c → a && (b && (c && d)) ≡ true → k ≡ 4
    go true true true d e h = eqb-true k 4 e
    go true true false d e h = let z : ◌≡◌ {A = ℕ} 0 1 = cc in absurd (omega arith)
    go true false c d e h = let z : ◌≡◌ {A = ℕ} 0 1 = cc in absurd (omega arith)
    go false b c d e h = let z : ◌≡◌ {A = ℕ} 0 1 = cc in absurd (omega arith)

-- ---- the answer

module _ {keep : Bool} {text : List ℕ} {n p place : ℕ} {k : Refusal} {line' : List ℕ} {end : ℕ} (ends : span place end ≡ standing text place) where
  -- a line that is not kept
  pub not_kept : keeps? keep text n (number_of k) place ≡ false → Refuses keep text n p (number_of k) place line' (Err (record { refusal = k; place = place; end = end }))
  unfolding of_refused
  not_kept h =
      record { answer = ap (λ (there : Span). gives_refusal (number_of k) there.start there.end) ends ∙ sym (rw h); there = λ y. let z : ◌≡◌ {A = ℕ} 0 1 = cc in absurd (omega arith) }

  -- one that is
  pub is_kept : {size : ℕ} {rest : List ℕ} → keeps? keep text n (number_of k) place ≡ true → p ≤ place → place ≤ length text → rest ≡ drop p text
      → (size ≡ length (error_line n (marked_at (place - p) rest))) × (take size line' ≡ error_line n (marked_at (place - p) rest))
      → Refuses keep text n p (number_of k) place line' (Ok (Kept (record { number = n; size = size; named = 0 }) (record { refusal = k; place = place; end = end })))
  unfolding of_refused
  is_kept {size} {rest} h from within part w =
      let same : error_line n (marked_at (place - p) rest) ≡ error_of text n p place =
      ap (λ (s : List ℕ). error_line n (marked_at (place - p) s)) part ∙ ap (error_line n) (marked_part p place text from within) in
      let long : size ≡ length (error_of text n p place) = w.0 ∙ ap length same in
      record {
        answer =
            ap (λ (x : ℕ). gives_kept (record { number = n; size = size; named = 0 }) x place end) (four_kept keep text n (number_of k) place h)
            ∙ ap (λ (there : Span). gives_kept (record { number = n; size = size; named = 0 }) 4 there.start there.end) ends
            ∙ ap (λ (x : ℕ). gives_kept (record { number = n; size = x; named = 0 }) 4 place (standing text place).end) long
            ∙ sym (rw h);
        there = λ y. ap (λ (x : ℕ). take x line') (sym long) ∙ w.1 ∙ same;
      }
