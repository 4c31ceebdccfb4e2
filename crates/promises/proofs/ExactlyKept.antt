-- Exactly when each number is answered to a text that is entered with wrong lines kept (document 02, §9).
use Rattle.std.specs.Prelude.{ℕ, ◌≡◌, refl, Bool, ◌⊎◌, List, eqb}
use Rattle.std.proofs.Common.{arith, sym, inl, inr, eqb-true, eq-eqb}
use Rattle.std.proofs.Math.Path.{subst}
use Rattle.std.proofs.Math.Bool.{true, false}
use Rattle.std.proofs.Math.Dec.{T}
use Rattle.std.proofs.lemmas.Bool.{eqb-false}
use Rattle.paper.specs.Bytes.{pick, blank?, every}
use Rattle.paper.specs.Tokens.{Token}
use Rattle.paper.specs.Items.{Span, no_span}
use Rattle.paper.specs.Errors.{keepable?}
use Rattle.paper.specs.Calls.{State, Entered, enter, enter_with}
use Rattle.laws.specs.Tests.{and_right, and_both, as_T}
use Rattle.promises.specs.Terms.{number_in, past_number, items_in, FirstHolding, none_holds, this_holds, later_holds, Exactly, Unsound, TextTooLong, NoLineNumber, Unread, TooFar, Giving, LawfulItems, StoreLacksRoom, LineLacksRoom, error_line_for, KeptLacksRoom, entry_list, entry_refusals, kept_refusals, deletion_refusals, text_refusals, can_keep?, Switched, as_without, kept_there, no_room_there}
use Rattle.promises.proofs.Answers.{refused_is, place_four}
use Rattle.promises.proofs.OnePlace.{not_both, one_4}
use Rattle.promises.proofs.Tested.{exactly}
use Rattle.promises.proofs.Exactly.{text_exactly}
use Rattle.promises.proofs.KeptLines.{same_unless_4, switched}

module _ (text : List ℕ) (s : State) where
  -- A number other than 4 is answered for the same reason where 4 is asked of fewer texts, and 8 of no more than those that 4 is no more asked of.
  other_first : {Four Four' Eight Eight' : Type 0} {k : ℕ} → (Four' → Four) → (Eight → Eight') → ((Four → ⊥) → Eight' → Eight) → (k ≡ 4 → ⊥) → FirstHolding (entry_list text s Four Eight) k → FirstHolding (entry_list text s Four' Eight') k
  other_first f g h n (this_holds x) = this_holds x
  other_first f g h n (later_holds a (this_holds x)) = later_holds a (this_holds x)
  other_first f g h n (later_holds a (later_holds b (this_holds x))) = later_holds a (later_holds b (this_holds x))
  other_first f g h n (later_holds a (later_holds b (later_holds c (this_holds x)))) = absurd (n refl)
  other_first f g h n (later_holds a (later_holds b (later_holds c (later_holds d (this_holds x))))) = later_holds a (later_holds b (later_holds c (later_holds (λ u. d (f u)) (this_holds x))))
  other_first f g h n (later_holds a (later_holds b (later_holds c (later_holds d (later_holds i (this_holds x)))))) = later_holds a (later_holds b (later_holds c (later_holds (λ u. d (f u)) (later_holds i (this_holds x)))))
  other_first f g h n (later_holds a (later_holds b (later_holds c (later_holds d (later_holds i (later_holds j (this_holds x))))))) =
      later_holds a (later_holds b (later_holds c (later_holds (λ u. d (f u)) (later_holds i (later_holds j (this_holds x))))))
  other_first f g h n (later_holds a (later_holds b (later_holds c (later_holds d (later_holds i (later_holds j (later_holds l (this_holds x)))))))) =
      later_holds a (later_holds b (later_holds c (later_holds (λ u. d (f u)) (later_holds i (later_holds j (later_holds l (this_holds (g x))))))))
  other_first f g h n (later_holds a (later_holds b (later_holds c (later_holds d (later_holds i (later_holds j (later_holds l (later_holds m none_holds)))))))) =
      later_holds a (later_holds b (later_holds c (later_holds (λ u. d (f u)) (later_holds i (later_holds j (later_holds l (later_holds (λ u. m (h d u)) none_holds)))))))

  -- what is not so where 4 is answered, and what is
  record BeforeFour (Four : Type 0) : Type 0 where
    pub sound : Unsound s → ⊥
    pub short : TextTooLong text → ⊥
    pub number : NoLineNumber text → ⊥
    pub four : Four

  before_four : {Four Eight : Type 0} {k : ℕ} → k ≡ 4 → FirstHolding (entry_list text s Four Eight) k → BeforeFour Four
  before_four e (this_holds x) = absurd (omega arith)
  before_four e (later_holds a (this_holds x)) = absurd (omega arith)
  before_four e (later_holds a (later_holds b (this_holds x))) = absurd (omega arith)
  before_four e (later_holds a (later_holds b (later_holds c (this_holds x)))) = record { sound = a; short = b; number = c; four = x }
  before_four e (later_holds a (later_holds b (later_holds c (later_holds d (this_holds x))))) = absurd (omega arith)
  before_four e (later_holds a (later_holds b (later_holds c (later_holds d (later_holds i (this_holds x)))))) = absurd (omega arith)
  before_four e (later_holds a (later_holds b (later_holds c (later_holds d (later_holds i (later_holds j (this_holds x))))))) = absurd (omega arith)
  before_four e (later_holds a (later_holds b (later_holds c (later_holds d (later_holds i (later_holds j (later_holds l (this_holds x)))))))) = absurd (omega arith)
  before_four e (later_holds a (later_holds b (later_holds c (later_holds d (later_holds i (later_holds j (later_holds l (later_holds m none_holds)))))))) = absurd (omega arith)

  -- 4 stays where no line would be kept without room
  stays_4 : BeforeFour (Unread (items_in text)) → (KeptLacksRoom text s → ⊥) → FirstHolding (kept_refusals text s) 4
  stays_4 f n = let both : Unread (items_in text) × (KeptLacksRoom text s → ⊥) = (f.four, n) in later_holds f.sound (later_holds f.short (later_holds f.number (this_holds both)))

  -- no tokens come of items that 4 is said of
  no_tokens : Unread (items_in text) → (P : List Token → Type 0) → Giving (items_in text) P → ⊥
  no_tokens u P g = u.1.none_begins u.1.rest (subst LawfulItems u.1.items (g.0, g.1))

  -- and becomes 8 where one would
  becomes_8 : BeforeFour (Unread (items_in text)) → KeptLacksRoom text s → FirstHolding (kept_refusals text s) 8
  becomes_8 f k =
      let u : Unread (items_in text) = f.four in
      later_holds f.sound
      (later_holds f.short
      (later_holds f.number
      (later_holds (λ (x : Unread (items_in text) × (KeptLacksRoom text s → ⊥)). x.1 k) (later_holds (λ (o : TooFar (items_in text)). not_both (items_in text) u.0 o.0 u.1 o.1) (later_holds (no_tokens u _) (later_holds (no_tokens u _) (this_holds (inr k))))))))

  -- 4 is said of one item, so that one error line is asked about
  no_room_is : (enter text s).number ≡ 4 → KeptLacksRoom text s → T (can_keep? text s) × LineLacksRoom s (number_in text) (error_line_for text (enter text s).place.start)
  unfolding can_keep?
  no_room_is z (q, r, can, full) =
      let at : q ≡ (enter text s).place = one_4 (items_in text) q (enter text s).place r (place_four text s z) in
      (and_both (eqb (enter text s).number 4) _ (as_T _ (eq-eqb _ _ z)) (subst (λ (p : Span). T (keepable? p.start text)) at can), subst (λ (p : Span). LineLacksRoom s (number_in text) (error_line_for text p.start)) at full)

  four_first : (enter text s).number ≡ 4 → BeforeFour (Unread (items_in text)) → FirstHolding (kept_refusals text s) (enter_with true text s).number
  unfolding can_keep?
  four_first z f = go (enter_with true text s) (switched text s)
    where
      go : (e : Entered) → Switched text s e → FirstHolding (kept_refusals text s) e.number
      go e (as_without n) = subst (FirstHolding (kept_refusals text s)) (sym z) (stays_4 f (λ k. subst T n (no_room_is z k).0))
      go e (kept_there t fits x k) = subst (FirstHolding (kept_refusals text s)) (sym k.number) (stays_4 f (λ l. fits (no_room_is z l).1))
      go e (no_room_there t full) =
          subst (FirstHolding (kept_refusals text s)) (sym (refused_is 8 no_span s).0)
          (becomes_8 f ((enter text s).place, place_four text s z, and_right (eqb (enter text s).number 4) _ t, full))

  -- a text that is entered with wrong lines kept
  kept_first : FirstHolding (entry_refusals text s) (enter text s).number → FirstHolding (kept_refusals text s) (enter_with true text s).number
  kept_first f = go (eqb (enter text s).number 4) refl
    where
      unkept : (Unread (items_in text) → ⊥) → Giving (items_in text) (StoreLacksRoom s (number_in text)) ⊎ KeptLacksRoom text s → Giving (items_in text) (StoreLacksRoom s (number_in text))
      unkept n (inl g) = g
      unkept n (inr k) = absurd (n (k.0, k.1))

      go : (b : Bool) → eqb (enter text s).number 4 ≡ b → FirstHolding (kept_refusals text s) (enter_with true text s).number
      go true e = four_first (eqb-true _ _ e) (before_four (eqb-true _ _ e) f)
      go false e =
          let n = eqb-false _ _ e in
          subst (λ (x : Entered). FirstHolding (kept_refusals text s) x.number) (sym (same_unless_4 text s true n)) (other_first (λ u. u.0) inl unkept n f)

  -- a deletion is not kept
  deletion_not_4 : {k : ℕ} → FirstHolding (deletion_refusals text s) k → k ≡ 4 → ⊥
  deletion_not_4 (this_holds x) e = omega arith
  deletion_not_4 (later_holds a (this_holds x)) e = omega arith
  deletion_not_4 (later_holds a (later_holds b (this_holds x))) e = omega arith
  deletion_not_4 (later_holds a (later_holds b (later_holds c (this_holds x)))) e = omega arith
  deletion_not_4 (later_holds a (later_holds b (later_holds c (later_holds d none_holds)))) e = omega arith

  -- every text, with the switch on or off
  pub text_exactly_with : (keep : Bool) → Exactly (text_refusals keep text s) (enter_with keep text s).number
  unfolding enter_with
  text_exactly_with false = text_exactly text s
  text_exactly_with true = go (every blank? (past_number text)) (((text_exactly text s).each (enter text s).number).0 refl)
    where
      go : (b : Bool) → FirstHolding (pick b (deletion_refusals text s) (entry_refusals text s)) (enter text s).number → Exactly (pick b (deletion_refusals text s) (kept_refusals text s)) (enter_with true text s).number
      go true f = exactly _ _ tt (subst (λ (x : Entered). FirstHolding (deletion_refusals text s) x.number) (sym (same_unless_4 text s true (deletion_not_4 f))) f)
      go false f = exactly _ _ tt (kept_first f)
