-- Answers of an edit, as facts about the lines that the store would hold.
use Rattle.std.specs.Prelude.{ℕ, ◌≡◌, refl, Bool, true, false, Some, None, List}
use Rattle.std.proofs.Common.{arith}
use Rattle.paper.specs.Bytes.{pick}
use Rattle.paper.specs.Store.{stored?, take_out}
use Rattle.store.specs.declared.Counts.{Counts}
use Rattle.store.specs.Answers.{counts_of}
use Rattle.store_edit.specs.Answers.{too_long, stored_answer, removed_answer}

done_go : (b : Bool) (m n : Counts) → pick b None (Some m) ≡ Some n → (b ≡ false) × (n ≡ m)
done_go true m n e = let z : ◌≡◌ {A = ℕ} 0 1 = cc in absurd (omega arith)
done_go false m n e = (refl, (cc))

-- a line was put in
pub stored_done : (store : List ℕ) (ls : List (List ℕ)) (c : Counts) → stored_answer store ls ≡ Some c → (too_long store ls ≡ false) × (c ≡ counts_of ls)
unfolding stored_answer
stored_done store ls c e = done_go (too_long store ls) (counts_of ls) c e

no_room_go : (b : Bool) (m : Counts) → pick b None (Some m) ≡ None → b ≡ true
no_room_go true m e = refl
no_room_go false m e = let z : ◌≡◌ {A = ℕ} 0 1 = cc in absurd (omega arith)

-- it found no room
pub stored_no_room : (store : List ℕ) (ls : List (List ℕ)) → stored_answer store ls ≡ None → too_long store ls ≡ true
unfolding stored_answer
stored_no_room store ls e = no_room_go (too_long store ls) (counts_of ls) e

gone_go : (b : Bool) (m n : Counts) → pick b (Some m) None ≡ Some n → (b ≡ true) × (n ≡ m)
gone_go true m n e = (refl, (cc))
gone_go false m n e = let z : ◌≡◌ {A = ℕ} 0 1 = cc in absurd (omega arith)

-- a line was taken out
pub removed_done : (n : ℕ) (ls : List (List ℕ)) (c : Counts) → removed_answer n ls ≡ Some c → (stored? n ls ≡ true) × (c ≡ counts_of (take_out n ls))
unfolding removed_answer
removed_done n ls c e = gone_go (stored? n ls) (counts_of (take_out n ls)) c e

not_there_go : (b : Bool) (m : Counts) → pick b (Some m) None ≡ None → b ≡ false
not_there_go true m e = let z : ◌≡◌ {A = ℕ} 0 1 = cc in absurd (omega arith)
not_there_go false m e = refl

-- there was none
pub removed_not_there : (n : ℕ) (ls : List (List ℕ)) → removed_answer n ls ≡ None → stored? n ls ≡ false
unfolding removed_answer
removed_not_there n ls e = not_there_go (stored? n ls) (counts_of (take_out n ls)) e
