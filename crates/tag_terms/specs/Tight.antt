-- One outcome: two that satisfy the contract of a call from C are equal in every lent slice.
use Rattle.std.specs.Prelude.{ℕ, ◌≡◌, List}
use Rattle.std.proofs.Common.{sym, ◌∙◌}
use Rattle.paper.specs.Calls.{Listed as WrittenOut}
use Rattle.paper.specs.Direct.{Typed}
use Rattle.paper.specs.Batch.{Batched}
use Rattle.paper.specs.Examine.{Verdict}
use Rattle.tag_terms.specs.Lent.{Leaves, LeavesAll, Lists, Examines, Saves, Loads, Collects}
use Rattle.paper.specs.Files.{Saved, Loaded}
use Rattle.paper.specs.Collect.{Collected}

-- of a text entered
pub one_left : (o : Typed) (r a n v s l e b n' v' s' l' e' b' : List ℕ) → Leaves o r a n v s l e b → Leaves o r a n' v' s' l' e' b'
    → (n ≡ n') × (v ≡ v') × (s ≡ s') × (l ≡ l') × (e ≡ e') × (b ≡ b')
one_left o r a n v s l e b n' v' s' l' e' b' h k =
    (h.names_so ∙ sym k.names_so, h.values_so ∙ sym k.values_so, h.store_so ∙ sym k.store_so, h.line_so ∙ sym k.line_so, h.record_so ∙ sym k.record_so, h.answer_so ∙ sym k.answer_so)

-- of many lines entered
pub one_left_all : (o : Batched) (r a n v s e b n' v' s' e' b' : List ℕ) → LeavesAll o r a n v s e b → LeavesAll o r a n' v' s' e' b' → (n ≡ n') × (v ≡ v') × (s ≡ s') × (e ≡ e') × (b ≡ b')
one_left_all o r a n v s e b n' v' s' e' b' h k =
    (h.names_so ∙ sym k.names_so, h.values_so ∙ sym k.values_so, h.store_so ∙ sym k.store_so, h.record_so ∙ sym k.record_so, h.answer_so ∙ sym k.answer_so)

-- of a line listed
pub one_listed : (o : WrittenOut) (a out b out' b' : List ℕ) → Lists o a out b → Lists o a out' b' → (out ≡ out') × (b ≡ b')
one_listed o a out b out' b' h k = (h.output_so ∙ sym k.output_so, h.answer_so ∙ sym k.answer_so)

-- of a program examined
pub one_examined : (v : Verdict) (a b b' : List ℕ) → Examines v a b → Examines v a b' → b ≡ b'
one_examined v a b b' h k = h ∙ sym k

-- of a file written
pub one_saved : (o : Saved) (a out b out' b' : List ℕ) → Saves o a out b → Saves o a out' b' → (out ≡ out') × (b ≡ b')
one_saved o a out b out' b' h k = (h.output_so ∙ sym k.output_so, h.answer_so ∙ sym k.answer_so)

-- of a file read
pub one_loaded : (o : Loaded) (r a n v s e b n' v' s' e' b' : List ℕ) → Loads o r a n v s e b → Loads o r a n' v' s' e' b' → (n ≡ n') × (v ≡ v') × (s ≡ s') × (e ≡ e') × (b ≡ b')
one_loaded o r a n v s e b n' v' s' e' b' h k =
    (h.names_so ∙ sym k.names_so, h.values_so ∙ sym k.values_so, h.store_so ∙ sym k.store_so, h.record_so ∙ sym k.record_so, h.answer_so ∙ sym k.answer_so)

-- of unused names taken back
pub one_collected : (o : Collected) (r a n v s e b n' v' s' e' b' : List ℕ) → Collects o r a n v s e b → Collects o r a n' v' s' e' b' → (n ≡ n') × (v ≡ v') × (s ≡ s') × (e ≡ e') × (b ≡ b')
one_collected o r a n v s e b n' v' s' e' b' h k =
    (h.names_so ∙ sym k.names_so, h.values_so ∙ sym k.values_so, h.store_so ∙ sym k.store_so, h.record_so ∙ sym k.record_so, h.answer_so ∙ sym k.answer_so)
