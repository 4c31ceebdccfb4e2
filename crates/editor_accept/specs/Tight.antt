-- One outcome of accepting a line: two that satisfy the same contract are equal, in the answer and in each lent buffer.
use Rattle.std.specs.Prelude.{ℕ, ◌≡◌, List, []}
use Rattle.paper.specs.Line.{direct_number}
use Rattle.paper.specs.Calls.{State, names_of, accept}
use Rattle.paper.specs.Direct.{accept_direct}
use Rattle.editor_edit.specs.declared.Editor.{Editor}
use Rattle.editor_edit.specs.declared.Entered.{Entered}
use Rattle.editor_edit.specs.States.{state, entered}
use Rattle.editor_edit.specs.Tight.{one_entered}
use Rattle.editor_edit.proofs.Tight.{one_typed}
use Rattle.editor_accept.specs.Lines.{Readable, Accepts, AcceptsDirect}

-- of a line accepted that was read
pub one_accepted : (x : State) (number : ℕ) (line : List ℕ) (size : ℕ) (fresh : List ℕ) → Readable (names_of x) number line size fresh
    → (r r' : Entered) (n v s n' v' s' : List ℕ) → Accepts x number line size fresh (entered r n v s) → Accepts x number line size fresh (entered r' n' v' s')
    → (r ≡ r') × (n ≡ n') × (v ≡ v') × (s ≡ s')
one_accepted x number line size fresh read r r' n v s n' v' s' h k =
    one_entered (accept x number read.ts) r r' n v s n' v' s' (h read.ts read.written) (k read.ts read.written)

-- of a line without a number accepted that was read
pub one_accepted_direct : (names values : List ℕ) (e : Editor) (buffer line : List ℕ) (size : ℕ) (fresh : List ℕ)
    → Readable (names_of (state names values [] e)) direct_number line size fresh
    → (r r' : Entered) (n v l n' v' l' : List ℕ) → AcceptsDirect names values e buffer line size fresh r n v l → AcceptsDirect names values e buffer line size fresh r' n' v' l'
    → (r ≡ r') × (n ≡ n') × (v ≡ v') × (l ≡ l')
one_accepted_direct names values e buffer line size fresh read r r' n v l n' v' l' h k =
    let one = one_typed (accept_direct (state names values [] e) buffer read.ts) r r' n v [] l n' v' [] l' (h [] read.ts read.written) (k [] read.ts read.written) in
    (one.0, one.1, one.2, one.4)
