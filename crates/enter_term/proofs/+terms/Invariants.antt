use lib.ListN.{length}
use mathlib.Core.List.{[], ◌∷◌}
use Rattle.paper.specs.Frames.{want_operand, want_more_terms}
use Rattle.enter_item.specs.Says.{env_of}
use Rattle.enter_term.specs.Onward.{Onward}
use Prim.Native.Nat.{◌+◌, ◌*◌, ◌-◌}
use Rattle.enter_term.proofs.+terms.Given as goal

abbrev pub decreases-argument : goal.decreases-argument
decreases-argument l = 6 * (length l.text.now.part.now - l.q.at)

abbrev pub decreases-compared : goal.decreases-compared
decreases-compared l = 6 * (length l.text.now.part.now - l.q.at) + 1

abbrev pub decreases-comparison : goal.decreases-comparison
decreases-comparison l = 6 * (length l.text.now.part.now - l.q.at)

abbrev pub decreases-element : goal.decreases-element
decreases-element l = 6 * (length l.text.now.part.now - l.q.at)

abbrev pub decreases-enclosed : goal.decreases-enclosed
decreases-enclosed l = 6 * (length l.text.now.part.now - l.q.at) + 5

abbrev pub decreases-expression : goal.decreases-expression
decreases-expression l = 6 * (length l.text.now.part.now - l.q.at) + 4

abbrev pub decreases-operand : goal.decreases-operand
decreases-operand l = 6 * (length l.text.now.part.now - l.q.at) + 2

abbrev pub decreases-second : goal.decreases-second
decreases-second l = 6 * (length l.text.now.part.now - l.q.at)

abbrev pub decreases-string : goal.decreases-string
decreases-string l = 6 * (length l.text.now.part.now - l.q.at)

abbrev pub decreases-string_argument : goal.decreases-string_argument
decreases-string_argument l = 6 * (length l.text.now.part.now - l.q.at)

abbrev pub decreases-subscripts : goal.decreases-subscripts
decreases-subscripts l = 6 * (length l.text.now.part.now - l.q.at) + 5

abbrev pub decreases-substring : goal.decreases-substring
decreases-substring l = 6 * (length l.text.now.part.now - l.q.at)

abbrev pub decreases-term_at : goal.decreases-term_at
decreases-term_at l = 6 * (length l.text.now.part.now - l.q.at) + 3

abbrev pub invariant-expression-loop-next : goal.invariant-expression-loop-next
invariant-expression-loop-next l = Onward (want_operand ∷ want_more_terms ∷ []) (env_of l.text) l.initial.p l.initial.draft l.p l.draft

abbrev pub decreases-expression-loop-next : goal.decreases-expression-loop-next
decreases-expression-loop-next l = length l.text.part.now - l.p.at

abbrev pub invariant-term_at-loop-draft : goal.invariant-term_at-loop-draft
invariant-term_at-loop-draft l = Onward (want_operand ∷ []) (env_of l.text) l.initial.p l.initial.draft l.p l.draft

abbrev pub decreases-term_at-loop-draft : goal.decreases-term_at-loop-draft
decreases-term_at-loop-draft l = length l.text.part.now - l.p.at
