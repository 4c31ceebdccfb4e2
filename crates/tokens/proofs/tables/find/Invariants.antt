use mathlib.Core.Path.{◌≡◌}
use Prim.Native.Nat.{◌+◌, ◌-◌, ◌≤◌}
use lib.ListN.{length, drop}
use Rattle.paper.specs.Words.{find_word}
use Rattle.tokens.specs.Tables.{total, words_of}
use Rattle.tokens.proofs.tables.find.Given as goal

abbrev pub invariant-loop-size : goal.invariant-loop-size
invariant-loop-size l = (l.size-index ≤ length l.lengths) × (l.from + total (drop l.size-index l.lengths) ≤ length l.words) × (l.token + (length l.lengths - l.size-index) ≤ 255) × (find_word (words_of l.first l.lengths (drop l.start l.words)) l.name ≡ find_word (words_of l.token (drop l.size-index l.lengths) (drop l.from l.words)) l.name)
