use Rattle.paper.specs.Files.{never_fall}
use Prim.Native.Nat.{◌-◌}
use mathlib.Core.Path.{◌≡◌}
use Rattle.file_load.proofs.words_never_fall.Given as goal

abbrev pub invariant-loop-i : goal.invariant-loop-i
invariant-loop-i l = never_fall l.file l.i (6 - l.i) ≡ never_fall l.file 0 6
