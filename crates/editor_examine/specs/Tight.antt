-- One outcome: what the definitions answer tells what the code does.
use Rattle.std.specs.Prelude.{◌≡◌, refl, Result, Ok, Err}
use Rattle.paper.specs.Examine.{yes, unsound_names, unsound_values, unsound_store, bad_line}
use Rattle.paper.specs.Examine.{Verdict as Answer}
use Rattle.editor_examine.specs.declared.Flaw.{Flaw}
use Rattle.editor_examine.specs.declared.Flaw.TheVariants as Flaw'
use Rattle.editor_examine.specs.Verdicts.{verdict}

-- the definitions' answer tells the code's
abbrev pub told : Answer → Result (Unit {0}) Flaw
told yes = Ok tt
told unsound_names = Err Flaw'.UnsoundNames
told unsound_values = Err Flaw'.UnsoundValues
told unsound_store = Err Flaw'.UnsoundStore
told (bad_line n) = Err (Flaw'.BadLine n)

pub told_back : (r : Result (Unit {0}) Flaw) → told (verdict r) ≡ r
unfolding verdict
told_back (Ok u) = refl
told_back (Err Flaw'.UnsoundNames) = refl
told_back (Err Flaw'.UnsoundValues) = refl
told_back (Err Flaw'.UnsoundStore) = refl
told_back (Err (Flaw'.BadLine n)) = refl
