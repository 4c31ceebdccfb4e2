-- The refusals and their numbers: each has its own, and none has 0.
use Rattle.std.specs.Prelude.{ℕ, ◌≡◌, refl, [], ◌∷◌, get_or}
use Rattle.std.proofs.Common.{arith, sym, ap, ◌∙◌}
use Rattle.refusals.specs.Numbers.{number_of}
use Rattle.refusals.specs.declared.Refusal.{Refusal}
use Rattle.refusals.specs.declared.Refusal.TheVariants.{Unsound, LongText, NoNumber, NoReading, OutOfRange, NoNameRoom, LongLine, NoRoom, NoLine, NotWellFormed, LongListing, NoProgram, Damaged, NoFile}

-- the refusal that a number stands for
abbrev pub refusal_of : ℕ → Refusal
refusal_of n = get_or (NoFile ∷ Unsound ∷ LongText ∷ NoNumber ∷ NoReading ∷ OutOfRange ∷ NoNameRoom ∷ LongLine ∷ NoRoom ∷ NoLine ∷ NotWellFormed ∷ LongListing ∷ NoProgram ∷ Damaged ∷ []) n NoFile

pub refusal_back : (k : Refusal) → refusal_of (number_of k) ≡ k
refusal_back Unsound = refl
refusal_back LongText = refl
refusal_back NoNumber = refl
refusal_back NoReading = refl
refusal_back OutOfRange = refl
refusal_back NoNameRoom = refl
refusal_back LongLine = refl
refusal_back NoRoom = refl
refusal_back NoLine = refl
refusal_back NotWellFormed = refl
refusal_back LongListing = refl
refusal_back NoProgram = refl
refusal_back Damaged = refl
refusal_back NoFile = refl

-- one number stands for one refusal
pub same_number : (k m : Refusal) → number_of k ≡ number_of m → k ≡ m
same_number k m e = sym (refusal_back k) ∙ ap refusal_of e ∙ refusal_back m

-- no refusal has the number 0
pub some_number : (k : Refusal) → number_of k ≡ 0 → ⊥
some_number Unsound e = omega arith
some_number LongText e = omega arith
some_number NoNumber e = omega arith
some_number NoReading e = omega arith
some_number OutOfRange e = omega arith
some_number NoNameRoom e = omega arith
some_number LongLine e = omega arith
some_number NoRoom e = omega arith
some_number NoLine e = omega arith
some_number NotWellFormed e = omega arith
some_number LongListing e = omega arith
some_number NoProgram e = omega arith
some_number Damaged e = omega arith
some_number NoFile e = omega arith
