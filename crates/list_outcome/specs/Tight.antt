-- One outcome: two that satisfy the contract of a line's listing are equal, in the answer and in the buffer.
use Rattle.std.specs.Prelude.{ℕ, ◌≡◌, refl, List, eqb, Result, Ok, Err}
use Rattle.paper.specs.Bytes.{pick}
use Rattle.paper.specs.Calls.{Listed}
use Rattle.refusals.specs.declared.Refusal.{Refusal}
use Rattle.refusals.specs.declared.Refusal.TheVariants.{Unsound, LongText, NoNumber, NoReading, OutOfRange, NoNameRoom, LongLine, NoRoom, NoLine, NotWellFormed, LongListing, NoProgram, Damaged, NoFile}
use Rattle.list_outcome.specs.Outcomes.{answer}

-- the refusal with a number
abbrev pub refusal_of : ℕ → Refusal
refusal_of n = pick (eqb n 1) Unsound (pick (eqb n 2) LongText (pick (eqb n 3) NoNumber (pick (eqb n 4) NoReading (pick (eqb n 5) OutOfRange (pick (eqb n 6) NoNameRoom (pick (eqb n 7) LongLine (pick (eqb n 8) NoRoom (pick (eqb n 9) NoLine (pick (eqb n 10) NotWellFormed (pick (eqb n 11) LongListing (pick (eqb n 12) NoProgram (pick (eqb n 13) Damaged NoFile))))))))))))

-- the number tells whether a line is listed, and the refusal; the bytes written tell how many
abbrev pub outcome_of : Listed → Result ℕ Refusal
outcome_of o = pick (eqb o.number 0) (Ok o.written) (Err (refusal_of o.number))

pub answer_tells : (r : Result ℕ Refusal) (out : List ℕ) → outcome_of (answer r out) ≡ r
unfolding answer
answer_tells (Ok n) out = refl
answer_tells (Err Unsound) out = refl
answer_tells (Err LongText) out = refl
answer_tells (Err NoNumber) out = refl
answer_tells (Err NoReading) out = refl
answer_tells (Err OutOfRange) out = refl
answer_tells (Err NoNameRoom) out = refl
answer_tells (Err LongLine) out = refl
answer_tells (Err NoRoom) out = refl
answer_tells (Err NoLine) out = refl
answer_tells (Err NotWellFormed) out = refl
answer_tells (Err LongListing) out = refl
answer_tells (Err NoProgram) out = refl
answer_tells (Err Damaged) out = refl
answer_tells (Err NoFile) out = refl

pub buffer_tells : (r : Result ℕ Refusal) (out : List ℕ) → (answer r out).output ≡ out
unfolding answer
buffer_tells (Ok n) out = refl
buffer_tells (Err r) out = refl
