-- The numbers of the refusals.
use Rattle.std.specs.Prelude.{ℕ}
use Rattle.refusals.specs.declared.Refusal.{Refusal}
use Rattle.refusals.specs.declared.Refusal.TheVariants.{Unsound, LongText, NoNumber, NoReading, OutOfRange, NoNameRoom, LongLine, NoRoom, NoLine, NotWellFormed, LongListing, NoProgram, Damaged, NoFile}

-- tables or store unsound; the text too long; no number before it; no reading by the grammar; a constant out of range; no room for names; the line too long;
-- no room in the store or a lent buffer; no such line; a line that is not well-formed; the listing too long; no program file; a program file whose words are
-- wrong; a file that cannot be read
abbrev pub number_of : Refusal → ℕ
number_of Unsound = 1
number_of LongText = 2
number_of NoNumber = 3
number_of NoReading = 4
number_of OutOfRange = 5
number_of NoNameRoom = 6
number_of LongLine = 7
number_of NoRoom = 8
number_of NoLine = 9
number_of NotWellFormed = 10
number_of LongListing = 11
number_of NoProgram = 12
number_of Damaged = 13
number_of NoFile = 14
