-- What comes of listing a line, with document 01's numbers; and the listing of an error line (document 02, §9), stored or direct (§1).
use Rattle.std.specs.Prelude.{ℕ, Bool, List, ◌++◌, Result, Ok, Err}
use Rattle.paper.specs.Bytes.{bytes}
use Rattle.paper.specs.Line.{line_number}
use Rattle.paper.specs.Errors.{error_text}
use Rattle.paper.specs.Calls.{Listed}
use Rattle.list_head.specs.Heads.{head_for}
use Rattle.refusals.specs.declared.Refusal.{Refusal}
use Rattle.refusals.specs.Numbers.{number_of}

-- the listing of an error line
abbrev pub error_listing : Bool → List ℕ → List ℕ
error_listing direct l = head_for direct (line_number l) ++ (bytes "ERROR- " ++ error_text l)

-- the number of what comes of listing a line, the bytes written, and the buffer afterwards: 0 and how many for a line that is listed, and else the refusal's number
unfoldable pub answer : Result ℕ Refusal → List ℕ → Listed
answer (Ok n) out = record { number = 0; written = n; output = out }
answer (Err r) out = record { number = number_of r; written = 0; output = out }
