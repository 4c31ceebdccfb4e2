-- What reading a text gives, from the definitions of document 01.
use Rattle.std.specs.Prelude.{ℕ, ◌+◌, ◌≤◌, ◌≡◌, Bool, true, List, eqb, length, take, drop, Option, Some, None, Result, Ok, Err}
use Rattle.std.proofs.lemmas.List.Edits.{sets}
use Rattle.paper.specs.Bytes.{pick, blank?, run}
use Rattle.paper.specs.Tokens.{Token}
use Rattle.paper.specs.Items.{Span, span, size_at}
use Rattle.paper.specs.Names.{names_in, name_bytes, add_names}
use Rattle.paper.specs.Line.{line_bytes, direct_number}
use Rattle.paper.specs.Errors.{marked_at, error_line}
use Rattle.paper.specs.Calls.{Translated, tokens, refused_at, translate, Head, numbered, too_great, only_blanks, unnumbered, head_of}
use Rattle.laws.specs.Names.{names_added}
use Rattle.enter_item.specs.Draft.{written_line}
unfoldable pub use Rattle.enter_error.specs.Keeps.{keeps?}
use Rattle.enter_line.specs.declared.Numbered.{Numbered}
use Rattle.enter_line.specs.declared.NoNumber.{NoNumber}
use Rattle.enter_line.specs.declared.NoNumber.TheVariants.{TooGreat, OnlyBlanks, Unnumbered}
use Rattle.enter_line.specs.declared.Start.{Start as Begun}
use Rattle.enter_line.specs.declared.Start.TheVariants.{Statements, NumberAlone}
use Rattle.enter_line.specs.declared.Line.{Line}
use Rattle.enter_line.specs.declared.Reading.{Reading}
use Rattle.enter_line.specs.declared.Reading.TheVariants.{Read, Delete, Kept}
use Rattle.refusals.specs.Numbers.{number_of}
use Rattle.refusals.specs.declared.RefusedItem.{RefusedItem}

-- what the reader of a line's number answers, as the definitions have it
abbrev pub as_head : List ℕ → Result Numbered NoNumber → Head
as_head text (Ok l) = numbered l.number l.from (drop l.from text)
as_head text (Err TooGreat) = too_great
as_head text (Err OnlyBlanks) = only_blanks
as_head text (Err Unnumbered) = unnumbered

-- what a text is to be read as: the line with a number, whose statements stand from a place on; a number alone; nothing
pub data Start : Type 0 where
  statements : ℕ → ℕ → Start
  number_alone : ℕ → Start
  nothing : Start

-- By a text's head: nothing but blanks after a number is a number alone. A text without a number is a line, from its own start on, where such lines
-- are read.
unfoldable pub start_at : Bool → Head → Start
start_at direct (numbered n p rest) = pick (eqb (run blank? rest) (length rest)) (number_alone n) (statements n p)
start_at direct too_great = nothing
start_at direct only_blanks = nothing
start_at direct unnumbered = pick direct (statements direct_number 0) nothing

-- what the reader of a text's start answers, as the definitions have it
abbrev pub as_start : Option Begun → Start
as_start (Some (Statements l)) = statements l.number l.from
as_start (Some (NumberAlone n)) = number_alone n
as_start None = nothing

-- what reading a text gives: a line; the number alone of a line to delete; a refusal's number, its place and that place's end; or the error line that is kept of
-- a text that is refused, with the same of its refusal
pub data Answer : Type 0 where
  gives_line : Line → Answer
  gives_deletion : ℕ → Answer
  gives_refusal : ℕ → ℕ → ℕ → Answer
  gives_kept : Line → ℕ → ℕ → ℕ → Answer

-- what the reader of a text answers, with the refusals by their numbers
abbrev pub as_answer : Result Reading RefusedItem → Answer
as_answer (Ok (Read l)) = gives_line l
as_answer (Ok (Delete n)) = gives_deletion n
as_answer (Ok (Kept l i)) = gives_kept l (number_of i.refusal) i.place i.end
as_answer (Err i) = gives_refusal (number_of i.refusal) i.place i.end

-- the item that stands at a place of a text
abbrev pub standing : List ℕ → ℕ → Span
standing text place = span place (place + size_at (drop place text))

-- the error line of the text of the line n, whose digits end at p, refused at a place
abbrev pub error_of : List ℕ → ℕ → ℕ → ℕ → List ℕ
error_of text n p place = error_line n (drop p (marked_at place text))

-- the line n, whose digits end at p, refused with k: kept, which is so of 4 alone, or not
unfoldable pub of_refused : Bool → List ℕ → ℕ → ℕ → ℕ → Span → Answer
of_refused keep text n p k there =
    let this_kept = gives_kept (record { number = n; size = length (error_of text n p there.start); named = 0 }) 4 there.start there.end in
    pick (keeps? keep text n k there.start) this_kept (gives_refusal k there.start there.end)

-- a line that is kept stands at the front of a buffer
abbrev pub KeptThere : Bool → List ℕ → ℕ → ℕ → ℕ → ℕ → List ℕ → Type 0
KeptThere keep text n p k place line' = keeps? keep text n k place ≡ true → take (length (error_of text n p place)) line' ≡ error_of text n p place

-- what comes of such a line that is refused at a place, and what it leaves in the buffer
pub record Refuses (keep : Bool) (text : List ℕ) (n p k place : ℕ) (line' : List ℕ) (r : Result Reading RefusedItem) : Type 0 where
  pub answer : as_answer r ≡ of_refused keep text n p k (standing text place)
  pub there : KeptThere keep text n p k place line'

-- a translation over the names ks, of the line with number n, whose digits end at p
unfoldable pub of_translated : Bool → List (List ℕ) → List ℕ → ℕ → ℕ → Translated → Answer
of_translated keep ks text n p (tokens ts) = gives_line (record { number = n; size = length (line_bytes (add_names ks ts) n ts); named = length (name_bytes (names_added ks ts)) })
of_translated keep ks text n p (refused_at k there) = of_refused keep text n p k there

-- by what a text is to be read as: its statements are translated, a number alone deletes
unfoldable pub of_start : Bool → List (List ℕ) → List ℕ → Start → Answer
of_start keep ks text (statements n p) = of_translated keep ks text n p (translate p (drop p text))
of_start keep ks text (number_alone n) = gives_deletion n
of_start keep ks text nothing = gives_refusal 3 0 0

-- An accepted line: it and the names new in it stand at the front of the two buffers; the names can be told apart, and have at most 240
-- bytes. The line's bytes are those of the definitions if there are at most 255 of them and at most 256 names (`line_fits`).
pub record Accepted (ks : List (List ℕ)) (n : ℕ) (ts : List Token) (line fresh line' fresh' : List ℕ) : Type 0 where
  pub line_put : line' ≡ sets line 0 (written_line ks n ts)
  pub names_put : fresh' ≡ sets fresh 0 (name_bytes (names_added ks ts))
  pub told_apart : names_in (name_bytes (names_added ks ts)) ≡ names_added ks ts
  pub few : length (name_bytes (names_added ks ts)) ≤ 240

-- The answer is the definitions'; and what an accepted text, or one that is kept, leaves in the two buffers.
pub record Told (ks : List (List ℕ)) (keep direct : Bool) (text line fresh line' fresh' : List ℕ) (r : Result Reading RefusedItem) : Type 0 where
  pub answer : as_answer r ≡ of_start keep ks text (start_at direct (head_of text))
  pub accepted : (n p : ℕ) (ts : List Token) → start_at direct (head_of text) ≡ statements n p → translate p (drop p text) ≡ tokens ts → Accepted ks n ts line fresh line' fresh'
  pub kept : (n p k : ℕ) (there : Span) → start_at direct (head_of text) ≡ statements n p → translate p (drop p text) ≡ refused_at k there → KeptThere keep text n p k there.start line'
