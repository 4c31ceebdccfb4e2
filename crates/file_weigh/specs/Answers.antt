-- What weighing a file answers, as outcomes of `paper`; and the weight of lines.
use Rattle.std.specs.Prelude.{ℕ, ◌≤◌, List, [], ◌∷◌, Option, Some, None, Result, Ok, Err}
use Rattle.paper.specs.Bytes.{pick, every}
use Rattle.paper.specs.Line.{lawful_number?}
use Rattle.paper.specs.Errors.{listable?}
use Rattle.paper.specs.Weigh.{Columns as Sums, Weighed as Outcome}
use Rattle.list_weigh.specs.declared.Weight.{Weight}
use Rattle.list_weigh.specs.Weights.{nothing, plus, line_weight, Small}
use Rattle.file_weigh.specs.declared.Columns.{Columns}
use Rattle.refusals.specs.Numbers.{number_of}
use Rattle.refusals.specs.declared.Refusal.{Refusal}

-- the columns
abbrev pub columns : Columns → Sums
columns c =
    let w = c.weight in
    record {
      lines = c.lines;
      names = c.names;
      used = c.used;
      listing = w.listing;
      variables = w.variables;
      numbers = w.numbers;
      strings = w.strings;
      raw_text = w.raw_text;
      others = w.others;
    }

-- nothing
abbrev pub none : Columns
none = record { lines = 0; names = 0; used = 0; weight = nothing }

-- the number of an answer, 0 where nothing was refused
abbrev pub number_in : Result Columns Refusal → ℕ
number_in (Ok c) = 0
number_in (Err r) = number_of r

-- its columns, those of nothing after a refusal
abbrev pub columns_in : Result Columns Refusal → Columns
columns_in (Ok c) = c
columns_in (Err r) = none

-- the answer
abbrev pub weighed : Result Columns Refusal → Outcome
weighed r = record { number = number_in r; columns = columns (columns_in r) }

-- lines
unfoldable pub lines_weight : List (List ℕ) → List (List ℕ) → Weight
lines_weight ns [] = nothing
lines_weight ns (l ∷ ls) = plus (line_weight ns l) (lines_weight ns ls)

-- what comes of weighing lines after others that weigh so much
unfoldable pub lines_weighing : Weight → List (List ℕ) → List (List ℕ) → Option Weight
lines_weighing before ns ls = pick (every (listable? lawful_number? ns) ls) (Some (plus before (lines_weight ns ls))) None

-- columns that files of n bytes may have
pub record Sized (n : ℕ) (c : Columns) : Type 0 where
  pub lines : c.lines ≤ n
  pub names : c.names ≤ n
  pub used : c.used ≤ n
  pub weight : Small n c.weight
