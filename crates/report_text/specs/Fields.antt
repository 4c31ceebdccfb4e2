-- Numbers after tabs, one after the other; and a program's line without its name and its end.
use Rattle.std.specs.Prelude.{ℕ, List, [], ◌∷◌, ◌++◌, eqb}
use Rattle.paper.specs.Bytes.{pick, bytes}
use Rattle.paper.specs.Weigh.{Weighed, field, columns_text}
use Rattle.file_weigh.specs.declared.Columns.{Columns}
use Rattle.file_weigh.specs.Answers.{columns}

-- a tab and a number for each
unfoldable pub fields : List ℕ → List ℕ
fields [] = []
fields (n ∷ ns) = field n ++ fields ns

-- the columns, or `refused` and the number
unfoldable pub answer_text : Weighed → List ℕ
answer_text w = pick (eqb w.number 0) (columns_text w.columns) (9 ∷ bytes "refused" ++ field w.number)

-- the answer with a number, 0 where nothing is refused, and columns
abbrev pub numbered : ℕ → Columns → Weighed
numbered k c = record { number = k; columns = columns c }
