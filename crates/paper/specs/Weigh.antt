-- What tokens save (document 02, §13): the bytes of a saved program, by what they are, and the report's lines.
use Rattle.std.specs.Prelude.{ℕ, suc, ◌+◌, not, List, [], ◌∷◌, ◌++◌, map, ltb, eqb, length}
use Rattle.paper.specs.Bytes.{pick, bytes, every, joined}
use Rattle.paper.specs.Tokens.{Token, statement, assigned, operator, variable, constant, string, raw, out_of_range, unreadable}
use Rattle.paper.specs.Names.{names_in}
use Rattle.paper.specs.Line.{lawful_number?, variable_bytes, line_tokens}
use Rattle.paper.specs.Listing.{decimal}
use Rattle.paper.specs.Errors.{error_line?, error_text, listable?, line_listing}
use Rattle.paper.specs.Files.{parts_of, unless_faulty}

-- ---- the bytes of a token, by what they are

-- in variable tokens, in numbers, in strings and in raw text
pub record Shares : Type 0 where
  pub variables : ℕ
  pub numbers : ℕ
  pub strings : ℕ
  pub raw_text : ℕ

-- so many bytes in each
unfoldable pub share : ℕ → ℕ → ℕ → ℕ → Shares
share v n s r = record { variables = v; numbers = n; strings = s; raw_text = r }

-- of each token: a variable's bytes, after 36 too; 0E and its six; 0F, length and text; raw text without its 9B
unfoldable pub shares : List (List ℕ) → Token → Shares
shares ns (statement t) = share 0 0 0 0
shares ns (assigned n) = share (length (variable_bytes ns n)) 0 0 0
shares ns (operator t) = share 0 0 0 0
shares ns (variable n) = share (length (variable_bytes ns n)) 0 0 0
shares ns (constant b) = share 0 (suc (length b)) 0 0
shares ns (string b) = share 0 0 (2 + length b) 0
shares ns (raw b) = share 0 0 0 (length b)
shares ns out_of_range = share 0 0 0 0
shares ns unreadable = share 0 0 0 0

-- in all else: a statement's offset and word, 36 as well; operators, functions and ends
unfoldable pub in_else : Token → ℕ
in_else (statement t) = 2
in_else (assigned n) = 2
in_else (operator t) = 1
in_else (variable n) = 0
in_else (constant b) = 0
in_else (string b) = 0
in_else (raw b) = 0
in_else out_of_range = 0
in_else unreadable = 0

-- a sum over a list
unfoldable pub sum : {A : Type 0} → (A → ℕ) → List A → ℕ
sum f [] = 0
sum f (x ∷ xs) = f x + sum f xs

-- ---- a line: what its tokens hold; in all else its head too. Of an error line the text is raw, and the other six bytes are else.

unfoldable pub line_variables : List (List ℕ) → List ℕ → ℕ
line_variables ns l = pick (error_line? l) 0 (sum (λ t. (shares ns t).variables) (line_tokens ns l))

unfoldable pub line_numbers : List (List ℕ) → List ℕ → ℕ
line_numbers ns l = pick (error_line? l) 0 (sum (λ t. (shares ns t).numbers) (line_tokens ns l))

unfoldable pub line_strings : List (List ℕ) → List ℕ → ℕ
line_strings ns l = pick (error_line? l) 0 (sum (λ t. (shares ns t).strings) (line_tokens ns l))

unfoldable pub line_raw : List (List ℕ) → List ℕ → ℕ
line_raw ns l = pick (error_line? l) (length (error_text l)) (sum (λ t. (shares ns t).raw_text) (line_tokens ns l))

unfoldable pub line_else : List (List ℕ) → List ℕ → ℕ
line_else ns l = pick (error_line? l) 6 (3 + sum in_else (line_tokens ns l))

-- ---- a program

-- the columns after the program's name
pub record Columns : Type 0 where
  pub lines : ℕ
  pub names : ℕ
  pub used : ℕ
  pub listing : ℕ
  pub variables : ℕ
  pub numbers : ℕ
  pub strings : ℕ
  pub raw_text : ℕ
  pub others : ℕ

-- nothing
unfoldable pub no_columns : Columns
no_columns = record { lines = 0; names = 0; used = 0; listing = 0; variables = 0; numbers = 0; strings = 0; raw_text = 0; others = 0 }

-- the columns of a program: names and lines; a listing has one end byte a line
unfoldable pub columns_of : List (List ℕ) → List (List ℕ) → Columns
columns_of ns ls =
    record {
      lines = length ls;
      names = length ns;
      used = length (joined ls);
      listing = sum (λ l. suc (length (line_listing ns l))) ls;
      variables = sum (line_variables ns) ls;
      numbers = sum (line_numbers ns) ls;
      strings = sum (line_strings ns) ls;
      raw_text = sum (line_raw ns) ls;
      others = sum (line_else ns) ls;
    }

pub record Weighed : Type 0 where
  pub number : ℕ
  pub columns : Columns

-- a refused program adds nothing
unfoldable pub unweighed : ℕ → Weighed
unweighed k = record { number = k; columns = no_columns }

-- a file: 14 for more than 65,535 bytes; 12, 13, 1; 10 for a line that cannot be listed; or its columns
unfoldable pub weigh : List ℕ → Weighed
weigh file =
    let p = parts_of file in
    let ns = names_in p.names in
    let weighed : Weighed = record { number = 0; columns = columns_of ns p.lines } in
    pick (ltb 65535 (length file)) (unweighed 14) (unless_faulty unweighed file (pick (not (every (listable? lawful_number? ns) p.lines)) (unweighed 10) weighed))

-- ---- the report

-- a tab and a number
unfoldable pub field : ℕ → List ℕ
field n = 9 ∷ decimal 20 n

-- the columns as text, each after a tab
unfoldable pub columns_text : Columns → List ℕ
columns_text c =
    field c.lines ++ field c.names ++ field c.used ++ field c.listing ++ field c.variables ++ field c.numbers ++ field c.strings ++ field c.raw_text
    ++ field c.others

-- a program's line: its name as listed and the columns, or `refused` and the number
unfoldable pub report_line : List ℕ → Weighed → List ℕ
report_line name w =
    let refused = name ++ (9 ∷ bytes "refused" ++ field w.number) in
    let counted = name ++ columns_text w.columns in
    pick (eqb w.number 0) counted refused ++ 0x0a ∷ []

-- two programs' columns added up
unfoldable pub added_up : Columns → Columns → Columns
added_up a b =
    record {
      lines = a.lines + b.lines;
      names = a.names + b.names;
      used = a.used + b.used;
      listing = a.listing + b.listing;
      variables = a.variables + b.variables;
      numbers = a.numbers + b.numbers;
      strings = a.strings + b.strings;
      raw_text = a.raw_text + b.raw_text;
      others = a.others + b.others;
    }

-- the last line: the sums
unfoldable pub total_line : Columns → List ℕ
total_line c = bytes "total" ++ columns_text c ++ 0x0a ∷ []

-- ---- the whole report

-- what was found under a name of the list: a file's bytes, or no file that can be opened
pub data Found : Type 0 where
  opened : List ℕ → Found
  not_opened : Found

-- 14 for a file that cannot be opened
unfoldable pub weigh_found : Found → Weighed
weigh_found (opened file) = weigh file
weigh_found not_opened = unweighed 14

-- a name of the list, and what was found under it
pub record Named : Type 0 where
  pub name : List ℕ
  pub found : Found

-- the sum of each column over all programs; a refused one adds nothing
unfoldable pub totals : List Named → Columns
totals [] = no_columns
totals (p ∷ ps) = added_up (weigh_found p.found).columns (totals ps)

-- the line of a name
unfoldable pub named_line : Named → List ℕ
named_line p = report_line p.name (weigh_found p.found)

-- what is printed: a line for each name, in the order of the list, and `total` last, after no names too
unfoldable pub report : List Named → List ℕ
report ps = joined (map named_line ps) ++ total_line (totals ps)
