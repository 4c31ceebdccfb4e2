-- What may come at each place of a text: at each item's place exactly the listed classes of items are taken, giving their own token or the one
-- listed, and any other class is refused there. Worked out by hand from document 01, so that every kind of item is tried at each place that a
-- row of the grammar leads to.
use Rattle.std.specs.Prelude.{ℕ, ◌+◌, ◌*◌, ◌≡◌, refl, Bool, true, false, ◌&&◌, List, [], ◌∷◌, ◌++◌, eqb, length}
use Prim.Native.String.{String}
use Rattle.paper.specs.Bytes.{pick, bytes, every, among}
use Rattle.paper.specs.Classes.{line_end, raw_end, unfit, number, quoted, numeric_variable, string_variable, array, first_numeric, first_string, first_array, open_sign, close_sign, comma, colon, semicolon, equals, comparison, plus_minus, factor_sign, not_word, or_and, goto_gosub, to_word, step_word, then_word, string_function, function_of_string, function_of_number, raw_text, channel_sign, remark, read_word, let_word, if_word, for_word, next_word, jump, alone, dim_word, on_word, poke_word, print_word, restore_word, input_word, open_word, xio_word, close_word, get_status, put_word, note_point}
use Rattle.paper.specs.Tokens.{class}
use Rattle.paper.specs.Items.{Item, items}
use Rattle.paper.specs.Machine.{Step, took, over, refused, step}
use Rattle.paper.specs.Grammar.{Gives, itself, for_strings, as_prefix, put, look, start}
use Rattle.paper.specs.Calls.{Head, numbered, too_great, only_blanks, unnumbered, head_of}
use Rattle.paper.specs.Open.{everything}

-- a text, and what may come at the place of each of its items
pub record Walk : Type 0 where
  pub text : String
  pub follows : List (List ℕ)

-- a row of the table
unfoldable pub along : String → List (List ℕ) → Walk
along t fs = record { text = t; follows = fs }

-- An item that is taken and gives another token than its own: the class, and which token.
unfoldable pub given_as : ℕ → ℕ → ℕ
given_as c k = c + 100 * k

-- prefix `+ -`, as 35 and 36
unfoldable pub prefix : ℕ
prefix = given_as plus_minus 1

-- the comparisons of strings, as 2F to 34
unfoldable pub comparing : List ℕ
comparing = given_as comparison 2 ∷ given_as equals 2 ∷ []

-- `=` that assigns a number, as 2D
unfoldable pub number_assigned : ℕ
number_assigned = given_as equals 0x2d

-- `=` that assigns a string, as 2E
unfoldable pub string_assigned : ℕ
string_assigned = given_as equals 0x2e

-- `(` of a substring, as 37
unfoldable pub substring_open : ℕ
substring_open = given_as open_sign 0x37

-- `(` of an array, as 38
unfoldable pub array_open : ℕ
array_open = given_as open_sign 0x38

-- `(` of an array in DIM, as 39
unfoldable pub dim_array_open : ℕ
dim_array_open = given_as open_sign 0x39

-- `(` of a function, as 3A
unfoldable pub function_open : ℕ
function_open = given_as open_sign 0x3a

-- `(` of a string in DIM, as 3B
unfoldable pub dim_string_open : ℕ
dim_string_open = given_as open_sign 0x3b

-- `,` between two subscripts, as 3C
unfoldable pub inner_comma : ℕ
inner_comma = given_as comma 0x3c

-- what begins a statement
unfoldable pub beginning : List ℕ
beginning = first_numeric ∷ first_string ∷ first_array ∷ remark ∷ read_word ∷ let_word ∷ if_word ∷ for_word ∷ next_word ∷ jump ∷ alone ∷ dim_word ∷ on_word ∷ poke_word ∷ print_word ∷ restore_word ∷ input_word ∷ open_word ∷ xio_word ∷ close_word ∷ get_status ∷ put_word ∷ note_point ∷ []

-- what begins a term
unfoldable pub term : List ℕ
term = prefix ∷ not_word ∷ number ∷ numeric_variable ∷ array ∷ open_sign ∷ function_of_string ∷ function_of_number ∷ quoted ∷ string_variable ∷ string_function ∷ []

-- what joins a term to another
unfoldable pub joining : List ℕ
joining = factor_sign ∷ plus_minus ∷ comparison ∷ equals ∷ or_and ∷ []

-- what begins an S
unfoldable pub stringy : List ℕ
stringy = quoted ∷ string_variable ∷ string_function ∷ []

-- what ends a statement
unfoldable pub ending : List ℕ
ending = colon ∷ line_end ∷ []

-- what stands between two values of PRINT, or ends it
unfoldable pub parting : List ℕ
parting = comma ∷ semicolon ∷ ending

-- what may come right after PRINT
unfoldable pub printing : List ℕ
printing = channel_sign ∷ term ++ parting

-- all classes
unfoldable pub all_classes : List ℕ
all_classes = line_end ∷ raw_end ∷ unfit ∷ number ∷ quoted ∷ numeric_variable ∷ string_variable ∷ array ∷ open_sign ∷ close_sign ∷ comma ∷ colon ∷ semicolon ∷ equals ∷ comparison ∷ plus_minus ∷ factor_sign ∷ not_word ∷ or_and ∷ goto_gosub ∷ to_word ∷ step_word ∷ then_word ∷ string_function ∷ function_of_string ∷ function_of_number ∷ raw_text ∷ channel_sign ∷ beginning

-- whole statements, of every kind
unfoldable pub of_statements : List Walk
of_statements =
    along "10 REM X" (beginning ∷ (raw_text ∷ []) ∷ (raw_end ∷ []) ∷ [])
    ∷ along "10 A=1:B=2+3" (beginning ∷ (number_assigned ∷ []) ∷ term ∷ (joining ++ ending) ∷ beginning ∷ (number_assigned ∷ []) ∷ term ∷ (joining ++ ending) ∷ term ∷ (joining ++ ending) ∷ [])
    ∷ along "10 A(1)=2" (beginning ∷ (array_open ∷ []) ∷ term ∷ (inner_comma ∷ close_sign ∷ joining) ∷ (number_assigned ∷ []) ∷ term ∷ (joining ++ ending) ∷ [])
    ∷ along "10 A(1+2,3+4)=5" (beginning ∷ (array_open ∷ []) ∷ term ∷ (inner_comma ∷ close_sign ∷ joining) ∷ term ∷ (inner_comma ∷ close_sign ∷ joining) ∷ term ∷ (close_sign ∷ joining) ∷ term ∷ (close_sign ∷ joining) ∷ (number_assigned ∷ []) ∷ term ∷ (joining ++ ending) ∷ [])
    ∷ along "10 A$=\"X\"" (beginning ∷ (substring_open ∷ string_assigned ∷ []) ∷ stringy ∷ ending ∷ [])
    ∷ along "10 A$(1)=B$" (beginning ∷ (substring_open ∷ string_assigned ∷ []) ∷ term ∷ (inner_comma ∷ close_sign ∷ joining) ∷ (string_assigned ∷ []) ∷ stringy ∷ (substring_open ∷ ending) ∷ [])
    ∷ along "10 A$(1,2)=B$(3+4,5+6)" (beginning ∷ (substring_open ∷ string_assigned ∷ []) ∷ term ∷ (inner_comma ∷ close_sign ∷ joining) ∷ term ∷ (close_sign ∷ joining) ∷ (string_assigned ∷ []) ∷ stringy ∷ (substring_open ∷ ending) ∷ term ∷ (inner_comma ∷ close_sign ∷ joining) ∷ term ∷ (inner_comma ∷ close_sign ∷ joining) ∷ term ∷ (close_sign ∷ joining) ∷ term ∷ (close_sign ∷ joining) ∷ ending ∷ [])
    ∷ along "10 A$=CHR$(1+2)" (beginning ∷ (substring_open ∷ string_assigned ∷ []) ∷ stringy ∷ (function_open ∷ []) ∷ term ∷ (close_sign ∷ joining) ∷ term ∷ (close_sign ∷ joining) ∷ ending ∷ [])
    ∷ along "10 LET A=1" (beginning ∷ (numeric_variable ∷ array ∷ string_variable ∷ []) ∷ (number_assigned ∷ []) ∷ term ∷ (joining ++ ending) ∷ [])
    ∷ along "10 LET A(1+2)=3" (beginning ∷ (numeric_variable ∷ array ∷ string_variable ∷ []) ∷ (array_open ∷ []) ∷ term ∷ (inner_comma ∷ close_sign ∷ joining) ∷ term ∷ (inner_comma ∷ close_sign ∷ joining) ∷ (number_assigned ∷ []) ∷ term ∷ (joining ++ ending) ∷ [])
    ∷ along "10 LET A$(1)=B$" (beginning ∷ (numeric_variable ∷ array ∷ string_variable ∷ []) ∷ (substring_open ∷ string_assigned ∷ []) ∷ term ∷ (inner_comma ∷ close_sign ∷ joining) ∷ (string_assigned ∷ []) ∷ stringy ∷ (substring_open ∷ ending) ∷ [])
    ∷ along "10 LET A$=\"X\"" (beginning ∷ (numeric_variable ∷ array ∷ string_variable ∷ []) ∷ (substring_open ∷ string_assigned ∷ []) ∷ stringy ∷ ending ∷ [])
    ∷ along "10 IF 1+2 THEN 3" (beginning ∷ term ∷ (then_word ∷ joining) ∷ term ∷ (then_word ∷ joining) ∷ (number ∷ beginning) ∷ ending ∷ [])
    ∷ along "10 FOR I=1+2 TO 3+4 STEP 5+6" (beginning ∷ (numeric_variable ∷ []) ∷ (number_assigned ∷ []) ∷ term ∷ (to_word ∷ joining) ∷ term ∷ (to_word ∷ joining) ∷ term ∷ (step_word ∷ joining ++ ending) ∷ term ∷ (step_word ∷ joining ++ ending) ∷ term ∷ (joining ++ ending) ∷ term ∷ (joining ++ ending) ∷ [])
    ∷ along "10 FOR I=1 TO 2 STEP 3" (beginning ∷ (numeric_variable ∷ []) ∷ (number_assigned ∷ []) ∷ term ∷ (to_word ∷ joining) ∷ term ∷ (step_word ∷ joining ++ ending) ∷ term ∷ (joining ++ ending) ∷ [])
    ∷ along "10 NEXT I" (beginning ∷ (numeric_variable ∷ []) ∷ ending ∷ [])
    ∷ along "10 ON 1+2 GOTO 3+4,5+6,7" (beginning ∷ term ∷ (goto_gosub ∷ joining) ∷ term ∷ (goto_gosub ∷ joining) ∷ term ∷ (comma ∷ joining ++ ending) ∷ term ∷ (comma ∷ joining ++ ending) ∷ term ∷ (comma ∷ joining ++ ending) ∷ term ∷ (comma ∷ joining ++ ending) ∷ term ∷ (comma ∷ joining ++ ending) ∷ [])
    ∷ along "10 DIM A(1+2,3),B$(4+5),C(6)" (beginning ∷ (array ∷ string_variable ∷ []) ∷ (dim_array_open ∷ []) ∷ term ∷ (inner_comma ∷ close_sign ∷ joining) ∷ term ∷ (inner_comma ∷ close_sign ∷ joining) ∷ term ∷ (close_sign ∷ joining) ∷ (comma ∷ ending) ∷ (array ∷ string_variable ∷ []) ∷ (dim_string_open ∷ []) ∷ term ∷ (close_sign ∷ joining) ∷ term ∷ (close_sign ∷ joining) ∷ (comma ∷ ending) ∷ (array ∷ string_variable ∷ []) ∷ (dim_array_open ∷ []) ∷ term ∷ (inner_comma ∷ close_sign ∷ joining) ∷ (comma ∷ ending) ∷ [])
    ∷ along "10 READ A,B$,C" (beginning ∷ (numeric_variable ∷ string_variable ∷ []) ∷ (comma ∷ ending) ∷ (numeric_variable ∷ string_variable ∷ []) ∷ (comma ∷ ending) ∷ (numeric_variable ∷ string_variable ∷ []) ∷ (comma ∷ ending) ∷ [])
    ∷ along "10 PRINT" (beginning ∷ printing ∷ [])
    ∷ along "10 POKE 1+2,3+4" (beginning ∷ term ∷ (comma ∷ joining) ∷ term ∷ (comma ∷ joining) ∷ term ∷ (joining ++ ending) ∷ term ∷ (joining ++ ending) ∷ [])
    ∷ along "10 GOTO 1" (beginning ∷ term ∷ (joining ++ ending) ∷ [])
    ∷ along "10 RESTORE" (beginning ∷ (term ++ ending) ∷ [])
    ∷ along "10 END" (beginning ∷ ending ∷ [])
    ∷ along "10 FOR I=1 TO 2:ON 3 GOTO 4:DIM A(5):READ A:PRINT:PRINT \"X\":PRINT 6:RESTORE:END" (beginning ∷ (numeric_variable ∷ []) ∷ (number_assigned ∷ []) ∷ term ∷ (to_word ∷ joining) ∷ term ∷ (step_word ∷ joining ++ ending) ∷ beginning ∷ term ∷ (goto_gosub ∷ joining) ∷ term ∷ (comma ∷ joining ++ ending) ∷ beginning ∷ (array ∷ string_variable ∷ []) ∷ (dim_array_open ∷ []) ∷ term ∷ (inner_comma ∷ close_sign ∷ joining) ∷ (comma ∷ ending) ∷ beginning ∷ (numeric_variable ∷ string_variable ∷ []) ∷ (comma ∷ ending) ∷ beginning ∷ printing ∷ beginning ∷ printing ∷ (comparing ++ parting) ∷ beginning ∷ printing ∷ (joining ++ parting) ∷ beginning ∷ (term ++ ending) ∷ beginning ∷ ending ∷ [])
    ∷ []

-- statements after THEN
unfoldable pub after_then : List Walk
after_then =
    along "10 IF 1 THEN REM X" (beginning ∷ term ∷ (then_word ∷ joining) ∷ (number ∷ beginning) ∷ (raw_text ∷ []) ∷ (raw_end ∷ []) ∷ [])
    ∷ along "10 IF 1 THEN LET A=2" (beginning ∷ term ∷ (then_word ∷ joining) ∷ (number ∷ beginning) ∷ (numeric_variable ∷ array ∷ string_variable ∷ []) ∷ (number_assigned ∷ []) ∷ term ∷ (joining ++ ending) ∷ [])
    ∷ along "10 IF 1 THEN A=2" (beginning ∷ term ∷ (then_word ∷ joining) ∷ (number ∷ beginning) ∷ (number_assigned ∷ []) ∷ term ∷ (joining ++ ending) ∷ [])
    ∷ along "10 IF 1 THEN A(2+3)=4" (beginning ∷ term ∷ (then_word ∷ joining) ∷ (number ∷ beginning) ∷ (array_open ∷ []) ∷ term ∷ (inner_comma ∷ close_sign ∷ joining) ∷ term ∷ (inner_comma ∷ close_sign ∷ joining) ∷ (number_assigned ∷ []) ∷ term ∷ (joining ++ ending) ∷ [])
    ∷ along "10 IF 1 THEN A$(2)=B$" (beginning ∷ term ∷ (then_word ∷ joining) ∷ (number ∷ beginning) ∷ (substring_open ∷ string_assigned ∷ []) ∷ term ∷ (inner_comma ∷ close_sign ∷ joining) ∷ (string_assigned ∷ []) ∷ stringy ∷ (substring_open ∷ ending) ∷ [])
    ∷ along "10 IF 1 THEN A$=\"X\"" (beginning ∷ term ∷ (then_word ∷ joining) ∷ (number ∷ beginning) ∷ (substring_open ∷ string_assigned ∷ []) ∷ stringy ∷ ending ∷ [])
    ∷ along "10 IF 1 THEN IF 2+3 THEN 4" (beginning ∷ term ∷ (then_word ∷ joining) ∷ (number ∷ beginning) ∷ term ∷ (then_word ∷ joining) ∷ term ∷ (then_word ∷ joining) ∷ (number ∷ beginning) ∷ ending ∷ [])
    ∷ along "10 IF 1 THEN FOR I=2+3 TO 4+5 STEP 6" (beginning ∷ term ∷ (then_word ∷ joining) ∷ (number ∷ beginning) ∷ (numeric_variable ∷ []) ∷ (number_assigned ∷ []) ∷ term ∷ (to_word ∷ joining) ∷ term ∷ (to_word ∷ joining) ∷ term ∷ (step_word ∷ joining ++ ending) ∷ term ∷ (step_word ∷ joining ++ ending) ∷ term ∷ (joining ++ ending) ∷ [])
    ∷ along "10 IF 1 THEN NEXT I" (beginning ∷ term ∷ (then_word ∷ joining) ∷ (number ∷ beginning) ∷ (numeric_variable ∷ []) ∷ ending ∷ [])
    ∷ along "10 IF 1 THEN ON 2+3 GOTO 4+5,6" (beginning ∷ term ∷ (then_word ∷ joining) ∷ (number ∷ beginning) ∷ term ∷ (goto_gosub ∷ joining) ∷ term ∷ (goto_gosub ∷ joining) ∷ term ∷ (comma ∷ joining ++ ending) ∷ term ∷ (comma ∷ joining ++ ending) ∷ term ∷ (comma ∷ joining ++ ending) ∷ [])
    ∷ along "10 IF 1 THEN DIM A(2),B$(3)" (beginning ∷ term ∷ (then_word ∷ joining) ∷ (number ∷ beginning) ∷ (array ∷ string_variable ∷ []) ∷ (dim_array_open ∷ []) ∷ term ∷ (inner_comma ∷ close_sign ∷ joining) ∷ (comma ∷ ending) ∷ (array ∷ string_variable ∷ []) ∷ (dim_string_open ∷ []) ∷ term ∷ (close_sign ∷ joining) ∷ (comma ∷ ending) ∷ [])
    ∷ along "10 IF 1 THEN READ A,B$" (beginning ∷ term ∷ (then_word ∷ joining) ∷ (number ∷ beginning) ∷ (numeric_variable ∷ string_variable ∷ []) ∷ (comma ∷ ending) ∷ (numeric_variable ∷ string_variable ∷ []) ∷ (comma ∷ ending) ∷ [])
    ∷ along "10 IF 1 THEN PRINT ,2" (beginning ∷ term ∷ (then_word ∷ joining) ∷ (number ∷ beginning) ∷ printing ∷ (term ++ parting) ∷ (joining ++ parting) ∷ [])
    ∷ along "10 IF 1 THEN PRINT 2" (beginning ∷ term ∷ (then_word ∷ joining) ∷ (number ∷ beginning) ∷ printing ∷ (joining ++ parting) ∷ [])
    ∷ along "10 IF 1 THEN POKE 2+3,4+5" (beginning ∷ term ∷ (then_word ∷ joining) ∷ (number ∷ beginning) ∷ term ∷ (comma ∷ joining) ∷ term ∷ (comma ∷ joining) ∷ term ∷ (joining ++ ending) ∷ term ∷ (joining ++ ending) ∷ [])
    ∷ along "10 IF 1 THEN GOTO 2+3" (beginning ∷ term ∷ (then_word ∷ joining) ∷ (number ∷ beginning) ∷ term ∷ (joining ++ ending) ∷ term ∷ (joining ++ ending) ∷ [])
    ∷ along "10 IF 1 THEN RESTORE 2" (beginning ∷ term ∷ (then_word ∷ joining) ∷ (number ∷ beginning) ∷ (term ++ ending) ∷ (joining ++ ending) ∷ [])
    ∷ along "10 IF 1 THEN END" (beginning ∷ term ∷ (then_word ∷ joining) ∷ (number ∷ beginning) ∷ ending ∷ [])
    ∷ []

-- terms of every kind, joined by every kind of operator
unfoldable pub of_terms : List Walk
of_terms =
    along "10 GOTO -1*2+3" (beginning ∷ term ∷ term ∷ (joining ++ ending) ∷ term ∷ (joining ++ ending) ∷ term ∷ (joining ++ ending) ∷ [])
    ∷ along "10 GOTO NOT 1+2+3" (beginning ∷ term ∷ term ∷ (joining ++ ending) ∷ term ∷ (joining ++ ending) ∷ term ∷ (joining ++ ending) ∷ [])
    ∷ along "10 GOTO A<B+1" (beginning ∷ term ∷ (joining ++ ending) ∷ term ∷ (joining ++ ending) ∷ term ∷ (joining ++ ending) ∷ [])
    ∷ along "10 GOTO A(1+2)=3+4" (beginning ∷ term ∷ (array_open ∷ []) ∷ term ∷ (inner_comma ∷ close_sign ∷ joining) ∷ term ∷ (inner_comma ∷ close_sign ∷ joining) ∷ (joining ++ ending) ∷ term ∷ (joining ++ ending) ∷ term ∷ (joining ++ ending) ∷ [])
    ∷ along "10 GOTO A(1,2)" (beginning ∷ term ∷ (array_open ∷ []) ∷ term ∷ (inner_comma ∷ close_sign ∷ joining) ∷ term ∷ (close_sign ∷ joining) ∷ (joining ++ ending) ∷ [])
    ∷ along "10 GOTO (1+2)OR 3+4" (beginning ∷ term ∷ term ∷ (close_sign ∷ joining) ∷ term ∷ (close_sign ∷ joining) ∷ (joining ++ ending) ∷ term ∷ (joining ++ ending) ∷ term ∷ (joining ++ ending) ∷ [])
    ∷ along "10 GOTO LEN(\"X\")" (beginning ∷ term ∷ (function_open ∷ []) ∷ stringy ∷ (close_sign ∷ []) ∷ (joining ++ ending) ∷ [])
    ∷ along "10 GOTO LEN(A$(1))" (beginning ∷ term ∷ (function_open ∷ []) ∷ stringy ∷ (substring_open ∷ close_sign ∷ []) ∷ term ∷ (inner_comma ∷ close_sign ∷ joining) ∷ (close_sign ∷ []) ∷ (joining ++ ending) ∷ [])
    ∷ along "10 GOTO LEN(STR$(1+2))" (beginning ∷ term ∷ (function_open ∷ []) ∷ stringy ∷ (function_open ∷ []) ∷ term ∷ (close_sign ∷ joining) ∷ term ∷ (close_sign ∷ joining) ∷ (close_sign ∷ []) ∷ (joining ++ ending) ∷ [])
    ∷ along "10 GOTO SIN(1+2)" (beginning ∷ term ∷ (function_open ∷ []) ∷ term ∷ (close_sign ∷ joining) ∷ term ∷ (close_sign ∷ joining) ∷ (joining ++ ending) ∷ [])
    ∷ along "10 GOTO \"X\"<\"Y\"" (beginning ∷ term ∷ comparing ∷ stringy ∷ (joining ++ ending) ∷ [])
    ∷ along "10 GOTO A$=B$" (beginning ∷ term ∷ (substring_open ∷ comparing) ∷ stringy ∷ (substring_open ∷ joining ++ ending) ∷ [])
    ∷ along "10 GOTO A$(1,2)=B$(3)" (beginning ∷ term ∷ (substring_open ∷ comparing) ∷ term ∷ (inner_comma ∷ close_sign ∷ joining) ∷ term ∷ (close_sign ∷ joining) ∷ comparing ∷ stringy ∷ (substring_open ∷ joining ++ ending) ∷ term ∷ (inner_comma ∷ close_sign ∷ joining) ∷ (joining ++ ending) ∷ [])
    ∷ along "10 GOTO CHR$(1+2)=\"X\"" (beginning ∷ term ∷ (function_open ∷ []) ∷ term ∷ (close_sign ∷ joining) ∷ term ∷ (close_sign ∷ joining) ∷ comparing ∷ stringy ∷ (joining ++ ending) ∷ [])
    ∷ []

-- the values of PRINT
unfoldable pub of_print : List Walk
of_print =
    along "10 PRINT ,;-1+2;3+4,5" (beginning ∷ printing ∷ (term ++ parting) ∷ (term ++ parting) ∷ term ∷ (joining ++ parting) ∷ term ∷ (joining ++ parting) ∷ (term ++ parting) ∷ (joining ++ parting) ∷ term ∷ (joining ++ parting) ∷ (term ++ parting) ∷ (joining ++ parting) ∷ [])
    ∷ along "10 PRINT ;1,NOT 2+3,A+4,5" (beginning ∷ printing ∷ (term ++ parting) ∷ (joining ++ parting) ∷ (term ++ parting) ∷ term ∷ (joining ++ parting) ∷ term ∷ (joining ++ parting) ∷ (term ++ parting) ∷ (joining ++ parting) ∷ term ∷ (joining ++ parting) ∷ (term ++ parting) ∷ (joining ++ parting) ∷ [])
    ∷ along "10 PRINT A(1,2)+3,4" (beginning ∷ printing ∷ (array_open ∷ []) ∷ term ∷ (inner_comma ∷ close_sign ∷ joining) ∷ term ∷ (close_sign ∷ joining) ∷ (joining ++ parting) ∷ term ∷ (joining ++ parting) ∷ (term ++ parting) ∷ (joining ++ parting) ∷ [])
    ∷ along "10 PRINT A(1+2),3" (beginning ∷ printing ∷ (array_open ∷ []) ∷ term ∷ (inner_comma ∷ close_sign ∷ joining) ∷ term ∷ (inner_comma ∷ close_sign ∷ joining) ∷ (joining ++ parting) ∷ (term ++ parting) ∷ (joining ++ parting) ∷ [])
    ∷ along "10 PRINT (1+2)+3,4" (beginning ∷ printing ∷ term ∷ (close_sign ∷ joining) ∷ term ∷ (close_sign ∷ joining) ∷ (joining ++ parting) ∷ term ∷ (joining ++ parting) ∷ (term ++ parting) ∷ (joining ++ parting) ∷ [])
    ∷ along "10 PRINT LEN(\"X\")+1,2" (beginning ∷ printing ∷ (function_open ∷ []) ∷ stringy ∷ (close_sign ∷ []) ∷ (joining ++ parting) ∷ term ∷ (joining ++ parting) ∷ (term ++ parting) ∷ (joining ++ parting) ∷ [])
    ∷ along "10 PRINT SIN(1+2)+3,4" (beginning ∷ printing ∷ (function_open ∷ []) ∷ term ∷ (close_sign ∷ joining) ∷ term ∷ (close_sign ∷ joining) ∷ (joining ++ parting) ∷ term ∷ (joining ++ parting) ∷ (term ++ parting) ∷ (joining ++ parting) ∷ [])
    ∷ along "10 PRINT \"X\"<\"Y\"+1,2" (beginning ∷ printing ∷ (comparing ++ parting) ∷ stringy ∷ (joining ++ parting) ∷ term ∷ (joining ++ parting) ∷ (term ++ parting) ∷ (joining ++ parting) ∷ [])
    ∷ along "10 PRINT \"X\",1" (beginning ∷ printing ∷ (comparing ++ parting) ∷ (term ++ parting) ∷ (joining ++ parting) ∷ [])
    ∷ along "10 PRINT A$(1)=B$(2)+3,4" (beginning ∷ printing ∷ (substring_open ∷ comparing ++ parting) ∷ term ∷ (inner_comma ∷ close_sign ∷ joining) ∷ (comparing ++ parting) ∷ stringy ∷ (substring_open ∷ joining ++ parting) ∷ term ∷ (inner_comma ∷ close_sign ∷ joining) ∷ (joining ++ parting) ∷ term ∷ (joining ++ parting) ∷ (term ++ parting) ∷ (joining ++ parting) ∷ [])
    ∷ along "10 PRINT -1,A,(2),LEN(\"X\"),SIN(3),4" (beginning ∷ printing ∷ term ∷ (joining ++ parting) ∷ (term ++ parting) ∷ (joining ++ parting) ∷ (term ++ parting) ∷ term ∷ (close_sign ∷ joining) ∷ (joining ++ parting) ∷ (term ++ parting) ∷ (function_open ∷ []) ∷ stringy ∷ (close_sign ∷ []) ∷ (joining ++ parting) ∷ (term ++ parting) ∷ (function_open ∷ []) ∷ term ∷ (close_sign ∷ joining) ∷ (joining ++ parting) ∷ (term ++ parting) ∷ (joining ++ parting) ∷ [])
    ∷ along "10 PRINT ,,;,1,,2;,3" (beginning ∷ printing ∷ (term ++ parting) ∷ (term ++ parting) ∷ (term ++ parting) ∷ (term ++ parting) ∷ (joining ++ parting) ∷ (term ++ parting) ∷ (term ++ parting) ∷ (joining ++ parting) ∷ (term ++ parting) ∷ (term ++ parting) ∷ (joining ++ parting) ∷ [])
    ∷ along "10 PRINT \"X\"<\"Y\",1" (beginning ∷ printing ∷ (comparing ++ parting) ∷ stringy ∷ (joining ++ parting) ∷ (term ++ parting) ∷ (joining ++ parting) ∷ [])
    ∷ along "10 PRINT A$<\"X\";\"Y\";1" (beginning ∷ printing ∷ (substring_open ∷ comparing ++ parting) ∷ stringy ∷ (joining ++ parting) ∷ (term ++ parting) ∷ (comparing ++ parting) ∷ (term ++ parting) ∷ (joining ++ parting) ∷ [])
    ∷ along "10 PRINT A$,1" (beginning ∷ printing ∷ (substring_open ∷ comparing ++ parting) ∷ (term ++ parting) ∷ (joining ++ parting) ∷ [])
    ∷ along "10 PRINT CHR$(1+2)=\"X\",3;CHR$(4),5" (beginning ∷ printing ∷ (function_open ∷ []) ∷ term ∷ (close_sign ∷ joining) ∷ term ∷ (close_sign ∷ joining) ∷ (comparing ++ parting) ∷ stringy ∷ (joining ++ parting) ∷ (term ++ parting) ∷ (joining ++ parting) ∷ (term ++ parting) ∷ (function_open ∷ []) ∷ term ∷ (close_sign ∷ joining) ∷ (comparing ++ parting) ∷ (term ++ parting) ∷ (joining ++ parting) ∷ [])
    ∷ along "10 PRINT 1+2,A(3+4,5)+6,7" (beginning ∷ printing ∷ (joining ++ parting) ∷ term ∷ (joining ++ parting) ∷ (term ++ parting) ∷ (array_open ∷ []) ∷ term ∷ (inner_comma ∷ close_sign ∷ joining) ∷ term ∷ (inner_comma ∷ close_sign ∷ joining) ∷ term ∷ (close_sign ∷ joining) ∷ (joining ++ parting) ∷ term ∷ (joining ++ parting) ∷ (term ++ parting) ∷ (joining ++ parting) ∷ [])
    ∷ along "10 PRINT -1+2,(3+4)+5,6" (beginning ∷ printing ∷ term ∷ (joining ++ parting) ∷ term ∷ (joining ++ parting) ∷ (term ++ parting) ∷ term ∷ (close_sign ∷ joining) ∷ term ∷ (close_sign ∷ joining) ∷ (joining ++ parting) ∷ term ∷ (joining ++ parting) ∷ (term ++ parting) ∷ (joining ++ parting) ∷ [])
    ∷ along "10 PRINT NOT 1+2,LEN(\"X\")+3,4" (beginning ∷ printing ∷ term ∷ (joining ++ parting) ∷ term ∷ (joining ++ parting) ∷ (term ++ parting) ∷ (function_open ∷ []) ∷ stringy ∷ (close_sign ∷ []) ∷ (joining ++ parting) ∷ term ∷ (joining ++ parting) ∷ (term ++ parting) ∷ (joining ++ parting) ∷ [])
    ∷ along "10 PRINT A+1,SIN(2+3)+4,5" (beginning ∷ printing ∷ (joining ++ parting) ∷ term ∷ (joining ++ parting) ∷ (term ++ parting) ∷ (function_open ∷ []) ∷ term ∷ (close_sign ∷ joining) ∷ term ∷ (close_sign ∷ joining) ∷ (joining ++ parting) ∷ term ∷ (joining ++ parting) ∷ (term ++ parting) ∷ (joining ++ parting) ∷ [])
    ∷ along "10 PRINT ,\"X\"<\"Y\",A$(1)=B$,2" (beginning ∷ printing ∷ (term ++ parting) ∷ (comparing ++ parting) ∷ stringy ∷ (joining ++ parting) ∷ (term ++ parting) ∷ (substring_open ∷ comparing ++ parting) ∷ term ∷ (inner_comma ∷ close_sign ∷ joining) ∷ (comparing ++ parting) ∷ stringy ∷ (substring_open ∷ joining ++ parting) ∷ (term ++ parting) ∷ (joining ++ parting) ∷ [])
    ∷ along "10 PRINT ;CHR$(1+2)=\"X\",3" (beginning ∷ printing ∷ (term ++ parting) ∷ (function_open ∷ []) ∷ term ∷ (close_sign ∷ joining) ∷ term ∷ (close_sign ∷ joining) ∷ (comparing ++ parting) ∷ stringy ∷ (joining ++ parting) ∷ (term ++ parting) ∷ (joining ++ parting) ∷ [])
    ∷ []

-- the number of RESTORE
unfoldable pub of_restore : List Walk
of_restore =
    along "10 RESTORE -1+2" (beginning ∷ (term ++ ending) ∷ term ∷ (joining ++ ending) ∷ term ∷ (joining ++ ending) ∷ [])
    ∷ along "10 RESTORE NOT 1+2" (beginning ∷ (term ++ ending) ∷ term ∷ (joining ++ ending) ∷ term ∷ (joining ++ ending) ∷ [])
    ∷ along "10 RESTORE 1+2" (beginning ∷ (term ++ ending) ∷ (joining ++ ending) ∷ term ∷ (joining ++ ending) ∷ [])
    ∷ along "10 RESTORE A+1" (beginning ∷ (term ++ ending) ∷ (joining ++ ending) ∷ term ∷ (joining ++ ending) ∷ [])
    ∷ along "10 RESTORE A(1+2)+3" (beginning ∷ (term ++ ending) ∷ (array_open ∷ []) ∷ term ∷ (inner_comma ∷ close_sign ∷ joining) ∷ term ∷ (inner_comma ∷ close_sign ∷ joining) ∷ (joining ++ ending) ∷ term ∷ (joining ++ ending) ∷ [])
    ∷ along "10 RESTORE (1+2)+3" (beginning ∷ (term ++ ending) ∷ term ∷ (close_sign ∷ joining) ∷ term ∷ (close_sign ∷ joining) ∷ (joining ++ ending) ∷ term ∷ (joining ++ ending) ∷ [])
    ∷ along "10 RESTORE LEN(\"X\")+1" (beginning ∷ (term ++ ending) ∷ (function_open ∷ []) ∷ stringy ∷ (close_sign ∷ []) ∷ (joining ++ ending) ∷ term ∷ (joining ++ ending) ∷ [])
    ∷ along "10 RESTORE SIN(1+2)+3" (beginning ∷ (term ++ ending) ∷ (function_open ∷ []) ∷ term ∷ (close_sign ∷ joining) ∷ term ∷ (close_sign ∷ joining) ∷ (joining ++ ending) ∷ term ∷ (joining ++ ending) ∷ [])
    ∷ along "10 RESTORE \"X\"<\"Y\"+1" (beginning ∷ (term ++ ending) ∷ comparing ∷ stringy ∷ (joining ++ ending) ∷ term ∷ (joining ++ ending) ∷ [])
    ∷ along "10 RESTORE A$(1)=B$" (beginning ∷ (term ++ ending) ∷ (substring_open ∷ comparing) ∷ term ∷ (inner_comma ∷ close_sign ∷ joining) ∷ comparing ∷ stringy ∷ (substring_open ∷ joining ++ ending) ∷ [])
    ∷ along "10 RESTORE A$=\"X\"+1" (beginning ∷ (term ++ ending) ∷ (substring_open ∷ comparing) ∷ stringy ∷ (joining ++ ending) ∷ term ∷ (joining ++ ending) ∷ [])
    ∷ along "10 RESTORE CHR$(1+2)=\"X\"+1" (beginning ∷ (term ++ ending) ∷ (function_open ∷ []) ∷ term ∷ (close_sign ∷ joining) ∷ term ∷ (close_sign ∷ joining) ∷ comparing ∷ stringy ∷ (joining ++ ending) ∷ term ∷ (joining ++ ending) ∷ [])
    ∷ []

-- an item of a class as it is taken: by the class, and by the token that it gives
unfoldable pub as_given : ℕ → Gives → ℕ
as_given c itself = c
as_given c as_prefix = given_as c 1
as_given c for_strings = given_as c 2
as_given c (put k) = given_as c k

-- what an item of a class comes to, in front of what others come to
unfoldable pub and_taken : ℕ → Step Gives → List ℕ → List ℕ
and_taken c (took e s) more = as_given c e ∷ more
and_taken c over more = more
and_taken c (refused k) more = more

-- the classes that a stack takes
unfoldable pub all_taken : List ℕ → List ℕ → List ℕ
all_taken s [] = []
all_taken s (c ∷ cs) = and_taken c (step look s c) (all_taken s cs)

-- two lists, neither with an entry twice, have the same entries
unfoldable pub alike : List ℕ → List ℕ → Bool
alike xs ys = eqb (length xs) (length ys) && every (λ x. among x ys) xs

-- the stack after an item that was taken
unfoldable pub stack_after : Step Gives → List ℕ
stack_after (took e s) = s
stack_after over = []
stack_after (refused k) = []

-- at each item's place just the expected classes are taken, and after the last item nothing more is wanted
unfoldable pub as_expected : List ℕ → List Item → List (List ℕ) → Bool
as_expected [] [] [] = true
as_expected (f ∷ s) [] [] = false
as_expected s [] (f ∷ fs) = false
as_expected s (i ∷ is) [] = false
as_expected s (i ∷ is) (f ∷ fs) = alike (all_taken s all_classes) f && as_expected (stack_after (step look s (class i.token))) is fs

-- the same of a numbered text
unfoldable pub of_head : Head → List (List ℕ) → Bool
of_head (numbered n p rest) fs = as_expected start (items p rest) fs
of_head too_great fs = false
of_head only_blanks fs = false
of_head unnumbered fs = false

-- the texts of a table of which it is not so
unfoldable pub unexpected : List Walk → List String
unexpected [] = []
unexpected (w ∷ ws) = let more = unexpected ws in pick (of_head (head_of (bytes w.text)) w.follows) more (w.text ∷ more)

-- all of them
unfoldable pub walks : List Walk
walks = of_statements ++ after_then ++ of_terms ++ of_print ++ of_restore

-- to unfold it is to unfold the tables
unfoldable pub all_walks : Unit {0}
unfolding along given_as prefix comparing number_assigned string_assigned substring_open array_open dim_array_open function_open dim_string_open inner_comma beginning term joining stringy ending parting printing of_statements after_then of_terms of_print of_restore walks
all_walks = tt

-- to unfold it is to unfold the test of a text
unfoldable pub all_Following : Unit {0}
unfolding all_classes as_given and_taken all_taken alike stack_after as_expected of_head unexpected
all_Following = tt

-- at each place of each of these texts just what document 01 allows may come
pub what_may_follow : unexpected walks ≡ []
unfolding everything all_walks all_Following
what_may_follow = refl
