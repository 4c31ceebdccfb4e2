-- What kind of item each word and symbol of document 01, with document 02's §4, is, in statement position: the class of every item of a text but the colons.
use Rattle.std.specs.Prelude.{ℕ, ◌≡◌, refl, Bool, true, ◌&&◌, ◌||◌, List, [], ◌∷◌, eqb}
use Prim.Native.String.{String}
use Rattle.paper.specs.Bytes.{pick, bytes}
use Rattle.paper.specs.Classes.{unfit, number, quoted, first_numeric, first_string, open_sign, close_sign, comma, colon, semicolon, equals, comparison, plus_minus, factor_sign, not_word, or_and, to_word, step_word, then_word, string_function, function_of_string, function_of_number, channel_sign, read_word, let_word, if_word, for_word, next_word, jump, alone, dim_word, on_word, poke_word, print_word, restore_word, input_word, open_word, xio_word, close_word, get_status, put_word, note_point}
use Rattle.paper.specs.Tokens.{class}
use Rattle.paper.specs.Items.{Item, items}
use Rattle.paper.specs.Open.{everything}

-- some words and symbols, with colons between them, and the class of each
pub record Kind : Type 0 where
  pub words : String
  pub class_of : ℕ

-- a row of the table
unfoldable pub kind : String → ℕ → Kind
kind ws c = record { words = ws; class_of = c }

-- the words and symbols, but REM and DATA, which take the text after them
unfoldable pub kinds : List Kind
kinds =
    kind "READ" read_word
    ∷ kind "LET" let_word
    ∷ kind "IF" if_word
    ∷ kind "FOR" for_word
    ∷ kind "NEXT" next_word
    ∷ kind "GOTO:GOSUB:TRAP" jump
    ∷ kind "CLR:DEG:END:POP:RAD:RETURN:STOP" alone
    ∷ kind "DIM" dim_word
    ∷ kind "ON" on_word
    ∷ kind "POKE" poke_word
    ∷ kind "PRINT:?" print_word
    ∷ kind "RESTORE" restore_word
    ∷ kind "INPUT" input_word
    ∷ kind "OPEN" open_word
    ∷ kind "XIO" xio_word
    ∷ kind "CLOSE" close_word
    ∷ kind "GET:STATUS" get_status
    ∷ kind "PUT" put_word
    ∷ kind "NOTE:POINT" note_point
    ∷ kind "COLOR:LIST:ENTER:BYE:CONT:COM:NEW:LOAD:SAVE:RUN:GRAPHICS:PLOT:POSITION:DOS:DRAWTO:SETCOLOR:LOCATE:SOUND:LPRINT:CSAVE:CLOAD" unfit
    ∷ kind "USR:ADR:PADDLE:STICK:PTRIG:STRIG" unfit
    ∷ kind "#" channel_sign
    ∷ kind "!:%:&:':.:@:[:]:_:a:z:{" unfit
    ∷ kind "TO" to_word
    ∷ kind "STEP" step_word
    ∷ kind "THEN" then_word
    ∷ kind "NOT" not_word
    ∷ kind "OR:AND" or_and
    ∷ kind "," comma
    ∷ kind ";" semicolon
    ∷ kind "=" equals
    ∷ kind "<=:<>:>=:<:>" comparison
    ∷ kind "+:-" plus_minus
    ∷ kind "^:*:/" factor_sign
    ∷ kind "(" open_sign
    ∷ kind ")" close_sign
    ∷ kind "STR$:CHR$" string_function
    ∷ kind "ASC:VAL:LEN" function_of_string
    ∷ kind "ATN:COS:PEEK:SIN:RND:FRE:EXP:LOG:CLOG:SQR:SGN:ABS:INT" function_of_number
    ∷ kind "A:Z:A0:Z9:TOO:NOTE1:RE:STR:CHR:LE" first_numeric
    ∷ kind "A$:Z9$:REM$:NOT$:SIN$" first_string
    ∷ kind "0:9:1.:.5:1.5:1E5:1E05:1E+5:1E-5:1.E5" number
    ∷ kind "\"\":\"X\":\":\"" quoted
    ∷ []

-- each of some items but the last, which is the end, is a colon or of this class
unfoldable pub all_of : ℕ → List Item → Bool
all_of c [] = true
all_of c (i ∷ []) = true
all_of c (i ∷ j ∷ is) = (eqb (class i.token) colon || eqb (class i.token) c) && all_of c (j ∷ is)

-- the rows of a table of which it is not so
unfoldable pub misread : List Kind → List String
misread [] = []
misread (k ∷ ks) = let more = misread ks in pick (all_of k.class_of (items 0 (bytes k.words))) more (k.words ∷ more)

-- every word and symbol is of its kind
pub kinds_of_words : misread kinds ≡ []
unfolding everything kind kinds all_of misread
kinds_of_words = refl
