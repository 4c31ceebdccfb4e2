-- The grammar of document 01 ("Items and grammar"), with document 02's §4, as a table. A row: in the frame F an item of class C is taken, gives a token, and in F's place these
-- frames are wanted, the first one next. A frame with no row for an item refuses it, but one that may be empty leaves it to the frame below.
use Rattle.std.specs.Prelude.{ℕ, ◌+◌, Bool, true, false, not, List, [], ◌∷◌, ◌++◌}
use Rattle.paper.specs.Classes.{line_end, raw_end, number, quoted, numeric_variable, string_variable, array, first_numeric, first_string, first_array, open_sign, close_sign, comma, colon, semicolon, equals, comparison, plus_minus, factor_sign, not_word, or_and, goto_gosub, to_word, step_word, then_word, string_function, function_of_string, function_of_number, raw_text, channel_sign, remark, read_word, let_word, if_word, for_word, next_word, jump, alone, dim_word, on_word, poke_word, print_word, restore_word, input_word, open_word, xio_word, close_word, get_status, put_word, note_point}
use Rattle.paper.specs.Frames.{want_statement, want_after_then, want_end, want_raw_text, want_raw_end, want_operand, want_more_terms, want_array_open, want_second, want_close, want_function_open, want_string, want_substring, want_string_comparison, want_number_assigned, want_string_assigned, want_let_target, want_then, want_for_variable, want_for_equals, want_to, want_step, want_numeric_variable, want_goto_gosub, want_more_lines, want_dim, want_dim_array_open, want_dim_string_open, want_more_dims, want_plain_variable, want_more_variables, want_print_list, want_print_comparison, want_print_separator, want_comma, want_restore_number, want_channel, want_input_channel, want_input_separator, want_print, want_parameters}
use Rattle.paper.specs.Tokens.{Token, statement, assigned, operator, variable, constant, string, raw, out_of_range, unreadable, out_of_range?, class}
use Rattle.paper.specs.Items.{Item}
use Rattle.paper.specs.Machine.{Act, take, leave, refuse, Row, row, find_row}

-- What token an item gives: its own; the operator's for strings (1D-22 become 2F-34); the prefix operator's (25, 26 become 35, 36);
-- or another one with the same spelling
pub data Gives : Type 0 where
  itself for_strings as_prefix : Gives
  put : ℕ → Gives

-- an operator n tokens on
unfoldable pub moved : ℕ → Token → Token
moved n (statement t) = statement t
moved n (assigned s) = assigned s
moved n (operator t) = operator (t + n)
moved n (variable s) = variable s
moved n (constant b) = constant b
moved n (string b) = string b
moved n (raw b) = raw b
moved n out_of_range = out_of_range
moved n unreadable = unreadable

-- the token that a row gives for an item
unfoldable pub given : Gives → Token → Token
given itself t = t
given for_strings t = moved 0x12 t
given as_prefix t = moved 0x10 t
given (put k) t = operator k

-- N: a term, then more terms
unfoldable pub N : List ℕ → List ℕ
N then = want_operand ∷ want_more_terms ∷ then

-- A term in the frame f: any number of `+ - NOT`, then an operand. After a number's operand `numeric` is wanted, after an S `stringy`.
unfoldable pub term : ℕ → List ℕ → List ℕ → List (Row Gives)
term f numeric stringy =
    row f plus_minus as_prefix (want_operand ∷ numeric)
    ∷ row f not_word itself (want_operand ∷ numeric)
    ∷ row f number itself numeric
    ∷ row f numeric_variable itself numeric
    ∷ row f array itself (want_array_open ∷ N (want_second ∷ numeric))
    ∷ row f open_sign itself (N (want_close ∷ numeric))
    ∷ row f function_of_string itself (want_function_open ∷ want_string ∷ want_close ∷ numeric)
    ∷ row f function_of_number itself (want_function_open ∷ N (want_close ∷ numeric))
    ∷ row f quoted itself stringy
    ∷ row f string_variable itself (want_substring ∷ stringy)
    ∷ row f string_function itself (want_function_open ∷ N (want_close ∷ stringy))
    ∷ []

-- A statement in the frame f, by the word or the name that it begins with.
unfoldable pub a_statement : ℕ → List (Row Gives)
a_statement f =
    row f remark itself (want_raw_text ∷ want_raw_end ∷ [])
    ∷ row f let_word itself (want_let_target ∷ [])
    ∷ row f first_numeric itself (want_number_assigned ∷ want_end ∷ [])
    ∷ row f first_array itself (want_array_open ∷ N (want_second ∷ want_number_assigned ∷ want_end ∷ []))
    ∷ row f first_string itself (want_substring ∷ want_string_assigned ∷ want_end ∷ [])
    ∷ row f if_word itself (N (want_then ∷ want_after_then ∷ []))
    ∷ row f for_word itself (want_for_variable ∷ want_for_equals ∷ N (want_to ∷ N (want_step ∷ want_end ∷ [])))
    ∷ row f next_word itself (want_numeric_variable ∷ want_end ∷ [])
    ∷ row f on_word itself (N (want_goto_gosub ∷ N (want_more_lines ∷ want_end ∷ [])))
    ∷ row f dim_word itself (want_dim ∷ want_end ∷ [])
    ∷ row f read_word itself (want_plain_variable ∷ want_end ∷ [])
    ∷ row f input_word itself (want_input_channel ∷ want_plain_variable ∷ want_end ∷ [])
    ∷ row f print_word itself (want_print ∷ want_end ∷ [])
    ∷ row f poke_word itself (N (want_comma ∷ N (want_end ∷ [])))
    ∷ row f jump itself (N (want_end ∷ []))
    ∷ row f restore_word itself (want_restore_number ∷ want_end ∷ [])
    ∷ row f alone itself (want_end ∷ [])
    ∷ row f open_word itself (want_channel ∷ want_parameters ∷ want_end ∷ [])
    ∷ row f xio_word itself (N (want_comma ∷ want_channel ∷ want_parameters ∷ want_end ∷ []))
    ∷ row f close_word itself (want_channel ∷ want_end ∷ [])
    ∷ row f get_status itself (want_channel ∷ want_comma ∷ want_numeric_variable ∷ want_end ∷ [])
    ∷ row f put_word itself (want_channel ∷ want_comma ∷ N (want_end ∷ []))
    ∷ row f note_point itself (want_channel ∷ want_comma ∷ want_numeric_variable ∷ want_comma ∷ want_numeric_variable ∷ want_end ∷ [])
    ∷ []

-- What PRINT prints, in the frame f: values and separators with no two values side by side.
unfoldable pub print_list : ℕ → List (Row Gives)
print_list f =
    row f comma itself (want_print_list ∷ [])
    ∷ row f semicolon itself (want_print_list ∷ [])
    ∷ term f (want_more_terms ∷ want_print_separator ∷ []) (want_print_comparison ∷ want_print_separator ∷ [])

-- Statements, their ends, and raw text.
unfoldable pub lines_of_statements : List (Row Gives)
lines_of_statements =
    a_statement want_statement
    ++ a_statement want_after_then
    ++ (row want_after_then number itself (want_end ∷ [])
    ∷ row want_end colon itself (want_statement ∷ [])
    ∷ row want_end line_end itself []
    ∷ row want_raw_text raw_text itself []
    ∷ row want_raw_end raw_end itself []
    ∷ [])

-- N, S, subscripts.
unfoldable pub expressions : List (Row Gives)
expressions =
    term want_operand [] (want_string_comparison ∷ [])
    ++ (row want_more_terms factor_sign itself (N [])
    ∷ row want_more_terms plus_minus itself (N [])
    ∷ row want_more_terms comparison itself (N [])
    ∷ row want_more_terms equals itself (N [])
    ∷ row want_more_terms or_and itself (N [])
    ∷ row want_string_comparison comparison for_strings (want_string ∷ [])
    ∷ row want_string_comparison equals for_strings (want_string ∷ [])
    ∷ row want_string quoted itself []
    ∷ row want_string string_variable itself (want_substring ∷ [])
    ∷ row want_string string_function itself (want_function_open ∷ N (want_close ∷ []))
    ∷ row want_substring open_sign (put 0x37) (N (want_second ∷ []))
    ∷ row want_array_open open_sign (put 0x38) []
    ∷ row want_function_open open_sign (put 0x3a) []
    ∷ row want_second comma (put 0x3c) (N (want_close ∷ []))
    ∷ row want_second close_sign itself []
    ∷ row want_close close_sign itself []
    ∷ [])

-- The parts that single statements want.
unfoldable pub parts_of_statements : List (Row Gives)
parts_of_statements =
    row want_let_target numeric_variable itself (want_number_assigned ∷ want_end ∷ [])
    ∷ row want_let_target array itself (want_array_open ∷ N (want_second ∷ want_number_assigned ∷ want_end ∷ []))
    ∷ row want_let_target string_variable itself (want_substring ∷ want_string_assigned ∷ want_end ∷ [])
    ∷ row want_number_assigned equals (put 0x2d) (N [])
    ∷ row want_string_assigned equals (put 0x2e) (want_string ∷ [])
    ∷ row want_then then_word itself []
    ∷ row want_for_variable numeric_variable itself []
    ∷ row want_for_equals equals (put 0x2d) []
    ∷ row want_to to_word itself []
    ∷ row want_step step_word itself (N [])
    ∷ row want_numeric_variable numeric_variable itself []
    ∷ row want_goto_gosub goto_gosub itself []
    ∷ row want_more_lines comma itself (N (want_more_lines ∷ []))
    ∷ row want_dim array itself (want_dim_array_open ∷ N (want_second ∷ want_more_dims ∷ []))
    ∷ row want_dim string_variable itself (want_dim_string_open ∷ N (want_close ∷ want_more_dims ∷ []))
    ∷ row want_dim_array_open open_sign (put 0x39) []
    ∷ row want_dim_string_open open_sign (put 0x3b) []
    ∷ row want_more_dims comma itself (want_dim ∷ [])
    ∷ row want_plain_variable numeric_variable itself (want_more_variables ∷ [])
    ∷ row want_plain_variable string_variable itself (want_more_variables ∷ [])
    ∷ row want_more_variables comma itself (want_plain_variable ∷ [])
    ∷ row want_comma comma itself []
    ∷ row want_channel channel_sign itself (N [])
    ∷ row want_parameters comma itself (N (want_comma ∷ N (want_comma ∷ want_string ∷ [])))
    ∷ row want_input_channel channel_sign itself (N (want_input_separator ∷ []))
    ∷ row want_input_separator comma itself []
    ∷ row want_input_separator semicolon itself []
    ∷ row want_print channel_sign itself (N (want_print_separator ∷ []))
    ∷ row want_print_comparison comparison for_strings (want_string ∷ want_more_terms ∷ [])
    ∷ row want_print_comparison equals for_strings (want_string ∷ want_more_terms ∷ [])
    ∷ row want_print_separator comma itself (want_print_list ∷ [])
    ∷ row want_print_separator semicolon itself (want_print_list ∷ [])
    ∷ (print_list want_print
    ++ print_list want_print_list
    ++ term want_restore_number (want_more_terms ∷ []) (want_string_comparison ∷ want_more_terms ∷ []))

-- all rows
unfoldable pub grammar : List (Row Gives)
grammar = lines_of_statements ++ expressions ++ parts_of_statements

-- the frames of which nothing may come
unfoldable pub may_be_empty : List ℕ
may_be_empty =
    want_more_terms ∷ want_substring ∷ want_step ∷ want_more_lines ∷ want_more_dims ∷ want_more_variables ∷ want_print ∷ want_print_list
    ∷ want_print_comparison ∷ want_print_separator ∷ want_restore_number ∷ want_input_channel ∷ []

-- what a frame does with an item of a class
unfoldable pub look : ℕ → ℕ → Act Gives
look f c = find_row grammar may_be_empty f c

-- what a frame does with an item, by the grammar alone
unfoldable pub look_item : ℕ → Item → Act Gives
look_item f i = look f (class i.token)

-- an item that would be taken is refused with 5 if it is out of range
unfoldable pub if_in_range : Bool → Act Gives → Act Gives
if_in_range true a = a
if_in_range false (take e ws) = refuse 5
if_in_range false leave = leave
if_in_range false (refuse k) = refuse k

-- What a frame does with an item of a text that is entered: a constant that the grammar takes and that is out of range is refused with 5
-- at its place. So the leftmost of refusals 4 and 5 comes first, and 4 where both have one place.
unfoldable pub look_in_range : ℕ → Item → Act Gives
look_in_range f i = if_in_range (not (out_of_range? i.token)) (look_item f i)

-- a line is a statement, with what follows it
unfoldable pub start : List ℕ
start = want_statement ∷ []
