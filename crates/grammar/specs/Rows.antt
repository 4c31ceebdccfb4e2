-- The rows of the grammar's frames, laid over one another, and the words of their acts. (Made by scripts/tables.py.)
use Rattle.std.specs.Prelude.{ℕ, List, [], ◌∷◌, map}
use Rattle.paper.specs.Bytes.{bytes}
use Rattle.paper.specs.Frames.{want_statement, want_after_then, want_end, want_raw_text, want_raw_end, want_operand, want_more_terms, want_array_open, want_second, want_close, want_function_open, want_string, want_substring, want_string_comparison, want_number_assigned, want_string_assigned, want_let_target, want_then, want_for_variable, want_for_equals, want_to, want_step, want_numeric_variable, want_goto_gosub, want_more_lines, want_dim, want_dim_array_open, want_dim_string_open, want_more_dims, want_plain_variable, want_more_variables, want_print_list, want_print_comparison, want_print_separator, want_comma, want_restore_number, want_channel, want_input_channel, want_input_separator, want_print, want_parameters}
use Rattle.paper.specs.Grammar.{itself, for_strings, as_prefix, put, N}
use Rattle.grammar.specs.Tables.{laid, Wanting, act, word, rest}

-- the rows of the frames that leave what they do not take begin before this place, those of the others here or later
abbrev pub refusing : ℕ
refusing = 58

-- where the row of each frame begins
unfoldable pub firsts : List ℕ
firsts =
    78 ∷ 58 ∷ 64 ∷ 105 ∷ 76 ∷ 126 ∷ 41 ∷ 72 ∷ 67 ∷ 127 ∷ 131 ∷ 130
    ∷ 6 ∷ 65 ∷ 129 ∷ 132 ∷ 69 ∷ 116 ∷ 138 ∷ 133 ∷ 124 ∷ 11 ∷ 138 ∷ 128
    ∷ 10 ∷ 63 ∷ 140 ∷ 144 ∷ 12 ∷ 79 ∷ 23 ∷ 27 ∷ 5 ∷ 1 ∷ 145 ∷ 45
    ∷ 134 ∷ 8 ∷ 125 ∷ 0 ∷ 146 ∷ []

-- for each place the class, and what the frame whose row it is does with its items
unfoldable pub entries : List ℕ
entries =
    laid
    (bytes "~~~34567~~~;~==??;B~D@A=~=JKLM34567H=M;~=~?~~B~D34567JKL;@ABC3EB0D89:67JKL5671><=@A;5689:OPQRSTUVWXYZ[\\]^_`abOPQRSTUVWXYZ[\\]^_`ab345674N6;=<?I;5B@DG@@F;JKL;J~==~~~M")
    (bytes "...HPH_r...h.CCCCUZ.YIIX.@vltYHPH_rEA[h.C.C..Z.Y:K:]ivltbEEEE7EF0EL^snmufjL^s060W;;2BBL^sDO?czMT7NxpSQa`qRgowDO?czMT7NxpSQa`qRgow0>0Jd00=V0000409G80<103k\\e5e.0y...E")

-- the acts, in the order of their bytes
unfoldable pub acts : List Wanting
acts =
    act itself []
    ∷ act (put 0x2d) []
    ∷ act (put 0x38) []
    ∷ act (put 0x39) []
    ∷ act (put 0x3a) []
    ∷ act (put 0x3b) []
    ∷ act itself (want_statement ∷ [])
    ∷ act itself (want_end ∷ [])
    ∷ act itself (want_operand ∷ [])
    ∷ act as_prefix (want_operand ∷ [])
    ∷ act itself (want_more_terms ∷ [])
    ∷ act for_strings (want_string ∷ [])
    ∷ act (put 0x2e) (want_string ∷ [])
    ∷ act itself (want_substring ∷ [])
    ∷ act itself (want_string_comparison ∷ [])
    ∷ act itself (want_let_target ∷ [])
    ∷ act itself (want_dim ∷ [])
    ∷ act itself (want_plain_variable ∷ [])
    ∷ act itself (want_more_variables ∷ [])
    ∷ act itself (want_print_list ∷ [])
    ∷ act itself (want_raw_text ∷ want_raw_end ∷ [])
    ∷ act itself (N [])
    ∷ act as_prefix (N [])
    ∷ act (put 0x2d) (N [])
    ∷ act itself (want_more_terms ∷ want_print_separator ∷ [])
    ∷ act for_strings (want_string ∷ want_more_terms ∷ [])
    ∷ act itself (want_substring ∷ want_string_comparison ∷ [])
    ∷ act itself (want_string_comparison ∷ want_more_terms ∷ [])
    ∷ act itself (want_number_assigned ∷ want_end ∷ [])
    ∷ act itself (want_numeric_variable ∷ want_end ∷ [])
    ∷ act itself (want_dim ∷ want_end ∷ [])
    ∷ act itself (want_plain_variable ∷ want_end ∷ [])
    ∷ act itself (want_print_comparison ∷ want_print_separator ∷ [])
    ∷ act itself (want_restore_number ∷ want_end ∷ [])
    ∷ act itself (want_channel ∷ want_end ∷ [])
    ∷ act itself (want_print ∷ want_end ∷ [])
    ∷ act itself (N (want_end ∷ []))
    ∷ act (put 0x37) (N (want_second ∷ []))
    ∷ act itself (N (want_close ∷ []))
    ∷ act (put 0x3c) (N (want_close ∷ []))
    ∷ act itself (N (want_more_lines ∷ []))
    ∷ act itself (N (want_print_separator ∷ []))
    ∷ act as_prefix (N (want_print_separator ∷ []))
    ∷ act itself (N (want_input_separator ∷ []))
    ∷ act itself (want_function_open ∷ want_string ∷ want_close ∷ [])
    ∷ act itself (want_substring ∷ want_string_comparison ∷ want_more_terms ∷ [])
    ∷ act itself (want_substring ∷ want_string_assigned ∷ want_end ∷ [])
    ∷ act itself (want_substring ∷ want_print_comparison ∷ want_print_separator ∷ [])
    ∷ act itself (want_channel ∷ want_parameters ∷ want_end ∷ [])
    ∷ act itself (want_input_channel ∷ want_plain_variable ∷ want_end ∷ [])
    ∷ act itself (N (want_close ∷ want_more_terms ∷ []))
    ∷ act itself (N (want_then ∷ want_after_then ∷ []))
    ∷ act itself (want_array_open ∷ N (want_second ∷ []))
    ∷ act itself (want_function_open ∷ N (want_close ∷ []))
    ∷ act itself (want_function_open ∷ want_string ∷ want_close ∷ want_more_terms ∷ [])
    ∷ act itself (want_channel ∷ want_comma ∷ want_numeric_variable ∷ want_end ∷ [])
    ∷ act itself (N (want_close ∷ want_more_terms ∷ want_print_separator ∷ []))
    ∷ act itself (want_array_open ∷ N (want_second ∷ want_more_terms ∷ []))
    ∷ act itself (want_function_open ∷ N (want_close ∷ want_more_terms ∷ []))
    ∷ act itself (want_function_open ∷ N (want_close ∷ want_string_comparison ∷ []))
    ∷ act itself (want_function_open ∷ want_string ∷ want_close ∷ want_more_terms ∷ want_print_separator ∷ [])
    ∷ act itself (want_dim_array_open ∷ N (want_second ∷ want_more_dims ∷ []))
    ∷ act itself (want_dim_string_open ∷ N (want_close ∷ want_more_dims ∷ []))
    ∷ act itself (want_channel ∷ want_comma ∷ N (want_end ∷ []))
    ∷ act itself (N (want_comma ∷ N (want_end ∷ [])))
    ∷ act itself (N (want_comma ∷ want_channel ∷ want_parameters ∷ want_end ∷ []))
    ∷ act itself (want_array_open ∷ N (want_second ∷ want_more_terms ∷ want_print_separator ∷ []))
    ∷ act itself (want_array_open ∷ N (want_second ∷ want_number_assigned ∷ want_end ∷ []))
    ∷ act itself (want_function_open ∷ N (want_close ∷ want_more_terms ∷ want_print_separator ∷ []))
    ∷ act itself (want_function_open ∷ N (want_close ∷ want_string_comparison ∷ want_more_terms ∷ []))
    ∷ act itself (want_function_open ∷ N (want_close ∷ want_print_comparison ∷ want_print_separator ∷ []))
    ∷ act itself (want_channel ∷ want_comma ∷ want_numeric_variable ∷ want_comma ∷ want_numeric_variable ∷ want_end ∷ [])
    ∷ act itself (N (want_goto_gosub ∷ N (want_more_lines ∷ want_end ∷ [])))
    ∷ act itself (N (want_comma ∷ N (want_comma ∷ want_string ∷ [])))
    ∷ act itself (want_for_variable ∷ want_for_equals ∷ N (want_to ∷ N (want_step ∷ want_end ∷ [])))
    ∷ []

-- the word of each, and the rest
unfoldable pub words : List ℕ
words = map word acts

unfoldable pub rests : List ℕ
rests = map rest acts
