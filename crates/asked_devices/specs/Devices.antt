-- Device statements (document 02, §4): lines with their bytes, names and listing; places of refusals; what may come at each place of a text, and that no
-- row or frame of them stands untried. Worked out by hand.
use Rattle.std.specs.Prelude.{◌≡◌, refl, List, [], ◌∷◌, ◌++◌}
use Rattle.paper.specs.Bytes.{bytes}
use Rattle.paper.specs.Classes.{number, numeric_variable, string_variable, close_sign, comma, semicolon, then_word, channel_sign}
use Rattle.paper.specs.Frames.{want_channel}
use Rattle.paper.specs.Grammar.{grammar}
use Rattle.paper.specs.Cases.{empty, Case, stores, refuses, shown, result, results, expected, Refused, refused, found, all_found}
use Rattle.paper.specs.Open.{everything}
use Rattle.cases.specs.Following.{Walk, along, array_open, substring_open, inner_comma, beginning, term, joining, stringy, ending, parting, printing, all_walks, all_Following, unexpected}
use Rattle.cases.specs.Coverage.{texts_of_walks, texts_of_cases, read_texts, untried, of_device?, rows_that, all_Coverage}

-- lines
unfoldable pub stored : List Case
stored =
    -- a row each, and the words that share one
    stores "10 OPEN #1,4,0,\"D:X\"" "0A 00 24 24 17 1C 0E 40 01 00 00 00 00 12 0E 40 04 00 00 00 00 12 0E 00 00 00 00 00 00 12 0F 03 44 3A 58 16" "" "10 OPEN #1,4,0,\"D:X\""
    ∷ stores "10 XIO 18,#6,12,0,A$" "0A 00 28 28 1D 0E 40 18 00 00 00 00 12 1C 0E 40 06 00 00 00 00 12 0E 40 12 00 00 00 00 12 0E 00 00 00 00 00 00 12 80 16" "41 A4" "10 XIO 18,#6,12,0,A$"
    ∷ stores "10 CLOSE #1" "0A 00 0E 0E 11 1C 0E 40 01 00 00 00 00 16" "" "10 CLOSE #1"
    ∷ stores "10 GET #1,A" "0A 00 10 10 29 1C 0E 40 01 00 00 00 00 12 80 16" "C1" "10 GET #1,A"
    ∷ stores "10 STATUS #1,A" "0A 00 10 10 1A 1C 0E 40 01 00 00 00 00 12 80 16" "C1" "10 STATUS #1,A"
    ∷ stores "10 PUT #1,A+2" "0A 00 18 18 2A 1C 0E 40 01 00 00 00 00 12 80 25 0E 40 02 00 00 00 00 16" "C1" "10 PUT #1,A+2"
    ∷ stores "10 NOTE #1,A,B" "0A 00 12 12 1B 1C 0E 40 01 00 00 00 00 12 80 12 81 16" "C1 C2" "10 NOTE #1,A,B"
    ∷ stores "10 POINT #1,A,B" "0A 00 12 12 1C 1C 0E 40 01 00 00 00 00 12 80 12 81 16" "C1 C2" "10 POINT #1,A,B"
    ∷ stores "10 INPUT #1;A,B$" "0A 00 12 12 02 1C 0E 40 01 00 00 00 00 15 80 12 81 16" "C1 42 A4" "10 INPUT #1;A,B$"
    ∷ stores "10 INPUT #1,A" "0A 00 10 10 02 1C 0E 40 01 00 00 00 00 12 80 16" "C1" "10 INPUT #1,A"
    -- PRINT: a channel alone, with a separator and nothing, with separators and values; ? as PRINT
    ∷ stores "10 PRINT #1" "0A 00 0E 0E 20 1C 0E 40 01 00 00 00 00 16" "" "10 PRINT #1"
    ∷ stores "10 PRINT #1;" "0A 00 0F 0F 20 1C 0E 40 01 00 00 00 00 15 16" "" "10 PRINT #1;"
    ∷ stores "10 PRINT #1,;A" "0A 00 11 11 20 1C 0E 40 01 00 00 00 00 12 15 80 16" "C1" "10 PRINT #1,;A"
    ∷ stores "10 PRINT #1,A;" "0A 00 11 11 20 1C 0E 40 01 00 00 00 00 12 80 15 16" "C1" "10 PRINT #1,A;"
    ∷ stores "10 ? #1;A$=\"X\",2" "0A 00 1C 1C 28 1C 0E 40 01 00 00 00 00 15 80 34 0F 01 58 12 0E 40 02 00 00 00 00 16" "41 A4" "10 ? #1;A$=\"X\",2"
    ∷ stores "10 ?#1" "0A 00 0E 0E 28 1C 0E 40 01 00 00 00 00 16" "" "10 ? #1"
    -- the channel is any N: inner commas 3C, a sign, a comparison of strings, a blank after `#`
    ∷ stores "10 GET #A(1,2),B" "0A 00 1B 1B 29 1C 80 38 0E 40 01 00 00 00 00 3C 0E 40 02 00 00 00 00 2C 12 81 16" "41 A8 C2" "10 GET #A(1,2),B"
    ∷ stores "10 PUT #-1,A" "0A 00 11 11 2A 1C 36 0E 40 01 00 00 00 00 12 80 16" "C1" "10 PUT #-1,A"
    ∷ stores "10 CLOSE # 1" "0A 00 0E 0E 11 1C 0E 40 01 00 00 00 00 16" "" "10 CLOSE #1"
    ∷ stores "10 CLOSE #NOT A" "0A 00 09 09 11 1C 28 80 16" "C1" "10 CLOSE # NOT A"
    ∷ stores "10 CLOSE #A$=\"X\"" "0A 00 0C 0C 11 1C 80 34 0F 01 58 16" "41 A4" "10 CLOSE #A$=\"X\""
    -- after THEN, and before and after a colon
    ∷ stores "10 IF A THEN CLOSE #2:END" "0A 00 15 07 07 80 1B 12 11 1C 0E 40 02 00 00 00 00 14 15 15 16" "C1" "10 IF A THEN CLOSE #2:END "
    ∷ stores "10 GET #1,A:PUT #2,A" "0A 00 1D 10 29 1C 0E 40 01 00 00 00 00 12 80 14 1D 2A 1C 0E 40 02 00 00 00 00 12 80 16" "C1" "10 GET #1,A:PUT #2,A"
    -- the words are variables where they were
    ∷ stores "10 LET GET=1" "0A 00 0F 0F 06 80 2D 0E 40 01 00 00 00 00 16" "47 45 D4" "10 LET GET=1"
    ∷ stores "10 PUT #NOTE,XIO" "0A 00 0A 0A 2A 1C 80 12 81 16" "4E 4F 54 C5 58 49 CF" "10 PUT #NOTE,XIO"
    ∷ stores "10 GET #1,STATUS" "0A 00 10 10 29 1C 0E 40 01 00 00 00 00 12 80 16" "53 54 41 54 55 D3" "10 GET #1,STATUS"
    ∷ stores "10 NOTE$=\"X\"" "0A 00 0B 0B 36 80 2E 0F 01 58 16" "4E 4F 54 45 A4" "10 NOTE$=\"X\""
    ∷ stores "10 LET OPEN$=CLOSE$" "0A 00 09 09 06 80 2E 81 16" "4F 50 45 4E A4 43 4C 4F 53 45 A4" "10 LET OPEN$=CLOSE$"
    ∷ []

-- refusals, from the refused item's start to its end
unfoldable pub misplaced : List Refused
misplaced =
    -- a part missing, or one too much
    refused (bytes "10 OPEN #1,4,\"X\"") 4 16 16
    ∷ refused (bytes "10 OPEN #1,4,0") 4 14 14
    ∷ refused (bytes "10 OPEN #1,4,0,\"X\",1") 4 18 19
    ∷ refused (bytes "10 OPEN 1,4,0,\"X\"") 4 8 9
    ∷ refused (bytes "10 XIO #1,1,0,0,\"X\"") 4 7 8
    ∷ refused (bytes "10 XIO 1,1,0,0,\"X\"") 4 9 10
    ∷ refused (bytes "10 XIO 1,#1,0,\"X\"") 4 17 17
    ∷ refused (bytes "10 XIO A") 4 8 8
    ∷ refused (bytes "10 CLOSE") 4 8 8
    ∷ refused (bytes "10 CLOSE 1") 4 9 10
    ∷ refused (bytes "10 CLOSE #") 4 10 10
    ∷ refused (bytes "10 CLOSE #1,2") 4 11 12
    ∷ refused (bytes "10 GET A") 4 7 8
    ∷ refused (bytes "10 GET #1") 4 9 9
    ∷ refused (bytes "10 GET #1,") 4 10 10
    ∷ refused (bytes "10 GET #1,A,B") 4 11 12
    ∷ refused (bytes "10 PUT #1,") 4 10 10
    ∷ refused (bytes "10 PUT #1,2,3") 4 11 12
    ∷ refused (bytes "10 NOTE #1,A") 4 12 12
    ∷ refused (bytes "10 POINT # 1,A,") 4 15 15
    ∷ refused (bytes "10 NOTE #1,A,B,C") 4 14 15
    -- a numeric variable, plain, and nothing else
    ∷ refused (bytes "10 GET #1,A(1)") 4 10 11
    ∷ refused (bytes "10 GET #1,A$") 4 10 12
    ∷ refused (bytes "10 GET #1,2") 4 10 11
    ∷ refused (bytes "10 STATUS #1,2") 4 13 14
    ∷ refused (bytes "10 STATUS #1,A(2)") 4 13 14
    ∷ refused (bytes "10 NOTE #1,2,A") 4 11 12
    ∷ refused (bytes "10 NOTE #1,A,2") 4 13 14
    ∷ refused (bytes "10 POINT #1,A,2") 4 14 15
    ∷ refused (bytes "10 POINT #1,A,B$") 4 14 16
    ∷ refused (bytes "10 POINT #1,A,B(1)") 4 14 15
    ∷ refused (bytes "10 GET #1,A+1") 4 11 12
    -- an N, and nothing else
    ∷ refused (bytes "10 CLOSE #A$") 4 12 12
    ∷ refused (bytes "10 CLOSE #\"X\"") 4 13 13
    ∷ refused (bytes "10 PUT #1,A$") 4 12 12
    ∷ refused (bytes "10 OPEN #1,A$,0,\"X\"") 4 13 14
    ∷ refused (bytes "10 OPEN #1,4,0,A") 4 15 16
    ∷ refused (bytes "10 CLOSE ##1") 4 10 11
    -- `,` and `;` in the place of one another
    ∷ refused (bytes "10 STATUS #1;A") 4 12 13
    ∷ refused (bytes "10 PUT #1;A") 4 9 10
    ∷ refused (bytes "10 OPEN #1;4,0,\"X\"") 4 10 11
    ∷ refused (bytes "10 NOTE #1,A;B") 4 12 13
    ∷ refused (bytes "10 XIO 1;#1,0,0,\"X\"") 4 8 9
    -- INPUT: exactly one separator and at least one variable
    ∷ refused (bytes "10 INPUT") 4 8 8
    ∷ refused (bytes "10 INPUT #1") 4 11 11
    ∷ refused (bytes "10 INPUT #1;") 4 12 12
    ∷ refused (bytes "10 INPUT #1,") 4 12 12
    ∷ refused (bytes "10 INPUT #1 A") 4 12 13
    ∷ refused (bytes "10 INPUT #1;;A") 4 12 13
    ∷ refused (bytes "10 INPUT #1,,A") 4 12 13
    ∷ refused (bytes "10 INPUT #1;,A") 4 12 13
    ∷ refused (bytes "10 INPUT A;B") 4 10 11
    ∷ refused (bytes "10 INPUT A,#1") 4 11 12
    ∷ refused (bytes "10 INPUT #1;#2") 4 12 13
    ∷ refused (bytes "10 INPUT ;A") 4 9 10
    ∷ refused (bytes "10 INPUT #1;A(1)") 4 12 13
    ∷ refused (bytes "10 INPUT #1;\"X\"") 4 12 15
    -- PRINT: a separator before values, and one channel, in front
    ∷ refused (bytes "10 PRINT #1 A") 4 12 13
    ∷ refused (bytes "10 PRINT #1 \"X\"") 4 12 15
    ∷ refused (bytes "10 PRINT #A$") 4 12 12
    ∷ refused (bytes "10 PRINT #") 4 10 10
    ∷ refused (bytes "10 PRINT #1;#2") 4 12 13
    ∷ refused (bytes "10 PRINT A;#1") 4 11 12
    ∷ refused (bytes "10 PRINT ,#1") 4 10 11
    ∷ refused (bytes "10 ? #1#2") 4 7 8
    ∷ refused (bytes "10 PRINT #1,A B") 4 14 15
    -- no other statement takes `#`
    ∷ refused (bytes "10 READ #1,A") 4 8 9
    ∷ refused (bytes "10 NEXT #1") 4 8 9
    ∷ refused (bytes "10 GOTO #1") 4 8 9
    ∷ refused (bytes "10 RESTORE #1") 4 11 12
    ∷ refused (bytes "10 POKE #1,2") 4 8 9
    ∷ refused (bytes "10 DIM #1") 4 7 8
    ∷ refused (bytes "10 LET #=1") 4 7 8
    ∷ refused (bytes "10 #") 4 3 4
    ∷ refused (bytes "10 A=#1") 4 5 6
    ∷ refused (bytes "10 END #1") 4 7 8
    ∷ refused (bytes "10 LPRINT #1") 4 3 9
    ∷ refused (bytes "10 IF A THEN #1") 4 13 14
    ∷ refused (bytes "10 ON A GOTO #1") 4 13 14
    -- in statement position the words are words
    ∷ refused (bytes "10 OPEN=1") 4 7 8
    ∷ refused (bytes "10 GET(1)=2") 4 6 7
    ∷ refused (bytes "10 XIO=1") 4 6 7
    ∷ []

-- texts from which something that must come is left out
unfoldable pub incomplete : List Case
incomplete = refuses "10 CLOSE" 4 8 ∷ refuses "10 OPEN #1" 4 10 ∷ refuses "10 INPUT #1A" 4 11 ∷ []

-- whole statements, in a line and after THEN
unfoldable pub walks : List Walk
walks =
    along "10 OPEN #1+2,3+4,5+6,A$(7)" (beginning ∷ (channel_sign ∷ []) ∷ term ∷ (comma ∷ joining) ∷ term ∷ (comma ∷ joining) ∷ term ∷ (comma ∷ joining) ∷ term ∷ (comma ∷ joining) ∷ term ∷ (comma ∷ joining) ∷ term ∷ (comma ∷ joining) ∷ stringy ∷ (substring_open ∷ ending) ∷ term ∷ (inner_comma ∷ close_sign ∷ joining) ∷ ending ∷ [])
    ∷ along "10 XIO 1+2,#3,4,5,\"X\"" (beginning ∷ term ∷ (comma ∷ joining) ∷ term ∷ (comma ∷ joining) ∷ (channel_sign ∷ []) ∷ term ∷ (comma ∷ joining) ∷ term ∷ (comma ∷ joining) ∷ term ∷ (comma ∷ joining) ∷ stringy ∷ ending ∷ [])
    ∷ along "10 CLOSE #1+2" (beginning ∷ (channel_sign ∷ []) ∷ term ∷ (joining ++ ending) ∷ term ∷ (joining ++ ending) ∷ [])
    ∷ along "10 GET #1,A" (beginning ∷ (channel_sign ∷ []) ∷ term ∷ (comma ∷ joining) ∷ (numeric_variable ∷ []) ∷ ending ∷ [])
    ∷ along "10 PUT #1,2+3" (beginning ∷ (channel_sign ∷ []) ∷ term ∷ (comma ∷ joining) ∷ term ∷ (joining ++ ending) ∷ term ∷ (joining ++ ending) ∷ [])
    ∷ along "10 NOTE #1,A,B" (beginning ∷ (channel_sign ∷ []) ∷ term ∷ (comma ∷ joining) ∷ (numeric_variable ∷ []) ∷ (comma ∷ []) ∷ (numeric_variable ∷ []) ∷ ending ∷ [])
    ∷ along "10 INPUT #1+2;A,B$" (beginning ∷ (channel_sign ∷ numeric_variable ∷ string_variable ∷ []) ∷ term ∷ (comma ∷ semicolon ∷ joining) ∷ term ∷ (comma ∷ semicolon ∷ joining) ∷ (numeric_variable ∷ string_variable ∷ []) ∷ (comma ∷ ending) ∷ (numeric_variable ∷ string_variable ∷ []) ∷ (comma ∷ ending) ∷ [])
    ∷ along "10 INPUT #1,A$" (beginning ∷ (channel_sign ∷ numeric_variable ∷ string_variable ∷ []) ∷ term ∷ (comma ∷ semicolon ∷ joining) ∷ (numeric_variable ∷ string_variable ∷ []) ∷ (comma ∷ ending) ∷ [])
    ∷ along "10 INPUT A,B$" (beginning ∷ (channel_sign ∷ numeric_variable ∷ string_variable ∷ []) ∷ (comma ∷ ending) ∷ (numeric_variable ∷ string_variable ∷ []) ∷ (comma ∷ ending) ∷ [])
    ∷ along "10 OPEN #A(1,2),3,4,\"X\"" (beginning ∷ (channel_sign ∷ []) ∷ term ∷ (array_open ∷ []) ∷ term ∷ (inner_comma ∷ close_sign ∷ joining) ∷ term ∷ (close_sign ∷ joining) ∷ (comma ∷ joining) ∷ term ∷ (comma ∷ joining) ∷ term ∷ (comma ∷ joining) ∷ stringy ∷ ending ∷ [])
    ∷ along "10 PRINT #1+2;3,4" (beginning ∷ printing ∷ term ∷ (joining ++ parting) ∷ term ∷ (joining ++ parting) ∷ (term ++ parting) ∷ (joining ++ parting) ∷ (term ++ parting) ∷ (joining ++ parting) ∷ [])
    ∷ along "10 PRINT #1,;2" (beginning ∷ printing ∷ term ∷ (joining ++ parting) ∷ (term ++ parting) ∷ (term ++ parting) ∷ (joining ++ parting) ∷ [])
    ∷ along "10 PRINT #1:PRINT #2,:CLOSE #3" (beginning ∷ printing ∷ term ∷ (joining ++ parting) ∷ beginning ∷ printing ∷ term ∷ (joining ++ parting) ∷ (term ++ parting) ∷ beginning ∷ (channel_sign ∷ []) ∷ term ∷ (joining ++ ending) ∷ [])
    ∷ along "10 IF 1 THEN OPEN #1+2,3+4,5+6,A$(7)" (beginning ∷ term ∷ (then_word ∷ joining) ∷ (number ∷ beginning) ∷ (channel_sign ∷ []) ∷ term ∷ (comma ∷ joining) ∷ term ∷ (comma ∷ joining) ∷ term ∷ (comma ∷ joining) ∷ term ∷ (comma ∷ joining) ∷ term ∷ (comma ∷ joining) ∷ term ∷ (comma ∷ joining) ∷ stringy ∷ (substring_open ∷ ending) ∷ term ∷ (inner_comma ∷ close_sign ∷ joining) ∷ ending ∷ [])
    ∷ along "10 IF 1 THEN XIO 1+2,#3,4,5,\"X\"" (beginning ∷ term ∷ (then_word ∷ joining) ∷ (number ∷ beginning) ∷ term ∷ (comma ∷ joining) ∷ term ∷ (comma ∷ joining) ∷ (channel_sign ∷ []) ∷ term ∷ (comma ∷ joining) ∷ term ∷ (comma ∷ joining) ∷ term ∷ (comma ∷ joining) ∷ stringy ∷ ending ∷ [])
    ∷ along "10 IF 1 THEN CLOSE #1+2" (beginning ∷ term ∷ (then_word ∷ joining) ∷ (number ∷ beginning) ∷ (channel_sign ∷ []) ∷ term ∷ (joining ++ ending) ∷ term ∷ (joining ++ ending) ∷ [])
    ∷ along "10 IF 1 THEN GET #1,A" (beginning ∷ term ∷ (then_word ∷ joining) ∷ (number ∷ beginning) ∷ (channel_sign ∷ []) ∷ term ∷ (comma ∷ joining) ∷ (numeric_variable ∷ []) ∷ ending ∷ [])
    ∷ along "10 IF 1 THEN PUT #1,2+3" (beginning ∷ term ∷ (then_word ∷ joining) ∷ (number ∷ beginning) ∷ (channel_sign ∷ []) ∷ term ∷ (comma ∷ joining) ∷ term ∷ (joining ++ ending) ∷ term ∷ (joining ++ ending) ∷ [])
    ∷ along "10 IF 1 THEN NOTE #1,A,B" (beginning ∷ term ∷ (then_word ∷ joining) ∷ (number ∷ beginning) ∷ (channel_sign ∷ []) ∷ term ∷ (comma ∷ joining) ∷ (numeric_variable ∷ []) ∷ (comma ∷ []) ∷ (numeric_variable ∷ []) ∷ ending ∷ [])
    ∷ along "10 IF 1 THEN INPUT #1+2;A,B$" (beginning ∷ term ∷ (then_word ∷ joining) ∷ (number ∷ beginning) ∷ (channel_sign ∷ numeric_variable ∷ string_variable ∷ []) ∷ term ∷ (comma ∷ semicolon ∷ joining) ∷ term ∷ (comma ∷ semicolon ∷ joining) ∷ (numeric_variable ∷ string_variable ∷ []) ∷ (comma ∷ ending) ∷ (numeric_variable ∷ string_variable ∷ []) ∷ (comma ∷ ending) ∷ [])
    ∷ []

-- the definitions give each line so
pub devices_stored : results (stored ++ incomplete) ≡ expected (stored ++ incomplete)
unfolding everything empty stores refuses shown result results expected stored incomplete
devices_stored = refl

-- and each refusal
pub devices_refused : all_found misplaced ≡ misplaced
unfolding everything empty refused found all_found misplaced
devices_refused = refl

-- at each place of each text just what document 02 allows may come
pub what_may_follow : unexpected walks ≡ []
unfolding everything all_walks all_Following walks
what_may_follow = refl

-- of the rows and frames of device statements nothing is untried
pub nothing_untried : untried (rows_that of_device? grammar) want_channel 5 (read_texts (texts_of_walks walks)) (read_texts (texts_of_cases incomplete)) ≡ record { rows = []; wanted = []; frames = [] }
unfolding everything all_Coverage stores refuses incomplete all_walks walks
nothing_untried = refl
