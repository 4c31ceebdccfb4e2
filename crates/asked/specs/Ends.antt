-- Where the refused item starts and ends (document 02, §8), worked out by hand: items of each kind, the line's end, bytes that start no item, and 9B in strings and
-- in raw text. As one table and one theorem.
use Rattle.std.specs.Prelude.{◌≡◌, refl, List, [], ◌∷◌, ◌++◌}
use Rattle.paper.specs.Bytes.{bytes}
use Rattle.paper.specs.Cases.{empty, Refused, refused, found, all_found}
use Rattle.paper.specs.Open.{everything}

-- the cases
unfoldable pub ends : List Refused
ends =
    -- a name with its `$`, without its `(`
    refused (bytes "10 NEXT A$") 4 8 10
    ∷ refused (bytes "10 NEXT AB$(1)") 4 8 11
    ∷ refused (bytes "10 NEXT AB(1)") 4 8 10
    ∷ refused (bytes "10 NEXT AB (1)") 4 11 12
    ∷ refused (bytes "10 A$B=1") 4 5 6
    ∷ refused (bytes "10 A B=1") 4 5 6
    ∷ refused (bytes "10 GOTO10 20") 4 10 12
    -- words
    ∷ refused (bytes "10 LET SIN(1)=2") 4 7 10
    ∷ refused (bytes "10 COLOR 1") 4 3 8
    ∷ refused (bytes "10 ? A THEN") 4 7 11
    ∷ refused (bytes "10 ? STR$") 4 9 9
    ∷ refused (bytes "10 ? STEP") 4 5 9
    -- numbers, of 4 and of 5
    ∷ refused (bytes "10 NEXT 1.5E+5") 4 8 14
    ∷ refused (bytes "10 NEXT 1.5E+") 4 8 11
    ∷ refused (bytes "10 A=1 .5") 4 7 9
    ∷ refused (bytes "10 A=1.2.3") 4 8 10
    ∷ refused (bytes "10 A=00001E99") 5 5 13
    ∷ refused (bytes "10 A=.5E-99 ") 5 5 11
    ∷ refused (bytes "10 A=1E98:B=1E99") 5 5 9
    ∷ refused (bytes "10 A=A+1.E98") 5 7 12
    ∷ refused (bytes "10 IF A THEN 1E99") 5 13 17
    -- closed strings
    ∷ refused (bytes "10 NEXT \"A\"") 4 8 11
    ∷ refused (bytes "10 NEXT \"\"") 4 8 10
    ∷ refused (bytes "10 ? \"A\"\"B\"") 4 8 11
    -- strings left open, to the text's end
    ∷ refused (bytes "10 NEXT \"A") 4 8 10
    ∷ refused (bytes "10 NEXT \"A  ") 4 8 12
    ∷ refused (bytes "10 ? \"A\"\"") 4 8 9
    -- strings with 9B, closed or open, to the first 9B, where a string may stand and where not
    ∷ refused (bytes "10 ? \"A" ++ 0x9b ∷ bytes "B\"") 4 5 7
    ∷ refused (bytes "10 ? \"A" ++ 0x9b ∷ 0x9b ∷ bytes "B") 4 5 7
    ∷ refused (bytes "10 ? \"" ++ 0x9b ∷ []) 4 5 6
    ∷ refused (bytes "10 NEXT \"A" ++ 0x9b ∷ bytes "B\"") 4 8 10
    -- symbols of one byte and of two
    ∷ refused (bytes "10 A=1=<=2") 4 7 9
    ∷ refused (bytes "10 A=<>2") 4 5 7
    ∷ refused (bytes "10 A==2") 4 5 6
    ∷ refused (bytes "10 #") 4 3 4
    ∷ refused (bytes "10 END ?") 4 7 8
    -- the line's end, past all blanks
    ∷ refused (bytes "30 GOTO") 4 7 7
    ∷ refused (bytes "30 GOTO  ") 4 9 9
    ∷ refused (bytes "10 A=1:") 4 7 7
    ∷ refused (bytes "10 A=1: ") 4 8 8
    ∷ refused (bytes "10 IF A THEN") 4 12 12
    -- a byte that starts no item
    ∷ refused (bytes "10 A@B=1") 4 4 5
    ∷ refused (bytes "10 goto 20") 4 3 4
    ∷ refused (bytes "10 .") 4 3 4
    ∷ refused (bytes "10 A=.E5") 4 5 6
    ∷ refused (bytes "10 A=" ++ 0x9b ∷ 0x9b ∷ []) 4 5 6
    ∷ refused (bytes "10 END" ++ 0x0d ∷ []) 4 6 7
    ∷ refused (bytes "10 A=" ++ 0xff ∷ bytes "A") 4 5 6
    -- the first 9B in the text of REM or DATA
    ∷ refused (bytes "10 REM A" ++ 0x9b ∷ bytes "B") 4 8 9
    ∷ refused (bytes "10 REM" ++ 0x9b ∷ []) 4 6 7
    ∷ refused (bytes "10 DATA " ++ 0x9b ∷ 0x9b ∷ []) 4 8 9
    ∷ refused (bytes "10 DATA \"A" ++ 0x9b ∷ bytes "\"") 4 10 11
    ∷ refused (bytes "10 END:REM " ++ 0x9b ∷ []) 4 11 12
    -- answers that have no place, and so no end
    ∷ refused [] 3 0 0
    ∷ refused (bytes "END") 3 0 0
    ∷ refused (bytes "32768 BORC") 3 0 0
    ∷ refused (bytes "10") 9 0 0
    ∷ []

-- the definitions give each of them so
pub ends_found : all_found ends ≡ ends
unfolding everything empty refused found all_found ends
ends_found = refl
