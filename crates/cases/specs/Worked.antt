-- Cases worked out by hand from document 01, beyond its starred ones: every row of the grammar, words and names, constants at their
-- limits, and the place of each kind of refusal. As one table and one theorem.
use Rattle.std.specs.Prelude.{◌≡◌, refl, List, [], ◌∷◌, ◌++◌}
use Rattle.paper.specs.Open.{everything}
use Rattle.paper.specs.Cases.{empty, Case, stores, refuses, shown, result, results, expected}

-- the cases
unfoldable pub worked : List Case
worked =
    stores "10 IF A THEN 10:END" "0A 00 12 0F 07 80 1B 0E 40 10 00 00 00 00 14 12 15 16" "C1" "10 IF A THEN 10:END "
    ∷ stores "10 IF A THEN B=-A" "0A 00 0E 07 07 80 1B 0E 36 81 2D 36 80 16" "C1 C2" "10 IF A THEN B=-A"
    ∷ stores "10 IF A THEN B(1)=A" "0A 00 16 07 07 80 1B 16 36 81 38 0E 40 01 00 00 00 00 2C 2D 80 16" "C1 42 A8" "10 IF A THEN B(1)=A"
    ∷ stores "10 IF A THEN C$=\"X\"" "0A 00 0F 07 07 80 1B 0F 36 81 2E 0F 01 58 16" "C1 43 A4" "10 IF A THEN C$=\"X\""
    ∷ stores "10 IF A THEN LET C$(1,2)=CHR$(1)" "0A 00 27 07 07 80 1B 27 06 81 37 0E 40 01 00 00 00 00 3C 0E 40 02 00 00 00 00 2C 2E 3E 3A 0E 40 01 00 00 00 00 2C 16" "C1 43 A4" "10 IF A THEN LET C$(1,2)=CHR$(1)"
    ∷ stores "10 IF A THEN NEXT A" "0A 00 0B 07 07 80 1B 0B 09 80 16" "C1" "10 IF A THEN NEXT A"
    ∷ stores "10 IF A THEN ON A GOTO 1,2" "0A 00 1B 07 07 80 1B 1B 1E 80 17 0E 40 01 00 00 00 00 12 0E 40 02 00 00 00 00 16" "C1" "10 IF A THEN ON A GOTO 1,2"
    ∷ stores "10 IF A THEN DIM B(1),C$(2)" "0A 00 1F 07 07 80 1B 1F 14 81 39 0E 40 01 00 00 00 00 2C 12 82 3B 0E 40 02 00 00 00 00 2C 16" "C1 42 A8 43 A4" "10 IF A THEN DIM B(1),C$(2)"
    ∷ stores "10 IF A THEN POKE A,1" "0A 00 13 07 07 80 1B 13 1F 80 12 0E 40 01 00 00 00 00 16" "C1" "10 IF A THEN POKE A,1"
    ∷ stores "10 IF A THEN GOSUB 1" "0A 00 11 07 07 80 1B 11 0C 0E 40 01 00 00 00 00 16" "C1" "10 IF A THEN GOSUB 1"
    ∷ stores "10 IF A THEN READ A,B$:POP" "0A 00 10 07 07 80 1B 0D 22 80 12 81 14 10 27 16" "C1 42 A4" "10 IF A THEN READ A,B$:POP "
    ∷ stores "10 IF A THEN IF B THEN FOR I=1 TO 2" "0A 00 1F 07 07 80 1B 0B 07 81 1B 1F 08 82 2D 0E 40 01 00 00 00 00 19 0E 40 02 00 00 00 00 16" "C1 C2 C9" "10 IF A THEN IF B THEN FOR I=1 TO 2"
    ∷ stores "10 IF A THEN RESTORE" "0A 00 0A 07 07 80 1B 0A 23 16" "C1" "10 IF A THEN RESTORE "
    ∷ stores "10 IF A THEN REM THEN 5:END" "0A 00 14 07 07 80 1B 14 00 54 48 45 4E 20 35 3A 45 4E 44 9B" "C1" "10 IF A THEN REM THEN 5:END"
    ∷ stores "10 PRINT A$<B$;A$=B$,NOT C" "0A 00 10 10 20 80 32 81 15 80 34 81 12 28 82 16" "41 A4 42 A4 C3" "10 PRINT A$<B$;A$=B$, NOT C"
    ∷ stores "10 ? A(1);LEN(B$),SIN(1);CHR$(1)" "0A 00 2B 2B 28 80 38 0E 40 01 00 00 00 00 2C 15 42 3A 81 2C 12 47 3A 0E 40 01 00 00 00 00 2C 15 3E 3A 0E 40 01 00 00 00 00 2C 16" "41 A8 42 A4" "10 ? A(1);LEN(B$),SIN(1);CHR$(1)"
    ∷ stores "10 PRINT" "0A 00 06 06 20 16" "" "10 PRINT "
    ∷ stores "10 RESTORE -1:RESTORE NOT A:RESTORE B(1)" "0A 00 20 0E 23 36 0E 40 01 00 00 00 00 14 13 23 28 80 14 20 23 81 38 0E 40 01 00 00 00 00 2C 16" "C1 42 A8" "10 RESTORE -1:RESTORE  NOT A:RESTORE B(1)"
    ∷ stores "10 RESTORE \"X\"=A$:RESTORE A$=\"X\"" "0A 00 13 0B 23 0F 01 58 34 80 14 13 23 80 34 0F 01 58 16" "41 A4" "10 RESTORE \"X\"=A$:RESTORE A$=\"X\""
    ∷ stores "10 RESTORE STR$(1)=\"X\"" "0A 00 14 14 23 3D 3A 0E 40 01 00 00 00 00 2C 34 0F 01 58 16" "" "10 RESTORE STR$(1)=\"X\""
    ∷ stores "10 POKE A(1,2),B$(1,2)=\"\"" "0A 00 2E 2E 1F 80 38 0E 40 01 00 00 00 00 3C 0E 40 02 00 00 00 00 2C 12 81 37 0E 40 01 00 00 00 00 3C 0E 40 02 00 00 00 00 2C 34 0F 00 16" "41 A8 42 A4" "10 POKE A(1,2),B$(1,2)=\"\""
    ∷ stores "10 ON A GOSUB 1,2,5" "0A 00 1F 1F 1E 80 18 0E 40 01 00 00 00 00 12 0E 40 02 00 00 00 00 12 0E 40 05 00 00 00 00 16" "C1" "10 ON A GOSUB 1,2,5"
    ∷ stores "10 INPUT A$,B" "0A 00 09 09 02 80 12 81 16" "41 A4 C2" "10 INPUT A$,B"
    ∷ stores "10 DATA 1:END" "0A 00 0B 0B 01 31 3A 45 4E 44 9B" "" "10 DATA 1:END"
    ∷ stores "10 TRAP .5" "0A 00 0D 0D 0D 0E 3F 50 00 00 00 00 16" "" "10 TRAP 0.5"
    ∷ stores "10 REM(1)=2" "0A 00 0B 0B 00 28 31 29 3D 32 9B" "" "10 REM (1)=2"
    ∷ stores "10 REMx" "0A 00 07 07 00 78 9B" "" "10 REM x"
    ∷ stores "10 REM" "0A 00 06 06 00 9B" "" "10 REM "
    ∷ stores "10 REM " "0A 00 06 06 00 9B" "" "10 REM "
    ∷ stores "10 REM  " "0A 00 07 07 00 20 9B" "" "10 REM  "
    ∷ stores "10 PRINT(1)=2" "0A 00 17 17 20 2B 0E 40 01 00 00 00 00 2C 22 0E 40 02 00 00 00 00 16" "" "10 PRINT (1)=2"
    ∷ stores "10 LET REM(1)=2" "0A 00 18 18 06 80 38 0E 40 01 00 00 00 00 2C 2D 0E 40 02 00 00 00 00 16" "52 45 4D A8" "10 LET REM(1)=2"
    ∷ stores "10 A$ (1)=\"X\"" "0A 00 14 14 36 80 37 0E 40 01 00 00 00 00 2C 2E 0F 01 58 16" "41 A4" "10 A$(1)=\"X\""
    ∷ stores "10 A=SIN (1)" "0A 00 12 12 36 80 2D 47 3A 0E 40 01 00 00 00 00 2C 16" "C1" "10 A=SIN(1)"
    ∷ stores "10 STR=STR(1)" "0A 00 12 12 36 80 2D 81 38 0E 40 01 00 00 00 00 2C 16" "53 54 D2 53 54 52 A8" "10 STR=STR(1)"
    ∷ stores "10 NOT$=SIN$" "0A 00 09 09 36 80 2E 81 16" "4E 4F 54 A4 53 49 4E A4" "10 NOT$=SIN$"
    ∷ stores "10E5=1" "0A 00 0F 0F 36 80 2D 0E 40 01 00 00 00 00 16" "45 B5" "10 E5=1"
    ∷ stores " 0010A=1" "0A 00 0F 0F 36 80 2D 0E 40 01 00 00 00 00 16" "C1" "10 A=1"
    ∷ stores "10 CLR:DEG:END:POP:RAD:RETURN:STOP" "0A 00 18 06 12 14 09 13 14 0C 15 14 0F 27 14 12 21 14 15 24 14 18 26 16" "" "10 CLR :DEG :END :POP :RAD :RETURN :STOP "
    ∷ stores "10 GOTO A:GOSUB A:TRAP A" "0A 00 0F 07 0A 80 14 0B 0C 80 14 0F 0D 80 16" "C1" "10 GOTO A:GOSUB A:TRAP A"
    ∷ stores "10 A=ATN(A)+COS(A)+PEEK(A)+SIN(A)+RND(A)+FRE(A)+EXP(A)" "0A 00 2A 2A 36 80 2D 44 3A 80 2C 25 45 3A 80 2C 25 46 3A 80 2C 25 47 3A 80 2C 25 48 3A 80 2C 25 49 3A 80 2C 25 4A 3A 80 2C 16" "C1" "10 A=ATN(A)+COS(A)+PEEK(A)+SIN(A)+RND(A)+FRE(A)+EXP(A)"
    ∷ stores "10 A=LOG(A)+CLOG(A)+SQR(A)+SGN(A)+ABS(A)+INT(A)" "0A 00 25 25 36 80 2D 4B 3A 80 2C 25 4C 3A 80 2C 25 4D 3A 80 2C 25 4E 3A 80 2C 25 4F 3A 80 2C 25 50 3A 80 2C 16" "C1" "10 A=LOG(A)+CLOG(A)+SQR(A)+SGN(A)+ABS(A)+INT(A)"
    ∷ stores "10 A=ASC(STR$(A))+VAL(CHR$(A))+LEN(B$)" "0A 00 1C 1C 36 80 2D 40 3A 3D 3A 80 2C 2C 25 41 3A 3E 3A 80 2C 2C 25 42 3A 81 2C 16" "C1 42 A4" "10 A=ASC(STR$(A))+VAL(CHR$(A))+LEN(B$)"
    ∷ refuses "10 COLOR A" 4 3
    ∷ refuses "10 LIST A" 4 3
    ∷ refuses "10 ENTER A" 4 3
    ∷ refuses "10 BYE A" 4 3
    ∷ refuses "10 CONT A" 4 3
    ∷ refuses "10 NEW A" 4 3
    ∷ refuses "10 LOAD A" 4 3
    ∷ refuses "10 SAVE A" 4 3
    ∷ refuses "10 RUN A" 4 3
    ∷ refuses "10 GRAPHICS A" 4 3
    ∷ refuses "10 PLOT A" 4 3
    ∷ refuses "10 POSITION A" 4 3
    ∷ refuses "10 DOS A" 4 3
    ∷ refuses "10 DRAWTO A" 4 3
    ∷ refuses "10 SETCOLOR A" 4 3
    ∷ refuses "10 LOCATE A" 4 3
    ∷ refuses "10 SOUND A" 4 3
    ∷ refuses "10 LPRINT A" 4 3
    ∷ refuses "10 CSAVE A" 4 3
    ∷ refuses "10 CLOAD A" 4 3
    ∷ refuses "10 A=USR(A)" 4 5
    ∷ refuses "10 A=ADR(A)" 4 5
    ∷ refuses "10 A=PADDLE(A)" 4 5
    ∷ refuses "10 A=STICK(A)" 4 5
    ∷ refuses "10 A=PTRIG(A)" 4 5
    ∷ refuses "10 A=STRIG(A)" 4 5
    ∷ stores "10 A=-A$=B$" "0A 00 0C 0C 36 80 2D 36 81 34 82 16" "C1 41 A4 42 A4" "10 A=-A$=B$"
    ∷ stores "10 A=B$=\"X\"=1" "0A 00 15 15 36 80 2D 81 34 0F 01 58 22 0E 40 01 00 00 00 00 16" "C1 42 A4" "10 A=B$=\"X\"=1"
    ∷ stores "10 A=NOT NOT B" "0A 00 0B 0B 36 80 2D 28 28 81 16" "C1 C2" "10 A= NOT  NOT B"
    ∷ stores "10 A=+1^-2*B/C+D-E AND F" "0A 00 23 23 36 80 2D 35 0E 40 01 00 00 00 00 23 36 0E 40 02 00 00 00 00 24 81 27 82 25 83 26 84 2A 85 16" "C1 C2 C3 C4 C5 C6" "10 A=+1^-2*B/C+D-E AND F"
    ∷ stores "10 A=B<=C<>D>=E<F>G" "0A 00 13 13 36 80 2D 81 1D 82 1E 83 1F 84 20 85 21 86 16" "C1 C2 C3 C4 C5 C6 C7" "10 A=B<=C<>D>=E<F>G"
    ∷ stores "10 A=A$<=B$<>(C$<>D$)" "0A 00 11 11 36 80 2D 81 2F 82 1E 2B 83 30 84 2C 16" "C1 41 A4 42 A4 43 A4 44 A4" "10 A=A$<=B$<>(C$<>D$)"
    ∷ stores "10 A=A$>=\"\" OR A$>\"\"" "0A 00 11 11 36 80 2D 81 31 0F 00 29 81 33 0F 00 16" "C1 41 A4" "10 A=A$>=\"\" OR A$>\"\""
    ∷ stores "10 CLR:END" "0A 00 09 06 12 14 09 15 16" "" "10 CLR :END "
    ∷ stores "10 A=9.99999999999E97" "0A 00 0F 0F 36 80 2D 0E 70 99 99 99 99 99 16" "C1" "10 A=9.999999999E+97"
    ∷ stores "10 A=00.000E99" "0A 00 0F 0F 36 80 2D 0E 00 00 00 00 00 00 16" "C1" "10 A=0"
    ∷ stores "10 A=1.E2" "0A 00 0F 0F 36 80 2D 0E 41 01 00 00 00 00 16" "C1" "10 A=100"
    ∷ stores "10 A=.0099" "0A 00 0F 0F 36 80 2D 0E 3E 99 00 00 00 00 16" "C1" "10 A=9.9E-03"
    ∷ stores "10 A=9999999999.9" "0A 00 0F 0F 36 80 2D 0E 44 99 99 99 99 99 16" "C1" "10 A=9999999999"
    ∷ stores "10 A=0.01" "0A 00 0F 0F 36 80 2D 0E 3F 01 00 00 00 00 16" "C1" "10 A=0.01"
    ∷ stores "10 A=0.009999999999" "0A 00 0F 0F 36 80 2D 0E 3E 99 99 99 99 99 16" "C1" "10 A=9.999999999E-03"
    ∷ stores "10 A=1E10" "0A 00 0F 0F 36 80 2D 0E 45 01 00 00 00 00 16" "C1" "10 A=1E+10"
    ∷ stores "10 A=10E-99" "0A 00 0F 0F 36 80 2D 0E 0F 01 00 00 00 00 16" "C1" "10 A=1E-98"
    ∷ stores "10 A=99.5" "0A 00 0F 0F 36 80 2D 0E 40 99 50 00 00 00 16" "C1" "10 A=99.5"
    ∷ stores "10 A=100" "0A 00 0F 0F 36 80 2D 0E 41 01 00 00 00 00 16" "C1" "10 A=100"
    ∷ refuses "10 A=10E97" 5 5
    ∷ refuses "10 A=1E-99" 5 5
    ∷ refuses "10 A=0.99999999999E-98" 5 5
    ∷ refuses "10 A=1E98+1E98" 5 5
    ∷ refuses "10 A=1E98+" 5 5
    ∷ refuses "10 A=B C=1E98" 4 7
    ∷ refuses "10 A$=1E98" 4 6
    ∷ refuses "10 a=1" 4 3
    ∷ refuses "10 Ab=1" 4 4
    ∷ refuses "10 A=1e5" 4 6
    ∷ refuses "10 NEXT A(1)" 4 8
    ∷ refuses "10 READ A$(1)" 4 10
    ∷ refuses "10 DIM A (5)" 4 7
    ∷ refuses "10 A (1)=2" 4 5
    ∷ refuses "10 REM$" 4 7
    ∷ refuses "10 COLOR(1)=2" 4 3
    ∷ refuses "10 TO=5" 4 3
    ∷ refuses "10 SIN=5" 4 3
    ∷ refuses "10.5" 4 2
    ∷ refuses "10 20" 4 3
    ∷ refuses "10 PRINT -A$" 4 12
    ∷ refuses "10 A=B$=\"X\"=\"Y\"" 4 15
    ∷ refuses "10 A$=B$=\"X\"" 4 8
    ∷ refuses "10 PRINT (A$)" 4 12
    ∷ refuses "10 A=SIN(A$)" 4 11
    ∷ refuses "10 A=LEN(A)" 4 9
    ∷ refuses "10 PRINT A$ -1" 4 12
    ∷ refuses "10 PRINT A   B" 4 13
    ∷ refuses "10 IF A THEN -5" 4 13
    ∷ refuses "10 IF A THEN 5+1" 4 14
    ∷ refuses "10 IF A THEN10" 4 8
    ∷ refuses "10 A=\"X" 4 7
    ∷ stores "10 A$=\"X" "0A 00 0B 0B 36 80 2E 0F 01 58 16" "41 A4" "10 A$=\"X\""
    ∷ refuses "10 A=?" 4 5
    ∷ refuses "10 A=1..2" 4 7
    ∷ refuses "10 A=B< =C" 4 8
    ∷ refuses "10 A=." 4 5
    ∷ refuses "10 A=1E" 4 6
    ∷ refuses "10 A=1E+" 4 6
    ∷ refuses "10 A=1E 5" 4 6
    ∷ stores "10 A=1E5+B" "0A 00 11 11 36 80 2D 0E 42 10 00 00 00 00 25 81 16" "C1 C2" "10 A=100000+B"
    ∷ stores "10 A=1E-5" "0A 00 0F 0F 36 80 2D 0E 3D 10 00 00 00 00 16" "C1" "10 A=1E-05"
    ∷ refuses "10 A=1E5E5" 4 8
    ∷ refuses "10 A=1E005" 4 9
    ∷ refuses "10:" 4 2
    ∷ refuses "10 END:" 4 7
    ∷ refuses "10 A=1::END" 4 7
    ∷ refuses "10 A=B$" 4 7
    ∷ refuses "10 FOR A$=1" 4 7
    ∷ refuses "10 DIM A$(1,2)" 4 11
    ∷ refuses "10 ON A THEN 1" 4 8
    ∷ refuses "10 GOTO10" 4 9
    ∷ refuses "A=1" 3 0
    ∷ refuses "" 3 0
    ∷ refuses "   " 3 0
    ∷ refuses "99999999999999999999 END" 3 0
    ∷ refuses "10" 9 0
    ∷ refuses " 10 " 9 0
    ∷ []

-- texts from which something that must come is left out
unfoldable pub incomplete : List Case
incomplete =
    refuses "30 GOTO  " 4 9
    ∷ refuses "10 A" 4 4
    ∷ refuses "10 A$" 4 5
    ∷ refuses "10 GOTO A$" 4 10
    ∷ refuses "10 A=(1" 4 7
    ∷ refuses "10 NEXT" 4 7
    ∷ refuses "10 DIM" 4 6
    ∷ refuses "10 DIM A(1)," 4 12
    ∷ refuses "10 DIM A$ 1)" 4 10
    ∷ refuses "10 READ" 4 7
    ∷ refuses "10 READ A," 4 10
    ∷ refuses "10 A=B(1" 4 8
    ∷ refuses "10 A=B(1,2,3)" 4 10
    ∷ refuses "10 A$(1,2,3)=B$" 4 9
    ∷ refuses "10 A=SIN 1)" 4 9
    ∷ refuses "10 A=LEN()" 4 9
    ∷ refuses "10 IF A 10" 4 8
    ∷ refuses "10 FOR =1 TO 2" 4 7
    ∷ refuses "10 FOR I 1 TO 2" 4 9
    ∷ refuses "10 FOR I=1 2" 4 11
    ∷ refuses "10 ON A 1" 4 8
    ∷ refuses "10 POKE 1 2" 4 10
    ∷ refuses "10 LET" 4 6
    ∷ []

-- the definitions give each of them so
pub worked_cases : results (worked ++ incomplete) ≡ expected (worked ++ incomplete)
unfolding everything empty stores refuses shown result results expected worked incomplete
worked_cases = refl
