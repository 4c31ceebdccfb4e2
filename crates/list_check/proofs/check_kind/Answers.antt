use Rattle.list_check.proofs.Checking.{fail_holds}
use Rattle.list_check.proofs.check_kind.Goals as goal

pub returns-in-Word : goal.returns-in-Word
returns-in-Word c = rw c.in-Word.is (λ ns nd k. c.check_word.ensures ns nd)

pub returns-in-Text : goal.returns-in-Text
returns-in-Text c = rw c.in-Text.is (λ ns nd k. c.check_text.ensures ns nd)

pub returns-in-Target : goal.returns-in-Target
returns-in-Target c = rw c.in-Target.is (λ ns nd k. c.check_target.ensures ns nd k)

pub returns-in-NoTarget : goal.returns-in-NoTarget
returns-in-NoTarget c = rw c.in-NoTarget.is (λ ns nd k end e. fail_holds (record { numbered = nd; inside = c.requires.0; stands = e }) (λ q. q))

pub returns-in-Variable : goal.returns-in-Variable
returns-in-Variable c = rw c.in-Variable.is (λ ns nd k. c.check_variable.ensures ns nd k)

pub returns-in-Constant : goal.returns-in-Constant
returns-in-Constant c = rw c.in-Constant.is (λ ns nd k. c.check_constant.ensures ns nd)

pub returns-in-Quoted : goal.returns-in-Quoted
returns-in-Quoted c = rw c.in-Quoted.is (λ ns nd k. c.check_quoted.ensures ns nd)

pub returns-in-Operator : goal.returns-in-Operator
returns-in-Operator c = rw c.in-Operator.is (λ ns nd k. c.check_operator.ensures ns nd _ _ c.requires.0)
