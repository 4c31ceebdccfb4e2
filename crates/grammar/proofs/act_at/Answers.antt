use Rattle.std.proofs.Common.{refl, arith}
use Rattle.grammar.specs.Rows.{words, rests}
use Rattle.grammar.proofs.Acting.{of_word, took_here}
use Rattle.grammar.proofs.Table.{leaves_so, refuses_so, takes_so}
use Rattle.grammar.proofs.StackLaws.{acts_refused, acts_left}
use Rattle.grammar.proofs.act_at.Goals as goal

pub returns-then-act-eq-LEAVES : goal.returns-then-act-eq-LEAVES
returns-then-act-eq-LEAVES c = acts_left (leaves_so words rests _ _ c.act_of-act.ensures c.if-act-eq-LEAVES.true) refl

pub returns-then-act-lt-FIRST_ACT : goal.returns-then-act-lt-FIRST_ACT
returns-then-act-lt-FIRST_ACT c = acts_refused (refuses_so words rests _ _ c.act_of-act.ensures c.if-act-eq-LEAVES.false c.if-act-lt-FIRST_ACT.true)

pub overflow_cast-rest : goal.overflow_cast-rest
overflow_cast-rest c = omega arith

pub put_frames-requires : goal.put_frames-requires
put_frames-requires c = c.requires.0

pub overflow_cast-result : goal.overflow_cast-result
overflow_cast-result c = omega arith

pub overflow_cast-result-2 : goal.overflow_cast-result-2
overflow_cast-result-2 c = omega arith

pub returns : goal.returns
returns c = took_here c.act_of-act.result c.word_of.result c.rest_of-rest.result (of_word c.act_of-act.result c.word_of.result c.rest_of-rest.result (takes_so words rests _ _ c.act_of-act.ensures c.if-act-lt-FIRST_ACT.false) c.word_of.ensures c.rest_of-rest.ensures) c.requires.0 c.put_frames.ensures
