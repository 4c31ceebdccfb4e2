-- Each arm of `operator_class` says the class of its token's word. (Made by scripts/tables.py.)
use native.Mathlib.Omega.{arith}
use Rattle.paper.specs.Tokens.{operator_class}
use Rattle.paper.specs.Words.{word, read_operators, functions, placed_operators, operators, word_of}
use Rattle.tokens.proofs.Keys.{at_key}
use Rattle.tokens.proofs.Classes.{operator_past, operator_else}
use Rattle.tokens.proofs.operator_class.Goals as goal

pub returns-then-token-eq-RAW_END : goal.returns-then-token-eq-RAW_END
unfolding operator_class word_of operators read_operators functions placed_operators word
returns-then-token-eq-RAW_END c = at_key operator_class 0x9b c.if-token-eq-RAW_END.true

pub returns-then-token : goal.returns-then-token
unfolding operator_class word_of operators read_operators functions placed_operators word
returns-then-token c = operator_past c.args.token c.if-token.true c.if-token-eq-RAW_END.false

pub returns-in-18 : goal.returns-in-18
unfolding operator_class word_of operators read_operators functions placed_operators word
returns-in-18 c = at_key operator_class 0x12 c.in-18.is

pub returns-in-20 : goal.returns-in-20
unfolding operator_class word_of operators read_operators functions placed_operators word
returns-in-20 c = at_key operator_class 0x14 c.in-20.is

pub returns-in-21 : goal.returns-in-21
unfolding operator_class word_of operators read_operators functions placed_operators word
returns-in-21 c = at_key operator_class 0x15 c.in-21.is

pub returns-in-22 : goal.returns-in-22
unfolding operator_class word_of operators read_operators functions placed_operators word
returns-in-22 c = at_key operator_class 0x16 c.in-22.is

pub returns-in-23 : goal.returns-in-23
unfolding operator_class word_of operators read_operators functions placed_operators word
returns-in-23 c = at_key operator_class 0x17 c.in-23.is

pub returns-in-24 : goal.returns-in-24
unfolding operator_class word_of operators read_operators functions placed_operators word
returns-in-24 c = at_key operator_class 0x18 c.in-24.is

pub returns-in-25 : goal.returns-in-25
unfolding operator_class word_of operators read_operators functions placed_operators word
returns-in-25 c = at_key operator_class 0x19 c.in-25.is

pub returns-in-26 : goal.returns-in-26
unfolding operator_class word_of operators read_operators functions placed_operators word
returns-in-26 c = at_key operator_class 0x1a c.in-26.is

pub returns-in-27 : goal.returns-in-27
unfolding operator_class word_of operators read_operators functions placed_operators word
returns-in-27 c = at_key operator_class 0x1b c.in-27.is

pub returns-in-28 : goal.returns-in-28
unfolding operator_class word_of operators read_operators functions placed_operators word
returns-in-28 c = at_key operator_class 0x1c c.in-28.is

pub returns-in-29 : goal.returns-in-29
unfolding operator_class word_of operators read_operators functions placed_operators word
returns-in-29 c = at_key operator_class 0x1d c.in-29.is

pub returns-in-30 : goal.returns-in-30
unfolding operator_class word_of operators read_operators functions placed_operators word
returns-in-30 c = at_key operator_class 0x1e c.in-30.is

pub returns-in-31 : goal.returns-in-31
unfolding operator_class word_of operators read_operators functions placed_operators word
returns-in-31 c = at_key operator_class 0x1f c.in-31.is

pub returns-in-32 : goal.returns-in-32
unfolding operator_class word_of operators read_operators functions placed_operators word
returns-in-32 c = at_key operator_class 0x20 c.in-32.is

pub returns-in-33 : goal.returns-in-33
unfolding operator_class word_of operators read_operators functions placed_operators word
returns-in-33 c = at_key operator_class 0x21 c.in-33.is

pub returns-in-34 : goal.returns-in-34
unfolding operator_class word_of operators read_operators functions placed_operators word
returns-in-34 c = at_key operator_class 0x22 c.in-34.is

pub returns-in-35 : goal.returns-in-35
unfolding operator_class word_of operators read_operators functions placed_operators word
returns-in-35 c = at_key operator_class 0x23 c.in-35.is

pub returns-in-36 : goal.returns-in-36
unfolding operator_class word_of operators read_operators functions placed_operators word
returns-in-36 c = at_key operator_class 0x24 c.in-36.is

pub returns-in-37 : goal.returns-in-37
unfolding operator_class word_of operators read_operators functions placed_operators word
returns-in-37 c = at_key operator_class 0x25 c.in-37.is

pub returns-in-38 : goal.returns-in-38
unfolding operator_class word_of operators read_operators functions placed_operators word
returns-in-38 c = at_key operator_class 0x26 c.in-38.is

pub returns-in-39 : goal.returns-in-39
unfolding operator_class word_of operators read_operators functions placed_operators word
returns-in-39 c = at_key operator_class 0x27 c.in-39.is

pub returns-in-40 : goal.returns-in-40
unfolding operator_class word_of operators read_operators functions placed_operators word
returns-in-40 c = at_key operator_class 0x28 c.in-40.is

pub returns-in-41 : goal.returns-in-41
unfolding operator_class word_of operators read_operators functions placed_operators word
returns-in-41 c = at_key operator_class 0x29 c.in-41.is

pub returns-in-42 : goal.returns-in-42
unfolding operator_class word_of operators read_operators functions placed_operators word
returns-in-42 c = at_key operator_class 0x2a c.in-42.is

pub returns-in-43 : goal.returns-in-43
unfolding operator_class word_of operators read_operators functions placed_operators word
returns-in-43 c = at_key operator_class 0x2b c.in-43.is

pub returns-in-44 : goal.returns-in-44
unfolding operator_class word_of operators read_operators functions placed_operators word
returns-in-44 c = at_key operator_class 0x2c c.in-44.is

pub returns-in-61 : goal.returns-in-61
unfolding operator_class word_of operators read_operators functions placed_operators word
returns-in-61 c = at_key operator_class 0x3d c.in-61.is

pub returns-in-62 : goal.returns-in-62
unfolding operator_class word_of operators read_operators functions placed_operators word
returns-in-62 c = at_key operator_class 0x3e c.in-62.is

pub returns-in-64 : goal.returns-in-64
unfolding operator_class word_of operators read_operators functions placed_operators word
returns-in-64 c = at_key operator_class 0x40 c.in-64.is

pub returns-in-65 : goal.returns-in-65
unfolding operator_class word_of operators read_operators functions placed_operators word
returns-in-65 c = at_key operator_class 0x41 c.in-65.is

pub returns-in-66 : goal.returns-in-66
unfolding operator_class word_of operators read_operators functions placed_operators word
returns-in-66 c = at_key operator_class 0x42 c.in-66.is

pub returns-in-68 : goal.returns-in-68
unfolding operator_class word_of operators read_operators functions placed_operators word
returns-in-68 c = at_key operator_class 0x44 c.in-68.is

pub returns-in-69 : goal.returns-in-69
unfolding operator_class word_of operators read_operators functions placed_operators word
returns-in-69 c = at_key operator_class 0x45 c.in-69.is

pub returns-in-70 : goal.returns-in-70
unfolding operator_class word_of operators read_operators functions placed_operators word
returns-in-70 c = at_key operator_class 0x46 c.in-70.is

pub returns-in-71 : goal.returns-in-71
unfolding operator_class word_of operators read_operators functions placed_operators word
returns-in-71 c = at_key operator_class 0x47 c.in-71.is

pub returns-in-72 : goal.returns-in-72
unfolding operator_class word_of operators read_operators functions placed_operators word
returns-in-72 c = at_key operator_class 0x48 c.in-72.is

pub returns-in-73 : goal.returns-in-73
unfolding operator_class word_of operators read_operators functions placed_operators word
returns-in-73 c = at_key operator_class 0x49 c.in-73.is

pub returns-in-74 : goal.returns-in-74
unfolding operator_class word_of operators read_operators functions placed_operators word
returns-in-74 c = at_key operator_class 0x4a c.in-74.is

pub returns-in-75 : goal.returns-in-75
unfolding operator_class word_of operators read_operators functions placed_operators word
returns-in-75 c = at_key operator_class 0x4b c.in-75.is

pub returns-in-76 : goal.returns-in-76
unfolding operator_class word_of operators read_operators functions placed_operators word
returns-in-76 c = at_key operator_class 0x4c c.in-76.is

pub returns-in-77 : goal.returns-in-77
unfolding operator_class word_of operators read_operators functions placed_operators word
returns-in-77 c = at_key operator_class 0x4d c.in-77.is

pub returns-in-78 : goal.returns-in-78
unfolding operator_class word_of operators read_operators functions placed_operators word
returns-in-78 c = at_key operator_class 0x4e c.in-78.is

pub returns-in-79 : goal.returns-in-79
unfolding operator_class word_of operators read_operators functions placed_operators word
returns-in-79 c = at_key operator_class 0x4f c.in-79.is

pub returns-in-80 : goal.returns-in-80
unfolding operator_class word_of operators read_operators functions placed_operators word
returns-in-80 c = at_key operator_class 0x50 c.in-80.is

pub returns-in_default : goal.returns-in_default
unfolding operator_class word_of operators read_operators functions placed_operators word
returns-in_default c = operator_else c.args.token (c.in_default.in_default-own.rest, λ e. omega arith)
