-- Each arm of `statement_class` says the class of its token's word. (Made by scripts/tables.py.)
use Prim.Native.Nat.{ℕ}
use Rattle.paper.specs.Words.{word, statements, word_of}
use Rattle.tokens.proofs.Keys.{at_key}
use Rattle.tokens.proofs.Classes.{statement_else}
use Rattle.tokens.proofs.statement_class.Goals as goal

pub returns-in-0 : goal.returns-in-0
unfolding word_of statements word
returns-in-0 c = at_key (λ (t : ℕ). (word_of statements t).class) 0x00 c.in-0.is

pub returns-in-1 : goal.returns-in-1
unfolding word_of statements word
returns-in-1 c = at_key (λ (t : ℕ). (word_of statements t).class) 0x01 c.in-1.is

pub returns-in-2 : goal.returns-in-2
unfolding word_of statements word
returns-in-2 c = at_key (λ (t : ℕ). (word_of statements t).class) 0x02 c.in-2.is

pub returns-in-6 : goal.returns-in-6
unfolding word_of statements word
returns-in-6 c = at_key (λ (t : ℕ). (word_of statements t).class) 0x06 c.in-6.is

pub returns-in-7 : goal.returns-in-7
unfolding word_of statements word
returns-in-7 c = at_key (λ (t : ℕ). (word_of statements t).class) 0x07 c.in-7.is

pub returns-in-8 : goal.returns-in-8
unfolding word_of statements word
returns-in-8 c = at_key (λ (t : ℕ). (word_of statements t).class) 0x08 c.in-8.is

pub returns-in-9 : goal.returns-in-9
unfolding word_of statements word
returns-in-9 c = at_key (λ (t : ℕ). (word_of statements t).class) 0x09 c.in-9.is

pub returns-in-10 : goal.returns-in-10
unfolding word_of statements word
returns-in-10 c = at_key (λ (t : ℕ). (word_of statements t).class) 0x0a c.in-10.is

pub returns-in-12 : goal.returns-in-12
unfolding word_of statements word
returns-in-12 c = at_key (λ (t : ℕ). (word_of statements t).class) 0x0c c.in-12.is

pub returns-in-13 : goal.returns-in-13
unfolding word_of statements word
returns-in-13 c = at_key (λ (t : ℕ). (word_of statements t).class) 0x0d c.in-13.is

pub returns-in-17 : goal.returns-in-17
unfolding word_of statements word
returns-in-17 c = at_key (λ (t : ℕ). (word_of statements t).class) 0x11 c.in-17.is

pub returns-in-18 : goal.returns-in-18
unfolding word_of statements word
returns-in-18 c = at_key (λ (t : ℕ). (word_of statements t).class) 0x12 c.in-18.is

pub returns-in-19 : goal.returns-in-19
unfolding word_of statements word
returns-in-19 c = at_key (λ (t : ℕ). (word_of statements t).class) 0x13 c.in-19.is

pub returns-in-20 : goal.returns-in-20
unfolding word_of statements word
returns-in-20 c = at_key (λ (t : ℕ). (word_of statements t).class) 0x14 c.in-20.is

pub returns-in-21 : goal.returns-in-21
unfolding word_of statements word
returns-in-21 c = at_key (λ (t : ℕ). (word_of statements t).class) 0x15 c.in-21.is

pub returns-in-23 : goal.returns-in-23
unfolding word_of statements word
returns-in-23 c = at_key (λ (t : ℕ). (word_of statements t).class) 0x17 c.in-23.is

pub returns-in-26 : goal.returns-in-26
unfolding word_of statements word
returns-in-26 c = at_key (λ (t : ℕ). (word_of statements t).class) 0x1a c.in-26.is

pub returns-in-27 : goal.returns-in-27
unfolding word_of statements word
returns-in-27 c = at_key (λ (t : ℕ). (word_of statements t).class) 0x1b c.in-27.is

pub returns-in-28 : goal.returns-in-28
unfolding word_of statements word
returns-in-28 c = at_key (λ (t : ℕ). (word_of statements t).class) 0x1c c.in-28.is

pub returns-in-29 : goal.returns-in-29
unfolding word_of statements word
returns-in-29 c = at_key (λ (t : ℕ). (word_of statements t).class) 0x1d c.in-29.is

pub returns-in-30 : goal.returns-in-30
unfolding word_of statements word
returns-in-30 c = at_key (λ (t : ℕ). (word_of statements t).class) 0x1e c.in-30.is

pub returns-in-31 : goal.returns-in-31
unfolding word_of statements word
returns-in-31 c = at_key (λ (t : ℕ). (word_of statements t).class) 0x1f c.in-31.is

pub returns-in-32 : goal.returns-in-32
unfolding word_of statements word
returns-in-32 c = at_key (λ (t : ℕ). (word_of statements t).class) 0x20 c.in-32.is

pub returns-in-33 : goal.returns-in-33
unfolding word_of statements word
returns-in-33 c = at_key (λ (t : ℕ). (word_of statements t).class) 0x21 c.in-33.is

pub returns-in-34 : goal.returns-in-34
unfolding word_of statements word
returns-in-34 c = at_key (λ (t : ℕ). (word_of statements t).class) 0x22 c.in-34.is

pub returns-in-35 : goal.returns-in-35
unfolding word_of statements word
returns-in-35 c = at_key (λ (t : ℕ). (word_of statements t).class) 0x23 c.in-35.is

pub returns-in-36 : goal.returns-in-36
unfolding word_of statements word
returns-in-36 c = at_key (λ (t : ℕ). (word_of statements t).class) 0x24 c.in-36.is

pub returns-in-38 : goal.returns-in-38
unfolding word_of statements word
returns-in-38 c = at_key (λ (t : ℕ). (word_of statements t).class) 0x26 c.in-38.is

pub returns-in-39 : goal.returns-in-39
unfolding word_of statements word
returns-in-39 c = at_key (λ (t : ℕ). (word_of statements t).class) 0x27 c.in-39.is

pub returns-in-40 : goal.returns-in-40
unfolding word_of statements word
returns-in-40 c = at_key (λ (t : ℕ). (word_of statements t).class) 0x28 c.in-40.is

pub returns-in-41 : goal.returns-in-41
unfolding word_of statements word
returns-in-41 c = at_key (λ (t : ℕ). (word_of statements t).class) 0x29 c.in-41.is

pub returns-in-42 : goal.returns-in-42
unfolding word_of statements word
returns-in-42 c = at_key (λ (t : ℕ). (word_of statements t).class) 0x2a c.in-42.is

pub returns-in_default : goal.returns-in_default
unfolding word_of statements word
returns-in_default c = statement_else c.args.token.0 c.in_default.in_default-own.rest
