-- Each arm of `first_of` says what the table says at its key. (Made by scripts/tables.py.)
use Rattle.std.proofs.Common.{◌≡◌, ℕ, get_or, sym, ap}
use Rattle.grammar.specs.Tables.{past_rows}
use Rattle.grammar.specs.Rows.{firsts}
use Rattle.grammar.proofs.Places.{places, at_none}
use Rattle.grammar.proofs.rows.first_of.Goals as goal

here : {x k : ℕ} → x ≡ k → get_or firsts k past_rows ≡ get_or firsts x past_rows
here e = sym (ap (λ n. get_or firsts n past_rows) e)

pub returns-in-0 : goal.returns-in-0
unfolding firsts places
returns-in-0 c = here c.in-0.is

pub returns-in-1 : goal.returns-in-1
unfolding firsts places
returns-in-1 c = here c.in-1.is

pub returns-in-2 : goal.returns-in-2
unfolding firsts places
returns-in-2 c = here c.in-2.is

pub returns-in-3 : goal.returns-in-3
unfolding firsts places
returns-in-3 c = here c.in-3.is

pub returns-in-4 : goal.returns-in-4
unfolding firsts places
returns-in-4 c = here c.in-4.is

pub returns-in-5 : goal.returns-in-5
unfolding firsts places
returns-in-5 c = here c.in-5.is

pub returns-in-6 : goal.returns-in-6
unfolding firsts places
returns-in-6 c = here c.in-6.is

pub returns-in-7 : goal.returns-in-7
unfolding firsts places
returns-in-7 c = here c.in-7.is

pub returns-in-8 : goal.returns-in-8
unfolding firsts places
returns-in-8 c = here c.in-8.is

pub returns-in-9 : goal.returns-in-9
unfolding firsts places
returns-in-9 c = here c.in-9.is

pub returns-in-10 : goal.returns-in-10
unfolding firsts places
returns-in-10 c = here c.in-10.is

pub returns-in-11 : goal.returns-in-11
unfolding firsts places
returns-in-11 c = here c.in-11.is

pub returns-in-12 : goal.returns-in-12
unfolding firsts places
returns-in-12 c = here c.in-12.is

pub returns-in-13 : goal.returns-in-13
unfolding firsts places
returns-in-13 c = here c.in-13.is

pub returns-in-14 : goal.returns-in-14
unfolding firsts places
returns-in-14 c = here c.in-14.is

pub returns-in-15 : goal.returns-in-15
unfolding firsts places
returns-in-15 c = here c.in-15.is

pub returns-in-16 : goal.returns-in-16
unfolding firsts places
returns-in-16 c = here c.in-16.is

pub returns-in-17 : goal.returns-in-17
unfolding firsts places
returns-in-17 c = here c.in-17.is

pub returns-in-18 : goal.returns-in-18
unfolding firsts places
returns-in-18 c = here c.in-18.is

pub returns-in-19 : goal.returns-in-19
unfolding firsts places
returns-in-19 c = here c.in-19.is

pub returns-in-20 : goal.returns-in-20
unfolding firsts places
returns-in-20 c = here c.in-20.is

pub returns-in-21 : goal.returns-in-21
unfolding firsts places
returns-in-21 c = here c.in-21.is

pub returns-in-22 : goal.returns-in-22
unfolding firsts places
returns-in-22 c = here c.in-22.is

pub returns-in-23 : goal.returns-in-23
unfolding firsts places
returns-in-23 c = here c.in-23.is

pub returns-in-24 : goal.returns-in-24
unfolding firsts places
returns-in-24 c = here c.in-24.is

pub returns-in-25 : goal.returns-in-25
unfolding firsts places
returns-in-25 c = here c.in-25.is

pub returns-in-26 : goal.returns-in-26
unfolding firsts places
returns-in-26 c = here c.in-26.is

pub returns-in-27 : goal.returns-in-27
unfolding firsts places
returns-in-27 c = here c.in-27.is

pub returns-in-28 : goal.returns-in-28
unfolding firsts places
returns-in-28 c = here c.in-28.is

pub returns-in-29 : goal.returns-in-29
unfolding firsts places
returns-in-29 c = here c.in-29.is

pub returns-in-30 : goal.returns-in-30
unfolding firsts places
returns-in-30 c = here c.in-30.is

pub returns-in-31 : goal.returns-in-31
unfolding firsts places
returns-in-31 c = here c.in-31.is

pub returns-in-32 : goal.returns-in-32
unfolding firsts places
returns-in-32 c = here c.in-32.is

pub returns-in-33 : goal.returns-in-33
unfolding firsts places
returns-in-33 c = here c.in-33.is

pub returns-in-34 : goal.returns-in-34
unfolding firsts places
returns-in-34 c = here c.in-34.is

pub returns-in-35 : goal.returns-in-35
unfolding firsts places
returns-in-35 c = here c.in-35.is

pub returns-in-36 : goal.returns-in-36
unfolding firsts places
returns-in-36 c = here c.in-36.is

pub returns-in-37 : goal.returns-in-37
unfolding firsts places
returns-in-37 c = here c.in-37.is

pub returns-in-38 : goal.returns-in-38
unfolding firsts places
returns-in-38 c = here c.in-38.is

pub returns-in-39 : goal.returns-in-39
unfolding firsts places
returns-in-39 c = here c.in-39.is

pub returns-in-40 : goal.returns-in-40
unfolding firsts places
returns-in-40 c = here c.in-40.is

pub returns-in_default : goal.returns-in_default
unfolding firsts places
returns-in_default c = at_none past_rows firsts c.args.frame c.in_default.in_default-own.rest
