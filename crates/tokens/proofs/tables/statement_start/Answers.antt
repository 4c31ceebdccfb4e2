use Rattle.tokens.specs.Tables.{total}
use Rattle.tokens.proofs.Cuts.{statement_sizes, statement_start_at, statement_start_else}
use Rattle.tokens.proofs.tables.statement_start.Goals as goal

pub returns-in-0 : goal.returns-in-0
unfolding total statement_sizes
returns-in-0 c = statement_start_at 0x00 c.in-0.is

pub returns-in-1 : goal.returns-in-1
unfolding total statement_sizes
returns-in-1 c = statement_start_at 0x01 c.in-1.is

pub returns-in-2 : goal.returns-in-2
unfolding total statement_sizes
returns-in-2 c = statement_start_at 0x02 c.in-2.is

pub returns-in-3 : goal.returns-in-3
unfolding total statement_sizes
returns-in-3 c = statement_start_at 0x03 c.in-3.is

pub returns-in-4 : goal.returns-in-4
unfolding total statement_sizes
returns-in-4 c = statement_start_at 0x04 c.in-4.is

pub returns-in-5 : goal.returns-in-5
unfolding total statement_sizes
returns-in-5 c = statement_start_at 0x05 c.in-5.is

pub returns-in-6 : goal.returns-in-6
unfolding total statement_sizes
returns-in-6 c = statement_start_at 0x06 c.in-6.is

pub returns-in-7 : goal.returns-in-7
unfolding total statement_sizes
returns-in-7 c = statement_start_at 0x07 c.in-7.is

pub returns-in-8 : goal.returns-in-8
unfolding total statement_sizes
returns-in-8 c = statement_start_at 0x08 c.in-8.is

pub returns-in-9 : goal.returns-in-9
unfolding total statement_sizes
returns-in-9 c = statement_start_at 0x09 c.in-9.is

pub returns-in-10 : goal.returns-in-10
unfolding total statement_sizes
returns-in-10 c = statement_start_at 0x0a c.in-10.is

pub returns-in-11 : goal.returns-in-11
unfolding total statement_sizes
returns-in-11 c = statement_start_at 0x0b c.in-11.is

pub returns-in-12 : goal.returns-in-12
unfolding total statement_sizes
returns-in-12 c = statement_start_at 0x0c c.in-12.is

pub returns-in-13 : goal.returns-in-13
unfolding total statement_sizes
returns-in-13 c = statement_start_at 0x0d c.in-13.is

pub returns-in-14 : goal.returns-in-14
unfolding total statement_sizes
returns-in-14 c = statement_start_at 0x0e c.in-14.is

pub returns-in-15 : goal.returns-in-15
unfolding total statement_sizes
returns-in-15 c = statement_start_at 0x0f c.in-15.is

pub returns-in-16 : goal.returns-in-16
unfolding total statement_sizes
returns-in-16 c = statement_start_at 0x10 c.in-16.is

pub returns-in-17 : goal.returns-in-17
unfolding total statement_sizes
returns-in-17 c = statement_start_at 0x11 c.in-17.is

pub returns-in-18 : goal.returns-in-18
unfolding total statement_sizes
returns-in-18 c = statement_start_at 0x12 c.in-18.is

pub returns-in-19 : goal.returns-in-19
unfolding total statement_sizes
returns-in-19 c = statement_start_at 0x13 c.in-19.is

pub returns-in-20 : goal.returns-in-20
unfolding total statement_sizes
returns-in-20 c = statement_start_at 0x14 c.in-20.is

pub returns-in-21 : goal.returns-in-21
unfolding total statement_sizes
returns-in-21 c = statement_start_at 0x15 c.in-21.is

pub returns-in-22 : goal.returns-in-22
unfolding total statement_sizes
returns-in-22 c = statement_start_at 0x16 c.in-22.is

pub returns-in-23 : goal.returns-in-23
unfolding total statement_sizes
returns-in-23 c = statement_start_at 0x17 c.in-23.is

pub returns-in-24 : goal.returns-in-24
unfolding total statement_sizes
returns-in-24 c = statement_start_at 0x18 c.in-24.is

pub returns-in-25 : goal.returns-in-25
unfolding total statement_sizes
returns-in-25 c = statement_start_at 0x19 c.in-25.is

pub returns-in-26 : goal.returns-in-26
unfolding total statement_sizes
returns-in-26 c = statement_start_at 0x1a c.in-26.is

pub returns-in-27 : goal.returns-in-27
unfolding total statement_sizes
returns-in-27 c = statement_start_at 0x1b c.in-27.is

pub returns-in-28 : goal.returns-in-28
unfolding total statement_sizes
returns-in-28 c = statement_start_at 0x1c c.in-28.is

pub returns-in-29 : goal.returns-in-29
unfolding total statement_sizes
returns-in-29 c = statement_start_at 0x1d c.in-29.is

pub returns-in-30 : goal.returns-in-30
unfolding total statement_sizes
returns-in-30 c = statement_start_at 0x1e c.in-30.is

pub returns-in-31 : goal.returns-in-31
unfolding total statement_sizes
returns-in-31 c = statement_start_at 0x1f c.in-31.is

pub returns-in-32 : goal.returns-in-32
unfolding total statement_sizes
returns-in-32 c = statement_start_at 0x20 c.in-32.is

pub returns-in-33 : goal.returns-in-33
unfolding total statement_sizes
returns-in-33 c = statement_start_at 0x21 c.in-33.is

pub returns-in-34 : goal.returns-in-34
unfolding total statement_sizes
returns-in-34 c = statement_start_at 0x22 c.in-34.is

pub returns-in-35 : goal.returns-in-35
unfolding total statement_sizes
returns-in-35 c = statement_start_at 0x23 c.in-35.is

pub returns-in-36 : goal.returns-in-36
unfolding total statement_sizes
returns-in-36 c = statement_start_at 0x24 c.in-36.is

pub returns-in-37 : goal.returns-in-37
unfolding total statement_sizes
returns-in-37 c = statement_start_at 0x25 c.in-37.is

pub returns-in-38 : goal.returns-in-38
unfolding total statement_sizes
returns-in-38 c = statement_start_at 0x26 c.in-38.is

pub returns-in-39 : goal.returns-in-39
unfolding total statement_sizes
returns-in-39 c = statement_start_at 0x27 c.in-39.is

pub returns-in-40 : goal.returns-in-40
unfolding total statement_sizes
returns-in-40 c = statement_start_at 0x28 c.in-40.is

pub returns-in-41 : goal.returns-in-41
unfolding total statement_sizes
returns-in-41 c = statement_start_at 0x29 c.in-41.is

pub returns-in-42 : goal.returns-in-42
unfolding total statement_sizes
returns-in-42 c = statement_start_at 0x2a c.in-42.is

pub returns-in-43 : goal.returns-in-43
unfolding total statement_sizes
returns-in-43 c = statement_start_at 0x2b c.in-43.is

pub returns-in-44 : goal.returns-in-44
unfolding total statement_sizes
returns-in-44 c = statement_start_at 0x2c c.in-44.is

pub returns-in-45 : goal.returns-in-45
unfolding total statement_sizes
returns-in-45 c = statement_start_at 0x2d c.in-45.is

pub returns-in-46 : goal.returns-in-46
unfolding total statement_sizes
returns-in-46 c = statement_start_at 0x2e c.in-46.is

pub returns-in-47 : goal.returns-in-47
unfolding total statement_sizes
returns-in-47 c = statement_start_at 0x2f c.in-47.is

pub returns-in-48 : goal.returns-in-48
unfolding total statement_sizes
returns-in-48 c = statement_start_at 0x30 c.in-48.is

pub returns-in-49 : goal.returns-in-49
unfolding total statement_sizes
returns-in-49 c = statement_start_at 0x31 c.in-49.is

pub returns-in-50 : goal.returns-in-50
unfolding total statement_sizes
returns-in-50 c = statement_start_at 0x32 c.in-50.is

pub returns-in-51 : goal.returns-in-51
unfolding total statement_sizes
returns-in-51 c = statement_start_at 0x33 c.in-51.is

pub returns-in-52 : goal.returns-in-52
unfolding total statement_sizes
returns-in-52 c = statement_start_at 0x34 c.in-52.is

pub returns-in-53 : goal.returns-in-53
unfolding total statement_sizes
returns-in-53 c = statement_start_at 0x35 c.in-53.is

pub returns-in_default : goal.returns-in_default
unfolding total statement_sizes
returns-in_default c = statement_start_else c.args.t c.in_default.in_default-own.rest
