use Rattle.tokens.specs.Tables.{total}
use Rattle.tokens.proofs.Cuts.{operator_sizes, operator_start_at, operator_start_else}
use Rattle.tokens.proofs.tables.operator_start.Goals as goal

pub returns-in-0 : goal.returns-in-0
unfolding total operator_sizes
returns-in-0 c = operator_start_at 0x00 c.in-0.is

pub returns-in-1 : goal.returns-in-1
unfolding total operator_sizes
returns-in-1 c = operator_start_at 0x01 c.in-1.is

pub returns-in-2 : goal.returns-in-2
unfolding total operator_sizes
returns-in-2 c = operator_start_at 0x02 c.in-2.is

pub returns-in-3 : goal.returns-in-3
unfolding total operator_sizes
returns-in-3 c = operator_start_at 0x03 c.in-3.is

pub returns-in-4 : goal.returns-in-4
unfolding total operator_sizes
returns-in-4 c = operator_start_at 0x04 c.in-4.is

pub returns-in-5 : goal.returns-in-5
unfolding total operator_sizes
returns-in-5 c = operator_start_at 0x05 c.in-5.is

pub returns-in-6 : goal.returns-in-6
unfolding total operator_sizes
returns-in-6 c = operator_start_at 0x06 c.in-6.is

pub returns-in-7 : goal.returns-in-7
unfolding total operator_sizes
returns-in-7 c = operator_start_at 0x07 c.in-7.is

pub returns-in-8 : goal.returns-in-8
unfolding total operator_sizes
returns-in-8 c = operator_start_at 0x08 c.in-8.is

pub returns-in-9 : goal.returns-in-9
unfolding total operator_sizes
returns-in-9 c = operator_start_at 0x09 c.in-9.is

pub returns-in-10 : goal.returns-in-10
unfolding total operator_sizes
returns-in-10 c = operator_start_at 0x0a c.in-10.is

pub returns-in-11 : goal.returns-in-11
unfolding total operator_sizes
returns-in-11 c = operator_start_at 0x0b c.in-11.is

pub returns-in-12 : goal.returns-in-12
unfolding total operator_sizes
returns-in-12 c = operator_start_at 0x0c c.in-12.is

pub returns-in-13 : goal.returns-in-13
unfolding total operator_sizes
returns-in-13 c = operator_start_at 0x0d c.in-13.is

pub returns-in-14 : goal.returns-in-14
unfolding total operator_sizes
returns-in-14 c = operator_start_at 0x0e c.in-14.is

pub returns-in-15 : goal.returns-in-15
unfolding total operator_sizes
returns-in-15 c = operator_start_at 0x0f c.in-15.is

pub returns-in-16 : goal.returns-in-16
unfolding total operator_sizes
returns-in-16 c = operator_start_at 0x10 c.in-16.is

pub returns-in-17 : goal.returns-in-17
unfolding total operator_sizes
returns-in-17 c = operator_start_at 0x11 c.in-17.is

pub returns-in-18 : goal.returns-in-18
unfolding total operator_sizes
returns-in-18 c = operator_start_at 0x12 c.in-18.is

pub returns-in-19 : goal.returns-in-19
unfolding total operator_sizes
returns-in-19 c = operator_start_at 0x13 c.in-19.is

pub returns-in-20 : goal.returns-in-20
unfolding total operator_sizes
returns-in-20 c = operator_start_at 0x14 c.in-20.is

pub returns-in-21 : goal.returns-in-21
unfolding total operator_sizes
returns-in-21 c = operator_start_at 0x15 c.in-21.is

pub returns-in-22 : goal.returns-in-22
unfolding total operator_sizes
returns-in-22 c = operator_start_at 0x16 c.in-22.is

pub returns-in-23 : goal.returns-in-23
unfolding total operator_sizes
returns-in-23 c = operator_start_at 0x17 c.in-23.is

pub returns-in-24 : goal.returns-in-24
unfolding total operator_sizes
returns-in-24 c = operator_start_at 0x18 c.in-24.is

pub returns-in-25 : goal.returns-in-25
unfolding total operator_sizes
returns-in-25 c = operator_start_at 0x19 c.in-25.is

pub returns-in-26 : goal.returns-in-26
unfolding total operator_sizes
returns-in-26 c = operator_start_at 0x1a c.in-26.is

pub returns-in-27 : goal.returns-in-27
unfolding total operator_sizes
returns-in-27 c = operator_start_at 0x1b c.in-27.is

pub returns-in-28 : goal.returns-in-28
unfolding total operator_sizes
returns-in-28 c = operator_start_at 0x1c c.in-28.is

pub returns-in-29 : goal.returns-in-29
unfolding total operator_sizes
returns-in-29 c = operator_start_at 0x1d c.in-29.is

pub returns-in-30 : goal.returns-in-30
unfolding total operator_sizes
returns-in-30 c = operator_start_at 0x1e c.in-30.is

pub returns-in-31 : goal.returns-in-31
unfolding total operator_sizes
returns-in-31 c = operator_start_at 0x1f c.in-31.is

pub returns-in-32 : goal.returns-in-32
unfolding total operator_sizes
returns-in-32 c = operator_start_at 0x20 c.in-32.is

pub returns-in-33 : goal.returns-in-33
unfolding total operator_sizes
returns-in-33 c = operator_start_at 0x21 c.in-33.is

pub returns-in-34 : goal.returns-in-34
unfolding total operator_sizes
returns-in-34 c = operator_start_at 0x22 c.in-34.is

pub returns-in-35 : goal.returns-in-35
unfolding total operator_sizes
returns-in-35 c = operator_start_at 0x23 c.in-35.is

pub returns-in-36 : goal.returns-in-36
unfolding total operator_sizes
returns-in-36 c = operator_start_at 0x24 c.in-36.is

pub returns-in-37 : goal.returns-in-37
unfolding total operator_sizes
returns-in-37 c = operator_start_at 0x25 c.in-37.is

pub returns-in-38 : goal.returns-in-38
unfolding total operator_sizes
returns-in-38 c = operator_start_at 0x26 c.in-38.is

pub returns-in-39 : goal.returns-in-39
unfolding total operator_sizes
returns-in-39 c = operator_start_at 0x27 c.in-39.is

pub returns-in-40 : goal.returns-in-40
unfolding total operator_sizes
returns-in-40 c = operator_start_at 0x28 c.in-40.is

pub returns-in-41 : goal.returns-in-41
unfolding total operator_sizes
returns-in-41 c = operator_start_at 0x29 c.in-41.is

pub returns-in-42 : goal.returns-in-42
unfolding total operator_sizes
returns-in-42 c = operator_start_at 0x2a c.in-42.is

pub returns-in-43 : goal.returns-in-43
unfolding total operator_sizes
returns-in-43 c = operator_start_at 0x2b c.in-43.is

pub returns-in-44 : goal.returns-in-44
unfolding total operator_sizes
returns-in-44 c = operator_start_at 0x2c c.in-44.is

pub returns-in-45 : goal.returns-in-45
unfolding total operator_sizes
returns-in-45 c = operator_start_at 0x2d c.in-45.is

pub returns-in-46 : goal.returns-in-46
unfolding total operator_sizes
returns-in-46 c = operator_start_at 0x2e c.in-46.is

pub returns-in-47 : goal.returns-in-47
unfolding total operator_sizes
returns-in-47 c = operator_start_at 0x2f c.in-47.is

pub returns-in-48 : goal.returns-in-48
unfolding total operator_sizes
returns-in-48 c = operator_start_at 0x30 c.in-48.is

pub returns-in-49 : goal.returns-in-49
unfolding total operator_sizes
returns-in-49 c = operator_start_at 0x31 c.in-49.is

pub returns-in-50 : goal.returns-in-50
unfolding total operator_sizes
returns-in-50 c = operator_start_at 0x32 c.in-50.is

pub returns-in-51 : goal.returns-in-51
unfolding total operator_sizes
returns-in-51 c = operator_start_at 0x33 c.in-51.is

pub returns-in-52 : goal.returns-in-52
unfolding total operator_sizes
returns-in-52 c = operator_start_at 0x34 c.in-52.is

pub returns-in-53 : goal.returns-in-53
unfolding total operator_sizes
returns-in-53 c = operator_start_at 0x35 c.in-53.is

pub returns-in-54 : goal.returns-in-54
unfolding total operator_sizes
returns-in-54 c = operator_start_at 0x36 c.in-54.is

pub returns-in-55 : goal.returns-in-55
unfolding total operator_sizes
returns-in-55 c = operator_start_at 0x37 c.in-55.is

pub returns-in-56 : goal.returns-in-56
unfolding total operator_sizes
returns-in-56 c = operator_start_at 0x38 c.in-56.is

pub returns-in-57 : goal.returns-in-57
unfolding total operator_sizes
returns-in-57 c = operator_start_at 0x39 c.in-57.is

pub returns-in-58 : goal.returns-in-58
unfolding total operator_sizes
returns-in-58 c = operator_start_at 0x3a c.in-58.is

pub returns-in-59 : goal.returns-in-59
unfolding total operator_sizes
returns-in-59 c = operator_start_at 0x3b c.in-59.is

pub returns-in-60 : goal.returns-in-60
unfolding total operator_sizes
returns-in-60 c = operator_start_at 0x3c c.in-60.is

pub returns-in-61 : goal.returns-in-61
unfolding total operator_sizes
returns-in-61 c = operator_start_at 0x3d c.in-61.is

pub returns-in-62 : goal.returns-in-62
unfolding total operator_sizes
returns-in-62 c = operator_start_at 0x3e c.in-62.is

pub returns-in-63 : goal.returns-in-63
unfolding total operator_sizes
returns-in-63 c = operator_start_at 0x3f c.in-63.is

pub returns-in-64 : goal.returns-in-64
unfolding total operator_sizes
returns-in-64 c = operator_start_at 0x40 c.in-64.is

pub returns-in-65 : goal.returns-in-65
unfolding total operator_sizes
returns-in-65 c = operator_start_at 0x41 c.in-65.is

pub returns-in-66 : goal.returns-in-66
unfolding total operator_sizes
returns-in-66 c = operator_start_at 0x42 c.in-66.is

pub returns-in_default : goal.returns-in_default
unfolding total operator_sizes
returns-in_default c = operator_start_else c.args.i c.in_default.in_default-own.rest
