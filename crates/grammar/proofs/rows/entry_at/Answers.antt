-- Each arm of `entry_at` says what the table says at its key. (Made by scripts/tables.py.)
use Rattle.std.proofs.Common.{◌≡◌, ℕ, get_or, sym, ap}
use Rattle.paper.specs.Open.{all_Bytes}
use Rattle.grammar.specs.Tables.{no_entry, laid}
use Rattle.grammar.specs.Rows.{entries}
use Rattle.grammar.proofs.Places.{places, at_none}
use Rattle.grammar.proofs.rows.entry_at.Goals as goal

here : {x k : ℕ} → x ≡ k → get_or entries k no_entry ≡ get_or entries x no_entry
here e = sym (ap (λ n. get_or entries n no_entry) e)

pub returns-in-3 : goal.returns-in-3
unfolding all_Bytes laid entries places
returns-in-3 c = here c.in-3.is

pub returns-in-4 : goal.returns-in-4
unfolding all_Bytes laid entries places
returns-in-4 c = here c.in-4.is

pub returns-in-5 : goal.returns-in-5
unfolding all_Bytes laid entries places
returns-in-5 c = here c.in-5.is

pub returns-in-6 : goal.returns-in-6
unfolding all_Bytes laid entries places
returns-in-6 c = here c.in-6.is

pub returns-in-7 : goal.returns-in-7
unfolding all_Bytes laid entries places
returns-in-7 c = here c.in-7.is

pub returns-in-11 : goal.returns-in-11
unfolding all_Bytes laid entries places
returns-in-11 c = here c.in-11.is

pub returns-in-13 : goal.returns-in-13
unfolding all_Bytes laid entries places
returns-in-13 c = here c.in-13.is

pub returns-in-14 : goal.returns-in-14
unfolding all_Bytes laid entries places
returns-in-14 c = here c.in-14.is

pub returns-in-15 : goal.returns-in-15
unfolding all_Bytes laid entries places
returns-in-15 c = here c.in-15.is

pub returns-in-16 : goal.returns-in-16
unfolding all_Bytes laid entries places
returns-in-16 c = here c.in-16.is

pub returns-in-17 : goal.returns-in-17
unfolding all_Bytes laid entries places
returns-in-17 c = here c.in-17.is

pub returns-in-18 : goal.returns-in-18
unfolding all_Bytes laid entries places
returns-in-18 c = here c.in-18.is

pub returns-in-20 : goal.returns-in-20
unfolding all_Bytes laid entries places
returns-in-20 c = here c.in-20.is

pub returns-in-21 : goal.returns-in-21
unfolding all_Bytes laid entries places
returns-in-21 c = here c.in-21.is

pub returns-in-22 : goal.returns-in-22
unfolding all_Bytes laid entries places
returns-in-22 c = here c.in-22.is

pub returns-in-23 : goal.returns-in-23
unfolding all_Bytes laid entries places
returns-in-23 c = here c.in-23.is

pub returns-in-25 : goal.returns-in-25
unfolding all_Bytes laid entries places
returns-in-25 c = here c.in-25.is

pub returns-in-26 : goal.returns-in-26
unfolding all_Bytes laid entries places
returns-in-26 c = here c.in-26.is

pub returns-in-27 : goal.returns-in-27
unfolding all_Bytes laid entries places
returns-in-27 c = here c.in-27.is

pub returns-in-28 : goal.returns-in-28
unfolding all_Bytes laid entries places
returns-in-28 c = here c.in-28.is

pub returns-in-29 : goal.returns-in-29
unfolding all_Bytes laid entries places
returns-in-29 c = here c.in-29.is

pub returns-in-30 : goal.returns-in-30
unfolding all_Bytes laid entries places
returns-in-30 c = here c.in-30.is

pub returns-in-31 : goal.returns-in-31
unfolding all_Bytes laid entries places
returns-in-31 c = here c.in-31.is

pub returns-in-32 : goal.returns-in-32
unfolding all_Bytes laid entries places
returns-in-32 c = here c.in-32.is

pub returns-in-33 : goal.returns-in-33
unfolding all_Bytes laid entries places
returns-in-33 c = here c.in-33.is

pub returns-in-34 : goal.returns-in-34
unfolding all_Bytes laid entries places
returns-in-34 c = here c.in-34.is

pub returns-in-35 : goal.returns-in-35
unfolding all_Bytes laid entries places
returns-in-35 c = here c.in-35.is

pub returns-in-36 : goal.returns-in-36
unfolding all_Bytes laid entries places
returns-in-36 c = here c.in-36.is

pub returns-in-37 : goal.returns-in-37
unfolding all_Bytes laid entries places
returns-in-37 c = here c.in-37.is

pub returns-in-38 : goal.returns-in-38
unfolding all_Bytes laid entries places
returns-in-38 c = here c.in-38.is

pub returns-in-40 : goal.returns-in-40
unfolding all_Bytes laid entries places
returns-in-40 c = here c.in-40.is

pub returns-in-42 : goal.returns-in-42
unfolding all_Bytes laid entries places
returns-in-42 c = here c.in-42.is

pub returns-in-45 : goal.returns-in-45
unfolding all_Bytes laid entries places
returns-in-45 c = here c.in-45.is

pub returns-in-47 : goal.returns-in-47
unfolding all_Bytes laid entries places
returns-in-47 c = here c.in-47.is

pub returns-in-48 : goal.returns-in-48
unfolding all_Bytes laid entries places
returns-in-48 c = here c.in-48.is

pub returns-in-49 : goal.returns-in-49
unfolding all_Bytes laid entries places
returns-in-49 c = here c.in-49.is

pub returns-in-50 : goal.returns-in-50
unfolding all_Bytes laid entries places
returns-in-50 c = here c.in-50.is

pub returns-in-51 : goal.returns-in-51
unfolding all_Bytes laid entries places
returns-in-51 c = here c.in-51.is

pub returns-in-52 : goal.returns-in-52
unfolding all_Bytes laid entries places
returns-in-52 c = here c.in-52.is

pub returns-in-53 : goal.returns-in-53
unfolding all_Bytes laid entries places
returns-in-53 c = here c.in-53.is

pub returns-in-54 : goal.returns-in-54
unfolding all_Bytes laid entries places
returns-in-54 c = here c.in-54.is

pub returns-in-55 : goal.returns-in-55
unfolding all_Bytes laid entries places
returns-in-55 c = here c.in-55.is

pub returns-in-56 : goal.returns-in-56
unfolding all_Bytes laid entries places
returns-in-56 c = here c.in-56.is

pub returns-in-57 : goal.returns-in-57
unfolding all_Bytes laid entries places
returns-in-57 c = here c.in-57.is

pub returns-in-58 : goal.returns-in-58
unfolding all_Bytes laid entries places
returns-in-58 c = here c.in-58.is

pub returns-in-59 : goal.returns-in-59
unfolding all_Bytes laid entries places
returns-in-59 c = here c.in-59.is

pub returns-in-60 : goal.returns-in-60
unfolding all_Bytes laid entries places
returns-in-60 c = here c.in-60.is

pub returns-in-61 : goal.returns-in-61
unfolding all_Bytes laid entries places
returns-in-61 c = here c.in-61.is

pub returns-in-62 : goal.returns-in-62
unfolding all_Bytes laid entries places
returns-in-62 c = here c.in-62.is

pub returns-in-63 : goal.returns-in-63
unfolding all_Bytes laid entries places
returns-in-63 c = here c.in-63.is

pub returns-in-64 : goal.returns-in-64
unfolding all_Bytes laid entries places
returns-in-64 c = here c.in-64.is

pub returns-in-65 : goal.returns-in-65
unfolding all_Bytes laid entries places
returns-in-65 c = here c.in-65.is

pub returns-in-66 : goal.returns-in-66
unfolding all_Bytes laid entries places
returns-in-66 c = here c.in-66.is

pub returns-in-67 : goal.returns-in-67
unfolding all_Bytes laid entries places
returns-in-67 c = here c.in-67.is

pub returns-in-68 : goal.returns-in-68
unfolding all_Bytes laid entries places
returns-in-68 c = here c.in-68.is

pub returns-in-69 : goal.returns-in-69
unfolding all_Bytes laid entries places
returns-in-69 c = here c.in-69.is

pub returns-in-70 : goal.returns-in-70
unfolding all_Bytes laid entries places
returns-in-70 c = here c.in-70.is

pub returns-in-71 : goal.returns-in-71
unfolding all_Bytes laid entries places
returns-in-71 c = here c.in-71.is

pub returns-in-72 : goal.returns-in-72
unfolding all_Bytes laid entries places
returns-in-72 c = here c.in-72.is

pub returns-in-73 : goal.returns-in-73
unfolding all_Bytes laid entries places
returns-in-73 c = here c.in-73.is

pub returns-in-74 : goal.returns-in-74
unfolding all_Bytes laid entries places
returns-in-74 c = here c.in-74.is

pub returns-in-75 : goal.returns-in-75
unfolding all_Bytes laid entries places
returns-in-75 c = here c.in-75.is

pub returns-in-76 : goal.returns-in-76
unfolding all_Bytes laid entries places
returns-in-76 c = here c.in-76.is

pub returns-in-77 : goal.returns-in-77
unfolding all_Bytes laid entries places
returns-in-77 c = here c.in-77.is

pub returns-in-78 : goal.returns-in-78
unfolding all_Bytes laid entries places
returns-in-78 c = here c.in-78.is

pub returns-in-79 : goal.returns-in-79
unfolding all_Bytes laid entries places
returns-in-79 c = here c.in-79.is

pub returns-in-80 : goal.returns-in-80
unfolding all_Bytes laid entries places
returns-in-80 c = here c.in-80.is

pub returns-in-81 : goal.returns-in-81
unfolding all_Bytes laid entries places
returns-in-81 c = here c.in-81.is

pub returns-in-82 : goal.returns-in-82
unfolding all_Bytes laid entries places
returns-in-82 c = here c.in-82.is

pub returns-in-83 : goal.returns-in-83
unfolding all_Bytes laid entries places
returns-in-83 c = here c.in-83.is

pub returns-in-84 : goal.returns-in-84
unfolding all_Bytes laid entries places
returns-in-84 c = here c.in-84.is

pub returns-in-85 : goal.returns-in-85
unfolding all_Bytes laid entries places
returns-in-85 c = here c.in-85.is

pub returns-in-86 : goal.returns-in-86
unfolding all_Bytes laid entries places
returns-in-86 c = here c.in-86.is

pub returns-in-87 : goal.returns-in-87
unfolding all_Bytes laid entries places
returns-in-87 c = here c.in-87.is

pub returns-in-88 : goal.returns-in-88
unfolding all_Bytes laid entries places
returns-in-88 c = here c.in-88.is

pub returns-in-89 : goal.returns-in-89
unfolding all_Bytes laid entries places
returns-in-89 c = here c.in-89.is

pub returns-in-90 : goal.returns-in-90
unfolding all_Bytes laid entries places
returns-in-90 c = here c.in-90.is

pub returns-in-91 : goal.returns-in-91
unfolding all_Bytes laid entries places
returns-in-91 c = here c.in-91.is

pub returns-in-92 : goal.returns-in-92
unfolding all_Bytes laid entries places
returns-in-92 c = here c.in-92.is

pub returns-in-93 : goal.returns-in-93
unfolding all_Bytes laid entries places
returns-in-93 c = here c.in-93.is

pub returns-in-94 : goal.returns-in-94
unfolding all_Bytes laid entries places
returns-in-94 c = here c.in-94.is

pub returns-in-95 : goal.returns-in-95
unfolding all_Bytes laid entries places
returns-in-95 c = here c.in-95.is

pub returns-in-96 : goal.returns-in-96
unfolding all_Bytes laid entries places
returns-in-96 c = here c.in-96.is

pub returns-in-97 : goal.returns-in-97
unfolding all_Bytes laid entries places
returns-in-97 c = here c.in-97.is

pub returns-in-98 : goal.returns-in-98
unfolding all_Bytes laid entries places
returns-in-98 c = here c.in-98.is

pub returns-in-99 : goal.returns-in-99
unfolding all_Bytes laid entries places
returns-in-99 c = here c.in-99.is

pub returns-in-100 : goal.returns-in-100
unfolding all_Bytes laid entries places
returns-in-100 c = here c.in-100.is

pub returns-in-101 : goal.returns-in-101
unfolding all_Bytes laid entries places
returns-in-101 c = here c.in-101.is

pub returns-in-102 : goal.returns-in-102
unfolding all_Bytes laid entries places
returns-in-102 c = here c.in-102.is

pub returns-in-103 : goal.returns-in-103
unfolding all_Bytes laid entries places
returns-in-103 c = here c.in-103.is

pub returns-in-104 : goal.returns-in-104
unfolding all_Bytes laid entries places
returns-in-104 c = here c.in-104.is

pub returns-in-105 : goal.returns-in-105
unfolding all_Bytes laid entries places
returns-in-105 c = here c.in-105.is

pub returns-in-106 : goal.returns-in-106
unfolding all_Bytes laid entries places
returns-in-106 c = here c.in-106.is

pub returns-in-107 : goal.returns-in-107
unfolding all_Bytes laid entries places
returns-in-107 c = here c.in-107.is

pub returns-in-108 : goal.returns-in-108
unfolding all_Bytes laid entries places
returns-in-108 c = here c.in-108.is

pub returns-in-109 : goal.returns-in-109
unfolding all_Bytes laid entries places
returns-in-109 c = here c.in-109.is

pub returns-in-110 : goal.returns-in-110
unfolding all_Bytes laid entries places
returns-in-110 c = here c.in-110.is

pub returns-in-111 : goal.returns-in-111
unfolding all_Bytes laid entries places
returns-in-111 c = here c.in-111.is

pub returns-in-112 : goal.returns-in-112
unfolding all_Bytes laid entries places
returns-in-112 c = here c.in-112.is

pub returns-in-113 : goal.returns-in-113
unfolding all_Bytes laid entries places
returns-in-113 c = here c.in-113.is

pub returns-in-114 : goal.returns-in-114
unfolding all_Bytes laid entries places
returns-in-114 c = here c.in-114.is

pub returns-in-115 : goal.returns-in-115
unfolding all_Bytes laid entries places
returns-in-115 c = here c.in-115.is

pub returns-in-116 : goal.returns-in-116
unfolding all_Bytes laid entries places
returns-in-116 c = here c.in-116.is

pub returns-in-117 : goal.returns-in-117
unfolding all_Bytes laid entries places
returns-in-117 c = here c.in-117.is

pub returns-in-118 : goal.returns-in-118
unfolding all_Bytes laid entries places
returns-in-118 c = here c.in-118.is

pub returns-in-119 : goal.returns-in-119
unfolding all_Bytes laid entries places
returns-in-119 c = here c.in-119.is

pub returns-in-120 : goal.returns-in-120
unfolding all_Bytes laid entries places
returns-in-120 c = here c.in-120.is

pub returns-in-121 : goal.returns-in-121
unfolding all_Bytes laid entries places
returns-in-121 c = here c.in-121.is

pub returns-in-122 : goal.returns-in-122
unfolding all_Bytes laid entries places
returns-in-122 c = here c.in-122.is

pub returns-in-123 : goal.returns-in-123
unfolding all_Bytes laid entries places
returns-in-123 c = here c.in-123.is

pub returns-in-124 : goal.returns-in-124
unfolding all_Bytes laid entries places
returns-in-124 c = here c.in-124.is

pub returns-in-125 : goal.returns-in-125
unfolding all_Bytes laid entries places
returns-in-125 c = here c.in-125.is

pub returns-in-126 : goal.returns-in-126
unfolding all_Bytes laid entries places
returns-in-126 c = here c.in-126.is

pub returns-in-127 : goal.returns-in-127
unfolding all_Bytes laid entries places
returns-in-127 c = here c.in-127.is

pub returns-in-128 : goal.returns-in-128
unfolding all_Bytes laid entries places
returns-in-128 c = here c.in-128.is

pub returns-in-129 : goal.returns-in-129
unfolding all_Bytes laid entries places
returns-in-129 c = here c.in-129.is

pub returns-in-130 : goal.returns-in-130
unfolding all_Bytes laid entries places
returns-in-130 c = here c.in-130.is

pub returns-in-131 : goal.returns-in-131
unfolding all_Bytes laid entries places
returns-in-131 c = here c.in-131.is

pub returns-in-132 : goal.returns-in-132
unfolding all_Bytes laid entries places
returns-in-132 c = here c.in-132.is

pub returns-in-133 : goal.returns-in-133
unfolding all_Bytes laid entries places
returns-in-133 c = here c.in-133.is

pub returns-in-134 : goal.returns-in-134
unfolding all_Bytes laid entries places
returns-in-134 c = here c.in-134.is

pub returns-in-135 : goal.returns-in-135
unfolding all_Bytes laid entries places
returns-in-135 c = here c.in-135.is

pub returns-in-136 : goal.returns-in-136
unfolding all_Bytes laid entries places
returns-in-136 c = here c.in-136.is

pub returns-in-137 : goal.returns-in-137
unfolding all_Bytes laid entries places
returns-in-137 c = here c.in-137.is

pub returns-in-138 : goal.returns-in-138
unfolding all_Bytes laid entries places
returns-in-138 c = here c.in-138.is

pub returns-in-139 : goal.returns-in-139
unfolding all_Bytes laid entries places
returns-in-139 c = here c.in-139.is

pub returns-in-140 : goal.returns-in-140
unfolding all_Bytes laid entries places
returns-in-140 c = here c.in-140.is

pub returns-in-141 : goal.returns-in-141
unfolding all_Bytes laid entries places
returns-in-141 c = here c.in-141.is

pub returns-in-142 : goal.returns-in-142
unfolding all_Bytes laid entries places
returns-in-142 c = here c.in-142.is

pub returns-in-143 : goal.returns-in-143
unfolding all_Bytes laid entries places
returns-in-143 c = here c.in-143.is

pub returns-in-144 : goal.returns-in-144
unfolding all_Bytes laid entries places
returns-in-144 c = here c.in-144.is

pub returns-in-145 : goal.returns-in-145
unfolding all_Bytes laid entries places
returns-in-145 c = here c.in-145.is

pub returns-in-146 : goal.returns-in-146
unfolding all_Bytes laid entries places
returns-in-146 c = here c.in-146.is

pub returns-in-147 : goal.returns-in-147
unfolding all_Bytes laid entries places
returns-in-147 c = here c.in-147.is

pub returns-in-148 : goal.returns-in-148
unfolding all_Bytes laid entries places
returns-in-148 c = here c.in-148.is

pub returns-in-149 : goal.returns-in-149
unfolding all_Bytes laid entries places
returns-in-149 c = here c.in-149.is

pub returns-in-150 : goal.returns-in-150
unfolding all_Bytes laid entries places
returns-in-150 c = here c.in-150.is

pub returns-in-151 : goal.returns-in-151
unfolding all_Bytes laid entries places
returns-in-151 c = here c.in-151.is

pub returns-in-152 : goal.returns-in-152
unfolding all_Bytes laid entries places
returns-in-152 c = here c.in-152.is

pub returns-in-153 : goal.returns-in-153
unfolding all_Bytes laid entries places
returns-in-153 c = here c.in-153.is

pub returns-in-154 : goal.returns-in-154
unfolding all_Bytes laid entries places
returns-in-154 c = here c.in-154.is

pub returns-in-155 : goal.returns-in-155
unfolding all_Bytes laid entries places
returns-in-155 c = here c.in-155.is

pub returns-in-156 : goal.returns-in-156
unfolding all_Bytes laid entries places
returns-in-156 c = here c.in-156.is

pub returns-in-158 : goal.returns-in-158
unfolding all_Bytes laid entries places
returns-in-158 c = here c.in-158.is

pub returns-in-159 : goal.returns-in-159
unfolding all_Bytes laid entries places
returns-in-159 c = here c.in-159.is

pub returns-in-163 : goal.returns-in-163
unfolding all_Bytes laid entries places
returns-in-163 c = here c.in-163.is

pub returns-in_default : goal.returns-in_default
unfolding all_Bytes laid entries places
returns-in_default c = at_none no_entry entries c.args.place c.in_default.in_default-own.rest
