-- Each arm of `rest_of` says what the table says at its key. (Made by scripts/tables.py.)
use Rattle.std.proofs.Common.{◌≡◌, ℕ, ◌-◌, get_or, sym, ap}
use Rattle.paper.specs.Grammar.{N}
use Rattle.grammar.specs.Tables.{first_act, act, code, packed, rest}
use Rattle.grammar.specs.Rows.{acts, rests}
use Rattle.grammar.proofs.Places.{places, at_none_from}
use Rattle.grammar.proofs.rows.rest_of.Goals as goal

here : {x k : ℕ} → x ≡ k → get_or rests (k - first_act) 0 ≡ get_or rests (x - first_act) 0
here e = sym (ap (λ n. get_or rests (n - first_act) 0) e)

pub returns-in-49 : goal.returns-in-49
unfolding N act code packed rest acts rests places
returns-in-49 c = here c.in-49.is

pub returns-in-50 : goal.returns-in-50
unfolding N act code packed rest acts rests places
returns-in-50 c = here c.in-50.is

pub returns-in-51 : goal.returns-in-51
unfolding N act code packed rest acts rests places
returns-in-51 c = here c.in-51.is

pub returns-in-52 : goal.returns-in-52
unfolding N act code packed rest acts rests places
returns-in-52 c = here c.in-52.is

pub returns-in-53 : goal.returns-in-53
unfolding N act code packed rest acts rests places
returns-in-53 c = here c.in-53.is

pub returns-in-54 : goal.returns-in-54
unfolding N act code packed rest acts rests places
returns-in-54 c = here c.in-54.is

pub returns-in-55 : goal.returns-in-55
unfolding N act code packed rest acts rests places
returns-in-55 c = here c.in-55.is

pub returns-in-56 : goal.returns-in-56
unfolding N act code packed rest acts rests places
returns-in-56 c = here c.in-56.is

pub returns-in-57 : goal.returns-in-57
unfolding N act code packed rest acts rests places
returns-in-57 c = here c.in-57.is

pub returns-in-58 : goal.returns-in-58
unfolding N act code packed rest acts rests places
returns-in-58 c = here c.in-58.is

pub returns-in-59 : goal.returns-in-59
unfolding N act code packed rest acts rests places
returns-in-59 c = here c.in-59.is

pub returns-in-60 : goal.returns-in-60
unfolding N act code packed rest acts rests places
returns-in-60 c = here c.in-60.is

pub returns-in-61 : goal.returns-in-61
unfolding N act code packed rest acts rests places
returns-in-61 c = here c.in-61.is

pub returns-in-62 : goal.returns-in-62
unfolding N act code packed rest acts rests places
returns-in-62 c = here c.in-62.is

pub returns-in-63 : goal.returns-in-63
unfolding N act code packed rest acts rests places
returns-in-63 c = here c.in-63.is

pub returns-in-64 : goal.returns-in-64
unfolding N act code packed rest acts rests places
returns-in-64 c = here c.in-64.is

pub returns-in-65 : goal.returns-in-65
unfolding N act code packed rest acts rests places
returns-in-65 c = here c.in-65.is

pub returns-in-66 : goal.returns-in-66
unfolding N act code packed rest acts rests places
returns-in-66 c = here c.in-66.is

pub returns-in-67 : goal.returns-in-67
unfolding N act code packed rest acts rests places
returns-in-67 c = here c.in-67.is

pub returns-in-68 : goal.returns-in-68
unfolding N act code packed rest acts rests places
returns-in-68 c = here c.in-68.is

pub returns-in-69 : goal.returns-in-69
unfolding N act code packed rest acts rests places
returns-in-69 c = here c.in-69.is

pub returns-in-70 : goal.returns-in-70
unfolding N act code packed rest acts rests places
returns-in-70 c = here c.in-70.is

pub returns-in-71 : goal.returns-in-71
unfolding N act code packed rest acts rests places
returns-in-71 c = here c.in-71.is

pub returns-in-72 : goal.returns-in-72
unfolding N act code packed rest acts rests places
returns-in-72 c = here c.in-72.is

pub returns-in-73 : goal.returns-in-73
unfolding N act code packed rest acts rests places
returns-in-73 c = here c.in-73.is

pub returns-in-74 : goal.returns-in-74
unfolding N act code packed rest acts rests places
returns-in-74 c = here c.in-74.is

pub returns-in-75 : goal.returns-in-75
unfolding N act code packed rest acts rests places
returns-in-75 c = here c.in-75.is

pub returns-in-76 : goal.returns-in-76
unfolding N act code packed rest acts rests places
returns-in-76 c = here c.in-76.is

pub returns-in-77 : goal.returns-in-77
unfolding N act code packed rest acts rests places
returns-in-77 c = here c.in-77.is

pub returns-in-78 : goal.returns-in-78
unfolding N act code packed rest acts rests places
returns-in-78 c = here c.in-78.is

pub returns-in-79 : goal.returns-in-79
unfolding N act code packed rest acts rests places
returns-in-79 c = here c.in-79.is

pub returns-in-80 : goal.returns-in-80
unfolding N act code packed rest acts rests places
returns-in-80 c = here c.in-80.is

pub returns-in-81 : goal.returns-in-81
unfolding N act code packed rest acts rests places
returns-in-81 c = here c.in-81.is

pub returns-in-82 : goal.returns-in-82
unfolding N act code packed rest acts rests places
returns-in-82 c = here c.in-82.is

pub returns-in-83 : goal.returns-in-83
unfolding N act code packed rest acts rests places
returns-in-83 c = here c.in-83.is

pub returns-in-84 : goal.returns-in-84
unfolding N act code packed rest acts rests places
returns-in-84 c = here c.in-84.is

pub returns-in-85 : goal.returns-in-85
unfolding N act code packed rest acts rests places
returns-in-85 c = here c.in-85.is

pub returns-in-86 : goal.returns-in-86
unfolding N act code packed rest acts rests places
returns-in-86 c = here c.in-86.is

pub returns-in-87 : goal.returns-in-87
unfolding N act code packed rest acts rests places
returns-in-87 c = here c.in-87.is

pub returns-in-88 : goal.returns-in-88
unfolding N act code packed rest acts rests places
returns-in-88 c = here c.in-88.is

pub returns-in-89 : goal.returns-in-89
unfolding N act code packed rest acts rests places
returns-in-89 c = here c.in-89.is

pub returns-in-90 : goal.returns-in-90
unfolding N act code packed rest acts rests places
returns-in-90 c = here c.in-90.is

pub returns-in-91 : goal.returns-in-91
unfolding N act code packed rest acts rests places
returns-in-91 c = here c.in-91.is

pub returns-in-92 : goal.returns-in-92
unfolding N act code packed rest acts rests places
returns-in-92 c = here c.in-92.is

pub returns-in-93 : goal.returns-in-93
unfolding N act code packed rest acts rests places
returns-in-93 c = here c.in-93.is

pub returns-in-94 : goal.returns-in-94
unfolding N act code packed rest acts rests places
returns-in-94 c = here c.in-94.is

pub returns-in-95 : goal.returns-in-95
unfolding N act code packed rest acts rests places
returns-in-95 c = here c.in-95.is

pub returns-in-96 : goal.returns-in-96
unfolding N act code packed rest acts rests places
returns-in-96 c = here c.in-96.is

pub returns-in-97 : goal.returns-in-97
unfolding N act code packed rest acts rests places
returns-in-97 c = here c.in-97.is

pub returns-in-98 : goal.returns-in-98
unfolding N act code packed rest acts rests places
returns-in-98 c = here c.in-98.is

pub returns-in-99 : goal.returns-in-99
unfolding N act code packed rest acts rests places
returns-in-99 c = here c.in-99.is

pub returns-in-100 : goal.returns-in-100
unfolding N act code packed rest acts rests places
returns-in-100 c = here c.in-100.is

pub returns-in-101 : goal.returns-in-101
unfolding N act code packed rest acts rests places
returns-in-101 c = here c.in-101.is

pub returns-in-102 : goal.returns-in-102
unfolding N act code packed rest acts rests places
returns-in-102 c = here c.in-102.is

pub returns-in-103 : goal.returns-in-103
unfolding N act code packed rest acts rests places
returns-in-103 c = here c.in-103.is

pub returns-in-104 : goal.returns-in-104
unfolding N act code packed rest acts rests places
returns-in-104 c = here c.in-104.is

pub returns-in-105 : goal.returns-in-105
unfolding N act code packed rest acts rests places
returns-in-105 c = here c.in-105.is

pub returns-in-106 : goal.returns-in-106
unfolding N act code packed rest acts rests places
returns-in-106 c = here c.in-106.is

pub returns-in-107 : goal.returns-in-107
unfolding N act code packed rest acts rests places
returns-in-107 c = here c.in-107.is

pub returns-in-108 : goal.returns-in-108
unfolding N act code packed rest acts rests places
returns-in-108 c = here c.in-108.is

pub returns-in-109 : goal.returns-in-109
unfolding N act code packed rest acts rests places
returns-in-109 c = here c.in-109.is

pub returns-in-110 : goal.returns-in-110
unfolding N act code packed rest acts rests places
returns-in-110 c = here c.in-110.is

pub returns-in-111 : goal.returns-in-111
unfolding N act code packed rest acts rests places
returns-in-111 c = here c.in-111.is

pub returns-in-112 : goal.returns-in-112
unfolding N act code packed rest acts rests places
returns-in-112 c = here c.in-112.is

pub returns-in-113 : goal.returns-in-113
unfolding N act code packed rest acts rests places
returns-in-113 c = here c.in-113.is

pub returns-in-114 : goal.returns-in-114
unfolding N act code packed rest acts rests places
returns-in-114 c = here c.in-114.is

pub returns-in-115 : goal.returns-in-115
unfolding N act code packed rest acts rests places
returns-in-115 c = here c.in-115.is

pub returns-in-116 : goal.returns-in-116
unfolding N act code packed rest acts rests places
returns-in-116 c = here c.in-116.is

pub returns-in-117 : goal.returns-in-117
unfolding N act code packed rest acts rests places
returns-in-117 c = here c.in-117.is

pub returns-in-118 : goal.returns-in-118
unfolding N act code packed rest acts rests places
returns-in-118 c = here c.in-118.is

pub returns-in-119 : goal.returns-in-119
unfolding N act code packed rest acts rests places
returns-in-119 c = here c.in-119.is

pub returns-in-120 : goal.returns-in-120
unfolding N act code packed rest acts rests places
returns-in-120 c = here c.in-120.is

pub returns-in-121 : goal.returns-in-121
unfolding N act code packed rest acts rests places
returns-in-121 c = here c.in-121.is

pub returns-in-122 : goal.returns-in-122
unfolding N act code packed rest acts rests places
returns-in-122 c = here c.in-122.is

pub returns-in_default : goal.returns-in_default
unfolding N act code packed rest acts rests places
returns-in_default c = at_none_from first_act 0 rests c.args.act c.requires c.in_default.in_default-own.rest
