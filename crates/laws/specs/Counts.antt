-- How many there are. (Made by scripts/tables.py.)
use Rattle.std.specs.Prelude.{ℕ}

-- classes of items
abbrev pub class_count : ℕ
class_count = 51

-- frames
abbrev pub frame_count : ℕ
frame_count = 41
