-- Bytes written in hexadecimal, for the tables of cases.
use Rattle.std.specs.Prelude.{ℕ, ◌+◌, ◌-◌, ◌*◌, List, [], ◌∷◌, leb}
use Prim.Native.String.{String}
use Rattle.paper.specs.Bytes.{pick, bytes, digit?, blank?}

-- the worth of a hexadecimal digit
unfoldable pub nibble : ℕ → ℕ
nibble c = pick (digit? c) (c - 48) (pick (leb 97 c) (c - 87) (c - 55))

-- two digits a byte; blanks between bytes are passed over
unfoldable pub pairs : List ℕ → List ℕ
pairs [] = []
pairs (x ∷ []) = []
pairs (x ∷ y ∷ r) =
    let after_blank = pairs (y ∷ r) in
    let byte = (nibble x * 16 + nibble y) ∷ pairs r in
    pick (blank? x) after_blank byte

-- the bytes of a hexadecimal text
unfoldable pub hex : String → List ℕ
hex s = pairs (bytes s)
