-- The listing of a line, stored or direct (document 02, §1), well-formed or an error line (§9); and what the first pass finds of it.
use Rattle.std.specs.Prelude.{ℕ, suc, Bool, true, false, List, leb, length, Option, Some, None}
use Rattle.paper.specs.Bytes.{pick}
use Rattle.paper.specs.WellFormed.{formed?}
use Rattle.paper.specs.Listing.{listing, direct_listing}
use Rattle.paper.specs.Errors.{listable?, line_text, line_listing}
use Rattle.paper.specs.Calls.{Listed, listed_if}
use Rattle.list_head.specs.Heads.{lawful_for}

-- the listing of a line that can be listed, direct or stored
abbrev pub listing_for : Bool → List (List ℕ) → List ℕ → List ℕ
listing_for direct ns l = pick direct (line_text ns l) (line_listing ns l)

-- the listing of a well-formed line
abbrev pub formed_listing : Bool → List (List ℕ) → List ℕ → List ℕ
formed_listing direct ns l = pick direct (direct_listing ns l) (listing ns l)

-- a length, or the first that is longer than the room
unfoldable pub capped : ℕ → ℕ → ℕ
capped room n = pick (leb n room) n (suc room)

-- what the first pass finds, by whether the line is well-formed and how long its listing is
unfoldable pub found : Bool → ℕ → Option ℕ
found true n = Some n
found false n = None

-- what the first pass finds of the line l over the names ns
unfoldable pub measured : Bool → List (List ℕ) → List ℕ → ℕ → Option ℕ
measured direct ns l room = found (formed? (lawful_for direct) ns l) (capped room (length (formed_listing direct ns l)))

-- the listing of the line l over the names ns into a buffer
abbrev pub lists : Bool → List (List ℕ) → List ℕ → List ℕ → Listed
lists direct ns l out = listed_if (listable? (lawful_for direct) ns l) (listing_for direct ns l) out
