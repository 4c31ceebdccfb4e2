-- What the item reader shows a reader of expressions: the next item, its class and its own token's number.
use Rattle.std.specs.Prelude.{ℕ, ◌≡◌, Bool, List}
use Rattle.paper.specs.Tokens.{class}
use Rattle.enter_scan.specs.Sees.{Sees, token_at}
use Rattle.enter_item.specs.ClassLaws.{own_of}
use Rattle.enter_item.specs.Says.{env, Next}
use Rattle.enter_item.specs.declared.Seen.{Seen}

-- the item stands next from a place on, and these are its class and its own token's number
pub record Shows (s : List ℕ) (at : ℕ) (first : Bool) (r : Seen) : Type 0 where
  pub sees : Sees s at first r.item
  pub next : (o : ℕ) (n : List ℕ) → Next (env s o n) first at (token_at s first r.item) r.item.at r.item.end
  pub class : r.class ≡ class (token_at s first r.item)
  pub own : r.own ≡ own_of (token_at s first r.item)
