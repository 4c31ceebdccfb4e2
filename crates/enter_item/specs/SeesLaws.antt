-- The item that was seen stands next among the items of the text.
use Rattle.std.specs.Prelude.{ℕ, ◌+◌, ◌≡◌, refl, Bool, List, [], ◌∷◌, eqb, drop}
use Rattle.std.proofs.Math.Bool.{true, false}
use Rattle.std.proofs.Common.{eqb-true, eq-eqb, ne_eqb}
use Rattle.std.proofs.lemmas.Bool.{eqb-false}
use Rattle.paper.specs.Bytes.{pick}
use Rattle.paper.specs.Classes.{line_end, remark}
use Rattle.paper.specs.Tokens.{class}
use Rattle.paper.specs.Items.{Item, item, opens, raw_at}
use Rattle.enter_scan.specs.Sees.{Sees, token_at}
use Rattle.enter_scan.proofs.ScanLaws.{items_next, items_raw, items_end}
use Rattle.enter_scan.specs.declared.Item.{Item as Seen}
use Rattle.enter_item.specs.Says.{env, items_at, item_of, Next}

module _ {s : List ℕ} {at : ℕ} {first : Bool} {it : Seen} (v : Sees s at first it) (o : ℕ) (n : List ℕ) where
  abbrev after_item : List Item
  after_item =
      let c = class (token_at s first it) in
      pick (eqb c line_end) [] (pick (eqb c remark) (raw_at (o + it.end) (drop it.end s)) (items_at (env s o n) (opens c) it.end))

  here_go : (a b : Bool) → eqb (class (token_at s first it)) line_end ≡ a → eqb (class (token_at s first it)) remark ≡ b
      → items_at (env s o n) first at
      ≡ item_of (env s o n) (token_at s first it) it.at it.end
      ∷ pick a [] (pick b (raw_at (o + it.end) (drop it.end s)) (items_at (env s o n) (opens (class (token_at s first it))) it.end))
  unfolding item
  here_go true b p q = items_end o v (eqb-true (class (token_at s first it)) line_end p)
  here_go false true p q = items_raw o v (eqb-true (class (token_at s first it)) remark q)
  here_go false false p q = items_next o v (eqb-false (class (token_at s first it)) line_end p) (eqb-false (class (token_at s first it)) remark q)

  pub next_of : Next (env s o n) first at (token_at s first it) it.at it.end
  next_of =
      let c = class (token_at s first it) in
      record {
        rest = after_item;
        here = here_go (eqb c line_end) (eqb c remark) refl refl;
        on = λ p q. rw (ne_eqb c line_end p, ne_eqb c remark q);
        over = λ e. rw (eq-eqb c line_end e);
        text = λ e. rw e;
        after = v.after;
        spans = v.spans;
        within = v.within;
        moves = v.moves;
      }
