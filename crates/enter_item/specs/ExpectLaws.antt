-- The two answers to an item that is expected.
use Rattle.std.specs.Prelude.{ℕ, ◌+◌, ◌≡◌, refl, false, set, Ok, Err}
use Rattle.std.proofs.Common.{arith, sym, subst}
use Rattle.paper.specs.Tokens.{Token, class}
use Rattle.enter_item.specs.Says.{Env, Mem, mem, Answer, refused, spot, Next, Hit, Miss, Expects}
use Rattle.enter_item.specs.declared.Spot.{Spot}
use Rattle.refusals.specs.Numbers.{number_of}
use Rattle.refusals.specs.declared.Refusal.TheVariants.{NoReading}
use Rattle.refusals.specs.declared.RefusedAt.{RefusedAt}

pub no_done : {A : Type 0} {q : Spot} {x : RefusedAt} → ◌≡◌ {A = Answer} (Ok q) (Err x) → A
no_done e = let z : ◌≡◌ {A = ℕ} 0 1 = cc in absurd (omega arith)

pub expect_hit : {c b : ℕ} {E : Env} {q q' : Spot} {t : Token} {a e : ℕ} {m m' : Mem} → Next E false q.at t a e → class t ≡ c → m' ≡ mem (set m.line q.written b) m.fresh
    → q' ≡ spot e (q.written + 1) q.named → Expects c b E q m m' (Ok q')
expect_hit {c} {b} {E} {q} {q'} {t} {a} {e} {m} {m'} s h n st = record {
  hit = λ z x. let i : q' ≡ z = cc in subst (λ (y : Spot). Hit c b E q m m' y) i (record { t = t; a = a; e = e; next = s; class = h; wrote = n; stands = st });
  miss = λ x y. no_done y;
}

pub expect_miss : {c b : ℕ} {E : Env} {q : Spot} {t : Token} {a e p : ℕ} {m : Mem} → Next E false q.at t a e → (class t ≡ c → ⊥) → p ≡ E.from + a → Expects c b E q m m (refused NoReading p)
expect_miss {c} {b} {E} {q} {t} {a} {e} {p} {m} s h st = record {
  hit = λ z x. no_done (sym x);
  miss = λ x y. let i : record { refusal = NoReading; place = p } ≡ x = cc in subst (λ (z : RefusedAt). Miss c E q m m (number_of z.refusal) z.place) i (record { t = t; a = a; e = e; next = s; class = h; number = refl; place = st; kept = refl });
}
