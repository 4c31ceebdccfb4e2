-- The three kinds of acts, by the test that holds them to the grammar.
use Rattle.std.proofs.Common.{◌≡◌, ℕ, ◌-◌, ◌/◌, ◌%◌, ◌<◌, ◌≤◌, not, T, eqb, ltb, leb, List, get_or, sym, refl, ap, ap₂, arith, eqb→eq, ltb→lt, leb→le, T_not, eq-eqb, ne_eqb}
use Rattle.paper.specs.Bytes.{same}
use Rattle.paper.specs.Machine.{Act, take as takes, leave, refuse}
use Rattle.paper.specs.Grammar.{Gives, itself, for_strings, as_prefix, put}
use Rattle.laws.specs.Tests.{and_left, and_right, is_true, as_T}
use Rattle.laws.specs.Names.{same_eq}
use Rattle.grammar.specs.Stack.{gives_of}
use Rattle.grammar.specs.Tables.{leaving_act, first_act, wanted, gives?, says?}

module _ (ws rs : List ℕ) (x : ℕ) where
  -- the act that leaves
  pub leaves_so : (l : Act Gives) → T (says? ws rs x l) → x ≡ leaving_act → l ≡ leave
  unfolding says?
  leaves_so (takes e ws) t h = absurd (omega (arith, leb→le first_act x (and_left (leb first_act x) _ t)))
  leaves_so leave t h = refl
  leaves_so (refuse k) t h = absurd (T_not (eqb x leaving_act) (and_left (not (eqb x leaving_act)) _ t) (as_T (eqb x leaving_act) (eq-eqb x leaving_act h)))

  -- any other below the first that takes refuses
  pub refuses_so : (l : Act Gives) → T (says? ws rs x l) → (x ≡ leaving_act → ⊥) → x < first_act → l ≡ refuse 4
  unfolding says?
  refuses_so (takes e ws) t n h = absurd (omega (arith, leb→le first_act x (and_left (leb first_act x) _ t)))
  refuses_so leave t n h = absurd (n (eqb→eq x leaving_act t))
  refuses_so (refuse k) t n h = ap refuse (eqb→eq k 4 (and_right (ltb x first_act) _ (and_right (not (eqb x leaving_act)) _ t)))

  given_so : (e : Gives) (n : ℕ) → T (gives? e n) → gives_of n ≡ e
  unfolding gives? gives_of
  given_so itself n t = rw (eqb→eq n 0 t)
  given_so for_strings n t = rw (eqb→eq n 1 t)
  given_so as_prefix n t = rw (eqb→eq n 2 t)
  given_so (put k) n t =
      let h : 3 ≤ n = leb→le 3 n (and_left (leb 3 n) _ t) in
      let e : n ≡ k = eqb→eq n k (and_right (leb 3 n) _ t) in
      rw (ne_eqb n 0 (λ z. omega arith), ne_eqb n 1 (λ z. omega arith), ne_eqb n 2 (λ z. omega arith)) (ap put e)

  -- the act of a word and a rest
  pub record TakesSo (n r : ℕ) (l : Act Gives) : Type 0 where
    pub few : r / 64 % 64 ≤ 9
    pub acts : l ≡ takes (gives_of (r % 64)) (wanted n r)

  -- those from it on take
  pub takes_so : (l : Act Gives) → T (says? ws rs x l) → first_act ≤ x → TakesSo (get_or ws (x - first_act) 0) (get_or rs (x - first_act) 0) l
  unfolding says?
  takes_so (takes e fs) t h =
      let n : ℕ = get_or ws (x - first_act) 0 in
      let r : ℕ = get_or rs (x - first_act) 0 in
      let t1 = and_right (leb first_act x) _ t in
      let t2 = and_right (gives? e (r % 64)) _ t1 in
      record {
        few = leb→le (r / 64 % 64) 9 (and_left (leb (r / 64 % 64) 9) _ t2);
        acts = ap₂ takes (sym (given_so e (r % 64) (and_left (gives? e (r % 64)) _ t1))) (sym (same_eq (wanted n r) fs (is_true (same (wanted n r) fs) (and_right (leb (r / 64 % 64) 9) _ t2))));
      }
  takes_so leave t h = absurd (omega (arith, eqb→eq x leaving_act t))
  takes_so (refuse n) t h = absurd (omega (arith, ltb→lt x first_act (and_left (ltb x first_act) _ (and_right (not (eqb x leaving_act)) _ t))))
