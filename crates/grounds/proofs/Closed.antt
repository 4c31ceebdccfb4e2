-- A run from the start that leaves nothing wanted ended with the line's end, or the end of raw text.
use Rattle.std.specs.Prelude.{ℕ, ◌≡◌, Bool, false, not, ◌||◌, List, [], ◌∷◌, map, T, eqb}
use Rattle.std.proofs.Common.{subst, sym, ap, ◌∙◌, T_not}
use Rattle.paper.specs.Bytes.{every, among}
use Rattle.paper.specs.Classes.{line_end, raw_end}
use Rattle.paper.specs.Tokens.{Token, class}
use Rattle.paper.specs.Machine.{Act, take, leave, refuse, Row, Step, took, over, refused, step_act, Taken, Run, left, done, bad, and_taken, step, go_on, read}
use Rattle.paper.specs.Grammar.{Gives, grammar, may_be_empty, look, start}
use Rattle.paper.specs.Open.{all_Bytes, all_Grammar, all_Machine}
use Rattle.laws.specs.Tests.{or_else}
use Rattle.laws.specs.RowTests.{at_rows}
use Rattle.grounds.specs.Viable.{Good, StepGood, none, nil?, heads, under, step_good}
use Rattle.grounds.proofs.ViableGrammar.{rows_good, start_good}
use Rattle.grounds.specs.FrameTables.{info, infos}
use Rattle.grounds.specs.Place.{by_class}
use Rattle.grounds.specs.TokenRuns.{on_run, through, read_through}
use Rattle.grounds.specs.Given.{look_token}

-- the line's end, or the end of raw text
unfoldable pub end_class? : ℕ → Bool
end_class? c = eqb c line_end || eqb c raw_end

-- the last class is an end
unfoldable pub closed : List ℕ → Bool
closed [] = false
closed (c ∷ []) = end_class? c
closed (c ∷ d ∷ cs) = closed (d ∷ cs)

-- a row that wants nothing more, in a frame under which nothing stands, takes an end
unfoldable ends_right : ℕ → ℕ → List ℕ → Bool
ends_right f c p = not (nil? p) || (not (among none (heads infos f)) || end_class? c)

unfoldable row_ends : Row Gives → Bool
row_ends r = ends_right r.frame r.class r.wants

rows_end : T (every row_ends grammar)
unfolding row_ends ends_right end_class? info infos all_Bytes all_Grammar all_Machine
rows_end = tt

abbrev ActEnds : ℕ → ℕ → Act Gives → Type 0
ActEnds f c (take e p) = T (ends_right f c p)
ActEnds f c leave = Unit {0}
ActEnds f c (refuse m) = Unit {0}

look_ends : (f c : ℕ) → ActEnds f c (look f c)
unfolding look row_ends
look_ends f c = at_rows ActEnds row_ends may_be_empty (λ r t. t) (λ f c h. tt) (λ f c. tt) grammar f c rows_end

-- a step that leaves an empty stack
abbrev pub StepEnds : ℕ → Step Gives → Type 0
StepEnds c (took e []) = T (end_class? c)
StepEnds c (took e (f ∷ s)) = Unit {0}
StepEnds c over = Unit {0}
StepEnds c (refused m) = Unit {0}

act_ends : (f c : ℕ) (fs : List ℕ) (a : Act Gives) (r : Step Gives) → ActEnds f c a → Good infos (f ∷ fs) none → StepEnds c r → StepEnds c (step_act a fs r)
unfolding step_act ends_right under
act_ends f c [] (take e []) r k g o = or_else (not (among none (heads infos f))) (end_class? c) k (λ n. absurd (T_not (among none (heads infos f)) n g.0)) (λ h. h)
act_ends f c (x ∷ fs) (take e []) r k g o = tt
act_ends f c fs (take e (x ∷ p)) r k g o = tt
act_ends f c fs leave r k g o = o
act_ends f c fs (refuse m) r k g o = tt

-- a step that leaves an empty stack took an end
pub step_ends : (s : List ℕ) (c : ℕ) → Good infos s none → StepEnds c (step look s c)
unfolding step
step_ends [] c g = tt
step_ends (f ∷ fs) c g = act_ends f c fs (look f c) (step look fs c) (look_ends f c) g (step_ends fs c g.1)

-- ---- a run

abbrev Closes : List ℕ → Run Gives ℕ → Type 0
Closes cs (left es []) = T (closed cs)
Closes cs (left es (f ∷ s)) = Unit {0}
Closes cs (done es r) = Unit {0}
Closes cs (bad m es r) = Unit {0}

closed_cons : (c : ℕ) (cs : List ℕ) → T (closed cs) → T (closed (c ∷ cs))
unfolding closed
closed_cons c [] t = absurd t
closed_cons c (d ∷ cs) t = t

and_closes : (c : ℕ) (cs : List ℕ) (t : Taken Gives ℕ) (r : Run Gives ℕ) → Closes cs r → Closes (c ∷ cs) (and_taken t r)
unfolding and_taken
and_closes c cs t (left es []) k = closed_cons c cs k
and_closes c cs t (left es (f ∷ s)) k = tt
and_closes c cs t (done es r) k = tt
and_closes c cs t (bad m es r) k = tt

-- with nothing wanted, only no items at all are left
empty_closes : (c : ℕ) (cs : List ℕ) (t : Taken Gives ℕ) → T (end_class? c) → Closes (c ∷ cs) (and_taken t (read look [] cs))
unfolding and_taken read step go_on closed
empty_closes c [] t e = e
empty_closes c (d ∷ cs) t e = tt

go_closes : (c : ℕ) (cs : List ℕ) → ((f : ℕ) (s : List ℕ) → Good infos (f ∷ s) none → Closes cs (read look (f ∷ s) cs)) → (x : Step Gives) → StepEnds c x → StepGood infos none x
    → Closes (c ∷ cs) (go_on look x c cs (λ z. read look z cs))
unfolding go_on
go_closes c cs ih (took e []) k g = empty_closes c cs _ k
go_closes c cs ih (took e (f ∷ s)) k g = and_closes c cs _ (read look (f ∷ s) cs) (ih f s g)
go_closes c cs ih over k g = tt
go_closes c cs ih (refused m) k g = tt

read_closes : (cs : List ℕ) (f : ℕ) (s : List ℕ) → Good infos (f ∷ s) none → Closes cs (read look (f ∷ s) cs)
unfolding read
read_closes [] f s g = tt
read_closes (c ∷ cs) f s g = go_closes c cs (λ h z k. read_closes cs h z k) (step look (f ∷ s) c) (step_ends (f ∷ s) c g) (step_good infos look rows_good none (f ∷ s) c g)

-- a lawful run over tokens
pub run_closed : (js : List Token) (es : List (Taken Gives Token)) → read look_token start js ≡ left es [] → T (closed (map class js))
unfolding look_token by_class through on_run start
run_closed js es e = subst (Closes (map class js)) (sym (read_through look class start js) ∙ ap (on_run class) e) (read_closes (map class js) _ [] start_good)
