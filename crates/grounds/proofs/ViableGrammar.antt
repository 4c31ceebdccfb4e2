-- The grammar's own table passes the tests of `Viable`, so every stack that a run of it comes to can be completed.
use Rattle.std.specs.Prelude.{ℕ, ◌≡◌, List, ◌++◌, T}
use Rattle.paper.specs.Bytes.{every, among}
use Rattle.paper.specs.Machine.{Taken, left, read}
use Rattle.paper.specs.Grammar.{Gives, grammar, may_be_empty, look, start}
use Rattle.paper.specs.Open.{all_Grammar, all_Machine, all_Bytes}
use Rattle.laws.specs.Tests.{everyAt}
use Rattle.paper.specs.MachineLaws.{then, read_then}
use Rattle.grounds.specs.Viable.{none, ActGood, Good, Ends, row_good, frame_good, find_good, completes, completion, read_good, ends_emits, under}
use Rattle.grounds.specs.FrameTables.{info, infos}

rows_test : T (every (row_good infos {E = Gives}) grammar)
unfolding info infos row_good all_Grammar all_Machine all_Bytes
rows_test = tt

frames_test : T (everyAt (frame_good infos look) 0 infos)
unfolding info infos frame_good everyAt all_Grammar all_Machine all_Bytes
frames_test = tt

-- what the grammar does leaves good stacks
pub rows_good : (f c : ℕ) → ActGood infos f (look f c)
unfolding look
rows_good f c = find_good infos grammar may_be_empty f c rows_test

-- the start is a good stack
pub start_good : Good infos start none
unfolding info infos under among start
start_good = (tt, tt)

-- what has been read with no refusal can be gone on with to a lawful end
pub viable : (cs : List ℕ) (ts : List (Taken Gives ℕ)) (s : List ℕ) → read look start cs ≡ left ts s → Ends infos (read look start (cs ++ completion infos s))
unfolding then
viable cs ts s e =
    rw (read_then look start cs (completion infos s), e)
    (ends_emits infos ts (read look s (completion infos s)) (completes infos look rows_good frames_test s (rw e at (read_good infos look rows_good none start cs start_good))))
