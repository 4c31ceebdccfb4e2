-- Each call over a record that lacks a count, and over one that has them all.
use Rattle.std.specs.Prelude.{ℕ, ◌≤◌, ◌<◌, ◌≡◌, Bool, List, ltb, length}
use Rattle.std.proofs.Common.{ap, lt-ltb, le-ltb}
use Rattle.paper.specs.Bytes.{pick}
use Rattle.paper.specs.Items.{no_span}
use Rattle.paper.specs.Calls.{refusal, not_listed, list}
use Rattle.paper.specs.Direct.{same_buffer, typed}
use Rattle.paper.specs.Batch.{text_lines, batch}
use Rattle.paper.specs.Files.{not_saved, save, not_loaded, load}
use Rattle.paper.specs.Collect.{Collected, collect}
use Rattle.requested.specs.RequestTerms.{all_unsound}
use Rattle.editor_edit.specs.States.{state}
use Rattle.tag_terms.specs.Lent.{editor_of, enter_by_counts, list_by_counts, batch_by_counts, save_by_counts, load_by_counts, collect_by_counts}

module _ {A : Type 0} (r : List ℕ) (x y : A) where
  -- what is chosen for a record that lacks a count
  short_of : length r < 5 → pick (ltb (length r) 5) x y ≡ x
  short_of h = ap (λ (t : Bool). pick t x y) (lt-ltb (length r) 5 h)

  -- what is chosen for one that has them all
  whole_of : 5 ≤ length r → pick (ltb (length r) 5) x y ≡ y
  whole_of h = ap (λ (t : Bool). pick t x y) (le-ltb (length r) 5 h)

module _ (keep : Bool) (text names values store line r : List ℕ) where
  pub enter_short : length r < 5 → enter_by_counts keep text names values store line r ≡ same_buffer line (refusal 1 no_span (state names values store (editor_of r)))
  enter_short = short_of r _ _

  pub enter_whole : 5 ≤ length r → enter_by_counts keep text names values store line r ≡ typed keep text (state names values store (editor_of r)) line
  enter_whole = whole_of r _ _

module _ (keep : Bool) (text names values store r : List ℕ) where
  pub batch_short : length r < 5 → batch_by_counts keep text names values store r ≡ all_unsound (length (text_lines text)) (state names values store (editor_of r))
  batch_short = short_of r _ _

  pub batch_whole : 5 ≤ length r → batch_by_counts keep text names values store r ≡ batch keep text (state names values store (editor_of r))
  batch_whole = whole_of r _ _

module _ (line : ℕ) (names values store r output : List ℕ) where
  pub list_short : length r < 5 → list_by_counts line names values store r output ≡ not_listed 1 output
  list_short = short_of r _ _

  pub list_whole : 5 ≤ length r → list_by_counts line names values store r output ≡ list line (state names values store (editor_of r)) output
  list_whole = whole_of r _ _

module _ (names values store r output : List ℕ) where
  pub save_short : length r < 5 → save_by_counts names values store r output ≡ not_saved 1 output
  save_short = short_of r _ _

  pub save_whole : 5 ≤ length r → save_by_counts names values store r output ≡ save (state names values store (editor_of r)) output
  save_whole = whole_of r _ _

module _ (file names values store r : List ℕ) where
  pub load_short : length r < 5 → load_by_counts file names values store r ≡ not_loaded (state names values store (editor_of r)) 1
  load_short = short_of r _ _

  pub load_whole : 5 ≤ length r → load_by_counts file names values store r ≡ load file (state names values store (editor_of r))
  load_whole = whole_of r _ _

module _ (names values store r : List ℕ) where
  pub collect_short : length r < 5 → collect_by_counts names values store r ≡ record { number = 1; after = state names values store (editor_of r) }
  collect_short = short_of r _ _

  pub collect_whole : 5 ≤ length r → collect_by_counts names values store r ≡ collect (state names values store (editor_of r))
  collect_whole = whole_of r _ _
