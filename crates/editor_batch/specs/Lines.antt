-- The lines that a walk over a text has still to give.
use Rattle.std.specs.Prelude.{ℕ, List}
use Rattle.paper.specs.Batch.{text_lines}
use Rattle.editor_batch.specs.declared.TextLines.{TextLines}

abbrev pub coming : TextLines → List (List ℕ)
coming w = text_lines w.rest.now
