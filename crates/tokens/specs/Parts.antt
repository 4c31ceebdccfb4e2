-- Where spellings stand, and what is there.
use Rattle.std.specs.Prelude.{ℕ, ◌+◌, ◌-◌, List, ltb, take, drop, get_or}
use Rattle.paper.specs.Bytes.{pick}
use Rattle.paper.specs.Tokens.{read_as}
use Rattle.tokens.specs.declared.Source.{Source}
use Rattle.tokens.specs.declared.Source.TheVariants.{Fixed, Names}
use Rattle.tokens.specs.declared.Part.{Part}
use Rattle.tokens.specs.Tables.{total, starts, statement_lengths, operator_lengths}

-- the slice that a source names
unfoldable pub source_of : List ℕ → List ℕ → Source → List ℕ
source_of words names Fixed = words
source_of words names Names = names

-- the bytes at a part
unfoldable pub bytes_at : List ℕ → List ℕ → Part → List ℕ
bytes_at words names p = take (p.end - p.from) (drop p.from (source_of words names p.source))

-- some of the fixed words' bytes, from a place on
unfoldable pub fixed_part : ℕ → ℕ → Part
fixed_part from size = record { source = Fixed; from = from; end = from + size }

-- the part of a statement's word
unfoldable pub statement_part : ℕ → Part
statement_part t = fixed_part (get_or (starts statement_lengths) t 0) (get_or statement_lengths t 0)

-- the part of a word of an operator or function, which stand after the statement words
unfoldable pub word_part : ℕ → Part
word_part t =
    let i = t - 0x12 in
    pick (ltb t 0x12) (fixed_part 0 0) (fixed_part (total statement_lengths + get_or (starts operator_lengths) i 0) (get_or operator_lengths i 0))

-- the part of an operator or function: that of the one that it is read as
unfoldable pub operator_part : ℕ → Part
operator_part t = word_part (read_as t)
