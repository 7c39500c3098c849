-- Code as a row of lines, with a mark where a block ends and the next is started; and the words that the lowering of a function
-- looks up.
use Rattle.std.specs.Prelude.{ℕ, ◌==◌, if◌then◌else◌, List, [], ◌∷◌, ◌++◌, Option, Some, None, slice_get, position}
use Rattle.cx_base.specs.declared.number.CInt.{CInt}
use Rattle.cx_base.specs.declared.span.Span.{Span}
use Rattle.cx_base.specs.declared.token.Token.{Token}
use Rattle.cx_cmean.specs.Numbers.{is_same}
use Rattle.cx_goto.specs.Trees.{InstrTree, conv, LineTree, BlockTree}
use Rattle.cx_goto.specs.declared.code.End.{End}

pub data Item : Type 0 where
  line : LineTree → Item
  -- the end of a block, with its place, and the locals that the next one keeps
  start : End → Span → (keep : ℕ) → Item

abbrev pub does : Span → InstrTree → Item
does s i = line (record { instr = i; span = s })

-- the blocks that the items make, where the open block keeps these locals and has these lines so far, and the last ends so
abbrev pub blocks_of : (keep : ℕ) → List LineTree → List Item → End → Span → List BlockTree
blocks_of keep done [] end s = record { keep = keep; lines = done; end = end; span = s } ∷ []
blocks_of keep done (line l ∷ is) end s = blocks_of keep (done ++ l ∷ []) is end s
blocks_of keep done (start e q k ∷ is) end s = record { keep = keep; lines = done; end = e; span = q } ∷ blocks_of k [] is end s

-- the local is converted, where the types differ
abbrev pub converts : Span → (from to : CInt) → (t : ℕ) → List Item → List Item
converts s from to t rest = if is_same from to then rest else does s (conv t to) ∷ rest

-- ---- places of the text

abbrev pub span_or : Span → Option Token → Span
span_or s None = s
span_or s (Some t) = t.span

abbrev pub token_at : List Token → Span → Option ℕ → Option Token
token_at tokens s None = None
token_at tokens s (Some i) = slice_get tokens i

-- the first token of a piece of the text
abbrev pub first_token : List Token → Span → Span
first_token tokens s = span_or s (token_at tokens s (position (λ t. t.span.first == s.first) tokens))
