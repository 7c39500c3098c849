-- What has been made, together with what is still to come.
use Rattle.std.specs.Prelude.{◌≡◌, ℕ, ◌+◌, nat_le, if◌then◌else◌, List, [], ◌∷◌, ◌++◌, map, pos, Option, Some, None}
use Rattle.cx_base.specs.declared.span.Span.{Span}
use Rattle.cx_goto.specs.Trees.{const, BlockTree, line_tree, block_tree}
use Rattle.cx_goto.specs.declared.code.End.{End}
use Rattle.cx_goto.specs.declared.code.End.TheVariants.{Jump}
use Rattle.cx_lcode.specs.Items.{Item, line, start, does, blocks_of}
use Rattle.cx_lemit.specs.declared.builder.Builder.{Builder}

abbrev pub lines_in : List Item → ℕ
lines_in [] = 0
lines_in (line l ∷ is) = lines_in is + 1
lines_in (start e s k ∷ is) = lines_in is

-- the blocks that are made where this is still to come; none where they have more than 4096 lines
unfoldable pub made : Builder → List Item → End → Span → Option (List BlockTree)
made b rest e s = if nat_le (b.count + lines_in rest) 4096 then Some (map block_tree b.blocks ++ blocks_of b.keep (map line_tree b.lines) rest e s) else None

-- the code has been appended, whatever follows it
pub record Emits (old new : Builder) (code : List Item → List Item) : Type 0 where
  pub by : (rest : List Item) (e : End) (s : Span) → made new rest e s ≡ made old (code rest) e s

-- of the whole code only the part is still to be appended
pub record Leaves (old new : Builder) (whole part : List Item → List Item) : Type 0 where
  pub by : (rest : List Item) (e : End) (s : Span) → made new (part rest) e s ≡ made old (whole rest) e s

-- the two blocks that leave 1 or 0
abbrev pub truth_code : (q s : Span) → (t e : ℕ) → List Item → List Item
truth_code q s t e rest = does s (const t (pos 1)) ∷ start (Jump e) q t ∷ does s (const t (pos 0)) ∷ start (Jump e) q (t + 1) ∷ rest
