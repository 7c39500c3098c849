-- Tags of structs and unions as plain data.
use Rattle.std.specs.Prelude.{Bool}
use Rattle.cx_tsyn.specs.Words.{WordTree, word_tree}
use Rattle.cx_ttype.specs.declared.tag.Tag.{Tag}

-- whether the word is union, and the tag
abbrev pub tag_tree : Tag → Bool × WordTree
tag_tree t = (t.union_, word_tree t.tag)
