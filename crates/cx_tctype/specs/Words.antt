-- What the code counts and reads, as plain data.
use Rattle.std.specs.Prelude.{List}
use Rattle.cx_ctree.specs.Types.{type_tree}
use Rattle.cx_cexpr.specs.IntWords.{Counts}
use Rattle.cx_tword.specs.declared.lexeme.TypeLexeme.{TypeLexeme}
use Rattle.cx_reader.specs.Answers.{Got}
use Rattle.cx_tctype.specs.declared.words.Words.{Words}
use Rattle.cx_tctype.specs.declared.words.ReadWords.{ReadWords}
use Rattle.cx_tctype.specs.declared.pointee.Pointee.{Pointee}
use Rattle.cx_tctype.specs.Pointees.{PointeeTree}

abbrev pub counts_in : Words → Counts
counts_in n = record { chars = n.chars; shorts = n.shorts; ints = n.ints; longs = n.longs; signeds = n.signeds; unsigneds = n.unsigneds }

abbrev pub got_words : ReadWords → Got TypeLexeme Counts
got_words r = record { tree = counts_in r.words; rest = r.rest.now }

-- the type
abbrev pub pointee_tree : Pointee → PointeeTree
pointee_tree x = record { ctype = type_tree x.ctype; unknown_tag = x.unknown_tag }
