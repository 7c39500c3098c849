-- Words as plain data.
use Rattle.std.specs.Prelude.{ℕ, Bool, List}
use Rattle.std.specs.Str.{bytes_eq}
use Rattle.cx_base.specs.declared.span.Span.{Span}
use Rattle.cx_tsyn.specs.declared.word.Word as code

pub record WordTree : Type 0 where
  pub span : Span
  pub text : List ℕ

-- the word
abbrev pub word_tree : code.Word → WordTree
word_tree w = record { span = w.span; text = w.text }

-- the word has this text
abbrev pub has_text : List ℕ → WordTree → Bool
has_text text w = bytes_eq w.text text
