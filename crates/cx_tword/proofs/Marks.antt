-- What the tests on a lexeme tell, and a lexeme of each kind.
use Rattle.std.proofs.Common.{◌≡◌, true, None, refl, sym, ap, ◌∙◌}
use denote.Enum.Bare.{same_true, true_same}
use Rattle.cx_cword.specs.declared.lexeme.LexemeKind.{LexemeKind}
use Rattle.cx_cword.specs.declared.lexeme.LexemeKind.TheVariants as cl
use Rattle.cx_cword.specs.declared.word.Keyword.TheVariants as k
use Rattle.cx_cword.specs.declared.word.Punctuator.{Punctuator}
use Rattle.cx_cword.specs.contracts.word.Punctuator.{the_type as the_punctuators}
use Rattle.cx_cword.specs.Reading.{span_between}
use Rattle.cx_tword.specs.declared.word.TypeWord.{TypeWord}
use Rattle.cx_tword.specs.declared.word.TypeWord.TheVariants as w
use Rattle.cx_tword.specs.contracts.word.TypeWord.{the_type as the_words}
use Rattle.cx_tword.specs.declared.lexeme.TypeLexeme.{TypeLexeme}
use Rattle.cx_tword.specs.declared.lexeme.TypeLexemeKind.{TypeLexemeKind}
use Rattle.cx_tword.specs.declared.lexeme.TypeLexemeKind.TheVariants as l
use Rattle.cx_tword.specs.Marks.{Is, IsWord, kind_is_mark, kind_is_word, kind_is_name, is_mark, is_word, is_name}

kind_mark : (mark : Punctuator) (kind : TypeLexemeKind) → kind_is_mark mark kind ≡ true → kind ≡ l.Punctuator mark
kind_mark mark (l.Punctuator other) e = ap l.Punctuator (sym (same_true the_punctuators tt mark other e))
kind_mark mark _ e = absurd cc

kind_word : (word : TypeWord) (kind : TypeLexemeKind) → kind_is_word word kind ≡ true → kind ≡ l.Word word
kind_word word (l.Word other) e = ap l.Word (sym (same_true the_words tt word other e))
kind_word word _ e = absurd cc

kind_name : (kind : TypeLexemeKind) → kind_is_name kind ≡ true → kind ≡ l.Name
kind_name l.Name e = refl
kind_name _ e = absurd cc

pub mark_is : (mark : Punctuator) (o : TypeLexeme) → is_mark mark o ≡ true → Is mark o
mark_is mark o e = kind_mark mark o.kind e

pub word_is : (word : TypeWord) (o : TypeLexeme) → is_word word o ≡ true → IsWord word o
word_is word o e = kind_word word o.kind e

pub name_is : (o : TypeLexeme) → is_name o ≡ true → o.kind ≡ l.Name
name_is o e = kind_name o.kind e

pub mark_so : (mark : Punctuator) (o : TypeLexeme) → Is mark o → is_mark mark o ≡ true
mark_so mark o e = ap (kind_is_mark mark) e ∙ true_same the_punctuators mark mark refl

pub word_so : (word : TypeWord) (o : TypeLexeme) → IsWord word o → is_word word o ≡ true
word_so word o e = ap (kind_is_word word) e ∙ true_same the_words word word refl

pub name_so : (o : TypeLexeme) → o.kind ≡ l.Name → is_name o ≡ true
name_so o e = ap kind_is_name e

-- ---- lexemes that stand nowhere

-- what a reserved word is in a type of C
abbrev pub c_word_of : TypeWord → LexemeKind
c_word_of w.Struct = cl.Keyword k.Struct
c_word_of w.Union = cl.Keyword k.Union
c_word_of w.For = cl.Keyword k.For
c_word_of w.Void = cl.Keyword k.Void
c_word_of _ = cl.Name None

abbrev pub a_mark : Punctuator → TypeLexeme
a_mark mark = record { span = span_between 0 0; kind = l.Punctuator mark; c_kind = cl.Punctuator mark }

abbrev pub a_word : TypeWord → TypeLexeme
a_word word = record { span = span_between 0 0; kind = l.Word word; c_kind = c_word_of word }

abbrev pub a_name : TypeLexeme
a_name = record { span = span_between 0 0; kind = l.Name; c_kind = cl.Name None }
