-- Which punctuator, reserved word or name a lexeme is.
use Rattle.std.specs.Prelude.{◌≡◌, Bool, true, false}
use denote.Enum.Bare.{sameb}
use Rattle.cx_cword.specs.declared.word.Punctuator.{Punctuator}
use Rattle.cx_cword.specs.contracts.word.Punctuator.{the_type as the_punctuators}
use Rattle.cx_tword.specs.declared.word.TypeWord.{TypeWord}
use Rattle.cx_tword.specs.contracts.word.TypeWord.{the_type as the_words}
use Rattle.cx_tword.specs.declared.lexeme.TypeLexeme.{TypeLexeme}
use Rattle.cx_tword.specs.declared.lexeme.TypeLexemeKind.{TypeLexemeKind}
use Rattle.cx_tword.specs.declared.lexeme.TypeLexemeKind.TheVariants as l

-- the lexeme is this punctuator
abbrev pub Is : Punctuator → TypeLexeme → Type 0
Is mark o = o.kind ≡ l.Punctuator mark

-- the lexeme is this reserved word
abbrev pub IsWord : TypeWord → TypeLexeme → Type 0
IsWord word o = o.kind ≡ l.Word word

-- ---- the same as tests

abbrev pub kind_is_mark : Punctuator → TypeLexemeKind → Bool
kind_is_mark mark (l.Punctuator other) = sameb the_punctuators mark other
kind_is_mark mark _ = false

abbrev pub kind_is_word : TypeWord → TypeLexemeKind → Bool
kind_is_word word (l.Word other) = sameb the_words word other
kind_is_word word _ = false

abbrev pub kind_is_name : TypeLexemeKind → Bool
kind_is_name l.Name = true
kind_is_name _ = false

abbrev pub is_mark : Punctuator → TypeLexeme → Bool
is_mark mark o = kind_is_mark mark o.kind

abbrev pub is_word : TypeWord → TypeLexeme → Bool
is_word word o = kind_is_word word o.kind

abbrev pub is_name : TypeLexeme → Bool
is_name o = kind_is_name o.kind
