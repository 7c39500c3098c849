-- The words of C that are no names, and the punctuators.
use Rattle.std.specs.Prelude.{ℕ, Bool, List, [], ◌∷◌, ◌++◌, Option, Some, None, if◌then◌else◌, codes}
use Rattle.std.specs.Str.{bytes_eq}
use Rattle.cx_cword.specs.declared.word.Keyword.{Keyword}
use Rattle.cx_cword.specs.declared.word.Keyword.TheVariants as k
use Rattle.cx_cword.specs.declared.word.Punctuator.{Punctuator}
use Rattle.cx_cword.specs.declared.word.Punctuator.TheVariants as p

abbrev pub same_text : List ℕ → List ℕ → Bool
same_text = bytes_eq

abbrev pub look_up : {A : Type 0} → List (List ℕ × A) → List ℕ → Option A
look_up [] text = None
look_up (e ∷ es) text = if same_text e.0 text then Some e.1 else look_up es text

-- the keywords of C11 (6.4.1)
unfoldable pub c_keywords : List (List ℕ × Keyword)
c_keywords =
    (codes "void", k.Void) ∷ (codes "char", k.Char) ∷ (codes "short", k.Short) ∷ (codes "int", k.Int) ∷
    (codes "long", k.Long) ∷ (codes "signed", k.Signed) ∷ (codes "unsigned", k.Unsigned) ∷
    (codes "struct", k.Struct) ∷ (codes "union", k.Union) ∷ (codes "enum", k.Enum) ∷
    (codes "typedef", k.Typedef) ∷ (codes "extern", k.Extern) ∷ (codes "static", k.Static) ∷
    (codes "inline", k.Inline) ∷ (codes "register", k.Register) ∷ (codes "const", k.Skipped) ∷
    (codes "volatile", k.Skipped) ∷ (codes "restrict", k.Skipped) ∷ (codes "_Noreturn", k.Skipped) ∷
    (codes "sizeof", k.SizeOf) ∷ (codes "if", k.If) ∷ (codes "else", k.Else) ∷ (codes "while", k.While) ∷
    (codes "do", k.Do) ∷ (codes "for", k.For) ∷ (codes "switch", k.Switch) ∷ (codes "case", k.Case) ∷
    (codes "default", k.Default) ∷ (codes "break", k.Break) ∷ (codes "continue", k.Continue) ∷
    (codes "return", k.Return) ∷ (codes "auto", k.Reserved) ∷ (codes "double", k.Reserved) ∷
    (codes "float", k.Reserved) ∷ (codes "goto", k.Reserved) ∷ (codes "_Alignas", k.Reserved) ∷
    (codes "_Alignof", k.Reserved) ∷ (codes "_Atomic", k.Reserved) ∷ (codes "_Bool", k.Reserved) ∷
    (codes "_Complex", k.Reserved) ∷ (codes "_Generic", k.Reserved) ∷ (codes "_Imaginary", k.Reserved) ∷
    (codes "_Static_assert", k.Reserved) ∷ (codes "_Thread_local", k.Reserved) ∷ []

-- the words that GNU C adds, and its spellings of words of C
unfoldable pub gnu_keywords : List (List ℕ × Keyword)
gnu_keywords =
    (codes "__extension__", k.Skipped) ∷ (codes "__restrict", k.Skipped) ∷ (codes "__restrict__", k.Skipped) ∷
    (codes "__const", k.Skipped) ∷ (codes "__const__", k.Skipped) ∷ (codes "__inline", k.Skipped) ∷
    (codes "__inline__", k.Skipped) ∷ (codes "__volatile", k.Skipped) ∷ (codes "__volatile__", k.Skipped) ∷
    (codes "__signed", k.Signed) ∷ (codes "__signed__", k.Signed) ∷
    (codes "__attribute__", k.Attribute) ∷ (codes "__asm__", k.Asm) ∷ (codes "asm", k.Asm) ∷
    (codes "typeof", k.Reserved) ∷ (codes "__RTL", k.Reserved) ∷ (codes "__seg_fs", k.Reserved) ∷
    (codes "__seg_gs", k.Reserved) ∷ (codes "__alignof", k.Reserved) ∷ (codes "__alignof__", k.Reserved) ∷
    (codes "__asm", k.Reserved) ∷ (codes "__attribute", k.Reserved) ∷ (codes "__auto_type", k.Reserved) ∷
    (codes "__auto_type__", k.Reserved) ∷ (codes "__complex", k.Reserved) ∷
    (codes "__complex__", k.Reserved) ∷ (codes "__extension", k.Reserved) ∷
    (codes "__imag", k.Reserved) ∷ (codes "__imag__", k.Reserved) ∷ (codes "__int128", k.Reserved) ∷
    (codes "__int128__", k.Reserved) ∷ (codes "__label", k.Reserved) ∷ (codes "__label__", k.Reserved) ∷
    (codes "__real", k.Reserved) ∷ (codes "__real__", k.Reserved) ∷ (codes "__thread", k.Reserved) ∷
    (codes "__thread__", k.Reserved) ∷ (codes "__typeof", k.Reserved) ∷ (codes "__typeof__", k.Reserved) ∷ []

-- the keyword that the text is, if it is one
unfoldable pub keyword_of : List ℕ → Option Keyword
keyword_of = look_up (c_keywords ++ gnu_keywords)

-- the punctuators of C11 (6.4.6), but for digraphs and ##
unfoldable pub punctuators : List (List ℕ × Punctuator)
punctuators =
    (codes "...", p.Ellipsis) ∷ (codes "<<=", p.ShlAssign) ∷ (codes ">>=", p.ShrAssign) ∷
    (codes "->", p.Arrow) ∷ (codes "++", p.Increment) ∷ (codes "--", p.Decrement) ∷ (codes "<<", p.Shl) ∷
    (codes ">>", p.Shr) ∷ (codes "<=", p.LessEqual) ∷ (codes ">=", p.GreaterEqual) ∷ (codes "==", p.Equal) ∷
    (codes "!=", p.NotEqual) ∷ (codes "&&", p.AndAnd) ∷ (codes "||", p.OrOr) ∷ (codes "+=", p.AddAssign) ∷
    (codes "-=", p.SubAssign) ∷ (codes "*=", p.MulAssign) ∷ (codes "/=", p.DivAssign) ∷
    (codes "%=", p.RemAssign) ∷ (codes "&=", p.AndAssign) ∷ (codes "|=", p.OrAssign) ∷
    (codes "^=", p.XorAssign) ∷ (codes "{", p.OpenBrace) ∷ (codes "}", p.CloseBrace) ∷
    (codes "[", p.OpenBracket) ∷ (codes "]", p.CloseBracket) ∷ (codes "(", p.OpenParen) ∷
    (codes ")", p.CloseParen) ∷ (codes ".", p.Dot) ∷ (codes ";", p.Semicolon) ∷ (codes ":", p.Colon) ∷
    (codes ",", p.Comma) ∷ (codes "?", p.Question) ∷ (codes "+", p.Plus) ∷ (codes "-", p.Minus) ∷
    (codes "*", p.Star) ∷ (codes "/", p.Slash) ∷ (codes "%", p.Percent) ∷ (codes "&", p.Ampersand) ∷
    (codes "|", p.Bar) ∷ (codes "^", p.Caret) ∷ (codes "~", p.Tilde) ∷ (codes "!", p.Bang) ∷
    (codes "<", p.Less) ∷ (codes ">", p.Greater) ∷ (codes "=", p.Assign) ∷ (codes "#", p.Hash) ∷ []

-- the punctuator that the text is, if it is one
unfoldable pub punctuator_of : List ℕ → Option Punctuator
punctuator_of = look_up punctuators
