-- The words of integer types (C11 6.7.2), which may stand in any order.
use Rattle.std.specs.Prelude.{◌≡◌, ℕ, suc, ◌+◌, Bool, true, ◌&&◌, ◌||◌, ◌==◌, nat_le, nat_lt, length, List, [], ◌∷◌, Option, Some, None, if◌then◌else◌}
use Rattle.std.specs.Option.{option_and_then}
use Rattle.cx_base.specs.declared.number.CInt.{CInt}
use Rattle.cx_cword.specs.declared.word.Keyword.TheVariants as k
use Rattle.cx_cword.specs.declared.lexeme.Lexeme.{Lexeme}
use Rattle.cx_cword.specs.declared.lexeme.LexemeKind.{LexemeKind}
use Rattle.cx_cword.specs.declared.lexeme.LexemeKind.TheVariants as l

-- how often each word stands
pub record Counts : Type 0 where
  pub chars : ℕ
  pub shorts : ℕ
  pub ints : ℕ
  pub longs : ℕ
  pub signeds : ℕ
  pub unsigneds : ℕ

abbrev pub no_word : Counts
no_word = record { chars = 0; shorts = 0; ints = 0; longs = 0; signeds = 0; unsigneds = 0 }

-- with one word more, where it is one of an integer type
abbrev pub counted : LexemeKind → Counts → Option Counts
counted (l.Keyword k.Char) n = Some (record n { chars = suc n.chars })
counted (l.Keyword k.Short) n = Some (record n { shorts = suc n.shorts })
counted (l.Keyword k.Int) n = Some (record n { ints = suc n.ints })
counted (l.Keyword k.Long) n = Some (record n { longs = suc n.longs })
counted (l.Keyword k.Signed) n = Some (record n { signeds = suc n.signeds })
counted (l.Keyword k.Unsigned) n = Some (record n { unsigneds = suc n.unsigneds })
counted _ n = None

-- the words of a list, where all are words of integer types
abbrev pub counts_of : List Lexeme → Option Counts
counts_of [] = Some no_word
counts_of (w ∷ ws) = option_and_then (counted w.kind) (counts_of ws)

-- the words are those of a list of C11: one of signed and unsigned at most, int at most once, and one of char, short, long and long long at most, with char alone without int
unfoldable pub is_listed : Counts → Bool
is_listed n =
    nat_le (n.signeds + n.unsigneds) 1 && nat_le n.ints 1 && nat_le (n.chars + n.shorts) 1 && nat_le n.longs 2
    && ((n.chars == 0) || (n.ints == 0)) && ((n.chars + n.shorts == 0) || (n.longs == 0))

abbrev pub sized : Counts → ℕ
sized n = if nat_lt 0 n.chars then 1 else if nat_lt 0 n.shorts then 2 else if nat_lt 0 n.longs then 8 else 4

-- the words, at least one, of this integer type
pub record AreIntWords (ws : List Lexeme) (t : CInt) : Type 0 where
  pub counts : Counts
  pub counted_are : counts_of ws ≡ Some counts
  pub some_word : nat_lt 0 (length ws) ≡ true
  pub listed : is_listed counts ≡ true
  pub size : t.size ≡ sized counts
  pub sign : t.signed ≡ (counts.unsigneds == 0)
