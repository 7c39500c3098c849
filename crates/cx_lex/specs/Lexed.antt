-- The tokens of a text: at each place that is in no piece before it, the longest piece that begins there (C11 6.4p4).
use Rattle.std.specs.Prelude.{◌≡◌, ℕ, zero, suc, ◌+◌, max, Bool, true, false, ◌==◌, ◌&&◌, if◌then◌else◌, List, [], ◌∷◌, take, codes, Option, Some, None, Result, Ok, Err, option_map}
use Rattle.std.specs.Str.{bytes_eq}
use Rattle.std.proofs.Math.Nat.{le-max_left}
use Rattle.cx_base.specs.declared.span.Span.{Span}
use Rattle.cx_base.specs.declared.token.TokenKind.{TokenKind}
use Rattle.cx_base.specs.declared.token.TokenKind.TheVariants as kind
use Rattle.cx_base.specs.declared.token.Token.{Token}
use Rattle.cx_lex.specs.declared.fault.LexFault.{LexFault}
use Rattle.cx_lex.specs.declared.fault.LexFault.TheVariants.{OpenComment, OpenText, BadByte, NoMemory}
use Rattle.cx_lex.specs.Bytes.{is_blank, is_indent, starts_name, is_digit, in_name, is_exponent, in_number, is_mark, is_single, is_double, is_triple, is_digraph}
use Rattle.cx_lex.specs.Directives.{is_refused}

-- how many bytes at the front go on with a name
abbrev pub name_len : List ℕ → ℕ
name_len [] = 0
name_len (b ∷ bs) = if in_name b then suc (name_len bs) else 0

-- and with a number, after a byte that is an exponent or is not
abbrev pub number_len : Bool → List ℕ → ℕ
number_len exponent [] = 0
number_len exponent (b ∷ bs) = if in_number exponent b then suc (number_len (is_exponent b) bs) else 0

-- up to the end of the line
abbrev pub line_len : List ℕ → ℕ
line_len [] = 0
line_len (b ∷ bs) = if b == 10 then 0 else suc (line_len bs)

-- through the closing mark, where there is one on the line; a backslash takes the next byte with it (C11 6.4.4.4, 6.4.5)
abbrev pub quoted_len : ℕ → Bool → List ℕ → Option ℕ
quoted_len mark escaped [] = None
quoted_len mark true (b ∷ bs) = option_map suc (quoted_len mark false bs)
quoted_len mark false (b ∷ bs) = if b == mark then Some 1 else (if b == 10 then None else option_map suc (quoted_len mark (b == 92) bs))

-- through the end of a comment (C11 6.4.9), after a star or not
abbrev pub comment_len : Bool → List ℕ → Option ℕ
comment_len star [] = None
comment_len star (b ∷ bs) = if star && (b == 47) then Some 1 else option_map suc (comment_len (b == 42) bs)

abbrev pub single_len : ℕ → ℕ
single_len a = if is_single a then 1 else 0

abbrev pub double_len : ℕ → ℕ → ℕ
double_len a b = if is_double a b then 2 else single_len a

-- the longest punctuator at the front, or 0
abbrev pub punct_len : List ℕ → ℕ
punct_len [] = 0
punct_len (a ∷ []) = single_len a
punct_len (a ∷ b ∷ []) = double_len a b
punct_len (a ∷ b ∷ c ∷ bs) = if is_triple a b c then 3 else double_len a b

abbrev pub next_is : (ℕ → Bool) → List ℕ → Bool
next_is p [] = false
next_is p (b ∷ bs) = p b

abbrev pub rest_of : List ℕ → List ℕ
rest_of [] = []
rest_of (b ∷ bs) = bs

-- what begins at a place: so many bytes after its first that are passed over, with whether only spaces
-- and tabs then stand in the line; a token of so many bytes after its first; or a fault at this place
pub data Piece : Type 0 where
  passed : ℕ → Bool → Piece
  taken : TokenKind → ℕ → Piece
  stopped : (ℕ → LexFault) → Piece

abbrev pub mark_kind : ℕ → TokenKind
mark_kind mark = if mark == 34 then kind.Text else kind.Char

abbrev pub quoted_piece : TokenKind → Option ℕ → Piece
quoted_piece k None = stopped OpenText
quoted_piece k (Some n) = taken k n

abbrev pub comment_piece : Option ℕ → Piece
comment_piece None = stopped OpenComment
comment_piece (Some n) = passed (suc n) false

abbrev pub punct_piece : ℕ → Piece
punct_piece zero = stopped BadByte
punct_piece (suc n) = taken kind.Punct n

-- the rest of a line after the # that begins it
abbrev pub hash_piece : List ℕ → Piece
hash_piece bs = if is_refused (take (line_len bs) bs) then stopped BadByte else passed (line_len bs) false

-- what begins with a byte that begins neither a name nor a literal, nor a number by a digit
unfoldable pub other_piece : ℕ → List ℕ → Piece
other_piece b bs =
    if (b == 46) && next_is is_digit bs then taken kind.Number (number_len false bs)
    else (if (b == 47) && next_is (λ c. c == 47) bs then passed (line_len bs) false
    else (if (b == 47) && next_is (λ c. c == 42) bs then comment_piece (comment_len false (rest_of bs))
    else (if next_is (is_digraph b) bs then stopped BadByte
    else punct_piece (punct_len (b ∷ bs)))))

-- a name, but for the operator _Pragma, of which a preprocessor makes a line (C11 6.10.9)
abbrev pub name_piece : ℕ → List ℕ → Piece
name_piece b bs = if (b == 95) && bytes_eq (take (name_len bs) bs) (codes "Pragma") then stopped BadByte else taken kind.Name (name_len bs)

-- fresh: the line has had only spaces and tabs, and did not begin inside a piece
abbrev pub piece_at : Bool → ℕ → List ℕ → Piece
piece_at fresh b bs =
    if b == 10 then passed 0 true
    else (if is_blank b then passed 0 (fresh && is_indent b)
    else (if fresh && (b == 35) then hash_piece bs
    else (if starts_name b then name_piece b bs
    else (if is_digit b then taken kind.Number (number_len false bs)
    else (if is_mark b then quoted_piece (mark_kind b) (quoted_len b false bs)
    else other_piece b bs)))))

-- the span from a place up to another that is not before it
abbrev pub span_from : ℕ → ℕ → Span
span_from first past = record { first = first; past = max first past; ordered = le-max_left first past }

unfoldable pub token : TokenKind → ℕ → ℕ → Token
token k first past = record { span = span_from first past; kind = k }

abbrev pub with_token : Token → Result (List Token) LexFault → Result (List Token) LexFault
with_token t (Ok ts) = Ok (t ∷ ts)
with_token t (Err f) = Err f

abbrev pub piece_then : ℕ → Piece → (ℕ → Bool → Result (List Token) LexFault) → Result (List Token) LexFault
piece_then at (passed n fresh) go = go n fresh
piece_then at (taken k n) go = with_token (token k at (suc at + n)) (go n false)
piece_then at (stopped f) go = Err (f at)

-- the tokens of the bytes from a place on, of which the first so many are in a piece that began before
abbrev pub tokens_from : ℕ → Bool → ℕ → List ℕ → Result (List Token) LexFault
tokens_from n fresh at [] = Ok []
tokens_from zero fresh at (b ∷ bs) = piece_then at (piece_at fresh b bs) (λ n fresh. tokens_from n fresh (suc at) bs)
tokens_from (suc n) fresh at (b ∷ bs) = tokens_from n fresh (suc at) bs

-- the tokens of a text, or the first fault in it
unfoldable pub lexed : List ℕ → Result (List Token) LexFault
lexed text = tokens_from 0 true 0 text

-- the answer is this reading of the text, unless memory ran out
abbrev pub Answers : Result (List Token) LexFault → Result (List Token) LexFault → Type 0
Answers (Err NoMemory) reading = Unit {0}
Answers answer reading = reading ≡ answer
