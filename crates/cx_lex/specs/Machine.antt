-- The same reading one byte after the other, with a mode: what the code does.
use Rattle.std.specs.Prelude.{ℕ, suc, ◌+◌, Bool, true, false, ◌==◌, ◌&&◌, ◌||◌, if◌then◌else◌, List, [], ◌∷◌, ◌++◌, take, codes, Option, Some, None, Result, Ok, Err}
use Rattle.cx_base.specs.declared.token.TokenKind.TheVariants as kind
use Rattle.cx_base.specs.declared.token.Token.{Token}
use Rattle.cx_lex.specs.declared.fault.LexFault.{LexFault}
use Rattle.cx_lex.specs.declared.fault.LexFault.TheVariants.{OpenComment, OpenText, BadByte}
use Rattle.cx_lex.specs.declared.mode.Mode.{Mode}
use Rattle.cx_lex.specs.declared.mode.Mode.TheVariants as m
use Rattle.cx_lex.specs.declared.mode.State.{State}
use Rattle.cx_lex.specs.declared.mode.Turn.{Turn}
use Rattle.cx_lex.specs.Bytes.{is_blank, is_indent, starts_name, is_digit, in_name, is_exponent, in_number, is_mark, is_single, is_double, is_triple, is_digraph}
use Rattle.cx_lex.specs.Lexed.{name_len, line_len, mark_kind, token, with_token}
use Rattle.cx_lex.specs.Directives.{is_refused}
use Rattle.std.specs.Str.{bytes_eq}

-- ---- a byte

abbrev pub at_mode : Mode → ℕ → State
at_mode mode start = record { mode = mode; start = start }

abbrev pub goes : Mode → ℕ → Result Turn LexFault
goes mode start = Ok (record { one = None; two = None; next = at_mode mode start })

-- what a byte begins that has these bytes after it
unfoldable pub begin : Bool → ℕ → ℕ → List ℕ → Result State LexFault
begin fresh at b rest =
    if b == 10 then Ok (at_mode (m.Blank true) at)
    else (if is_blank b then Ok (at_mode (m.Blank (fresh && is_indent b)) at)
    else (if fresh && (b == 35) then (if is_refused (take (line_len rest) rest) then Err (BadByte at) else Ok (at_mode m.Line at))
    else (if starts_name b then (if (b == 95) && bytes_eq (take (name_len rest) rest) (codes "Pragma") then Err (BadByte at) else Ok (at_mode m.Name at))
    else (if is_digit b then Ok (at_mode (m.Number false) at)
    else (if is_mark b then Ok (at_mode (m.Quoted b false) at)
    else (if is_single b then Ok (at_mode (m.One b) at)
    else Err (BadByte at)))))))

abbrev pub begun : Option Token → Option Token → Result State LexFault → Result Turn LexFault
begun one two (Ok s) = Ok (record { one = one; two = two; next = s })
begun one two (Err f) = Err f

-- a punctuator of one byte, and the next byte
unfoldable pub after_one : Option Token → ℕ → ℕ → ℕ → ℕ → List ℕ → Result Turn LexFault
after_one before a start at b rest =
    if (a == 46) && is_digit b then Ok (record { one = before; two = None; next = at_mode (m.Number false) start })
    else (if (a == 47) && (b == 47) then Ok (record { one = before; two = None; next = at_mode m.Line start })
    else (if (a == 47) && (b == 42) then Ok (record { one = before; two = None; next = at_mode (m.Comment false) start })
    else (if is_digraph a b then Err (BadByte start)
    else (if is_double a b || ((a == 46) && (b == 46)) then Ok (record { one = before; two = None; next = at_mode (m.Two a b) start })
    else begun before (Some (token kind.Punct start at)) (begin false at b rest)))))

unfoldable pub after_two : ℕ → ℕ → ℕ → ℕ → ℕ → List ℕ → Result Turn LexFault
after_two a c start at b rest =
    if is_triple a c b then Ok (record { one = Some (token kind.Punct start (at + 1)); two = None; next = at_mode (m.Blank false) at })
    else (if is_double a c then begun (Some (token kind.Punct start at)) None (begin false at b rest)
    else after_one (Some (token kind.Punct start (start + 1))) c (start + 1) at b rest)

unfoldable pub in_quotes : ℕ → Bool → ℕ → ℕ → ℕ → Result Turn LexFault
in_quotes mark true start at b = goes (m.Quoted mark false) start
in_quotes mark false start at b =
    if b == mark then Ok (record { one = Some (token (mark_kind mark) start (at + 1)); two = None; next = at_mode (m.Blank false) at })
    else (if b == 10 then Err (OpenText start) else goes (m.Quoted mark (b == 92)) start)

unfoldable pub turn : Mode → ℕ → ℕ → ℕ → List ℕ → Result Turn LexFault
turn (m.Blank fresh) start at b rest = begun None None (begin fresh at b rest)
turn m.Name start at b rest = if in_name b then goes m.Name start else begun (Some (token kind.Name start at)) None (begin false at b rest)
turn (m.Number exponent) start at b rest = if in_number exponent b then goes (m.Number (is_exponent b)) start else begun (Some (token kind.Number start at)) None (begin false at b rest)
turn (m.Quoted mark escaped) start at b rest = in_quotes mark escaped start at b
turn (m.One a) start at b rest = after_one None a start at b rest
turn (m.Two a c) start at b rest = after_two a c start at b rest
turn (m.Comment star) start at b rest = if star && (b == 47) then goes (m.Blank false) at else goes (m.Comment (b == 42)) start
turn m.Line start at b rest = if b == 10 then goes (m.Blank true) at else goes m.Line start

-- the tokens that an end leaves
unfoldable pub end : Mode → ℕ → ℕ → Result (List Token) LexFault
end (m.Blank fresh) start at = Ok []
end m.Name start at = Ok (token kind.Name start at ∷ [])
end (m.Number exponent) start at = Ok (token kind.Number start at ∷ [])
end (m.Quoted mark escaped) start at = Err (OpenText start)
end (m.One a) start at = Ok (token kind.Punct start at ∷ [])
end (m.Two a c) start at = if is_double a c then Ok (token kind.Punct start at ∷ []) else Ok (token kind.Punct start (start + 1) ∷ token kind.Punct (start + 1) at ∷ [])
end (m.Comment star) start at = Err (OpenComment start)
end m.Line start at = Ok []

-- how many bytes of its piece a mode has at least
abbrev pub least : Mode → ℕ
least (m.Blank fresh) = 0
least m.Name = 0
least (m.Number exponent) = 0
least (m.Quoted mark escaped) = 0
least (m.One a) = 1
least (m.Two a c) = 2
least (m.Comment star) = 0
least m.Line = 0

-- ---- all bytes

abbrev pub with_ended : Option Token → Result (List Token) LexFault → Result (List Token) LexFault
with_ended None r = r
with_ended (Some t) r = with_token t r

abbrev pub after : Result Turn LexFault → (State → Result (List Token) LexFault) → Result (List Token) LexFault
after (Ok t) go = with_ended t.one (with_ended t.two (go t.next))
after (Err f) go = Err f

unfoldable pub run : State → ℕ → List ℕ → Result (List Token) LexFault
run s at [] = end s.mode s.start at
run s at (b ∷ bs) = after (turn s.mode s.start at b bs) (λ s. run s (suc at) bs)

abbrev pub listed : Option Token → List Token
listed None = []
listed (Some t) = t ∷ []

abbrev pub with_front : List Token → Result (List Token) LexFault → Result (List Token) LexFault
with_front front (Ok ts) = Ok (front ++ ts)
with_front front (Err f) = Err f
