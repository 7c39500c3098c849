use Rattle.std.proofs.Common.{◌∙◌, ap, drop, arith, length-drop}
use Rattle.cx_cexpr.specs.Reading.{got_type}
use Rattle.cx_cword.specs.Lexemes.{lexemes}
use Rattle.cx_cdecl.proofs.Shallow.{whole_rest}
use Rattle.cx_cdecl.proofs.Public.{read_type_some, read_type_none, handed}
use Rattle.cx_cdecl.proofs.read_type.Goals as goal

pub returns-in-Err-Unread-clause-read : goal.returns-in-Err-Unread-clause-read
returns-in-Err-Unread-clause-read c =
    let h = handed c.args.known.now c.args.known.now.names c.args.bytes.now (drop c.args.at c.args.tokens.now) c.in_ok-all.all c.as_slice.result.now c.shallow-front.result.now (c.in_ok-all.ensures ∙ ap (lexemes c.args.known.now.names c.args.bytes.now) (whole_rest c.args.tokens.now c.args.at)) c.as_slice.ensures c.shallow-front.ensures (omega arith) (omega (arith, length-drop c.args.at c.args.tokens.now, c.requires.few)) in
    read_type_none c.args.known.now _ _ h (rw c.in-Err-Unread.field-0-is at c.in-Err-Unread.ensures.value)

pub returns-clause-read : goal.returns-clause-read
returns-clause-read c =
    let h = handed c.args.known.now c.args.known.now.names c.args.bytes.now (drop c.args.at c.args.tokens.now) c.in_ok-all.all c.as_slice.result.now c.shallow-front.result.now (c.in_ok-all.ensures ∙ ap (lexemes c.args.known.now.names c.args.bytes.now) (whole_rest c.args.tokens.now c.args.at)) c.as_slice.ensures c.shallow-front.ensures (omega arith) (omega (arith, length-drop c.args.at c.args.tokens.now, c.requires.few)) in
    read_type_some c.args.known.now _ _ c.next_place.result c.args.at (got_type c.in-Ok.x) h c.in-Ok.ensures.value c.next_place.ensures
