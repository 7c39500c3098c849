use Rattle.std.proofs.Common.{◌∙◌, sym, ap, drop, arith, length-drop}
use Rattle.cx_cname.specs.Known.{known_of}
use Rattle.cx_cdecl.specs.Reading.{got_declared}
use Rattle.cx_cword.specs.Lexemes.{lexemes}
use Rattle.cx_cdecl.proofs.Shallow.{whole_rest}
use Rattle.cx_cdecl.proofs.Public.{read_declarator_some, read_declarator_none, high_none, handed}
use Rattle.cx_cdecl.proofs.read_declarator.Goals as goal

pub returns-in-None-clause-read : goal.returns-in-None-clause-read
returns-in-None-clause-read c = high_none _ _ _ _ c.in-None.ensures

pub returns-in-None-2-clause-read : goal.returns-in-None-2-clause-read
returns-in-None-2-clause-read c =
    let h = handed c.args.known.now c.args.known.now.names c.args.bytes.now (drop c.args.at c.args.tokens.now) c.in_ok-all.all c.as_slice.result.now c.shallow-front.result.now (c.in_ok-all.ensures ∙ ap (lexemes c.args.known.now.names c.args.bytes.now) (whole_rest c.args.tokens.now c.args.at)) c.as_slice.ensures c.shallow-front.ensures (omega arith) (omega (arith, length-drop c.args.at c.args.tokens.now, c.requires.few)) in
    read_declarator_none c.args.known.now _ _ _ _ h (omega arith) (sym (rw c.in-None-2.is at c.in_ok-front_declarator.ensures.value))

pub returns-clause-read : goal.returns-clause-read
returns-clause-read c =
    let h = handed c.args.known.now c.args.known.now.names c.args.bytes.now (drop c.args.at c.args.tokens.now) c.in_ok-all.all c.as_slice.result.now c.shallow-front.result.now (c.in_ok-all.ensures ∙ ap (lexemes c.args.known.now.names c.args.bytes.now) (whole_rest c.args.tokens.now c.args.at)) c.as_slice.ensures c.shallow-front.ensures (omega arith) (omega (arith, length-drop c.args.at c.args.tokens.now, c.requires.few)) in
    rw c.without_body.ensures (read_declarator_some c.args.known.now _ _ _ c.next_place.result c.args.at _ (got_declared c.in-Some-2.x (known_of c.front_declarator.new.known)) h (omega arith) (sym (rw c.in-Some-2.is at c.in_ok-front_declarator.ensures.value)) c.next_place.ensures)
