use Rattle.std.proofs.Common.{◌∙◌, sym, ap, drop, arith, length-drop}
use Rattle.cx_cname.specs.Known.{known_of}
use Rattle.cx_cdecl.specs.Reading.{got_specs}
use Rattle.cx_cword.specs.Lexemes.{lexemes}
use Rattle.cx_cdecl.proofs.Shallow.{whole_rest}
use Rattle.cx_cdecl.proofs.Public.{read_specs_some, read_specs_none, handed}
use Rattle.cx_cdecl.proofs.read_specs.Goals as goal

pub returns-in-None-clause-read : goal.returns-in-None-clause-read
returns-in-None-clause-read c =
    let h = handed c.args.known.now c.args.known.now.names c.args.bytes.now (drop c.args.at c.args.tokens.now) c.in_ok-all.all c.as_slice.result.now c.shallow-front.result.now (c.in_ok-all.ensures ∙ ap (lexemes c.args.known.now.names c.args.bytes.now) (whole_rest c.args.tokens.now c.args.at)) c.as_slice.ensures c.shallow-front.ensures (omega arith) (omega (arith, length-drop c.args.at c.args.tokens.now, c.requires.few)) in
    read_specs_none c.args.known.now _ _ _ h (omega arith) (sym (rw c.in-None.is at c.in_ok-front_specs.ensures.value))

pub returns-clause-read : goal.returns-clause-read
returns-clause-read c =
    let h = handed c.args.known.now c.args.known.now.names c.args.bytes.now (drop c.args.at c.args.tokens.now) c.in_ok-all.all c.as_slice.result.now c.shallow-front.result.now (c.in_ok-all.ensures ∙ ap (lexemes c.args.known.now.names c.args.bytes.now) (whole_rest c.args.tokens.now c.args.at)) c.as_slice.ensures c.shallow-front.ensures (omega arith) (omega (arith, length-drop c.args.at c.args.tokens.now, c.requires.few)) in
    read_specs_some c.args.known.now _ _ c.next_place.result c.args.at _ (got_specs c.in-Some.x (known_of c.front_specs.new.known)) h (omega arith) (sym (rw c.in-Some.is at c.in_ok-front_specs.ensures.value)) c.next_place.ensures
