use Rattle.std.proofs.Common.{arith}
use Rattle.cx_cname.specs.Known.{known_of}
use Rattle.cx_cread.proofs.Answered.{kept_file, declaration_some, declaration_none, declaration_few}
use Rattle.cx_cread.proofs.declaration.declaration.Goals as goal

pub returns-clause-some : goal.returns-clause-some
returns-clause-some c = declaration_some c.args.known.now (known_of c.whole.new.known) c.args.lexemes.now _ c.whole.result c.whole.ensures.value

pub returns-clause-none : goal.returns-clause-none
returns-clause-none c = declaration_none c.args.known.now (known_of c.whole.new.known) c.args.lexemes.now _ c.whole.result c.requires (omega arith) c.whole.ensures.value

pub returns-clause-kept : goal.returns-clause-kept
returns-clause-kept c = kept_file c.args.known.now c.whole.new.known c.whole.ensures.file

pub returns-clause-few : goal.returns-clause-few
returns-clause-few c = declaration_few c.args.known.now c.whole.new.known c.args.lexemes.now _ c.whole.result c.whole.ensures.value c.whole.ensures.err c.whole.ensures.none
