use Rattle.std.proofs.Common.{ap}
use Rattle.cx_base.specs.declared.span.Span.{Span}
use Rattle.cx_base.specs.declared.token.Token.{Token}
use Rattle.cx_lex.specs.Lexed.{token}
use Rattle.cx_lex.proofs.Spans.{span_is}
use Rattle.cx_lex.proofs.machine.token.Goals as goal

pub returns : goal.returns
unfolding token
returns c = ap (λ (s : Span). let t : Token = record { span = s; kind = c.args.kind } in t) (span_is c.args.first c.args.past _)
