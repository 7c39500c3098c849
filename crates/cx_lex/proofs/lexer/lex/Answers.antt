use Rattle.std.proofs.Common.{subst, Result, List}
use Rattle.cx_base.specs.declared.token.Token.{Token}
use Rattle.cx_lex.specs.declared.fault.LexFault.{LexFault}
use Rattle.cx_lex.specs.Lexed.{Answers}
use Rattle.cx_lex.proofs.Agrees.{agrees}
use Rattle.cx_lex.proofs.Inside.{inside, count}
use Rattle.cx_lex.proofs.Order.{ordered}
use Rattle.cx_lex.proofs.Pieces.{is_cut}
use Rattle.cx_lex.proofs.lexer.lex.Goals as goal

pub returns-clause-reading : goal.returns-clause-reading
returns-clause-reading c = subst (λ (r : Result (List Token) LexFault). Answers c.read.result r) (agrees c.args.bytes.now) c.read.ensures

pub returns-clause-in_order : goal.returns-clause-in_order
returns-clause-in_order c = ordered c.read.result c.args.bytes.now (subst (λ (r : Result (List Token) LexFault). Answers c.read.result r) (agrees c.args.bytes.now) c.read.ensures)

pub returns-clause-inside : goal.returns-clause-inside
returns-clause-inside c = inside c.read.result _ (ordered c.read.result c.args.bytes.now (subst (λ (r : Result (List Token) LexFault). Answers c.read.result r) (agrees c.args.bytes.now) c.read.ensures))

pub returns-clause-whole : goal.returns-clause-whole
returns-clause-whole c = is_cut c.read.result c.args.bytes.now (subst (λ (r : Result (List Token) LexFault). Answers c.read.result r) (agrees c.args.bytes.now) c.read.ensures)

pub returns-clause-count : goal.returns-clause-count
returns-clause-count c = count c.read.result _ (ordered c.read.result c.args.bytes.now (subst (λ (r : Result (List Token) LexFault). Answers c.read.result r) (agrees c.args.bytes.now) c.read.ensures))
