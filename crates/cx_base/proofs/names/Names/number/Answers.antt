use Rattle.cx_base.proofs.Texts.{number_stands, number_grows}
use Rattle.cx_base.proofs.names.Names.number.Goals as goal

pub returns-clause-stands : goal.returns-clause-stands
returns-clause-stands c = number_stands c.insert.result c.args.self.now c.insert.new.self c.args.text.now c.insert.ensures.value c.insert.ensures.new

pub returns-clause-grows : goal.returns-clause-grows
returns-clause-grows c = number_grows c.insert.result c.args.self.now c.insert.new.self c.args.text.now c.insert.ensures.new c.insert.ensures.err
