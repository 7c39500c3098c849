use Rattle.std.proofs.Common.{Some, None}
use Rattle.cx_sfile.proofs.Finding.{is_found}
use Rattle.cx_sfile.proofs.file.File.meaning_of.Goals as goal

pub returns-in-Some : goal.returns-in-Some
returns-in-Some c = is_found c.args.self.now.unit.now c.args.self.now.meanings.entries c.args.self.now.found c.args.n (Some c.in-Some.m.now) c.in-Some.ensures.value

pub returns-in-None : goal.returns-in-None
returns-in-None c = is_found c.args.self.now.unit.now c.args.self.now.meanings.entries c.args.self.now.found c.args.n None c.in-None.ensures.value
