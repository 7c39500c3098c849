use Rattle.std.proofs.Common.{Some, None, sym, ap, ◌∙◌}
use Rattle.std.specs.Option.{option_copied}
use Rattle.cx_ctree.specs.Types.{type_tree}
use Rattle.cx_sfile.proofs.MembersFound.{member_at, no_member}
use Rattle.cx_sfile.proofs.file.File.member_of.Goals as goal

pub returns-in-Some-get : goal.returns-in-Some-get
returns-in-Some-get c =
    member_at (λ t. type_tree t.now) (λ m. m.entries) c.args.self.now.unit.now c.args.self.now.members c.args.self.now.placed c.args.tag c.args.n c.in-Some.types.now (ap option_copied (sym c.in-Some.is) ∙ c.get.ensures)
    (Some c.in-Some-get.t.now) c.in-Some-get.ensures.value

pub returns-in-None-get : goal.returns-in-None-get
returns-in-None-get c =
    member_at (λ t. type_tree t.now) (λ m. m.entries) c.args.self.now.unit.now c.args.self.now.members c.args.self.now.placed c.args.tag c.args.n c.in-Some.types.now (ap option_copied (sym c.in-Some.is) ∙ c.get.ensures)
    None c.in-None-get.ensures.value

pub returns-in-None : goal.returns-in-None
returns-in-None c =
    no_member (λ t. type_tree t.now) (λ m. m.entries) c.args.self.now.unit.now c.args.self.now.members c.args.self.now.placed c.args.tag c.args.n (ap option_copied (sym c.in-None.is) ∙ c.get.ensures)
