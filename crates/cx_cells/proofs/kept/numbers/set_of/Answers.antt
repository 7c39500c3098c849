use Rattle.std.proofs.Common.{rules, eqb}
use Rattle.std.specs.Cmp.{unsigned_Decides}
use Rattle.std.specs.HashSet as bag
use Rattle.std.proofs.lemmas.Map.Made.{is_member-Decides}
use Rattle.cx_cells.proofs.kept.numbers.set_of.Goals as goal

pub returns : goal.returns
returns c =
    let h : bag.IsFromIterResult eqb c.args.numbers.now c.in_ok-set.set = search rules in
    λ q. rw (h.0 q) (is_member-Decides unsigned_Decides c.args.numbers.now q)
