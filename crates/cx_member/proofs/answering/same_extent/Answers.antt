use Rattle.cx_member.proofs.Extending.{same_extents}
use Rattle.cx_member.proofs.answering.same_extent.Goals as goal

pub returns : goal.returns
returns c =
    let e = same_extents c.args.r.now c.args.s.now in
    ((λ h. e.0 (c.same_parts.ensures.0 h)), (λ h. c.same_parts.ensures.1 (e.1 h)))
