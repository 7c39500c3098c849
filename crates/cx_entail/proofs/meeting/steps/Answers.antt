use Rattle.std.proofs.Math.Nat.{mul-div_cancel', pos_of_dvd_of_pos}
use Rattle.cx_entail.proofs.MeetLaws.{factor_pos}
use Rattle.cx_entail.proofs.meeting.steps.Goals as goal

pub nonzero_div-result : goal.nonzero_div-result
nonzero_div-result c = pos_of_dvd_of_pos c.inverse-g.ensures.gcd.1 c.requires

pub returns-clause-positive : goal.returns-clause-positive
returns-clause-positive c = pos_of_dvd_of_pos c.inverse-g.ensures.gcd.1 c.requires

pub returns-clause-whole : goal.returns-clause-whole
returns-clause-whole c = mul-div_cancel' c.inverse-g.result.0 c.inverse-g.ensures.gcd.1

pub returns-clause-k_positive : goal.returns-clause-k_positive
returns-clause-k_positive c = factor_pos c.inverse-g.result.0 _ c.args.b (mul-div_cancel' c.inverse-g.result.0 c.inverse-g.ensures.gcd.1) c.requires
