use Rattle.cx_tmean.proofs.More.{region_stays, arguments_stay}
use Rattle.cx_tmean.proofs.law.holds_in_more_regions.Goals as goal

pub returns : goal.returns
returns c = record { regions = region_stays; arguments = arguments_stay }
