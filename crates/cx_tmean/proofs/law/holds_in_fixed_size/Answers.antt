use Rattle.cx_tmean.proofs.Fixed.{type_bytes_are}
use Rattle.cx_tmean.proofs.Takes.{type_takes}
use Rattle.cx_tmean.proofs.law.holds_in_fixed_size.Goals as goal

pub returns : goal.returns
returns c = record {
  takes = (λ k v m t e f. type_takes k v t m e f);
  holds = (λ b v m t bytes e f h. type_bytes_are b t v m bytes e f h);
}
