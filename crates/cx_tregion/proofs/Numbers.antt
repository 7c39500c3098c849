-- Numbers are plain data already.
use Rattle.std.proofs.Common.{ℤ, List, map, Result, Ok, Err, ap, ◌∙◌, map-id}
use Rattle.cx_reader.specs.declared.stop.Stop.{Stop}
use Rattle.cx_reader.specs.declared.read.Read.{Read}
use Rattle.cx_reader.specs.Answers.{Answer, give}
use Rattle.cx_reader.specs.Reading.{Gives}

pub as_read : {O : Type 0} (r : Result (Read O (List ℤ)) Stop) (a : Answer O (List ℤ)) → Gives (map (λ (z : ℤ). z)) r a → Gives (λ (zs : List ℤ). zs) r a
as_read {O} (Ok r) a e = e ∙ ap (λ (zs : List ℤ). give zs r.rest.now) (map-id r.tree)
as_read (Err e) a h = h
