use Rattle.cx_sfine.proofs.Returns.{returns_agree}
use Rattle.cx_sfine.proofs.Whole.{function_fine}
use Rattle.cx_sfine.proofs.law.typed_is_fine.Goals as goal

pub returns-clause-fine : goal.returns-clause-fine
returns-clause-fine c = function_fine

pub returns-clause-returns : goal.returns-clause-returns
returns-clause-returns c = returns_agree
