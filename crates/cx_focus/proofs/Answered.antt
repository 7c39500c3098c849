-- What an answer that is a state is.
use Rattle.std.specs.Prelude.{◌≡◌, Result, Ok, Err, IfOk}
use Rattle.std.proofs.Common.{ap}
use Rattle.cx_state.specs.declared.state.Env.{Env}
use Rattle.cx_learn.specs.Answers.{Answer}
use Rattle.cx_head.specs.Staged.{answer_of, Gives}
use Rattle.cx_head.specs.declared.opening.FocusFault.{FocusFault}

-- what is true of each state that is meant is true of the answer
pub gives-ok : (r meant : Result Env FocusFault) (P : Env → Type 0) → Gives r meant → ((next : Env) → meant ≡ Ok next → P next) → IfOk r P
gives-ok (Ok env) meant P g h = h env g
gives-ok (Err fault) meant P g h = tt

-- a state that is answered is one that the steps make
pub answer-ok : (a : Answer) (next : Env) → answer_of a ≡ Ok next → a ≡ Ok next
answer-ok (Ok x) next e = let w : x ≡ next = cc in ap (λ (y : Env). Ok y) w
answer-ok (Err fault) next e = absurd (cc)
