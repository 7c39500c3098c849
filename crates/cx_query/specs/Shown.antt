-- What a state shows of forms. A form that is no `Term` is none, and never shown.
use Rattle.std.specs.Prelude.{ℤ, pos, negsuc, Bool, ◌&&◌, Option, Some, None}
use Rattle.cx_term.specs.Forms.{Linear, fit, constant_of}
use Rattle.cx_term.specs.Sums.{plus_times}
use Rattle.cx_entail.specs.Shows.{passes, shown}
use Rattle.cx_state.specs.declared.state.Env.{Env}

-- t - u
abbrev pub difference : Option Linear → Option Linear → Option Linear
difference None u = None
difference (Some t) None = None
difference (Some t) (Some u) = fit (plus_times (negsuc 0) u t)

-- t + u
abbrev pub sum : Option Linear → Option Linear → Option Linear
sum None u = None
sum (Some t) None = None
sum (Some t) (Some u) = fit (plus_times (pos 1) u t)

abbrev pub number : ℤ → Option Linear
number z = fit (constant_of z)

-- the form is there, and shown to be at least 0
unfoldable pub shown_in : Env → Option Linear → Bool
shown_in env t = passes (shown env.conds env.ranges) t

-- the form is shown to be at least the number
abbrev pub at_least : Env → Linear → ℤ → Bool
at_least env t z = shown_in env (difference (Some t) (number z))

-- at most
abbrev pub at_most : Env → Linear → ℤ → Bool
at_most env t z = shown_in env (difference (number z) (Some t))

-- the forms are there, and shown to be equal
abbrev pub shown_equal : Env → Option Linear → Option Linear → Bool
shown_equal env t u = shown_in env (difference t u) && shown_in env (difference u t)

-- the form is shown to be 0
abbrev pub shown_zero : Env → Linear → Bool
shown_zero env t = shown_equal env (Some t) (number (pos 0))
