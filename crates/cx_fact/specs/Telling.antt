-- What a state becomes when it is told what the fact of a symbol means, and when a fact loses its null.
use Rattle.std.specs.Prelude.{ℕ, ℤ, pos, negsuc, neg_ℤ, ◌-ℤ◌, ◌^◌, int_le, Bool, false, ◌&&◌, if◌then◌else◌, List, slice_get, slice_set, Option, Some, None, Ok}
use Rattle.cx_term.specs.Forms.{Linear, fit, symbol_of}
use Rattle.cx_term.specs.Sums.{plus_times}
use Rattle.cx_term.specs.Replaced.{put_all}
use Rattle.cx_cells.specs.Symbols.{is_number}
use Rattle.cx_cells.specs.declared.form.Form.{Form}
use Rattle.cx_cells.specs.declared.form.Tail.{Tail}
use Rattle.cx_state.specs.Known.{fact_at}
use Rattle.cx_state.specs.declared.state.Env.{Env}
use Rattle.cx_state.specs.declared.state.Fact.{Fact}
use Rattle.cx_query.specs.Shown.{difference, sum, number}
use Rattle.cx_learn.specs.Answers.{Answer, and_then}
use Rattle.cx_learn.specs.Learning.{nonzero_in, learnt_if}

-- the base of the region is above 0: s - off - 1
abbrev pub above_zero : ℕ → Fact → Option Linear
above_zero s f = sum (difference (Some (symbol_of s)) (Some f.off)) (number (negsuc 0))

-- it is below 2^47: 2^47 - 1 - s + off
abbrev pub below_end : ℕ → Fact → Option Linear
below_end s f = difference (sum (Some f.off) (number (pos (2 ^ 47) -ℤ pos 1))) (Some (symbol_of s))

-- how many elements the tail has for the fact's arguments
abbrev pub count_of : Fact → Tail → Option Linear
count_of f tail = fit (put_all f.args tail.count)

-- t and k times u
abbrev pub plus_multiple : Option Linear → ℤ → Option Linear → Option Linear
plus_multiple None k u = None
plus_multiple (Some t) k None = None
plus_multiple (Some t) k (Some u) = fit (plus_times k u t)

-- the size of the region is at most 2^47
abbrev pub size_gap : Form → Fact → Tail → Option Linear
size_gap form f tail = plus_multiple (number (pos (2 ^ 47) -ℤ pos form.head_size)) (neg_ℤ (pos tail.part.size)) (count_of f tail)

abbrev pub told_tail : Form → Fact → Option Tail → Env → Answer
told_tail form f None env = Ok env
told_tail form f (Some tail) env = and_then (learnt_if env (count_of f tail)) (λ e. learnt_if e (size_gap form f tail))

-- where the form of the region type is there, and has a tail, what that says of its size
abbrev pub told_size : Option Form → Fact → Env → Answer
told_size None f env = Ok env
told_size (Some form) f env = told_tail form f form.tail env

-- the form is a number that is not negative
abbrev pub is_count : Linear → Bool
is_count t = is_number t && int_le (pos 0) t.konst

-- where the fact allows null, only the end of the addresses is told, and that only where the offset is a number not negative
abbrev pub told_fact : List Form → Env → ℕ → Fact → Answer
told_fact forms env s f =
    if f.null
    then (if is_count f.off then learnt_if env (below_end s f) else Ok env)
    else and_then (learnt_if env (above_zero s f)) (λ e. and_then (learnt_if e (below_end s f)) (λ d. told_size (slice_get forms f.name) f d))

abbrev pub told_by : List Form → Env → ℕ → Option Fact → Answer
told_by forms env s None = Ok env
told_by forms env s (Some f) = told_fact forms env s f

-- the state, told what the fact of the symbol means
abbrev pub told : List Form → Env → ℕ → Answer
told forms env s = told_by forms env s (fact_at env.facts s)

-- the fact without null
abbrev pub not_null : Fact → Fact
not_null f = record f { null = false }

abbrev pub with_fact : Env → ℕ → Fact → Env
with_fact env s f = record env { facts = slice_set env.facts s (Some f) }

abbrev pub settled_by : List Form → Env → ℕ → Option Fact → Answer
settled_by forms env s None = Ok env
settled_by forms env s (Some f) =
    if f.null && nonzero_in env (symbol_of s) then told_fact forms (with_fact env s (not_null f)) s (not_null f) else Ok env

-- the state in which the symbol's fact has lost its null, where the symbol is shown to be other than 0, and is told
abbrev pub settled : List Form → Env → ℕ → Answer
settled forms env s = settled_by forms env s (fact_at env.facts s)
