-- The labels of a switch (C11 6.8.4.2), or the first rule on types that is broken.
use Rattle.std.specs.Prelude.{ℤ, Bool, true, false, List, [], ◌∷◌, ◌++◌, Option, Some, None, Ok, if◌then◌else◌}
use Rattle.std.specs.List.{list_any}
use Rattle.std.specs.Ordering.{int_eq}
use Rattle.cx_base.specs.declared.span.Span.{Span}
use Rattle.cx_base.specs.declared.number.CInt.{CInt}
use Rattle.cx_ctree.specs.Exprs.{ExprTree, span_of}
use Rattle.cx_cconst.specs.Constants.{converted, constant_in}
use Rattle.cx_sname.specs.File.{Declared}
use Rattle.cx_scope.specs.Locals.{no_locals}
use Rattle.cx_snode.specs.Judging.{Judged, breaks, ◌>>=◌}
use Rattle.cx_sexpr.specs.Typing.{typed}

-- the labels of a switch so far: the values of its cases, and whether it has a default
pub record Seen : Type 0 where
  pub values : List ℤ
  pub default_ : Bool

abbrev pub none_seen : Seen
none_seen = record { values = []; default_ = false }

-- one more value
abbrev pub seen_too : ℤ → Seen → Seen
seen_too v seen = record seen { values = seen.values ++ v ∷ [] }

-- a case whose value has been found, in the type of the switch
abbrev pub case_seen : Span → CInt → Seen → Option ℤ → Judged Seen
case_seen s t seen None = breaks s 10
case_seen s t seen (Some v) = if list_any (int_eq (converted t v)) seen.values then breaks s 10 else Ok (seen_too (converted t v) seen)

abbrev pub default_seen : Span → Seen → Judged Seen
default_seen s seen = if seen.default_ then breaks s 10 else Ok (record seen { default_ = true })

-- labels with their types, and what has been seen with them
pub record Labelled : Type 0 where
  pub labels : List (Option ExprTree)
  pub seen : Seen

abbrev pub after_label : Option ExprTree → Labelled → Judged Labelled
after_label l rest = Ok (record rest { labels = l ∷ rest.labels })

-- the labels of a group in order, where the switch is on the type t and has the span s; names in them are constants
abbrev pub typed_labels : Declared → CInt → Span → Seen → List (Option ExprTree) → Judged Labelled
typed_labels env t s seen [] = Ok (record { labels = []; seen = seen })
typed_labels env t s seen (None ∷ ls) = default_seen s seen >>= (λ now. typed_labels env t s now ls >>= after_label None)
typed_labels env t s seen (Some x ∷ ls) =
    typed env no_locals x >>= (λ a. case_seen (span_of x) t seen (constant_in env.known x) >>= (λ now. typed_labels env t s now ls >>= after_label (Some a)))
