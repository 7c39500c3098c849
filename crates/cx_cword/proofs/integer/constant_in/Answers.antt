use Rattle.std.proofs.Common.{ap, ◌∙◌}
use Rattle.std.specs.Prelude.{◌==◌}
use Rattle.cx_cword.specs.Words.{look_up}
use Rattle.cx_cword.specs.Integers.{constant_in, suffixes, typed_by}
use Rattle.cx_cword.proofs.Types.{typed_alike}
use Rattle.cx_cword.proofs.integer.constant_in.Goals as goal

pub returns-clause-value : goal.returns-clause-value
unfolding constant_in
returns-clause-value c =
    let decimal = c.args.base == 10 in
    c.typed_by.ensures.value ∙ ap (typed_by decimal c.digits-value.result.0) (c.suffix_of.ensures ∙ ap (look_up suffixes) c.digits-value.ensures.rest)
    ∙ typed_alike decimal _ _ _ c.digits-value.ensures.value
