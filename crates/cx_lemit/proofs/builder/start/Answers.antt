use Rattle.std.proofs.Common.{◌≡◌, [], refl}
use Rattle.cx_lemit.proofs.Making.{start_makes}
use Rattle.cx_lemit.proofs.builder.start.Goals as goal

pub returns : goal.returns
returns c =
    let none : c.replace-lines.new.dest ≡ [] = cc in
    start_makes _ _ (record { keep = c.args.code.now.keep; lines = c.replace-lines.result; end = c.args.end; span = c.args.span }) c.in_ok-push.ensures.ok none refl refl c.replace-lines.ensures.value
