use Rattle.std.proofs.Common.{◌≡◌, Err, IfSome, rules}
use Rattle.cx_run.specs.declared.ending.Input.TheVariants.{CFile}
use Rattle.cx_run.specs.declared.ending.Source.{Source}
use Rattle.cx_run.specs.Outcome.{c_file}
use Rattle.cx_run.specs.Answers.{IsAbout, Gives}
use Rattle.cx_run.proofs.Stops.{c_file_ends}
use Rattle.cx_run.proofs.files.check_files.Goals as goal

pub returns-in_err-source-clause-told : goal.returns-in_err-source-clause-told
returns-in_err-source-clause-told g c =
    let own : IsAbout {A = Source} CFile (Err c.in_err-source.field-0.0) = c.in_err-source.ensures.own in
    let told : IfSome (g.F.Files.map c.args.files.now) (λ m. Gives {A = Source} (Err c.in_err-source.field-0.0) (c_file m c.args.c.now)) = c.in_err-source.ensures.told in
    let all = c_file_ends (g.F.Files.map c.args.files.now) c.args.c.now c.args.t.now c.in_err-source.field-0.0 own told in
    let same : c.from_residual.result ≡ Err c.in_err-source.field-0.0 = search rules in
    rw same all
