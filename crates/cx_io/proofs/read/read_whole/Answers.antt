use Rattle.std.proofs.Common.{◌≡◌, ◌≤◌, ◌+◌, ◌++◌, ℕ, length, length-append, take, refl, Ok, IfSome, Option, subst, rules, arith}
use Rattle.std.proofs.lemmas.List.{length-take-le}
use Rattle.cx_io.specs.Counts.{CountsUp}
use Rattle.cx_io.specs.Fetch.{FileMap, Tells}
use Rattle.cx_io.specs.Read.{IsFront}
use Rattle.cx_io.specs.declared.files.Fetched.TheVariants.{Bytes, End}
use Rattle.cx_io.proofs.Fronts.{told_end, told_more}
use Rattle.cx_io.proofs.read.read_whole.Goals as goal

pub returns-in-Ok-End-clause-told : goal.returns-in-Ok-End-clause-told
returns-in-Ok-End-clause-told g c =
    let told : IfSome (g.F.Files.map c.loop-piece.files) (λ m. Tells (m c.args.name.now) (length c.loop-piece.whole) (Ok End) c.fetch.new.into) = search rules in
    let told_first : IfSome (g.F.Files.map c.args.files.now) (λ m. Tells (m c.args.name.now) (length c.loop-piece.whole) (Ok End) c.fetch.new.into) =
    subst (λ (o : Option FileMap). IfSome o (λ m. Tells (m c.args.name.now) (length c.loop-piece.whole) (Ok End) c.fetch.new.into)) c.loop-piece.invariant.0 told in
    let small : length c.loop-piece.whole ≤ c.args.limit = search rules in
    told_end (g.F.Files.map c.args.files.now) c.args.name.now c.args.limit c.loop-piece.whole c.fetch.new.into c.loop-piece.invariant.5 small told_first

pub loop-piece-preserved : goal.loop-piece-preserved
loop-piece-preserved g c =
    let told : IfSome (g.F.Files.map c.loop-piece.files) (λ m. Tells (m c.args.name.now) (length c.loop-piece.whole) (Ok (Bytes c.in-Ok-Bytes.n)) c.fetch.new.into) = search rules in
    let told_first : IfSome (g.F.Files.map c.args.files.now) (λ m. Tells (m c.args.name.now) (length c.loop-piece.whole) (Ok (Bytes c.in-Ok-Bytes.n)) c.fetch.new.into) =
    subst (λ (o : Option FileMap). IfSome o (λ m. Tells (m c.args.name.now) (length c.loop-piece.whole) (Ok (Bytes c.in-Ok-Bytes.n)) c.fetch.new.into)) c.loop-piece.invariant.0 told in
    let room : c.in-Ok-Bytes.n ≤ length c.fetch.new.into = search rules in
    let front : IfSome (g.F.Files.map c.args.files.now) (λ m. IsFront (m c.args.name.now) (c.loop-piece.whole ++ take c.in-Ok-Bytes.n c.fetch.new.into)) =
    told_more (g.F.Files.map c.args.files.now) c.args.name.now c.loop-piece.whole c.fetch.new.into c.in-Ok-Bytes.n room c.loop-piece.invariant.5 told_first in
    let grown : c.push_all.new.list ≡ c.loop-piece.whole ++ take c.in-Ok-Bytes.n c.fetch.new.into = search rules in
    let long : length c.push_all.new.list ≡ length c.loop-piece.whole + c.in-Ok-Bytes.n = rw (grown, length-append {A = ℕ}, length-take-le c.in-Ok-Bytes.n c.fetch.new.into room) refl in
    let by : CountsUp c.in-Ok-Bytes.n (g.F.Files.given c.loop-piece.files) (g.F.Files.given c.fetch.new.self) = search rules in (
      search rules,
      search rules,
      search rules,
      search rules,
      (omega (arith, long, by, c.loop-piece.invariant.4), omega (arith, long, by, c.loop-piece.invariant.4)),
      rw grown front,
    )
