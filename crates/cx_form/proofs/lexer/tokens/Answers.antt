use Rattle.std.proofs.Common.{◌≡◌, ◌∷◌, true, false, length, ap, rules, arith}
use Rattle.cx_form.specs.Tokens.{is_blank, tokens_of}
use Rattle.cx_form.specs.Lexing.{token_at}
use Rattle.std.proofs.lemmas.Result.{err_from_is_err_and}
use Rattle.cx_form.proofs.Options.{stops_on}
use Rattle.cx_form.proofs.Lexing.{goes_on_blank, goes_on_token, fails}
use Rattle.cx_form.proofs.lexer.tokens.Goals as goal

pub loop-b-preserved-then-is_blank : goal.loop-b-preserved-then-is_blank
loop-b-preserved-then-is_blank c =
    let e : c.loop-b.rest.now ≡ c.in-Some.b ∷ c.in-Some.after.now = search rules in
    let on : is_blank c.in-Some.b ≡ true = search rules in
    record {
      told = goes_on_blank c.loop-b.all c.loop-b.at c.in-Some.b c.loop-b.rest.now c.in-Some.after.now _ e on c.loop-b.invariant.told;
      within = omega (arith, ap length e);
    }

pub returns-in_err-word : goal.returns-in_err-word
returns-in_err-word c =
    let e : c.loop-b.rest.now ≡ c.in-Some.b ∷ c.in-Some.after.now = search rules in
    let off : is_blank c.in-Some.b ≡ false = search rules in
    let p = err_from_is_err_and c.from_residual.result c.from_residual.ensures.1 in
    let t = stops_on c.in_err-word.field-0.0 (token_at c.loop-b.at c.loop-b.rest.now) (tokens_of c.args.bytes.now) c.in_err-word.ensures.value
    (λ none. fails c.loop-b.all c.loop-b.at c.in-Some.b c.loop-b.rest.now c.in-Some.after.now _ e off none c.loop-b.invariant.told) in
    rw (p.1, p.2) t

pub loop-b-preserved : goal.loop-b-preserved
loop-b-preserved c =
    let e : c.loop-b.rest.now ≡ c.in-Some.b ∷ c.in-Some.after.now = search rules in
    let off : is_blank c.in-Some.b ≡ false = search rules in
    record {
      told = rw c.in_ok-push.ensures.ok (goes_on_token c.loop-b.all c.loop-b.at c.in-Some.b c.loop-b.rest.now c.in-Some.after.now c.in_ok-word.after.now c.in_ok-word.word _ e off c.in_ok-word.ensures.value c.loop-b.invariant.told);
      within = omega (arith, c.in_ok-word.ensures.within);
    }
