use Rattle.std.proofs.Common.{◌≡◌, Some, refl, sym, ap, ◌∙◌}
use Rattle.cx_tword.specs.Lexemes.{type_lexemes}
use Rattle.cx_tparse.proofs.text.parse.Goals as goal

pub returns-in-Some : goal.returns-in-Some
returns-in-Some c =
    let some : c.in_ok-o.field-0 ≡ Some c.in-Some.o = cc in
    record {
      os = c.as_slice-2.result.now;
      text = record {
        tokens = c.in_ok-tokens.tokens;
        lexed_so = c.in_ok-tokens.ensures.reading;
        are = c.as_slice-2.ensures ∙ c.in_ok-lexemes.ensures ∙ ap (type_lexemes c.args.unit.now.names c.args.bytes.now) c.as_slice.ensures;
      };
      o = c.in-Some.o;
      deep = sym c.in_ok-o.ensures ∙ some;
      placed = refl;
    }
