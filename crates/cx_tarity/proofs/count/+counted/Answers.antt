use Rattle.std.proofs.Common.{◌≡◌, map, rules, ap, sym, ◌∙◌}
use Rattle.std.specs.Prelude.{option_map}
use Rattle.cx_tsyn.specs.Words.{word_tree}
use Rattle.cx_tsyn.specs.Lins.{lin_tree, relation_tree}
use Rattle.cx_tsyn.specs.Types.{stype, stype_tree, atom_tree}
use Rattle.cx_tsyn.specs.declared.stype.Atom.TheFolds.{the_lemmas}
use Rattle.cx_tarity.specs.Capped.{counted}
use Rattle.cx_tarity.proofs.Capping.{counted_told}
use Rattle.cx_tarity.proofs.count.«+counted».Goals as goal

pub counted-returns : goal.counted-returns
counted-returns t c =
    let seen : stype_tree c.args.t.now ≡ stype c.args.t.now.span (map word_tree c.args.t.now.binders) (atom_tree c.args.t.now.atom) (option_map lin_tree c.args.t.now.times) (map relation_tree c.args.t.now.conds) =
    search (rules, the_lemmas) in
    counted_told c.args.t.now.span c.args.t.now.binders (atom_tree c.args.t.now.atom) (option_map lin_tree c.args.t.now.times) c.args.t.now.conds
    c.in_ok-inner.inner c.in_ok-row.row c.with_own.result c.len.result c.len-2.result
    c.in_ok-inner.ensures c.in_ok-row.ensures c.with_own.ensures c.len.ensures c.len-2.ensures
    ∙ ap counted (sym seen)
