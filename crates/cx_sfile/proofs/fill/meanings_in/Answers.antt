use Rattle.std.proofs.Common.{sym, ap, ◌∙◌, [], ◌++◌, map}
use Rattle.cx_ctree.specs.Types.{type_tree}
use Rattle.cx_ctree.specs.Decls.{item_tree}
use Rattle.cx_cname.specs.Known.{declared_by}
use Rattle.cx_sname.specs.File.{declared_of}
use Rattle.cx_ctable.specs.Firsts.{with_firsts}
use Rattle.cx_ctable.proofs.Adding.{firsts_append}
use Rattle.cx_sfile.specs.Entries.{seen_meanings, of_typedefs, of_constants, of_decls}
use Rattle.cx_sfile.proofs.fill.meanings_in.Goals as goal

pub returns : goal.returns
returns c =
    let env = declared_of c.args.unit.now in
    let ts = of_typedefs env.known.typedefs in
    let cs = of_constants env.known.consts in
    let ds = of_decls env.decls in
    c.in_ok-add_items.ensures
    ∙ ap (λ is. with_firsts (seen_meanings c.add_constants.new.meanings.entries) (of_decls (declared_by (map item_tree is)))) c.as_slice-3.ensures
    ∙ ap (λ es. with_firsts es ds) c.in_ok-add_constants.ensures
    ∙ ap (λ xs. with_firsts (with_firsts (seen_meanings c.add_typedefs.new.meanings.entries) (of_constants xs)) ds) c.as_slice-2.ensures
    ∙ ap (λ es. with_firsts (with_firsts es cs) ds) c.in_ok-add_typedefs.ensures
    ∙ ap (λ xs. with_firsts (with_firsts (with_firsts (seen_meanings c.new-meanings.result.entries) (of_typedefs (map (λ t. (t.0, type_tree t.1)) xs))) cs) ds) c.as_slice.ensures
    ∙ ap (λ es. with_firsts (with_firsts (with_firsts (seen_meanings es) ts) cs) ds) c.new-meanings.ensures.empty
    ∙ sym (firsts_append (with_firsts [] ts) cs ds)
    ∙ sym (firsts_append [] ts (cs ++ ds))
