-- What names are declared as, as the code holds it.
use Rattle.cx_ctree.specs.Types.{type_tree}
use Rattle.cx_ctree.specs.Decls.{signature_tree}
use Rattle.cx_cname.specs.Known as k
use Rattle.cx_sname.specs.declared.meaning.Meaning.{Meaning}
use Rattle.cx_sname.specs.declared.meaning.Meaning.TheVariants as m

abbrev pub meaning_tree : Meaning → k.Meaning
meaning_tree (m.Typedef t) = k.a_type (type_tree t.now)
meaning_tree (m.Constant v) = k.a_constant v
meaning_tree (m.Object t) = k.an_object (type_tree t.now)
meaning_tree (m.Function s) = k.function_type (signature_tree s.now)
