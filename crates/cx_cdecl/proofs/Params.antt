-- Lists of parameters and of names with one more.
use Rattle.std.proofs.Common.{◌≡◌, ℕ, List, [], ◌∷◌, ◌++◌, map, append_assoc, append-nil}
use Rattle.std.proofs.lemmas.List.{map-append}
use Rattle.cx_ctree.specs.declared.decl.Param.{Param}
use Rattle.cx_ctree.specs.declared.decl.Decl.{Decl}
use Rattle.cx_ctree.specs.declared.unit.Unit.{Unit as UnitOf}
use Rattle.cx_cname.specs.Known.{earlier_of}
use Rattle.cx_cdecl.specs.Reading.{earlier_in}
use Rattle.cx_ctree.specs.Decls.{param_tree, decl_tree}

pub param_also : (qs : List Param) (q : Param) → map param_tree (qs ++ q ∷ []) ≡ map param_tree qs ++ param_tree q ∷ []
param_also qs q = map-append param_tree qs (q ∷ [])

pub more_names : (ns : List ℕ) (n : ℕ) (ms : List ℕ) → (ns ++ n ∷ []) ++ ms ≡ ns ++ n ∷ ms
more_names ns n ms = append_assoc ns (n ∷ []) ms

pub earlier_alone : (u : UnitOf) → earlier_in u [] ≡ earlier_of u
earlier_alone u = append-nil (earlier_of u)

pub decl_also : (ds : List Decl) (d : Decl) → map decl_tree (ds ++ d ∷ []) ≡ map decl_tree ds ++ decl_tree d ∷ []
decl_also ds d = map-append decl_tree ds (d ∷ [])
