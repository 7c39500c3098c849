-- A test of the declarations of items, one item at a time.
use Rattle.std.proofs.Common.{◌≡◌, Bool, ◌||◌, List, [], ◌∷◌, refl, ap}
use Rattle.std.specs.List.{list_any}
use Rattle.std.proofs.lemmas.List.{append-nil}
use Rattle.std.proofs.lemmas.List.Folds.{list_any-append}
use Rattle.cx_ctree.specs.Decls.{DeclTree, ItemTree, known, passed}
use Rattle.cx_cname.specs.Known.{declared_by}

pub any_known : (p : DeclTree → Bool) (ds : List DeclTree) → list_any p (declared_by (known ds ∷ [])) ≡ list_any p ds
any_known p ds = ap (list_any p) (append-nil ds)

pub any_items : (p : DeclTree → Bool) (i : ItemTree) (is : List ItemTree) → list_any p (declared_by (i ∷ is)) ≡ (list_any p (declared_by (i ∷ [])) || list_any p (declared_by is))
any_items p (known ds) is = rw (any_known p ds) (list_any-append p ds (declared_by is))
any_items p (passed s) is = refl
