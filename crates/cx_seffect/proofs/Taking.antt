-- Values are assigned to objects of scalar types alone.
use Rattle.std.proofs.Common.{◌≡◌, refl, ap, Bool, true, false, Option, None, Some}
use Rattle.cx_ctree.specs.Types.{TypeTree, void, int, pointer, array, tag}
use Rattle.cx_ctype.specs.Operations.{is_scalar, if_true, is_assignable}

pub taken_scalar : (z : Bool) (t w v : TypeTree) → Some v ≡ if_true (is_scalar w) w → is_assignable z t v ≡ is_assignable z t w
taken_scalar z t void v h = absurd cc
taken_scalar z t (int n) v h = ap (is_assignable z t) cc
taken_scalar z t (pointer w) v h = ap (is_assignable z t) cc
taken_scalar z t (array w n) v h = absurd cc
taken_scalar z t (tag k) v h = absurd cc

pub taken_never : (z : Bool) (t w : TypeTree) → None ≡ if_true (is_scalar w) w → false ≡ is_assignable z t w
taken_never z void w h = refl
taken_never z (array t n) w h = refl
taken_never z (tag k) w h = refl
taken_never z (int n) void h = refl
taken_never z (int n) (int m) h = absurd cc
taken_never z (int n) (pointer w) h = absurd cc
taken_never z (int n) (array w m) h = refl
taken_never z (int n) (tag k) h = refl
taken_never z (pointer t) void h = refl
taken_never z (pointer t) (int m) h = absurd cc
taken_never z (pointer t) (pointer w) h = absurd cc
taken_never z (pointer t) (array w m) h = refl
taken_never z (pointer t) (tag k) h = refl
